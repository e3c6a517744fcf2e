use Rattle.std.proofs.Common.{◌≡◌, ℕ, ◌+◌, ◌<◌, ◌≤◌, ◌∙◌, ap, sym, arith, drop, get_or, map, List, length}
use Rattle.std.specs.Prelude.{Option}
use Rattle.std.proofs.lemmas.List.{drop_more, at_drop_all}
use Rattle.plat_base.specs.Seen.{machine}
use Rattle.plat_base.specs.Pages.{entries_of_page}
use Rattle.plat_base.specs.declared.limits.TheConstants.{PAGES}
use Rattle.plat_base.proofs.LimitLemmas.{pages_most}
use Rattle.plat_pmap.specs.declared.atcs.Slot.{Slot}
use Rattle.plat_pmap.specs.Slots.{without_slot}
use Rattle.plat_proc.proofs.ForgetLemmas.{without_these, these-next, these-none, these-page}
use Rattle.plat_proc.proofs.faults.forget_page.Goals as goal

pub loop-entry-preserved : goal.loop-entry-preserved
loop-entry-preserved c =
    let es = entries_of_page (machine c.args.cfg.now) c.args.page in let k = c.loop-entry.entry-index in let atc = c.loop-entry.atc in
    let items : c.entries_of_page-entry-items.result.now ≡ es = c.entries_of_page-entry-items.ensures in
    let within : k < length es = omega (arith, c.loop-entry-test.true, ap length items) in
    ap (λ (xs : List (Option Slot)). map (without_these (drop (k + 1) es)) xs)
    (c.forget.ensures.slots ∙ ap (λ (xs : List ℕ). map (without_slot (get_or xs k 0)) atc) items)
    ∙ these-next (get_or es k 0) (drop (k + 1) es) atc
    ∙ ap (λ (xs : List ℕ). map (without_these xs) atc) (sym (drop_more es k 0 within))
    ∙ c.loop-entry.invariant

pub returns : goal.returns
returns c =
    let m = machine c.args.cfg.now in
    let es = entries_of_page m c.args.page in let k = c.loop-entry.entry-index in let atc = c.loop-entry.atc in
    let items : c.entries_of_page-entry-items.result.now ≡ es = c.entries_of_page-entry-items.ensures in
    let past : length es ≤ k = omega (arith, c.loop-entry-test.false, ap length items) in
    let within : c.args.page < PAGES = omega (arith, c.requires, pages_most c.args.cfg.now) in
    sym (these-none atc) ∙ sym (at_drop_all (λ (xs : List ℕ). map (without_these xs) atc) es k past) ∙ c.loop-entry.invariant
    ∙ these-page m c.args.page within c.args.atc.now
