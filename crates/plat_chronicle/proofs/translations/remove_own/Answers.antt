use Rattle.std.proofs.Common.{◌≡◌, ℕ, ◌<◌, ◌≤◌, List, length, take, get_or, ap, ◌∙◌, arith}
use Rattle.std.specs.Prelude.{◌==◌}
use Rattle.std.specs.List.{list_any}
use Rattle.std.proofs.lemmas.List.{take_all}
use Rattle.plat_base.specs.Seen.{machine}
use Rattle.plat_base.specs.Pages.{page_of, entries_of_page}
use Rattle.plat_base.proofs.EntryLists.{entries_of_page-below, entries_of_page-has}
use Rattle.plat_chronicle.proofs.translations.remove_own.Goals as goal

pub remove_entry-requires : goal.remove_entry-requires
remove_entry-requires c =
    let m = machine c.args.cfg.now in
    let is = c.entries_of_page-entry-items.ensures in
    let place = c.loop-entry.entry-index in
    let inside : place < length (entries_of_page m c.args.page) = omega (arith, c.loop-entry-test.true, ap length is) in
    let below = entries_of_page-below m c.args.page place 0 inside in
    omega (arith, ap (λ (es : List ℕ). get_or es place 0) is, below, c.loop-entry.invariant.0, c.requires)

-- all of the page's entries are done
pub returns-clause-places : goal.returns-clause-places
returns-clause-places c = λ entry within.
    let m = machine c.args.cfg.now in
    let is = c.entries_of_page-entry-items.ensures in
    let place = c.loop-entry.entry-index in
    let past : length (entries_of_page m c.args.page) ≤ place = omega (arith, c.loop-entry-test.false, ap length is) in
    let all : list_any (λ k. k == entry) (take place (entries_of_page m c.args.page)) ≡ (page_of m entry == c.args.page) =
    ap (list_any (λ k. k == entry)) (take_all place (entries_of_page m c.args.page) past)
    ∙ entries_of_page-has m c.args.page entry (omega (arith, within, c.requires)) in
    grind (arith, all, c.loop-entry.invariant.0, c.loop-entry.invariant.1 entry)
