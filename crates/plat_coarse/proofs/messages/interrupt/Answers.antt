use Rattle.std.proofs.Common.{◌≡◌, ℕ, ◌≤◌, List, length, get_or, ap, sym, subst, ◌∙◌, arith}
use Rattle.std.proofs.lemmas.List.{take_all}
use Rattle.plat_base.specs.Machine.{Machine}
use Rattle.plat_base.specs.Pages.{entries_of_page}
use Rattle.plat_base.specs.declared.items.Item.{Item}
use Rattle.plat_chronicle.specs.Chronicle.{HasAdded}
use Rattle.plat_coarse.proofs.MessageLemmas.{IsAtEntry, entry_at_within, HasRoom-page, HasAdded-page, sent_for, interrupts-sent}
use Rattle.plat_coarse.proofs.messages.interrupt.Goals.{After-entries_of_page-place-end, After-entries_of_page}
use Rattle.plat_coarse.proofs.messages.interrupt.Goals as goal

-- the entries that were counted
counted : (c : After-entries_of_page-place-end) →
    c.entries_of_page-place-end.result.now ≡ entries_of_page c.args.chronicle.now.machine c.args.page
counted c = c.entries_of_page-place-end.ensures ∙ ap (λ (m : Machine). entries_of_page m c.args.page) c.config.ensures

-- where the loop stands
at_entry : (c : After-entries_of_page) → IsAtEntry c.args.chronicle.now c.loop-place.chronicle c.args.ends.now c.args.initiator
    c.args.page c.args.removed c.loop-place.place (get_or c.entries_of_page.result.now c.loop-place.place 0)
at_entry c =
    let first = counted (goal.at.After-entries_of_page c).After-entries_of_page-place-end in
    let again = c.entries_of_page.ensures
    ∙ ap (λ (m : Machine). entries_of_page m c.args.page) (c.config-in-loop-place.ensures ∙ c.loop-place.invariant.machine) in
    record {
      sent = c.loop-place.invariant;
      inside = omega (arith, c.loop-place-test.true, c.loop-place.auto.place-end, ap length first);
      stands = sym (ap (λ (es : List ℕ). get_or es c.loop-place.place 0) again);
    }

pub interrupt_entry-requires-clause-entry : goal.interrupt_entry-requires-clause-entry
interrupt_entry-requires-clause-entry c = entry_at_within (at_entry (goal.at.interrupt_entry-requires-clause-entry c).After-entries_of_page)

-- there is room for the messages for one entry
pub interrupt_entry-requires-clause-room : goal.interrupt_entry-requires-clause-room
interrupt_entry-requires-clause-room c =
    let here = at_entry (goal.at.interrupt_entry-requires-clause-room c).After-entries_of_page in
    HasRoom-page here (sym c.removes_some.ensures ∙ c.if-not-removes_some.false) c.requires.room

pub loop-place-preserved : goal.loop-place-preserved
loop-place-preserved c = HasAdded-page (at_entry (goal.at.loop-place-preserved c).After-entries_of_page) c.interrupt_entry.ensures

-- the messages for all of the page's entries are sent
pub returns : goal.returns
returns c =
    let before = c.args.chronicle.now in
    let m = before.machine in
    let first = counted (goal.at.returns c).After-entries_of_page-place-end in
    let past : length (entries_of_page m c.args.page) ≤ c.loop-place.place =
    omega (arith, c.loop-place-test.false, c.loop-place.auto.place-end, ap length first) in
    let all = ap (sent_for m before.items c.args.ends.now c.args.initiator c.args.removed)
    (take_all c.loop-place.place (entries_of_page m c.args.page) past)
    ∙ sym (interrupts-sent m before.items c.args.ends.now c.args.initiator c.args.page c.args.removed
    (sym c.removes_some.ensures ∙ c.if-not-removes_some.false)) in
    subst (λ (xs : List Item). HasAdded before c.loop-place.chronicle xs) all c.loop-place.invariant
