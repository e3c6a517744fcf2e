use Rattle.std.proofs.Common.{ℕ, List, length, get_or, ap, sym, ◌∙◌, arith}
use Rattle.plat_base.specs.Machine.{Machine}
use Rattle.plat_base.specs.Pages.{entries_of_space}
use Rattle.plat_coarse.proofs.MessageLemmas.{IsAtPlace, entry_within, HasRoom-owed, HasAdded-owed, HasAdded-none_owed}
use Rattle.plat_coarse.proofs.messages.switch.Goals as goal
use Rattle.plat_coarse.proofs.messages.switch.Goals.{After-entries_of_space, in-Some, in_default}

-- where the loop stands
at_place : (c : After-entries_of_space) → IsAtPlace c.args.chronicle.now c.loop-place.chronicle c.args.q c.args.space
    c.loop-place.place (get_or c.entries_of_space.result.now c.loop-place.place 0)
at_place c =
    let of_space = λ (m : Machine). entries_of_space m c.args.space in
    let first = c.entries_of_space-place-end.ensures ∙ ap of_space (c.config.ensures ∙ c.add_switch.ensures.machine) in
    let again = c.entries_of_space.ensures ∙ ap of_space (c.config-in-loop-place.ensures ∙ c.loop-place.invariant.machine) in
    record {
      told = c.loop-place.invariant;
      inside = omega (arith, c.loop-place-test.true, c.loop-place.auto.place-end, ap length first);
      stands = sym (ap (λ (es : List ℕ). get_or es c.loop-place.place 0) again);
    }

pub owed_message-requires-clause-entry : goal.owed_message-requires-clause-entry
owed_message-requires-clause-entry c = entry_within (at_place (goal.at.owed_message-requires-clause-entry c).After-entries_of_space)

pub add_applied-requires-clause-entry : goal.add_applied-requires-clause-entry
add_applied-requires-clause-entry c = entry_within (at_place (goal.at.add_applied-requires-clause-entry c).After-entries_of_space)

-- there is room for the message that is owed
pub add_applied-requires-clause-room : goal.add_applied-requires-clause-room
add_applied-requires-clause-room c =
    HasRoom-owed (at_place (goal.at.add_applied-requires-clause-room c).After-entries_of_space) (sym c.owed_message.ensures ∙ c.in-Some.is)
    c.requires.room

pub loop-place-preserved : goal.loop-place-preserved
loop-place-preserved c =
    let here = at_place (goal.at.loop-place-preserved c).After-entries_of_space in
    elim c.match-owed_message.branch [
      | in-Some w ↦ HasAdded-owed here (sym c.owed_message.ensures ∙ w.in-Some.is) (rw w.chronicle-is w.add_applied.ensures)
      | in_default w ↦ rw w.chronicle-is (HasAdded-none_owed here (sym c.owed_message.ensures ∙ w.in_default.is))
    ]
