use Rattle.std.proofs.Common.{◌≡◌, true, length, ap, sym, ◌∙◌}
use Rattle.std.specs.Prelude.{Some}
use Rattle.plat_base.specs.Schedule.{choose}
use Rattle.plat_events.specs.Privates.{actor_count}
use Rattle.plat_events.specs.Runs.{Fine, live_actors}
use Rattle.plat_fine.specs.FineSeen.{is_live}
use Rattle.plat_cmd.proofs.FineRunLemmas.{all_actors_stay, chosen_live, event_is, live_stay}
use Rattle.plat_cmd.proofs.StepLemmas.{chosen_is}
use Rattle.plat_cmd.proofs.fine_runs.next_event.Goals.{In-Some}
use Rattle.plat_cmd.proofs.fine_runs.next_event.Goals as goal

-- the schedule's choice is that of the definition
chosen : (c : In-Some) →
    choose c.args.fine.now.machine.schedule (live_actors c.args.fine.now.fine.privates) c.args.schedule.now.chooser
    ≡ Some (c.in-Some.actor, c.next.new.self.chooser)
chosen c =
    chosen_is c.args.fine.now.machine.schedule (live_actors c.args.fine.now.fine.privates) c.args.schedule.now c.args.live.now
    c.in-Some.actor c.requires.plan c.requires.live c.next.new.self c.next.ensures.after (sym c.next.ensures.chosen ∙ c.in-Some.is)

was_live : (c : In-Some) → is_live c.args.fine.now.fine.privates c.in-Some.actor ≡ true
was_live c = chosen_live c.args.fine.now _ c.args.schedule.now (chosen c)

pub event-requires : goal.event-requires
event-requires c = was_live (goal.at.event-requires c).In-Some

pub live_word-requires : goal.live_word-requires
live_word-requires c =
    ap (λ (f : Fine). length f.privates) c.event.ensures.event
    ∙ (all_actors_stay c.args.fine.now c.in-Some.actor ∙ (c.requires.actors ∙ ap actor_count (sym c.event.ensures.machine)))

pub returns-then-not-live-clause-event : goal.returns-then-not-live-clause-event
returns-then-not-live-clause-event c =
    event_is c.args.fine.now c.args.schedule.now c.next.new.self c.event.new.self.fine c.in-Some.actor
    (chosen (goal.at.returns-then-not-live-clause-event c).In-Some) c.event.ensures.event

pub returns-else-not-live-clause-event : goal.returns-else-not-live-clause-event
returns-else-not-live-clause-event c =
    event_is c.args.fine.now c.args.schedule.now c.next.new.self c.event.new.self.fine c.in-Some.actor
    (chosen (goal.at.returns-else-not-live-clause-event c).In-Some) c.event.ensures.event

pub returns-else-not-live-clause-live : goal.returns-else-not-live-clause-live
returns-else-not-live-clause-live c =
    let still = ap (λ (f : Fine). is_live f.privates c.in-Some.actor) (sym c.event.ensures.event) ∙ (sym c.live.ensures ∙ c.if-not-live.false) in
    c.requires.live
    ∙ sym (ap (λ (f : Fine). live_actors f.privates) c.event.ensures.event
    ∙ live_stay c.args.fine.now c.in-Some.actor (was_live (goal.at.returns-else-not-live-clause-live c).In-Some) still)
