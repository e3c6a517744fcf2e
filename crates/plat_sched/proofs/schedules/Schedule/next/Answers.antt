use Rattle.std.proofs.Common.{arith, ap, sym}
use Rattle.plat_sched.specs.ScheduleSeen.{actor_chosen, after_choice}
use Rattle.plat_sched.proofs.NextLemmas.{choice_of_nobody, IsNext, next_is, none_iff, none_never, some_live, some_below}
use Rattle.plat_sched.proofs.schedules.Schedule.next.Goals as goal

pub returns-then-live-eq0-clause-chosen : goal.returns-then-live-eq0-clause-chosen
returns-then-live-eq0-clause-chosen c =
    sym (ap actor_chosen (choice_of_nobody c.args.self.now c.args.live c.if-live-eq0.true))

pub returns-then-live-eq0-clause-after : goal.returns-then-live-eq0-clause-after
returns-then-live-eq0-clause-after c =
    sym (ap (after_choice c.args.self.now) (choice_of_nobody c.args.self.now c.args.live c.if-live-eq0.true))

is_next : (c : goal.After-chosen-1) → IsNext c.args.self.now c.args.live c.next-chosen.new.self c.next-chosen.result
is_next c = rw (← c.self.view_is)
    (next_is _ c.args.live c.next-chosen.new.self c.next-chosen.result (omega arith) c.if-live-eq0.false c.next-chosen.ensures.chosen
    c.next-chosen.ensures.turns)

pub invariant_of-self : goal.invariant_of-self
invariant_of-self c = record {
  source = c.next-chosen.ensures.source;
  chosen = some_below c.args.live c.next-chosen.result (some_live c.args.self.now c.args.live c.next-chosen.result (is_next c).actor);
}

pub returns-clause-chosen : goal.returns-clause-chosen
returns-clause-chosen c = (is_next c).actor

pub returns-clause-after : goal.returns-clause-after
returns-clause-after c = (is_next c).after

pub returns-clause-none : goal.returns-clause-none
returns-clause-none c = none_iff c.next-chosen.result c.args.live (is_next c).some c.if-live-eq0.false

pub returns-clause-same : goal.returns-clause-same
returns-clause-same c = none_never c.next-chosen.result _ (is_next c).some

pub returns-clause-live : goal.returns-clause-live
returns-clause-live c = some_live c.args.self.now c.args.live c.next-chosen.result (is_next c).actor
