use Rattle.std.proofs.Common.{◌≡◌, refl, ap, sym, ◌∙◌, arith}
use Rattle.plat_base.specs.Machine.{Machine}
use Rattle.plat_cmd.specs.Steps.{standing_fine, after_events}
use Rattle.plat_cmd.proofs.FineRunLemmas.{actors_are_there, next_event_is, over_events_is}
use Rattle.plat_cmd.proofs.fine_runs.make_events.Goals as goal

pub live_word-live-requires : goal.live_word-live-requires
live_word-live-requires c =
    actors_are_there c.args.fine.now.machine c.args.fine.now.machine (standing_fine c.args.fine.now c.args.schedule.now) 0 refl
    c.requires.start

pub loop-event-init : goal.loop-event-init
loop-event-init c = record { config = refl; plan = c.requires.plan; run = c.requires.start; live = c.live_word-live.ensures }

pub next_event-requires : goal.next_event-requires
next_event-requires c = record {
  plan = c.loop-event.invariant.plan ∙ ap (λ (m : Machine). m.schedule) (sym c.loop-event.invariant.config);
  actors =
      actors_are_there c.args.fine.now.machine c.loop-event.fine.machine (standing_fine c.loop-event.fine c.loop-event.schedule)
      c.loop-event._event
      c.loop-event.invariant.config c.loop-event.invariant.run;
  live = c.loop-event.invariant.live;
}

pub returns-then-not-next_event-clause-machine : goal.returns-then-not-next_event-clause-machine
returns-then-not-next_event-clause-machine c = c.next_event.ensures.machine ∙ c.loop-event.invariant.config

pub returns-then-not-next_event-clause-events : goal.returns-then-not-next_event-clause-events
returns-then-not-next_event-clause-events c =
    over_events_is c.args.fine.now.machine c.loop-event.fine.machine (standing_fine c.loop-event.fine c.loop-event.schedule)
    (standing_fine c.next_event.new.fine c.next_event.new.schedule) c.loop-event._event c.args.events c.loop-event.invariant.config
    c.loop-event.invariant.run c.loop-event.auto._event-end (c.next_event.ensures.over c.if-not-next_event.true) c.next_event.ensures.event

pub loop-event-preserved : goal.loop-event-preserved
loop-event-preserved c = record {
  config = c.next_event.ensures.machine ∙ c.loop-event.invariant.config;
  plan = c.next_event.ensures.plan ∙ c.loop-event.invariant.plan;
  run =
      next_event_is c.args.fine.now.machine c.loop-event.fine.machine (standing_fine c.loop-event.fine c.loop-event.schedule)
      (standing_fine c.next_event.new.fine c.next_event.new.schedule) c.loop-event._event c.loop-event.invariant.config
      c.loop-event.invariant.run c.next_event.ensures.event;
  live = c.next_event.ensures.live;
}

pub returns-clause-machine : goal.returns-clause-machine
returns-clause-machine c = c.loop-event.invariant.config

pub returns-clause-events : goal.returns-clause-events
returns-clause-events c =
    let all : c.loop-event._event ≡ c.args.events = omega (arith, c.loop-event-test.false, c.loop-event.auto._event-end) in
    c.loop-event.invariant.run ∙ ap (after_events c.args.fine.now.machine) all
