use Rattle.std.proofs.Common.{◌≡◌}
use Rattle.plat_events.specs.Runs.{live_actors}
use Rattle.plat_sched.specs.Actors.{actors_of}
use Rattle.plat_cmd.specs.Steps.{standing_fine, after_events}
use Rattle.plat_cmd.proofs.fine_runs.make_events.Given as goal

abbrev pub invariant-loop-event : goal.invariant-loop-event
invariant-loop-event l = record {
  config : l.fine.machine ≡ l.fn.fine.machine;
  plan : l.schedule.turns ≡ l.fn.fine.machine.schedule;
  run : standing_fine l.fine l.schedule ≡ after_events l.fn.fine.machine l._event;
  live : actors_of l.live ≡ live_actors l.fine.fine.privates;
}
