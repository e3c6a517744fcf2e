use Rattle.std.proofs.Common.{◌≡◌}
use Rattle.plat_base.specs.Schedule.{live_processors, scheduled}
use Rattle.plat_sched.specs.Actors.{actors_of}
use Rattle.plat_cmd.specs.Steps.{standing}
use Rattle.plat_cmd.proofs.coarse_runs.make_turns.Given as goal

abbrev pub invariant-loop-turn : goal.invariant-loop-turn
invariant-loop-turn g l = record {
  config : l.coarse.machine ≡ l.fn.coarse.machine;
  policy : l.coarse.policy ≡ l.fn.coarse.policy;
  plan : l.schedule.turns ≡ l.fn.coarse.machine.schedule;
  run :
      standing l.coarse l.schedule
      ≡ scheduled l.fn.coarse.machine (g.P.Policy.answer l.fn.coarse.policy) l._turn;
  live : actors_of l.live ≡ live_processors l.coarse.machine l.coarse.run;
}
