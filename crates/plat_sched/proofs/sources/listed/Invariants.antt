use Rattle.std.proofs.Common.{◌≡◌, ◌-◌, ◌≤◌, length, drop}
use Rattle.plat_base.specs.Schedule.{listed_choice}
use Rattle.plat_sched.specs.Actors.{actors_of}
use Rattle.plat_sched.proofs.sources.listed.Given as goal

abbrev pub invariant-loop-used : goal.invariant-loop-used
invariant-loop-used l = record {
  within : l.used ≤ length l.actors;
  passed : listed_choice (actors_of l.live) (drop l.fn.used l.actors) ≡ listed_choice (actors_of l.live) (drop l.used l.actors);
}

abbrev pub decreases-loop-used : goal.decreases-loop-used
decreases-loop-used l = length l.actors - l.used
