use Rattle.std.proofs.Common.{◌≡◌, ◌≤◌, length, map}
use Rattle.std.specs.Prelude.{vec_capacity}
use Rattle.plat_base.specs.Pages.{numbers}
use Rattle.plat_base.specs.Seen.{machine}
use Rattle.plat_events.specs.Privates.{first_private}
use Rattle.plat_fine.specs.Crew.{IsCrew, states}
use Rattle.plat_fine.proofs.fines.crew.Given as goal

abbrev pub invariant-loop-q : goal.invariant-loop-q
invariant-loop-q l = record {
  crew : IsCrew (machine l.fn.cfg) l.procs.items;
  long : length l.procs.items ≡ l.q;
  room : l.fn.cfg.nodes ≤ vec_capacity l.procs;
  states : states l.procs.items ≡ map (first_private (machine l.fn.cfg)) (numbers l.q);
}
