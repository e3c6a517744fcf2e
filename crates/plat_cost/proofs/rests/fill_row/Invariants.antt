use Rattle.std.proofs.Common.{◌+◌}
use Rattle.plat_base.specs.Seen.{machine}
use Rattle.plat_cost.specs.Rests.{IsKeptFrom, IsRowOf, AreRisen}
use Rattle.plat_cost.proofs.rests.fill_row.Given as goal

abbrev pub invariant-loop-x : goal.invariant-loop-x
invariant-loop-x l = record {
  kept : IsKeptFrom (l.base + l.cfg.nodes) l.initial.rest l.rest;
  row : IsRowOf (machine l.cfg) l.actor l.initial.rest l.base l.rest l.x;
  risen : AreRisen l.initial.rest (l.base + l.cfg.nodes) l.rest l.base l.x;
}
