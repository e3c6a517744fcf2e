use Rattle.std.proofs.Common.{◌≡◌, ◌<◌, ◌*◌, length}
use Rattle.plat_base.specs.Seen.{machine}
use Rattle.plat_cost.specs.Certificates.{number_at}
use Rattle.plat_cost.specs.Rests.{IsTableFrom, IsLowTable}
use Rattle.plat_cost.proofs.rests.fill.Given as goal

-- the rows from access i on are filled; base is where that of access i begins
abbrev pub invariant-loop-i : goal.invariant-loop-i
invariant-loop-i l = record {
  within : l.i < length l.actors;
  at : l.base ≡ l.i * l.cfg.nodes;
  table : IsTableFrom (machine l.cfg) l.actors l.i (number_at (machine l.cfg) l.rest);
  low : IsLowTable l.rest l.base l.i (length l.actors);
}

abbrev pub decreases-loop-i : goal.decreases-loop-i
decreases-loop-i l = l.i
