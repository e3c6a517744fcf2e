use Rattle.std.proofs.Common.{take}
use Rattle.plat_base.specs.Seen.{machine}
use Rattle.plat_report.specs.Sums.{ShowsSums}
use Rattle.plat_report.proofs.tallies.Tally.after.Given as goal

-- the items before `item` were taken in
abbrev pub invariant-loop-item : goal.invariant-loop-item
invariant-loop-item l = ShowsSums (machine l.cfg) (take l.item-index l.items) l.sums
