use Rattle.std.proofs.Common.{◌≡◌, take}
use Rattle.plat_report.specs.Counts.{totals_of}
use Rattle.plat_report.proofs.totals.Totals.of.Given as goal

-- the items before `item` were counted
abbrev pub invariant-loop-item : goal.invariant-loop-item
invariant-loop-item l = l.totals ≡ totals_of (take l.item-index l.items)
