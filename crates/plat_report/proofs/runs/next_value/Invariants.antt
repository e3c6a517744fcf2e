use Rattle.std.proofs.Common.{◌≡◌, drop}
use Rattle.plat_base.specs.Done.{values_of}
use Rattle.plat_report.proofs.runs.next_value.Given as goal

-- the items before `i` give no value
abbrev pub invariant-loop-i : goal.invariant-loop-i
invariant-loop-i l = values_of l.q l.items ≡ values_of l.q (drop l.i l.items)
