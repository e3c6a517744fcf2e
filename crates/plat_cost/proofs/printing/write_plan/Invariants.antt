use Rattle.std.proofs.Common.{length, take, Ok}
use Rattle.std.specs.List.{flat_map}
use Rattle.plat_base.specs.Pages.{numbers}
use Rattle.plat_cost.specs.CostLines.{place_lines}
use Rattle.plat_io.specs.declared.faults.WriteFault.{WriteFault}
use Rattle.plat_io.specs.Lines.{AddsLines}
use Rattle.plat_cost.proofs.printing.write_plan.Given as goal

-- the lines of the accesses before `k` were added
abbrev pub invariant-loop-k : goal.invariant-loop-k
invariant-loop-k g l = AddsLines {E = WriteFault} g.K.Sink l.fn.sink l.sink (Ok (tt {0}))
    (flat_map (place_lines l.plan) (take l.k (numbers (length l.plan))))
