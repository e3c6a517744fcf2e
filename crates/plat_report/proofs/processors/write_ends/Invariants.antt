use Rattle.std.proofs.Common.{Ok, ◌∷◌, []}
use Rattle.std.specs.List.{flat_map}
use Rattle.plat_base.specs.Pages.{numbers}
use Rattle.plat_base.specs.Report.{processor_line}
use Rattle.plat_io.specs.declared.faults.WriteFault.{WriteFault}
use Rattle.plat_io.specs.Lines.{AddsLines}
use Rattle.plat_report.proofs.processors.write_ends.Given as goal

-- the lines of the processors before `q` were added
abbrev pub invariant-loop-q : goal.invariant-loop-q
invariant-loop-q g l = AddsLines {E = WriteFault} g.K.Sink l.fn.sink l.sink (Ok (tt {0}))
    (flat_map (λ q. processor_line l.ends q ∷ []) (numbers l.q))
