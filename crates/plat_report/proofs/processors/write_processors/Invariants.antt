use Rattle.std.proofs.Common.{Ok}
use Rattle.std.specs.List.{flat_map}
use Rattle.plat_base.specs.Seen.{machine}
use Rattle.plat_base.specs.Pages.{numbers}
use Rattle.plat_base.specs.Report.{processor_lines}
use Rattle.plat_io.specs.declared.faults.WriteFault.{WriteFault}
use Rattle.plat_io.specs.Lines.{AddsLines}
use Rattle.plat_report.proofs.processors.write_processors.Given as goal

-- the lines of the processors before `q` were added
abbrev pub invariant-loop-q : goal.invariant-loop-q
invariant-loop-q g l = AddsLines {E = WriteFault} g.K.Sink l.fn.sink l.sink (Ok (tt {0}))
    (flat_map (processor_lines (machine l.cfg) l.items l.ends) (numbers l.q))
