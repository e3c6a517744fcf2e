use Rattle.std.proofs.Common.{Ok}
use Rattle.std.specs.List.{flat_map}
use Rattle.plat_base.specs.Pages.{numbers}
use Rattle.plat_io.specs.declared.faults.WriteFault.{WriteFault}
use Rattle.plat_io.specs.Lines.{AddsLines}
use Rattle.plat_report.specs.Flats.{flat_page_lines}
use Rattle.plat_report.proofs.words.write_words.Given as goal

-- the lines of the pages before `page` were added
abbrev pub invariant-loop-page : goal.invariant-loop-page
invariant-loop-page g l = AddsLines {E = WriteFault} g.K.Sink l.fn.sink l.sink (Ok (tt {0}))
    (flat_map (flat_page_lines l.flat) (numbers l.page))
