use Rattle.std.proofs.Common.{Ok}
use Rattle.std.specs.Prelude.{slice_index}
use Rattle.std.specs.List.{flat_map}
use Rattle.plat_base.specs.Pages.{numbers}
use Rattle.plat_base.specs.Report.{word_lines_of}
use Rattle.plat_flat.specs.FlatSeen.{place}
use Rattle.plat_io.specs.declared.faults.WriteFault.{WriteFault}
use Rattle.plat_io.specs.Lines.{AddsLines}
use Rattle.plat_report.proofs.words.write_page.Given as goal

-- the lines of the words before `word` were added
abbrev pub invariant-loop-word : goal.invariant-loop-word
invariant-loop-word g l =
    AddsLines {E = WriteFault} g.K.Sink l.fn.sink l.sink (Ok (tt {0}))
    (flat_map (λ word. word_lines_of l.page word (slice_index l.flat.values (place l.flat.words l.page word))) (numbers l.word))
