use Rattle.std.proofs.Common.{take, Ok}
use Rattle.plat_io.specs.declared.faults.WriteFault.{WriteFault}
use Rattle.plat_io.specs.Lines.{AddsLines}
use Rattle.plat_grammar.specs.HistoryCanon.{ended_lines}
use Rattle.plat_history.proofs.printing.write_ends.Given as goal

-- the lines before that of processor `q` were added
abbrev pub invariant-loop-q : goal.invariant-loop-q
invariant-loop-q g l = AddsLines {E = WriteFault} g.K.Sink l.fn.sink l.sink (Ok (tt {0})) (ended_lines 0 (take l.q l.ends))
