use Rattle.std.proofs.Common.{map, take, Ok}
use Rattle.plat_base.specs.Canon.{entry_words}
use Rattle.plat_io.specs.declared.faults.WriteFault.{WriteFault}
use Rattle.plat_io.specs.Adds.{Adds}
use Rattle.plat_io.specs.Lines.{text}
use Rattle.plat_machine.proofs.printing.write_entries.Given as goal

-- the lines before that of `entry` were added
abbrev pub invariant-loop-entry : goal.invariant-loop-entry
invariant-loop-entry g l =
    Adds {E = WriteFault} g.K.Sink l.fn.sink l.sink (Ok (tt {0})) (text (map entry_words (take l.entry-index l.entries)))
