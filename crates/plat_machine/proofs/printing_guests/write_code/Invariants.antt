use Rattle.std.proofs.Common.{map, take, Ok}
use Rattle.plat_base.specs.Canon.{instr_words, label_name}
use Rattle.plat_io.specs.declared.faults.WriteFault.{WriteFault}
use Rattle.plat_io.specs.Adds.{Adds}
use Rattle.plat_io.specs.Lines.{text}
use Rattle.plat_machine.proofs.printing_guests.write_code.Given as goal

-- the lines before that of `instr` were added
abbrev pub invariant-loop-instr : goal.invariant-loop-instr
invariant-loop-instr g l =
    Adds {E = WriteFault} g.K.Sink l.fn.sink l.sink (Ok (tt {0}))
    (text (map (instr_words (label_name l.labels)) (take l.instr-index l.code)))
