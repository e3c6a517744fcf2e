use Rattle.std.proofs.Common.{map, take, Ok}
use Rattle.plat_base.specs.Canon.{init_words}
use Rattle.plat_io.specs.declared.faults.WriteFault.{WriteFault}
use Rattle.plat_io.specs.Adds.{Adds}
use Rattle.plat_io.specs.Lines.{text}
use Rattle.plat_machine.proofs.printing.write_inits.Given as goal

-- the lines before that of `init` were added
abbrev pub invariant-loop-init : goal.invariant-loop-init
invariant-loop-init g l =
    Adds {E = WriteFault} g.K.Sink l.fn.sink l.sink (Ok (tt {0})) (text (map init_words (take l.init-index l.inits)))
