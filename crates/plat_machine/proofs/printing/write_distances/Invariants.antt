use Rattle.std.proofs.Common.{map, take, Ok}
use Rattle.plat_base.specs.Canon.{distance_words}
use Rattle.plat_io.specs.declared.faults.WriteFault.{WriteFault}
use Rattle.plat_io.specs.Adds.{Adds}
use Rattle.plat_io.specs.Lines.{text}
use Rattle.plat_machine.proofs.printing.write_distances.Given as goal

-- the lines before that of `distance` were added
abbrev pub invariant-loop-distance : goal.invariant-loop-distance
invariant-loop-distance g l =
    Adds {E = WriteFault} g.K.Sink l.fn.sink l.sink (Ok (tt {0})) (text (map distance_words (take l.distance-index l.distances)))
