use Rattle.std.proofs.Common.{◌∷◌, take, Ok}
use Rattle.std.specs.List.{flat_map}
use Rattle.std.specs.Fmt.{decimal}
use Rattle.plat_io.specs.declared.faults.WriteFault.{WriteFault}
use Rattle.plat_io.specs.Adds.{Adds}
use Rattle.plat_io.proofs.lines.write_next_numbers.Given as goal

-- the numbers before `n` were added
abbrev pub invariant-loop-n : goal.invariant-loop-n
invariant-loop-n g l =
    Adds {E = WriteFault} g.K.Sink l.fn.sink l.sink (Ok (tt {0})) (flat_map (λ n. 32 ∷ decimal n) (take l.n-index l.numbers))
