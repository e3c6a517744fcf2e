use Rattle.std.proofs.Common.{◌∷◌, take, Ok}
use Rattle.std.specs.List.{flat_map}
use Rattle.plat_io.specs.declared.faults.WriteFault.{WriteFault}
use Rattle.plat_io.specs.Adds.{Adds}
use Rattle.plat_io.specs.Lines.{spelling}
use Rattle.plat_io.proofs.lines.write_next_words.Given as goal

-- the words before `word` were added
abbrev pub invariant-loop-word : goal.invariant-loop-word
invariant-loop-word g l =
    Adds {E = WriteFault} g.K.Sink l.fn.sink l.sink (Ok (tt {0})) (flat_map (λ word. 32 ∷ spelling word) (take l.word-index l.words))
