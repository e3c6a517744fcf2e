use Rattle.std.proofs.Common.{map, take, Ok}
use Rattle.plat_io.specs.declared.faults.WriteFault.{WriteFault}
use Rattle.plat_io.specs.Adds.{Adds}
use Rattle.plat_io.specs.Lines.{text}
use Rattle.plat_grammar.specs.HistoryCanon.{item_words}
use Rattle.plat_history.proofs.printing.write_items.Given as goal

-- the lines before that of `item` were added
abbrev pub invariant-loop-item : goal.invariant-loop-item
invariant-loop-item g l = Adds {E = WriteFault} g.K.Sink l.fn.sink l.sink (Ok (tt {0})) (text (map item_words (take l.item-index l.items)))
