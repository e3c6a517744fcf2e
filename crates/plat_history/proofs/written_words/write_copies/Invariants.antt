use Rattle.std.proofs.Common.{◌≡◌, Ok}
use Rattle.plat_io.specs.declared.faults.WriteFault.{WriteFault}
use Rattle.plat_io.specs.Adds.{Adds}
use Rattle.plat_grammar.specs.HistoryCanon.{copies_part}
use Rattle.plat_history.proofs.CopyLemmas.{below, mark_after}
use Rattle.plat_history.proofs.written_words.write_copies.Given as goal

-- the copies on modules below `node` were added
abbrev pub invariant-loop-node : goal.invariant-loop-node
invariant-loop-node g l = record {
  written : Adds {E = WriteFault} g.K.Sink l.fn.sink l.sink (Ok (tt {0})) (copies_part (below l.node l.copies));
  mark : l.mark ≡ mark_after (below l.node l.copies);
}
