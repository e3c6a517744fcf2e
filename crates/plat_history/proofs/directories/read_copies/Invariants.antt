use Rattle.std.proofs.Common.{◌≡◌, ◌≤◌, true, length}
use Rattle.plat_grammar.specs.HistoryForms.{copies_from, copies_of}
use Rattle.plat_history.specs.Shown.{parts_left}
use Rattle.plat_history.proofs.PartLemmas.{are_below}
use Rattle.plat_history.proofs.directories.read_copies.Given as goal

-- what is left reads on as the whole does
abbrev pub invariant-loop-left : goal.invariant-loop-left
invariant-loop-left l = record {
  reads : copies_from l.nodes l.frames l.low l.copies (parts_left l.left) ≡ copies_of l.nodes l.frames l.fn.list;
  below : are_below l.low l.copies ≡ true;
  low : l.low ≤ 8;
}

abbrev pub decreases-loop-left : goal.decreases-loop-left
decreases-loop-left l = length (parts_left l.left)
