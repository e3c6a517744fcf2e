use Rattle.std.proofs.Common.{◌≡◌, ◌++◌, take, drop}
use Rattle.std.specs.Slots.{slots_items}
use Rattle.plat_table.proofs.boards.read_words.Given as goal

abbrev pub invariant-loop-at : goal.invariant-loop-at
invariant-loop-at l = l.words ≡ take l.at (slots_items l.table.words) ++ drop l.at l.fn.words
