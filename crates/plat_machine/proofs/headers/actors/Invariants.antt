use Rattle.std.proofs.Common.{◌≡◌, [], length}
use Rattle.plat_grammar.specs.Forms.{each, number_in}
use Rattle.plat_machine.proofs.headers.actors.Given as goal

-- what is left reads on as the whole list does
abbrev pub invariant-loop-row : goal.invariant-loop-row
invariant-loop-row l =
    each (number_in 0 l.nodes) 4096 l.line l.actors.items l.row.words ≡ each (number_in 0 l.nodes) 4096 l.line [] l.fn.row.words

abbrev pub decreases-loop-row : goal.decreases-loop-row
decreases-loop-row l = length l.row.words
