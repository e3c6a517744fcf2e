use Rattle.std.proofs.Common.{◌≡◌, codes, length}
use Rattle.plat_base.specs.Machine.{same_nodes}
use Rattle.plat_grammar.specs.Forms.{repeated, all_with}
use Rattle.plat_grammar.specs.FirstFault.{distance_line}
use Rattle.plat_machine.proofs.lists.distances.Given as goal

-- what is left reads on as the whole does
abbrev pub invariant-loop-list : goal.invariant-loop-list
invariant-loop-list l =
    repeated (codes "distance") same_nodes (distance_line l.nodes) l.rows.stop l.list.items l.rows.rows
    ≡ all_with (codes "distance") same_nodes (distance_line l.nodes) l.fn.rows

abbrev pub decreases-loop-list : goal.decreases-loop-list
decreases-loop-list l = length l.rows.rows
