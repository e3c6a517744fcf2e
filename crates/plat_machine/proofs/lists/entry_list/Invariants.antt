use Rattle.std.proofs.Common.{◌≡◌, codes, length}
use Rattle.plat_base.specs.Machine.{same_place}
use Rattle.plat_grammar.specs.Forms.{repeated, all_with}
use Rattle.plat_grammar.specs.FirstFault.{entry_line}
use Rattle.plat_machine.proofs.lists.entry_list.Given as goal

-- what is left reads on as the whole does
abbrev pub invariant-loop-list : goal.invariant-loop-list
invariant-loop-list l =
    repeated (codes "map") same_place (entry_line l.pages) l.rows.stop l.list.items l.rows.rows
    ≡ all_with (codes "map") same_place (entry_line l.pages) l.fn.rows

abbrev pub decreases-loop-list : goal.decreases-loop-list
decreases-loop-list l = length l.rows.rows
