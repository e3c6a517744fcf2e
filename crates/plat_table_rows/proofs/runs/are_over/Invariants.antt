use Rattle.plat_table_rows.proofs.RunLemmas.{AreOverBelow}
use Rattle.plat_table_rows.proofs.runs.are_over.Given as goal

abbrev pub invariant-loop-at : goal.invariant-loop-at
invariant-loop-at l = AreOverBelow l.rider.crew l.at
