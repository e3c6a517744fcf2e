use Rattle.std.proofs.Common.{sym}
use Rattle.plat_laws.proofs.Limits.{and-left, and-right}
use Rattle.plat_judge.proofs.changes.decision_of.Goals as goal

pub decide-requires-clause-dir : goal.decide-requires-clause-dir
decide-requires-clause-dir g c = and-left _ _ (sym c.if-may_decide.ensures)

pub decide-requires-clause-fits : goal.decide-requires-clause-fits
decide-requires-clause-fits g c = and-right _ _ (sym c.if-may_decide.ensures)
