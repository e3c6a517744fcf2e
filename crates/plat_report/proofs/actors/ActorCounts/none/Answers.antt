use Rattle.std.proofs.Common.{refl}
use Rattle.plat_report.proofs.actors.ActorCounts.none.Goals as goal

pub returns : goal.returns
returns c = rw (c.none.ensures 0, c.empty.ensures) refl
