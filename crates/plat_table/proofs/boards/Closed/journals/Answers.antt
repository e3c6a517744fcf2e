use Rattle.std.proofs.Common.{subst}
use Rattle.plat_table.specs.Closed.{HasGoodHistory}
use Rattle.plat_table.proofs.GoodLemmas.{has-good}
use Rattle.plat_table.proofs.boards.Closed.journals.Goals as goal

pub returns-clause-good : goal.returns-clause-good
returns-clause-good c =
    subst HasGoodHistory c.self.view_is (has-good _ c.self.inside.cfg.limits c.self.invariant)
