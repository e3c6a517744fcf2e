use Rattle.std.proofs.Common.{sym, subst}
use Rattle.plat_merge_laws.specs.Worked.{shootdown}
use Rattle.plat_merge.specs.RoomSeen.{HaveGoodHistory}
use Rattle.plat_table_tests.proofs.MergeTriedLemmas.{journals-good}
use Rattle.plat_table_tests.proofs.merge_tests.merge_to.Goals as goal

-- the history is that of the run
pub merge-merged-requires-clause-good : goal.merge-merged-requires-clause-good
merge-merged-requires-clause-good c =
    subst (λ m. HaveGoodHistory m c.in_ok-journals.journals.lists) (sym c.requires)
    (subst (λ lists. HaveGoodHistory shootdown lists) (sym c.in_ok-journals.ensures.lists) journals-good)
