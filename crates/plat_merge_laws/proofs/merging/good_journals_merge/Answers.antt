use Rattle.plat_merge_laws.proofs.MergeLaws.{merges-good}
use Rattle.plat_merge_laws.proofs.merging.good_journals_merge.Goals as goal

pub returns : goal.returns
returns c = merges-good
