use Rattle.plat_machine.proofs.ListLaws.{entries-read}
use Rattle.plat_machine.proofs.lists.entries.Goals as goal

pub new-requires : goal.new-requires
new-requires c = record { few = entries-read c.args.pages c.ranges.pages.fits _ _ _ c.in_ok-list.ensures }
