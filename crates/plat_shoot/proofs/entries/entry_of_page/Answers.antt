use Rattle.plat_base.specs.Seen.{machine}
use Rattle.plat_base.proofs.EntryLists.{entries_of_page-below}
use Rattle.plat_shoot.proofs.entries.entry_of_page.Goals as goal

pub returns-clause-within : goal.returns-clause-within
returns-clause-within c =
    rw c.entries_of_page.ensures (entries_of_page-below (machine c.args.cfg.now) c.args.page c.args.at 0 c.requires)
