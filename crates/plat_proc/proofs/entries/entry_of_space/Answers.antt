use Rattle.plat_base.specs.Seen.{machine}
use Rattle.plat_base.proofs.EntryLists.{entries_of_space-below}
use Rattle.plat_proc.proofs.entries.entry_of_space.Goals as goal

pub returns-clause-within : goal.returns-clause-within
returns-clause-within c =
    rw c.entries_of_space.ensures (entries_of_space-below (machine c.args.cfg.now) c.args.space c.args.at 0 c.requires)
