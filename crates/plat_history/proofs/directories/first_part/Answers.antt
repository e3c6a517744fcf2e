use Rattle.plat_history.proofs.PartLemmas.{parts-end}
use Rattle.plat_history.proofs.directories.first_part.Goals as goal

pub returns-in-None : goal.returns-in-None
returns-in-None c = parts-end c.args.list.now (c.in-None.ensures)
