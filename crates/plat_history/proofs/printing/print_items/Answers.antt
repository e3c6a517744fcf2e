use Rattle.plat_history.proofs.PrintedLaws.{printed-text, printed-again}
use Rattle.plat_history.proofs.printing.print_items.Goals as goal

pub returns-clause-text : goal.returns-clause-text
returns-clause-text g c = printed-text c.args.cfg.now c.args.items.now c.args.ends.now

pub returns-clause-read_again : goal.returns-clause-read_again
returns-clause-read_again g c = printed-again c.args.cfg.now c.args.items.now c.args.ends.now
