use Rattle.plat_machine.proofs.PrintParts.{machine_lines-canon}
use Rattle.plat_machine.proofs.PlainCanon.{config-text, config-again}
use Rattle.plat_machine.proofs.printing.print_machine.Goals as goal

pub returns-clause-written : goal.returns-clause-written
returns-clause-written g c = rw machine_lines-canon at c.write_machine.ensures

pub returns-clause-text : goal.returns-clause-text
returns-clause-text g c = config-text c.args.cfg.now

pub returns-clause-read_again : goal.returns-clause-read_again
returns-clause-read_again g c = config-again c.args.cfg.now
