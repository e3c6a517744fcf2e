use Rattle.plat_base.specs.Seen.{machine}
use Rattle.plat_cmd.specs.declared.words.Command.TheVariants as command
use Rattle.plat_cmd.proofs.PromiseLemmas.{did, stopped}
use Rattle.plat_cmd.proofs.ToldLemmas.{machine_read, no_machine, ends_so}
use Rattle.plat_cmd.proofs.commands.check.Goals as goal

pub returns-in-Ok : goal.returns-in-Ok
returns-in-Ok g c =
    let read = c.read_machine.ensures in
    did command.Check g.S.Source g.K.Sink c.args.source.now c.read_machine.new.source c.args.sink.now c.print.new.sink c.print.result
    (machine c.in-Ok.cfg)
    (machine_read g.S.Source c.args.source.now c.read_machine.new.source c.read_machine.result c.in-Ok.cfg c.in-Ok.is read.found read.exact
    read.all read.count read.only read.taken) c.print.ensures

pub returns-in-Err : goal.returns-in-Err
returns-in-Err g c =
    stopped command.Check g.S.Source g.K.Sink c.args.source.now c.read_machine.new.source
    c.args.sink.now c.args.sink.now c.without_run.result c.in-Err.stop
    (no_machine g.S.Source c.args.source.now c.read_machine.new.source c.read_machine.result c.in-Err.stop c.in-Err.is
    c.read_machine.ensures.stopped c.read_machine.ensures.count c.read_machine.ensures.only c.read_machine.ensures.taken)
    (ends_so c.args.sink.now c.in-Err.stop c.stop_status.result c.without_run.result c.without_run.ensures.status c.stop_status.ensures
    c.without_run.ensures.kept c.without_run.ensures.ran)
