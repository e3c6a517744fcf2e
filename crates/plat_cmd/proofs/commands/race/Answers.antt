use Rattle.std.proofs.Common.{refl}
use Rattle.plat_cmd.specs.declared.words.Command.TheVariants as command
use Rattle.plat_history.specs.Shown.{seen}
use Rattle.plat_cmd.specs.Inputs.{history_text}
use Rattle.plat_cmd.proofs.PromiseLemmas.{did, failed, takes_ok, takes_err}
use Rattle.plat_cmd.proofs.commands.race.Goals as goal

pub returns-in-Ok : goal.returns-in-Ok
returns-in-Ok g c =
    did command.Race g.S.Source g.K.Sink c.args.source.now c.read_judged.new.source c.args.sink.now c.raced.new.sink c.raced.result
    (seen c.in-Ok.judged.history)
    (record {
      read = c.in-Ok.ensures.read;
      only = c.in-Ok.ensures.only;
      count = c.read_judged.ensures.count;
      short =
          takes_ok history_text (g.S.Source.left c.args.source.now) (g.S.Source.left c.read_judged.new.source) c.read_judged.result
          c.in-Ok.judged c.in-Ok.is c.read_judged.ensures.taken;
    })
    c.raced.ensures

pub returns-in-Err : goal.returns-in-Err
returns-in-Err g c =
    failed command.Race g.S.Source g.K.Sink c.args.source.now c.read_judged.new.source c.args.sink.now c.args.sink.now c.without_run.result
    c.in-Err.status c.in-Err.ensures.failed c.without_run.ensures.status (λ s. tt) c.without_run.ensures.kept c.without_run.ensures.ran refl
    c.read_judged.ensures.count
    (takes_err history_text (g.S.Source.left c.args.source.now) (g.S.Source.left c.read_judged.new.source) c.read_judged.result
    c.in-Err.status c.in-Err.is c.read_judged.ensures.taken)
