use Rattle.std.proofs.Common.{◌∙◌}
use Rattle.plat_base.specs.Canon.{canon_text}
use Rattle.plat_base.specs.Seen.{machine}
use Rattle.plat_base.specs.declared.statuses.Status.TheVariants as status
use Rattle.plat_cmd.proofs.EndingLemmas.{written_by, ended_by}
use Rattle.plat_cmd.proofs.checks.print.Goals as goal

-- src/checks.rt:12:1
pub returns : goal.returns
returns g c =
    let m = machine c.args.cfg.now in
    let now_is = c.without_run.ensures.status ∙ c.status_after.ensures in
    record {
      written =
          written_by g.K.Sink c.args.sink.now c.print_machine-written.new.sink c.print_machine-written.result (canon_text m) status.Done
          c.without_run.result.status
          (λ is. cc) now_is c.print_machine-written.ensures.written;
      ended = ended_by c.print_machine-written.result status.Done c.without_run.result.status now_is;
      text = c.print_machine-written.ensures.text;
      read_again = c.print_machine-written.ensures.read_again;
      history = c.without_run.ensures.kept;
      no_threads = c.without_run.ensures.ran;
    }
