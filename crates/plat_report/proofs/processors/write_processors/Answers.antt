use Rattle.std.proofs.lemmas.Result.{err_from_is_err_and}
use Rattle.plat_base.specs.Seen.{machine}
use Rattle.plat_base.specs.Report.{processor_lines}
use Rattle.plat_report.proofs.WritingLemmas.{adds_none, listed_more, listed_failed}
use Rattle.plat_report.proofs.processors.write_processors.Goals as goal

pub loop-q-init : goal.loop-q-init
loop-q-init g c = adds_none g.K.Sink c.args.sink.now

pub returns-in_err-write_processor_and_prints : goal.returns-in_err-write_processor_and_prints
returns-in_err-write_processor_and_prints g c =
    let p = err_from_is_err_and c.from_residual.result c.from_residual.ensures.1
    in rw p.1
    (listed_failed g.K.Sink (processor_lines (machine c.args.cfg.now) c.args.items.now c.args.ends.now)
    c.args.cfg.now.nodes c.loop-q.q c.args.sink.now c.loop-q.sink c.write_processor_and_prints.new.sink _ p.0 c.loop-q-test.true
    c.loop-q.invariant c.in_err-write_processor_and_prints.ensures)

pub loop-q-preserved : goal.loop-q-preserved
loop-q-preserved g c =
    listed_more g.K.Sink (processor_lines (machine c.args.cfg.now) c.args.items.now c.args.ends.now)
    c.loop-q.q c.args.sink.now c.loop-q.sink c.write_processor_and_prints.new.sink c.loop-q.invariant
    c.in_ok-write_processor_and_prints.ensures
