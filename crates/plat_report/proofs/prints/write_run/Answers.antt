use Rattle.std.proofs.Common.{◌+◌, ◌-◌, arith}
use Rattle.std.proofs.lemmas.Result.{err_from_is_err_and}
use Rattle.plat_base.specs.Seen.{machine}
use Rattle.plat_report.proofs.Printing.{printed_none, printed_quiet, printed_more, printed_stopped, printed_failed}
use Rattle.plat_report.proofs.prints.write_run.Goals as goal
use Rattle.plat_report.proofs.prints.write_run.Goals.{in-Quiet, in-Prints+in_ok-write_print-in-Prints}

pub loop-made-init : goal.loop-made-init
loop-made-init g c = printed_none g.K.Sink (machine c.args.cfg.now) c.args.q c.args.run c.args.turns c.args.sink.now (c.args.turns - 0)
    (omega arith)

pub returns-in-Stops : goal.returns-in-Stops
returns-in-Stops g c =
    printed_stopped g.K.Sink (machine c.args.cfg.now) c.args.q c.args.run c.args.turns c.args.sink.now c.loop-made.run
    (c.args.turns - c.loop-made.made) (c.args.turns - (c.loop-made.made + 1)) c.loop-made.sink
    c.loop-made.invariant (omega arith) c.in-Stops.ensures.turn

pub returns-in_err-write_print-in-Prints : goal.returns-in_err-write_print-in-Prints
returns-in_err-write_print-in-Prints g c =
    let p = err_from_is_err_and c.from_residual.result c.from_residual.ensures.1
    in rw p.1
    (printed_failed g.K.Sink (machine c.args.cfg.now) c.args.q c.args.run c.args.turns c.args.sink.now c.loop-made.run
    (c.args.turns - c.loop-made.made) (c.args.turns - (c.loop-made.made + 1)) c.loop-made.sink c.write_print.new.sink
    c.in-Prints.value _ p.0 c.loop-made.invariant (omega arith) c.in-Prints.ensures.turn c.in_err-write_print-in-Prints.ensures)

pub loop-made-preserved : goal.loop-made-preserved
loop-made-preserved g c =
    elim c.match-turn.branch [
      | in-Quiet w ↦
          rw (w.sink-is, c.turn.ensures.gone)
          (printed_quiet g.K.Sink (machine c.args.cfg.now) c.args.q c.args.run c.args.turns c.args.sink.now c.loop-made.run
          (c.args.turns - c.loop-made.made) (c.args.turns - (c.loop-made.made + 1)) c.loop-made.sink
          c.loop-made.invariant (omega arith) w.in-Quiet.ensures.turn)
      | in-Prints+in_ok-write_print-in-Prints w ↦
          rw (w.sink-is, c.turn.ensures.gone)
          (printed_more g.K.Sink (machine c.args.cfg.now) c.args.q c.args.run c.args.turns c.args.sink.now c.loop-made.run
          (c.args.turns - c.loop-made.made) (c.args.turns - (c.loop-made.made + 1)) c.loop-made.sink w.write_print.new.sink
          w.in-Prints.value c.loop-made.invariant (omega arith) w.in-Prints.ensures.turn w.in_ok-write_print-in-Prints.ensures)
    ]
