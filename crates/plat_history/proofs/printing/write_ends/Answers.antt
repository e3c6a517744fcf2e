use Rattle.plat_machine.proofs.PrintLines.{adds_none, adds_more, adds_part}
use Rattle.plat_history.proofs.LineLemmas.{ended_lines-more, ended_lines-next}
use Rattle.plat_history.proofs.printing.write_ends.Goals as goal

pub loop-q-init : goal.loop-q-init
loop-q-init g c = adds_none g.K.Sink c.args.sink.now

pub returns-in_err-write_ended : goal.returns-in_err-write_ended
returns-in_err-write_ended g c =
    let next = ended_lines-next c.args.ends.now c.loop-q.q _ c.loop-q-test.true in
    rw next
    (adds_more g.K.Sink _ _ _ _ _ _ _ c.loop-q.invariant
    (adds_part g.K.Sink _ _ _ _ _ _ c.from_residual.ensures.0 c.in_err-write_ended.ensures))

pub loop-q-preserved : goal.loop-q-preserved
loop-q-preserved g c =
    let more = ended_lines-more c.args.ends.now c.loop-q.q _ c.loop-q-test.true in
    rw more (adds_more g.K.Sink _ _ _ _ _ _ _ c.loop-q.invariant c.in_ok-write_ended.ensures)
