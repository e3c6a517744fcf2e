use Rattle.std.proofs.Common.{refl, arith}
use Rattle.std.specs.Prelude.{length}
use Rattle.std.proofs.lemmas.List.{get_or_read_under}
use Rattle.std.proofs.lemmas.Result.{err_from_is_err_and}
use Rattle.plat_report.specs.Actors.{no_counts}
use Rattle.plat_report.specs.Lines.{counts_words}
use Rattle.plat_report.proofs.WritingLemmas.{adds_none, listed_more, listed_failed}
use Rattle.plat_report.proofs.lines.write_counts.Goals as goal

pub loop-q-init : goal.loop-q-init
loop-q-init g c = adds_none g.K.Sink c.args.sink.now

pub returns-in_err-write_count : goal.returns-in_err-write_count
returns-in_err-write_count g c =
    let p = err_from_is_err_and c.from_residual.result c.from_residual.ensures.1
    in let counts = c.args.counts.now
    in let read = get_or_read_under counts c.loop-q.q (length counts) c.index-counts-at.result no_counts c.index-counts-at.is (omega arith)
    refl
    in rw p.1
    (listed_failed g.K.Sink (counts_words counts)
    c.args.nodes c.loop-q.q c.args.sink.now c.loop-q.sink c.write_count.new.sink _ p.0 c.loop-q-test.true c.loop-q.invariant
    (rw read at c.in_err-write_count.ensures))

pub loop-q-preserved : goal.loop-q-preserved
loop-q-preserved g c =
    let counts = c.args.counts.now
    in let read = get_or_read_under counts c.loop-q.q (length counts) c.index-counts-at.result no_counts c.index-counts-at.is (omega arith)
    refl
    in listed_more g.K.Sink (counts_words counts)
    c.loop-q.q c.args.sink.now c.loop-q.sink c.write_count.new.sink c.loop-q.invariant (rw read at c.in_ok-write_count.ensures)
