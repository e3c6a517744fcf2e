use Rattle.std.proofs.Common.{arith}
use Rattle.std.specs.Prelude.{slice_index}
use Rattle.std.proofs.lemmas.Result.{err_from_is_err_and}
use Rattle.plat_base.specs.Report.{word_lines_of}
use Rattle.plat_flat.specs.FlatSeen.{place}
use Rattle.plat_report.proofs.WritingLemmas.{adds_none, listed_more, listed_failed}
use Rattle.plat_report.proofs.words.write_page.Goals as goal

pub loop-word-init : goal.loop-word-init
loop-word-init g c = adds_none g.K.Sink c.args.sink.now

pub returns-in_err-write_word_of : goal.returns-in_err-write_word_of
returns-in_err-write_word_of g c =
    let p = err_from_is_err_and c.from_residual.result c.from_residual.ensures.1
    in rw p.1
    (listed_failed g.K.Sink (λ word.
    word_lines_of c.args.page word (slice_index c.args.flat.now.values (place c.args.flat.now.words c.args.page word)))
    c.args.flat.now.words c.loop-word.word c.args.sink.now c.loop-word.sink c.write_word_of.new.sink _ p.0 (omega arith)
    c.loop-word.invariant
    (rw c.value.ensures at c.in_err-write_word_of.ensures))

pub loop-word-preserved : goal.loop-word-preserved
loop-word-preserved g c =
    listed_more g.K.Sink (λ word. word_lines_of c.args.page word
    (slice_index c.args.flat.now.values (place c.args.flat.now.words c.args.page word)))
    c.loop-word.word c.args.sink.now c.loop-word.sink c.write_word_of.new.sink c.loop-word.invariant
    (rw c.value.ensures at c.in_ok-write_word_of.ensures)
