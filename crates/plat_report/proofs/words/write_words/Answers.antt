use Rattle.std.proofs.lemmas.Result.{err_from_is_err_and}
use Rattle.plat_report.specs.Flats.{flat_page_lines}
use Rattle.plat_report.proofs.WritingLemmas.{adds_none, listed_more, listed_failed}
use Rattle.plat_report.proofs.words.write_words.Goals as goal

pub loop-page-init : goal.loop-page-init
loop-page-init g c = adds_none g.K.Sink c.args.sink.now

pub returns-in_err-write_page : goal.returns-in_err-write_page
returns-in_err-write_page g c =
    let p = err_from_is_err_and c.from_residual.result c.from_residual.ensures.1
    in rw (p.1, c.requires.pages)
    (listed_failed g.K.Sink (flat_page_lines c.args.flat.now) c.args.pages c.loop-page.page c.args.sink.now c.loop-page.sink
    c.write_page.new.sink _ p.0 c.loop-page-test.true c.loop-page.invariant c.in_err-write_page.ensures)

pub loop-page-preserved : goal.loop-page-preserved
loop-page-preserved g c =
    listed_more g.K.Sink (flat_page_lines c.args.flat.now) c.loop-page.page c.args.sink.now c.loop-page.sink c.write_page.new.sink
    c.loop-page.invariant c.in_ok-write_page.ensures
