use Rattle.std.proofs.Common.{Err}
use Rattle.std.specs.List.{flat_map}
use Rattle.std.proofs.lemmas.Result.{err_from_is_err_and}
use Rattle.plat_base.specs.Pages.{numbers}
use Rattle.plat_base.specs.Report.{page_lines, count_lines, total_lines}
use Rattle.plat_base.specs.Seen.{machine}
use Rattle.plat_report.proofs.FlatLemmas.{lines_of_flat}
use Rattle.plat_report.proofs.SumLemmas.{lines_of_counts, counts_enough}
use Rattle.plat_report.proofs.WritingLemmas.{adds_more, adds_part}
use Rattle.plat_report.proofs.reports.write_sums_of.Goals as goal

pub write_counts-requires : goal.write_counts-requires
write_counts-requires g c =
    counts_enough (machine c.args.cfg.now) c.requires.0 c.args.sums.now.actors c.args.cfg.now.limits c.requires.1.actors

pub returns-in_err-write_words : goal.returns-in_err-write_words
returns-in_err-write_words g c = λ items shows count.
    let p = err_from_is_err_and c.from_residual.result c.from_residual.ensures.1 in
    let m = machine c.args.cfg.now in
    let flat = rw (lines_of_flat m items c.args.sums.now.flat shows.flat) at c.in_err-write_words.ensures in
    rw p.1 (adds_part g.K.Sink c.args.sink.now c.write_words.new.sink _ p.0 (flat_map (page_lines m items) (numbers m.pages)) _ flat)

pub returns-in_err-write_counts : goal.returns-in_err-write_counts
returns-in_err-write_counts g c = λ items shows count.
    let p = err_from_is_err_and c.from_residual-in_err-write_counts.result c.from_residual-in_err-write_counts.ensures.1 in
    let m = machine c.args.cfg.now in
    let flat = rw (lines_of_flat m items c.args.sums.now.flat shows.flat) at c.in_ok-write_words.ensures in
    let counts = rw (lines_of_counts m items c.args.sums.now.actors c.args.cfg.now.limits shows.actors) at c.in_err-write_counts.ensures in
    rw p.1
    (adds_more g.K.Sink c.args.sink.now c.write_words.new.sink c.write_counts.new.sink (Err p.0)
    (flat_map (page_lines m items) (numbers m.pages)) _ flat
    (adds_part g.K.Sink c.write_words.new.sink c.write_counts.new.sink _ p.0 (flat_map (count_lines m items) (numbers m.nodes)) _ counts))

pub returns : goal.returns
returns g c = λ items shows count.
    let m = machine c.args.cfg.now in
    let flat = rw (lines_of_flat m items c.args.sums.now.flat shows.flat) at c.in_ok-write_words.ensures in
    let counts = rw (lines_of_counts m items c.args.sums.now.actors c.args.cfg.now.limits shows.actors) at c.in_ok-write_counts.ensures in
    let totals = rw (shows.totals, count) at c.write_totals.ensures in
    adds_more g.K.Sink c.args.sink.now c.write_words.new.sink c.write_totals.new.sink c.write_totals.result
    (flat_map (page_lines m items) (numbers m.pages)) _ flat
    (adds_more g.K.Sink c.write_words.new.sink c.write_counts.new.sink c.write_totals.new.sink c.write_totals.result
    (flat_map (count_lines m items) (numbers m.nodes)) (total_lines items) counts totals)
