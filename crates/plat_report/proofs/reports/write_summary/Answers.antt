use Rattle.std.proofs.Common.{[], ◌∷◌, Err}
use Rattle.std.specs.Prelude.{codes}
use Rattle.std.specs.Fmt.{decimal}
use Rattle.std.specs.List.{flat_map}
use Rattle.std.proofs.lemmas.Result.{err_from_is_err_and}
use Rattle.plat_base.specs.Pages.{numbers}
use Rattle.plat_base.specs.Report.{processor_line, total_lines}
use Rattle.plat_report.proofs.WritingLemmas.{adds_more, adds_part, map_is_flat_map}
use Rattle.plat_base.specs.Seen.{machine}
use Rattle.plat_report.proofs.FlatLemmas.{ends_of_good}
use Rattle.plat_report.proofs.reports.write_summary.Goals as goal

pub write_ends-requires : goal.write_ends-requires
write_ends-requires g c =
    ends_of_good (machine c.args.cfg.now) c.requires.good.0 c.args.items.now c.args.ends.now c.requires.good.1

pub returns-in_err-write_ends : goal.returns-in_err-write_ends
returns-in_err-write_ends g c =
    let p = err_from_is_err_and c.from_residual-in_err-write_ends.result c.from_residual-in_err-write_ends.ensures.1
    in rw (p.1, map_is_flat_map)
    (adds_more g.K.Sink c.args.sink.now c.write_line.new.sink c.write_ends.new.sink (Err p.0)
    ((codes "big" ∷ decimal c.args.n ∷ []) ∷ []) _ c.in_ok-write_line.ensures
    (adds_part g.K.Sink c.write_line.new.sink c.write_ends.new.sink _ p.0
    (flat_map (λ q. processor_line c.args.ends.now q ∷ []) (numbers c.args.cfg.now.nodes)) _ c.in_err-write_ends.ensures))

pub returns : goal.returns
returns g c =
    rw map_is_flat_map
    (adds_more g.K.Sink c.args.sink.now c.write_line.new.sink c.write_totals.new.sink c.write_totals.result
    ((codes "big" ∷ decimal c.args.n ∷ []) ∷ []) _ c.in_ok-write_line.ensures
    (adds_more g.K.Sink c.write_line.new.sink c.write_ends.new.sink c.write_totals.new.sink c.write_totals.result
    (flat_map (λ q. processor_line c.args.ends.now q ∷ []) (numbers c.args.cfg.now.nodes)) (total_lines c.args.items.now)
    c.in_ok-write_ends.ensures (rw c.of.ensures at c.write_totals.ensures)))
