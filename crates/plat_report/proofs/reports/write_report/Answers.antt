use Rattle.std.proofs.Common.{[], ◌∷◌}
use Rattle.std.specs.Prelude.{codes}
use Rattle.std.specs.List.{flat_map}
use Rattle.plat_base.specs.Canon.{Words}
use Rattle.plat_base.specs.Pages.{numbers}
use Rattle.plat_base.specs.Report.{processor_lines}
use Rattle.plat_report.proofs.WritingLemmas.{adds_more}
use Rattle.plat_base.specs.Seen.{machine}
use Rattle.plat_report.specs.Sums.{sum_lines}
use Rattle.plat_report.proofs.FlatLemmas.{legal_of_good, ends_of_good}
use Rattle.plat_report.proofs.reports.write_report.Goals as goal

abbrev heading : Words
heading = codes "platinum" ∷ codes "report" ∷ codes "1" ∷ []

pub write_processors-requires : goal.write_processors-requires
write_processors-requires g c =
    ends_of_good (machine c.args.cfg.now) c.requires.good.0 c.args.items.now c.args.ends.now c.requires.good.1

pub write_sums-requires-clause-legal : goal.write_sums-requires-clause-legal
write_sums-requires-clause-legal g c =
    legal_of_good (machine c.args.cfg.now) c.requires.good.0 c.args.items.now c.args.ends.now c.requires.good.1

pub returns : goal.returns
returns g c =
    let m = machine c.args.cfg.now
    in adds_more g.K.Sink c.args.sink.now c.write_line.new.sink c.write_sums.new.sink c.write_sums.result (heading ∷ []) _
    c.in_ok-write_line.ensures
    (adds_more g.K.Sink c.write_line.new.sink c.write_processors.new.sink c.write_sums.new.sink c.write_sums.result
    (flat_map (processor_lines m c.args.items.now c.args.ends.now) (numbers m.nodes)) (sum_lines m c.args.items.now)
    c.in_ok-write_processors.ensures c.write_sums.ensures)
