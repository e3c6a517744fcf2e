use Rattle.std.proofs.Common.{◌∷◌, [], map, arith}
use Rattle.std.proofs.lemmas.List.{get_or_default}
use Rattle.plat_base.specs.Seen.{machine}
use Rattle.plat_base.specs.Ends.{cut_at}
use Rattle.plat_base.specs.Report.{processor_line, print_line, printed}
use Rattle.plat_report.proofs.WritingLemmas.{adds_more}
use Rattle.plat_report.proofs.processors.write_processor_and_prints.Goals as goal

pub returns : goal.returns
returns g c =
    adds_more g.K.Sink c.args.sink.now c.write_processor.new.sink c.write_prints.new.sink c.write_prints.result
    (processor_line c.args.ends.now c.args.q ∷ [])
    (map (print_line c.args.q) (printed (machine c.args.cfg.now) c.args.items.now c.args.ends.now c.args.q))
    c.in_ok-write_processor.ensures (rw (get_or_default c.args.ends.now c.args.q _ (cut_at 0) (omega arith)) at c.write_prints.ensures)
