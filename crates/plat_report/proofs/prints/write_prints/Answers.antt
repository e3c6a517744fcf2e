use Rattle.std.proofs.Common.{◌≡◌, false, ap, sym, ◌∙◌, arith}
use Rattle.std.specs.List.{list_any}
use Rattle.plat_base.specs.Machine.{Program}
use Rattle.plat_base.specs.Done.{values_of}
use Rattle.plat_base.specs.Pages.{program_of}
use Rattle.plat_base.specs.Seen.{machine}
use Rattle.plat_base.proofs.LimitLemmas.{guests_count}
use Rattle.plat_guest.proofs.LimitsLemmas.{program_at}
use Rattle.plat_report.specs.Silent.{is_print}
use Rattle.plat_report.proofs.SilentLemmas.{prints-silent}
use Rattle.plat_report.proofs.WritingLemmas.{adds_none}
use Rattle.plat_report.proofs.prints.write_prints.Goals as goal

pub bounds-as_slice-q : goal.bounds-as_slice-q
bounds-as_slice-q g c = grind (arith, guests_count c.args.cfg.now)

pub returns-then-not-has_print : goal.returns-then-not-has_print
returns-then-not-has_print g c =
    let m = machine c.args.cfg.now in
    let same = program_at c.args.cfg.now c.args.q c.index-as_slice-q.result c.requires cc in
    let seen : list_any is_print c.index-as_slice-q.result.code.items ≡ false = cc in
    let none : list_any is_print (program_of m c.args.q).code ≡ false = ap (λ (p : Program). list_any is_print p.code) (sym same) ∙ seen in
    rw (prints-silent m c.args.q (values_of c.args.q c.args.items.now) c.args.turns none) (adds_none g.K.Sink c.args.sink.now)
