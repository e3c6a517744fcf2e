use Rattle.std.proofs.Common.{length, refl, sym, ap, ◌∙◌, arith}
use Rattle.plat_base.specs.Canon.{instr_words, label_name}
use Rattle.plat_base.specs.declared.guests.Label.{Label}
use Rattle.plat_machine.proofs.PrintLabels.{IsNext, IsNext-bounds, last_at-rises, last_at-more, lines_to-more, with_labels-here}
use Rattle.plat_machine.proofs.PrintLabels.{with_labels-end}
use Rattle.plat_machine.proofs.PrintLines.{adds_none, adds_more, adds_part}
use Rattle.plat_machine.proofs.printing_guests.write_labelled.Goals as goal

pub loop-label-init : goal.loop-label-init
loop-label-init g c = record { at = refl; written = adds_none g.K.Sink c.args.sink.now }

pub write_stretch-requires-clause-order : goal.write_stretch-requires-clause-order
write_stretch-requires-clause-order g c =
    let next : IsNext c.args.labels.now (length c.args.code.now) c.loop-label.label-index c.loop-label.at c.label-item.result =
    record { rising = c.requires.rising; within = omega arith; place = c.loop-label.invariant.at; item = c.label-item.is }
    in omega (arith, IsNext-bounds next)

pub write_stretch-requires-clause-within : goal.write_stretch-requires-clause-within
write_stretch-requires-clause-within g c =
    let next : IsNext c.args.labels.now (length c.args.code.now) c.loop-label.label-index c.loop-label.at c.label-item.result =
    record { rising = c.requires.rising; within = omega arith; place = c.loop-label.invariant.at; item = c.label-item.is }
    in omega (arith, IsNext-bounds next)

pub returns-in_err-write_stretch : goal.returns-in_err-write_stretch
returns-in_err-write_stretch g c =
    let next : IsNext c.args.labels.now (length c.args.code.now) c.loop-label.label-index c.loop-label.at c.label-item.result =
    record { rising = c.requires.rising; within = omega arith; place = c.loop-label.invariant.at; item = c.label-item.is }
    in let whole = with_labels-here (instr_words (label_name c.args.labels.now)) c.args.code.now next
    in rw whole
    (adds_more g.K.Sink _ _ _ _ _ _ _ c.loop-label.invariant.written
    (adds_part g.K.Sink _ _ _ _ _ _ c.from_residual.ensures.0 c.in_err-write_stretch.ensures))

pub returns-in_err-write_label : goal.returns-in_err-write_label
returns-in_err-write_label g c =
    let next : IsNext c.args.labels.now (length c.args.code.now) c.loop-label.label-index c.loop-label.at c.label-item.result =
    record { rising = c.requires.rising; within = omega arith; place = c.loop-label.invariant.at; item = c.label-item.is }
    in let whole = with_labels-here (instr_words (label_name c.args.labels.now)) c.args.code.now next
    in rw whole
    (adds_more g.K.Sink _ _ _ _ _ _ _ c.loop-label.invariant.written
    (adds_more g.K.Sink _ _ _ _ _ _ _ c.in_ok-write_stretch.ensures
    (adds_part g.K.Sink _ _ _ _ _ _ c.from_residual-in_err-write_label.ensures.0 c.in_err-write_label.ensures)))

pub loop-label-preserved : goal.loop-label-preserved
loop-label-preserved g c =
    let next : IsNext c.args.labels.now (length c.args.code.now) c.loop-label.label-index c.loop-label.at c.label-item.result =
    record { rising = c.requires.rising; within = omega arith; place = c.loop-label.invariant.at; item = c.label-item.is }
    in let more = lines_to-more (instr_words (label_name c.args.labels.now)) c.args.code.now next
    in record {
      at = ap (λ (l : Label). l.at) c.label-item.is
          ∙ sym (last_at-more c.args.labels.now 0 c.loop-label.label-index c.label-item.result (omega arith));
      written =
          rw more
          (adds_more g.K.Sink _ _ _ _ _ _ _ c.loop-label.invariant.written
          (adds_more g.K.Sink _ _ _ _ _ _ _ c.in_ok-write_stretch.ensures c.in_ok-write_label.ensures));
    }

pub write_stretch-requires-2-clause-order : goal.write_stretch-requires-2-clause-order
write_stretch-requires-2-clause-order g c =
    let rises = last_at-rises c.args.labels.now 0 (length c.args.code.now) c.loop-label.label-index c.requires.rising (omega arith)
    in omega (arith, rises, c.loop-label.invariant.at)

pub returns : goal.returns
returns g c =
    let whole = with_labels-end (instr_words (label_name c.args.labels.now)) c.args.code.now c.args.labels.now c.loop-label.label-index
    c.loop-label.at c.requires.rising (omega arith) c.loop-label.invariant.at
    in rw whole (adds_more g.K.Sink _ _ _ _ _ _ _ c.loop-label.invariant.written c.write_stretch-2.ensures)
