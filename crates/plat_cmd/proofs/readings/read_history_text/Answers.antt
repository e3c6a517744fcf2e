use Rattle.std.proofs.Common.{Err, refl, ap, ◌∙◌}
use Rattle.plat_io.specs.declared.faults.ReadStop.{ReadStop}
use Rattle.plat_cmd.specs.Inputs.{history_text}
use Rattle.plat_cmd.proofs.ReadLemmas.{read_short, no_long_history, too_long_history}
use Rattle.plat_cmd.proofs.readings.read_history_text.Goals as goal

pub returns-in-Err-TooLong-clause-stopped : goal.returns-in-Err-TooLong-clause-stopped
returns-in-Err-TooLong-clause-stopped g c =
    too_long_history (g.S.Source.left c.args.source.now) (g.S.Source.left c.read_all.new.source) c.read_all.result c.read_all.ensures.taken
    (c.in-Err-TooLong.is ∙ ap (λ (e : ReadStop). Err e) c.in-Err-TooLong.field-0-is)

pub returns-in-Err-Refused-clause-taken : goal.returns-in-Err-Refused-clause-taken
returns-in-Err-Refused-clause-taken g c =
    read_short history_text (g.S.Source.left c.args.source.now) (g.S.Source.left c.read_all.new.source) c.read_all.result c.in-Ok.bytes _
    c.in-Err-Refused.refused
    c.in-Ok.is refl (no_long_history c.as_slice.result.now c.in-Err-Refused.field-0 c.in-Err-Refused.refused
    (rw c.as_slice.ensures c.in-Ok.ensures.short)
    c.in-Err-Refused.field-0-is c.in-Err-Refused.ensures.exact)
    c.read_all.ensures.taken
