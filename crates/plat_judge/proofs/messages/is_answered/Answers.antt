use Rattle.std.proofs.Common.{◌<◌, length, sym, ◌∙◌, arith}
use Rattle.plat_base.specs.Seen.{machine}
use Rattle.plat_laws.proofs.Limits.{guests-count}
use Rattle.plat_judge.proofs.ChangeLemmas.{answered-by, unanswered-space}
use Rattle.plat_judge.proofs.messages.is_answered.Goals as goal

pub active-requires : goal.active-requires
active-requires c =
    let m = machine c.args.cfg.now in omega (arith, c.requires.active, guests-count m c.args.cfg.now.limits)

pub returns-then-active-space_of : goal.returns-then-active-space_of
returns-then-active-space_of c = λ items shows.
    let m = machine c.args.cfg.now in
    let x = c.args.applied in
    let inside : x.actor < length m.guests = omega (arith, guests-count m c.args.cfg.now.limits) in
    let now = c.active.ensures ∙ shows.spaces.at x.actor inside in
    unanswered-space m items x (λ same. c.if-active-space_of.true (now ∙ (same ∙ sym c.space_of.ensures.space)))

pub returns : goal.returns
returns c = λ items shows.
    let m = machine c.args.cfg.now in
    let x = c.args.applied in
    let inside : x.actor < length m.guests = omega (arith, guests-count m c.args.cfg.now.limits) in
    let entry : x.entry < length m.entries = omega arith in
    let now = c.active.ensures ∙ shows.spaces.at x.actor inside in
    answered-by m items x c.held.result c.may_apply.result c.if-applied-cfg.false entry
    (sym now ∙ (c.if-active-space_of.false ∙ c.space_of.ensures.space))
    (c.held.ensures ∙ shows.translations.at x.actor x.entry c.if-applied-cfg.false entry) c.may_apply.ensures
