use Rattle.std.proofs.Common.{◌≡◌, true, sym, ◌∙◌, arith}
use Rattle.plat_base.specs.Seen.{machine}
use Rattle.plat_base.specs.Rules.{is_answered}
use Rattle.plat_chronicle.proofs.PresentLemmas.{Shows-fits}
use Rattle.plat_judge.proofs.ChangeLemmas.{answered-actor, answered-entry}
use Rattle.plat_judge.proofs.messages.judge_applied.Goals as goal

pub is_answered-requires : goal.is_answered-requires
is_answered-requires c = Shows-fits (machine c.args.cfg.now) c.requires.0 c.args.present.now c.requires.1

pub applied-requires : goal.applied-requires
applied-requires c =
    let m = machine c.args.cfg.now in
    let x = c.args.applied in
    let fits = Shows-fits m c.requires.0 c.args.present.now c.requires.1 in
    let answered : is_answered m c.requires.0 x ≡ true = sym (c.is_answered.ensures c.requires.0 c.requires.1)
    ∙ c.if-not-is_answered.false in
    let actor = answered-actor m c.requires.0 x answered in
    let entry = answered-entry m c.requires.0 x answered in
    record { processor = omega (arith, fits.processors, actor); entry = omega (arith, fits.entries x.actor actor, entry) }

pub returns-clause-taken : goal.returns-clause-taken
returns-clause-taken c = λ items shows none. c.applied.ensures (machine c.args.cfg.now) items shows
