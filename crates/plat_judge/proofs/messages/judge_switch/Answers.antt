use Rattle.std.proofs.Common.{◌≡◌, true, sym, ◌∙◌, arith}
use Rattle.plat_base.specs.Seen.{machine}
use Rattle.plat_base.specs.Rules.{is_ordered_switch}
use Rattle.plat_base.specs.declared.statuses.Rule.TheVariants as rule
use Rattle.plat_laws.proofs.Limits.{guests-count}
use Rattle.plat_chronicle.proofs.PresentLemmas.{Shows-fits}
use Rattle.plat_judge.proofs.RuleLemmas.{breaks, keeps, ordered-actor}
use Rattle.plat_judge.proofs.messages.judge_switch.Goals as goal

pub is_ordered_switch-requires : goal.is_ordered_switch-requires
is_ordered_switch-requires c = c.requires.1.stand

pub returns-then-not-is_ordered_switch-clause-rule : goal.returns-then-not-is_ordered_switch-clause-rule
returns-then-not-is_ordered_switch-clause-rule c = λ answer items follow.
    breaks (is_ordered_switch (machine c.args.cfg.now) items c.args.switch) rule.Order
    (sym (c.is_ordered_switch.ensures items follow) ∙ c.if-not-is_ordered_switch.true)

pub switch-requires : goal.switch-requires
switch-requires c =
    let m = machine c.args.cfg.now in
    let fits = Shows-fits m c.requires.0 c.args.present.now c.requires.1.shows in
    let ordered : is_ordered_switch m c.requires.0 c.args.switch ≡ true = sym (c.is_ordered_switch.ensures c.requires.0 c.requires.1.follow)
    ∙ c.if-not-is_ordered_switch.false in
    let actor = ordered-actor m c.requires.0 c.args.switch ordered in
    omega (arith, fits.active, guests-count m c.args.cfg.now.limits, actor)

pub returns-clause-rule : goal.returns-clause-rule
returns-clause-rule c = λ answer items follow.
    keeps (is_ordered_switch (machine c.args.cfg.now) items c.args.switch) rule.Order
    (sym (c.is_ordered_switch.ensures items follow) ∙ c.if-not-is_ordered_switch.false)

pub returns-clause-taken : goal.returns-clause-taken
returns-clause-taken c = λ items shows none. c.switch.ensures (machine c.args.cfg.now) items shows
