use Rattle.std.proofs.Common.{◌/◌, sym, ◌∙◌, arith}
use Rattle.plat_base.specs.Seen.{machine}
use Rattle.plat_base.specs.Rules.{is_ordered_access, is_granted, is_legal}
use Rattle.plat_laws.proofs.GuestLaws.{entry_at-found}
use Rattle.plat_chronicle.proofs.PresentLemmas.{Shows-fits}
use Rattle.plat_judge.proofs.RuleLemmas.{breaks-order, breaks-grant, breaks-legal, breaks-none}
use Rattle.plat_judge.proofs.accesses.judge_access.Goals as goal

pub ordered_entry-requires : goal.ordered_entry-requires
ordered_entry-requires c = c.requires.1.stand

pub returns-in_default-clause-rule : goal.returns-in_default-clause-rule
returns-in_default-clause-rule c = λ answer items shows follow.
    let m = machine c.args.cfg.now in
    let a = c.args.access.now in
    breaks-order (is_ordered_access m items a) (is_granted m items a) (is_legal m items a) (sym (c.in_default.ensures.order items follow))

pub is_granted-requires-clause-processor : goal.is_granted-requires-clause-processor
is_granted-requires-clause-processor c =
    let fits = Shows-fits (machine c.args.cfg.now) c.requires.0 c.args.present.now c.requires.1.shows in
    omega (arith, fits.processors, c.in-Some.ensures.actor)

pub is_granted-requires-clause-entry : goal.is_granted-requires-clause-entry
is_granted-requires-clause-entry c =
    let m = machine c.args.cfg.now in
    let a = c.args.access.now in
    let fits = Shows-fits m c.requires.0 c.args.present.now c.requires.1.shows in
    let found = entry_at-found m a.space (a.addr / m.words) c.in-Some.entry c.in-Some.ensures.entry in
    omega (arith, found.below, fits.entries a.actor c.in-Some.ensures.actor)

pub returns-then-not-is_granted-clause-rule : goal.returns-then-not-is_granted-clause-rule
returns-then-not-is_granted-clause-rule c = λ answer items shows follow.
    let m = machine c.args.cfg.now in
    let a = c.args.access.now in
    let granted = c.is_granted.ensures m items shows c.in-Some.ensures.entry in
    breaks-grant (is_ordered_access m items a) (is_granted m items a) (is_legal m items a) (sym (c.in-Some.ensures.order items follow))
    (sym granted ∙ c.if-not-is_granted.true)

pub returns-then-not-access-clause-rule : goal.returns-then-not-access-clause-rule
returns-then-not-access-clause-rule c = λ answer items shows follow.
    let m = machine c.args.cfg.now in
    let a = c.args.access.now in
    let granted = c.is_granted.ensures m items shows c.in-Some.ensures.entry in
    breaks-legal (is_ordered_access m items a) (is_granted m items a) (is_legal m items a) (sym (c.in-Some.ensures.order items follow))
    (sym granted ∙ c.if-not-is_granted.false) (sym (c.access.ensures.answer m items shows) ∙ c.if-not-access.true)

pub returns-clause-rule : goal.returns-clause-rule
returns-clause-rule c = λ answer items shows follow.
    let m = machine c.args.cfg.now in
    let a = c.args.access.now in
    let granted = c.is_granted.ensures m items shows c.in-Some.ensures.entry in
    breaks-none (is_ordered_access m items a) (is_granted m items a) (is_legal m items a) (sym (c.in-Some.ensures.order items follow))
    (sym granted ∙ c.if-not-is_granted.false) (sym (c.access.ensures.answer m items shows) ∙ c.if-not-access.false)

pub returns-clause-taken : goal.returns-clause-taken
returns-clause-taken c = λ items shows none. c.access.ensures.taken (machine c.args.cfg.now) items shows c.if-not-access.false
