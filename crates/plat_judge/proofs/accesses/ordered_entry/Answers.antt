use Rattle.std.proofs.Common.{◌<◌, sym, ◌∙◌, arith}
use Rattle.plat_base.specs.Seen.{machine}
use Rattle.plat_judge.proofs.RuleLemmas.{unordered-access, ordered-access}
use Rattle.plat_judge.proofs.accesses.ordered_entry.Goals as goal

pub returns-in-Some-clause-order : goal.returns-in-Some-clause-order
returns-in-Some-clause-order c = λ items follow.
    let m = machine c.args.cfg.now in
    let a = c.args.access.now in
    let inside : a.actor < m.nodes = omega arith in
    c.entry_made.ensures.made ∙ ordered-access m items a _ inside (sym c.has_frame.ensures ∙ c.if-not-has_frame.false)
    (c.in-Some.ensures.next m items follow)

pub returns-in-Some-clause-entry : goal.returns-in-Some-clause-entry
returns-in-Some-clause-entry c =
    let m = machine c.args.cfg.now in c.entry_made.ensures.entry m (c.in-Some.ensures.entry m c.requires)

pub returns-in-None-clause-order : goal.returns-in-None-clause-order
returns-in-None-clause-order c = λ items follow.
    let m = machine c.args.cfg.now in unordered-access m items c.args.access.now (c.in-None.ensures.next m items follow)
