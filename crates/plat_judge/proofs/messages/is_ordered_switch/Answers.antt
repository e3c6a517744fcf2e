use Rattle.std.proofs.Common.{◌<◌, ◌∙◌, arith}
use Rattle.plat_base.specs.Seen.{machine}
use Rattle.plat_judge.proofs.RuleLemmas.{ordered-switch}
use Rattle.plat_judge.proofs.messages.is_ordered_switch.Goals as goal

pub returns-in-Some : goal.returns-in-Some
returns-in-Some c = λ items follow.
    let m = machine c.args.cfg.now in
    let inside : c.args.switch.actor < m.nodes = omega arith in
    c.is_switch.ensures ∙ ordered-switch m items c.args.switch _ inside (c.in-Some.ensures.next m items follow)

pub returns-in-None : goal.returns-in-None
returns-in-None c = λ items follow.
    let m = machine c.args.cfg.now in
    let inside : c.args.switch.actor < m.nodes = omega arith in
    ordered-switch m items c.args.switch _ inside (c.in-None.ensures.next m items follow)
