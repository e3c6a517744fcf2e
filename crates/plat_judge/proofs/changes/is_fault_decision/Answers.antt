use Rattle.std.proofs.Common.{sym, ◌∙◌}
use Rattle.plat_base.specs.Seen.{machine}
use Rattle.plat_judge.proofs.ChangeLemmas.{fault-decided, fault-undecided}
use Rattle.plat_judge.proofs.changes.is_fault_decision.Goals as goal

pub returns-in-Some : goal.returns-in-Some
returns-in-Some g c = λ items same.
    let m = machine c.args.cfg.now in
    let change = c.args.change.now in
    let decided = rw c.got_named-got.ensures at (sym c.decision_of.ensures ∙ c.in-Some.is) in
    c.is_granted_so.ensures ∙ fault-decided m (g.P.Policy.answer c.args.policy.now) items change c.args.grant c.args.last c.in-Some.decision
    same decided

pub returns-in-None : goal.returns-in-None
returns-in-None g c = λ items same.
    let m = machine c.args.cfg.now in
    let change = c.args.change.now in
    let decided = rw c.got_named-got.ensures at (sym c.decision_of.ensures ∙ c.in-None.is) in
    fault-undecided m (g.P.Policy.answer c.args.policy.now) items change c.args.grant c.args.last same decided
