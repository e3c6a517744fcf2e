use Rattle.std.proofs.Common.{sym, ◌∙◌}
use Rattle.plat_base.specs.Seen.{machine}
use Rattle.plat_judge.proofs.ChangeLemmas.{thaw-decided, thaw-undecided, thaws}
use Rattle.plat_judge.proofs.changes.is_thaw_change.Goals as goal

pub returns-in-Some : goal.returns-in-Some
returns-in-Some g c = λ items same.
    let m = machine c.args.cfg.now in
    let change = c.args.change.now in
    let may =
    thaws m change (sym c.has_daemon.ensures ∙ c.if-not-has_daemon.false) (sym c.same_cause.ensures ∙ c.if-not-same_cause.false)
    (sym c.if-is_some.ensures) in
    c.is_decided.ensures ∙ thaw-decided m (g.P.Policy.answer c.args.policy.now) items change c.args.last c.in-Some.decision may same
    (sym c.decision_of.ensures ∙ c.in-Some.is)

pub returns-in-None : goal.returns-in-None
returns-in-None g c = λ items same.
    let m = machine c.args.cfg.now in
    thaw-undecided m (g.P.Policy.answer c.args.policy.now) items c.args.change.now c.args.last same (sym c.decision_of.ensures
    ∙ c.in-None.is)
