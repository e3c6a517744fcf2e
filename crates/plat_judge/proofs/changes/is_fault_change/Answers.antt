use Rattle.std.proofs.Common.{refl}
use Rattle.plat_base.specs.Seen.{machine}
use Rattle.plat_judge.proofs.ChangeLemmas.{fault-change, no_fault-change}
use Rattle.plat_judge.proofs.changes.is_fault_change.Goals as goal

pub returns-in_default-next : goal.returns-in_default-next
returns-in_default-next g c = λ items shows follow same.
    let m = machine c.args.cfg.now in
    rw c.in-Some.is
    (no_fault-change m (g.P.Policy.answer c.args.policy.now) items c.args.change.now c.in-Some.grant _
    (c.in_default-next.ensures.next m items follow) _ refl refl)

pub is_fault_of-requires-clause-entry : goal.is_fault_of-requires-clause-entry
is_fault_of-requires-clause-entry g c = c.in-Some-next.ensures.entry (machine c.args.cfg.now) c.requires.stand

pub returns-then-not-is_fault_of : goal.returns-then-not-is_fault_of
returns-then-not-is_fault_of g c = λ items shows follow same.
    let m = machine c.args.cfg.now in
    rw c.in-Some.is
    (no_fault-change m (g.P.Policy.answer c.args.policy.now) items c.args.change.now c.in-Some.grant _
    (c.in-Some-next.ensures.next m items follow) c.is_fault_of.result
    (c.is_fault_of.ensures items shows) c.if-not-is_fault_of.true)

pub returns : goal.returns
returns g c = λ items shows follow same.
    let m = machine c.args.cfg.now in
    rw c.in-Some.is
    (fault-change m (g.P.Policy.answer c.args.policy.now) items c.args.change.now c.in-Some.grant _
    (c.in-Some-next.ensures.next m items follow) c.is_fault_of.result
    c.is_fault_decision.result (c.is_fault_of.ensures items shows) c.if-not-is_fault_of.false (c.is_fault_decision.ensures items same))
