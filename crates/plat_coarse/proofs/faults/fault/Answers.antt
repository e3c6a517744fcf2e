use Rattle.std.proofs.Common.{◌≡◌, List, ap, sym, subst, ◌∙◌}
use Rattle.plat_base.specs.declared.items.Cause.{Cause}
use Rattle.plat_base.specs.declared.items.Item.{Item}
use Rattle.plat_chronicle.specs.Chronicle.{HasAdded, HasRoom}
use Rattle.plat_coarse.specs.Reached.{reach_seen, decided_if_fed}
use Rattle.plat_coarse.specs.Running.{state_of, fault_items_now, fault_made_now}
use Rattle.plat_coarse.proofs.FaultLemmas.{fault_made-decided}
use Rattle.plat_coarse.proofs.faults.fault.Given.{Over}
use Rattle.plat_coarse.proofs.faults.fault.Goals.{In-Some}
use Rattle.plat_coarse.proofs.faults.fault.Goals as goal

-- the items of the decision are those that the fault makes
items : (g : Over) (c : In-Some g) →
    fault_items_now c.args.chronicle.now c.args.ends.now c.args.q c.args.now c.args.entry c.args.reach.now c.in-Some.decision
    ≡ (fault_made_now c.args.chronicle.now (g.P.Policy.answer c.args.policy.now) c.args.ends.now c.args.q c.args.now c.args.entry
    c.args.reach.now).items
items g c =
    let before = c.args.chronicle.now in
    let reach = c.args.reach.now in
    let answer = g.P.Policy.answer c.args.policy.now in
    fault_made-decided before.machine answer (state_of before c.args.ends.now) c.args.q c.args.now c.args.entry (reach_seen reach)
    c.in-Some.decision
    (ap (λ (w : Cause). decided_if_fed before.machine answer before.items c.args.q reach.page c.args.now w) (sym c.cause.ensures)
    ∙ (sym c.decision_of.ensures ∙ c.in-Some.is))

pub add_fault-requires-clause-room : goal.add_fault-requires-clause-room
add_fault-requires-clause-room g c =
    let is = items g (goal.at.add_fault-requires-clause-room g c).In-Some in
    subst (λ (xs : List Item). HasRoom c.args.chronicle.now xs) (sym is) c.requires.room

pub returns-in-Some-clause-added : goal.returns-in-Some-clause-added
returns-in-Some-clause-added g c =
    let is = items g (goal.at.returns-in-Some-clause-added g c).In-Some in
    subst (λ (xs : List Item). HasAdded c.args.chronicle.now c.add_fault.new.chronicle xs) is c.add_fault.ensures
