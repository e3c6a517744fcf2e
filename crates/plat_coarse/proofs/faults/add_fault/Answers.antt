use Rattle.std.proofs.Common.{◌∙◌, ◌++◌, ◌∷◌, []}
use Rattle.plat_base.specs.Messages.{interrupts}
use Rattle.plat_base.specs.declared.items.Item.TheVariants as item
use Rattle.plat_laws.proofs.ItemLaws.{flat_value-change, flat_writes-change, flat_value-applied, flat_writes-applied}
use Rattle.plat_coarse_laws.proofs.MessageLaws.{interrupts-applied}
use Rattle.plat_coarse.specs.Reached.{reach_seen}
use Rattle.plat_coarse.specs.Running.{state_of}
use Rattle.plat_coarse.proofs.FaultLemmas.{legal-still}
use Rattle.plat_coarse.proofs.faults.add_fault.Goals as goal

-- the messages and the change write no word
pub add_access-requires-clause-legal : goal.add_access-requires-clause-legal
add_access-requires-clause-legal c =
    let m = c.args.chronicle.now.machine in
    let items = c.args.chronicle.now.items in
    let r = reach_seen c.args.reach.now in
    let sent = interrupts m (state_of c.args.chronicle.now c.args.ends.now) c.args.q c.args.reach.now.page c.args.decision.now.removed in
    let quiet = interrupts-applied m (state_of c.args.chronicle.now c.args.ends.now) c.args.q c.args.reach.now.page
    c.args.decision.now.removed in
    let value = flat_value-change m (items ++ sent) c.change_of-change.result r.page r.word
    ∙ flat_value-applied m items sent r.page r.word quiet in
    let writes = flat_writes-change (items ++ sent) c.change_of-change.result r.page r.word
    ∙ flat_writes-applied items sent r.page r.word quiet in
    rw (c.add_change.ensures.machine, c.interrupt.ensures.machine, c.add_change.ensures.items, c.interrupt.ensures.items)
    (legal-still m items ((items ++ sent) ++ item.Change c.change_of-change.result ∷ []) c.args.q r c.args.decision.now.frame c.seq.result
    c.access_of-access.result c.access_of-access.ensures c.requires.page c.requires.word value writes)
