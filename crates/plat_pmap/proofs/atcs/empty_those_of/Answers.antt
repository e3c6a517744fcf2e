use Rattle.plat_pmap.proofs.SlotLemmas.{without-more}
use Rattle.plat_pmap.proofs.atcs.empty_those_of.Goals as goal

pub loop-slot-preserved : goal.loop-slot-preserved
loop-slot-preserved c =
    without-more c.args.entry c.args.slots.now c.loop-slot.slots c.loop-slot.slot-index c.without.result c.loop-slot-test.true
    c.loop-slot.auto.slots c.loop-slot.invariant c.without.ensures
