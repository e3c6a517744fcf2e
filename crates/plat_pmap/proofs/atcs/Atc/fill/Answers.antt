use Rattle.plat_pmap.proofs.SlotLemmas.{AreSlots-set}
use Rattle.plat_pmap.proofs.atcs.Atc.fill.Goals as goal

pub invariant_of-self : goal.invariant_of-self
invariant_of-self c = AreSlots-set _ _ _ _ c.deref_mut.ensures.value c.requires.usable c.self.invariant
