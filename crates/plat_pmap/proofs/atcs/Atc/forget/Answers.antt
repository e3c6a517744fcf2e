use Rattle.plat_pmap.proofs.SlotLemmas.{AreSlots-without, places-without}
use Rattle.plat_pmap.proofs.atcs.Atc.forget.Goals as goal

pub invariant_of-self : goal.invariant_of-self
invariant_of-self c = AreSlots-without c.args.entry c.self.inside.slots.items c.empty_those_of.new.slots (cc) c.self.invariant

pub returns-clause-places : goal.returns-clause-places
returns-clause-places c = cc (places-without c.args.entry c.self.inside.slots.items c.empty_those_of.new.slots (cc))
