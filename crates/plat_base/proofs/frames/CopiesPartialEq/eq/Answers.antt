use Rattle.std.proofs.Common.{arith}
use Rattle.plat_base.proofs.SlotLemmas.{same_slots}
use Rattle.plat_base.proofs.frames.CopiesPartialEq.eq.Goals as goal

pub returns : goal.returns
returns c = cc (same_slots 0 c.self.inside.slots c.other.inside.slots (omega arith) c.self.invariant.within c.other.invariant.within)
