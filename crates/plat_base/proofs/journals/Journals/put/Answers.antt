use Rattle.std.proofs.Common.{arith}
use Rattle.plat_base.proofs.RoomLemmas.{fit_rooms-set, lists_seen-set}
use Rattle.plat_base.proofs.journals.Journals.put.Goals as goal

pub invariant_of-self : goal.invariant_of-self
invariant_of-self c = grind (arith, lists_seen-set, fit_rooms-set, c.self.view_is, c.self.invariant)

pub returns-clause-lists : goal.returns-clause-lists
returns-clause-lists c = grind (arith, lists_seen-set, c.self.view_is)
