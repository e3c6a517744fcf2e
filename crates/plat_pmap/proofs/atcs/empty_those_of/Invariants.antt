use Rattle.std.proofs.Common.{◌≡◌, map, take, drop, ◌++◌}
use Rattle.plat_pmap.specs.Slots.{without_slot}
use Rattle.plat_pmap.proofs.atcs.empty_those_of.Given as goal

abbrev pub invariant-loop-slot : goal.invariant-loop-slot
invariant-loop-slot l = l.slots ≡ map (without_slot l.entry) (take l.slot-index l.initial.slots) ++ drop l.slot-index l.initial.slots
