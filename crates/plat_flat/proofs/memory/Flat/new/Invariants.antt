use Rattle.plat_base.specs.Seen.{machine}
use Rattle.plat_flat.proofs.Starting.{IsStartedPast}
use Rattle.plat_flat.proofs.memory.Flat.new.Given as goal

abbrev pub invariant-loop-init : goal.invariant-loop-init
invariant-loop-init l = IsStartedPast (machine l.cfg) l.init-iterator.iter.rest.now l.values.items
