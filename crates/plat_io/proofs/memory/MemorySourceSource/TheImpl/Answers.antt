use Rattle.std.proofs.Common.{arith}
use Rattle.std.proofs.lemmas.Grind.{common_steps}
use Rattle.plat_io.specs.Streams.{preceded}
use Rattle.plat_io.proofs.memory.MemorySourceSource.TheImpl.Goals as goal

pub read-tells : goal.read-tells
unfolding preceded
read-tells c = grind (arith, common_steps)
