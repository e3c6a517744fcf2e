use Rattle.std.proofs.Common.{arith}
use Rattle.std.proofs.lemmas.Grind.{common_steps}
use Rattle.plat_io.specs.Streams.{added}
use Rattle.plat_io.proofs.memory.MemorySinkSink.TheImpl.Goals as goal

pub write-tells : goal.write-tells
unfolding added
write-tells c = grind (arith, common_steps)
