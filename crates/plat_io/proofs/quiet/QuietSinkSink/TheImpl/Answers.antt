use Rattle.std.proofs.Common.{rules}
use Rattle.plat_io.specs.Streams.{added}
use Rattle.plat_io.proofs.quiet.QuietSinkSink.TheImpl.Goals as goal

pub write-tells : goal.write-tells
unfolding added
write-tells c = search rules
