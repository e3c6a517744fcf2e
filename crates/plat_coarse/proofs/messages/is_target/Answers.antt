use Rattle.std.proofs.Common.{arith}
use Rattle.plat_laws.proofs.Limits.{guests-count}
use Rattle.plat_coarse.proofs.MachineLemmas.{limits_of}
use Rattle.plat_coarse.proofs.messages.is_target.Goals as goal

pub active-requires : goal.active-requires
active-requires c =
    let m = c.args.chronicle.now.machine in
    let count = guests-count m (limits_of c.config.result.now m c.config.ensures) in
    omega (arith, c.requires.processor)
