use Rattle.std.proofs.Common.{arith}
use Rattle.plat_base.specs.Seen.{machine}
use Rattle.plat_base.proofs.RoomLemmas.{thaws_most, processors-fit}
use Rattle.plat_fine.proofs.fines.history_room.Goals as goal

pub overflow_mul-result-in-Platinum : goal.overflow_mul-result-in-Platinum
overflow_mul-result-in-Platinum c = omega (arith, thaws_most (machine c.args.cfg.now) _ _ c.args.cfg.now.limits c.in-Platinum.is)

pub overflow_add-result : goal.overflow_add-result
overflow_add-result c =
    let m = machine c.args.cfg.now in
    omega (arith, thaws_most m _ _ c.args.cfg.now.limits c.in-Platinum.is, processors-fit m c.args.cfg.now.limits)
