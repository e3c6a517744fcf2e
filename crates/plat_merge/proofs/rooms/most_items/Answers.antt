use Rattle.std.proofs.Common.{arith}
use Rattle.plat_base.specs.Seen.{machine}
use Rattle.plat_base.proofs.RoomLemmas.{thaws_most, processors-fit}
use Rattle.plat_merge.proofs.rooms.most_items.Goals as goal

pub overflow_mul-result-in-Platinum : goal.overflow_mul-result-in-Platinum
overflow_mul-result-in-Platinum c = omega (arith, thaws_most (machine c.args.cfg.now) _ _ c.args.cfg.now.limits c.in-Platinum.is)

pub overflow_add-result : goal.overflow_add-result
overflow_add-result c =
    omega (
      arith,
      thaws_most (machine c.args.cfg.now) _ _ c.args.cfg.now.limits c.in-Platinum.is,
      processors-fit (machine c.args.cfg.now) c.args.cfg.now.limits,
    )
