use Rattle.plat_base.specs.Seen.{machine}
use Rattle.plat_policy.proofs.Walks.{nearest-next, nearest-copy}
use Rattle.plat_policy.proofs.distances.nearest.Goals as goal
use Rattle.plat_policy.proofs.distances.nearest.Goals.{in-Some, in_default}

pub loop-module-preserved : goal.loop-module-preserved
loop-module-preserved c = elim c.match-on.branch [
  | in-Some w ↦
      cc (nearest-copy (machine c.args.cfg.now) c.args.node c.loop-module.module c.loop-module.best w.in-Some.frame c.args.copies.now (cc)
      c.lowest-best.ensures.rising)
  | in_default w ↦ cc (nearest-next (machine c.args.cfg.now) c.args.node c.loop-module.module c.loop-module.best c.args.copies.now (cc))
]
