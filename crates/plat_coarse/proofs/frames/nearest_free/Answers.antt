use Rattle.std.proofs.Common.{arith}
use Rattle.plat_base.specs.Frames.{free_frame}
use Rattle.plat_coarse.proofs.FrameLemmas.{nearest_in_numbers-more}
use Rattle.plat_coarse.proofs.frames.nearest_free.Goals as goal
use Rattle.plat_coarse.proofs.frames.nearest_free.Goals.{in-Some, in_default}

pub loop-module-preserved : goal.loop-module-preserved
loop-module-preserved c =
    let chronicle = c.args.chronicle.now in
    let more = nearest_in_numbers-more chronicle.machine c.args.node (free_frame chronicle.machine chronicle.items) c.loop-module.module in
    elim c.match-free_frame.branch [
      | in-Some w ↦ grind (arith, more, c.loop-module.invariant, w.in-Some.ensures)
      | in_default w ↦ grind (arith, more, c.loop-module.invariant)
    ]
