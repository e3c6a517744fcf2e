use Rattle.plat_base.specs.Decide.{is_frame}
use Rattle.plat_base.specs.Seen.{machine}
use Rattle.plat_policy.proofs.Walks.{list_all-next, list_all-passed, list_all-refused}
use Rattle.plat_policy.proofs.conditions.are_frames.Goals as goal
use Rattle.plat_policy.proofs.conditions.are_frames.Goals.{in-Some+else-not-is_frame, in_default}

pub returns-then-not-is_frame : goal.returns-then-not-is_frame
returns-then-not-is_frame c =
    cc (list_all-refused (is_frame (machine c.args.cfg.now)) c.loop-module.module c.in-Some.frame c.args.copies.now (cc) c.requires (cc))

pub loop-module-preserved : goal.loop-module-preserved
loop-module-preserved c = elim c.match-on.branch [
  | in-Some+else-not-is_frame w ↦
      cc (list_all-passed (is_frame (machine c.args.cfg.now)) c.loop-module.module w.in-Some.frame c.args.copies.now (cc) c.requires (cc))
  | in_default w ↦ cc (list_all-next (is_frame (machine c.args.cfg.now)) c.loop-module.module c.args.copies.now (cc))
]
