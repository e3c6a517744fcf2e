use Rattle.plat_base.specs.Seen.{machine}
use Rattle.plat_policy.proofs.Frames.{copy_on-module_fits, copy_on-number_fits}
use Rattle.plat_policy.proofs.decisions.row_does.Goals as goal

pub keep_one-requires-in-CollapseHere-clause-module : goal.keep_one-requires-in-CollapseHere-clause-module
keep_one-requires-in-CollapseHere-clause-module c =
    copy_on-module_fits (machine c.args.cfg.now) c.args.dir.now c.args.node c.unwrap-in-CollapseHere.result c.args.cfg.now.limits
    c.requires.dir (cc)

pub keep_one-requires-in-CollapseHere-clause-number : goal.keep_one-requires-in-CollapseHere-clause-number
keep_one-requires-in-CollapseHere-clause-number c =
    copy_on-number_fits (machine c.args.cfg.now) c.args.dir.now c.args.node c.unwrap-in-CollapseHere.result c.args.cfg.now.limits
    c.requires.dir (cc)
