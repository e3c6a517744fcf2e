use Rattle.std.proofs.Common.{sym, ◌∙◌}
use Rattle.plat_base.specs.Seen.{machine}
use Rattle.plat_proc.proofs.AccessLemmas.{IsReach-reached}
use Rattle.plat_proc.proofs.procs.Proc.reach.Goals as goal

pub returns-clause-leads : goal.returns-clause-leads
returns-clause-leads c =
    let a = c.in-Access in
    let told = c.reach_of.ensures in
    IsReach-reached (machine c.args.cfg.now) c.reach_of.result a.kind a.space a.addr a.operand c.in-Some.entry c.args.cfg.now.limits
    (sym c.entry_at.ensures ∙ c.in-Some.is) told.reach told.entry told.vpage
