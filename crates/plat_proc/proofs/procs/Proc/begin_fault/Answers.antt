use Rattle.std.proofs.Common.{◌<◌, subst, sym}
use Rattle.plat_base.specs.Seen.{machine}
use Rattle.plat_proc.specs.ProcSeen.{ProcSeen}
use Rattle.plat_proc.proofs.AccessLemmas.{is_fault-reached}
use Rattle.plat_proc.proofs.procs.Proc.begin_fault.Goals as goal

pub start-requires-clause-fault : goal.start-requires-clause-fault
start-requires-clause-fault c =
    let m = machine c.args.cfg.now in
    let processor = subst (λ (y : ProcSeen). y.actor < m.nodes) (sym c.self.view_is) c.requires.processor in
    is_fault-reached m c.self.inside.q c.args.reach.now c.cause.result c.args.cfg.now.limits processor c.requires.leads c.cause.ensures
