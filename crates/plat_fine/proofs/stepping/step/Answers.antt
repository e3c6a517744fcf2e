use Rattle.std.proofs.Common.{◌≡◌, ap, ◌∙◌}
use Rattle.std.proofs.lemmas.List.{get_or_default}
use Rattle.plat_base.specs.Seen.{machine}
use Rattle.plat_proc.specs.ProcSeen.{ProcSeen}
use Rattle.plat_fine.specs.Crew.{no_proc, proc_at}
use Rattle.plat_fine.proofs.CrewLemmas.{IsCrew-set}
use Rattle.plat_fine.proofs.stepping.step.Goals as goal

pub returns-clause-crew : goal.returns-clause-crew
returns-clause-crew c =
    let procs = c.args.procs.now.items in
    let before = c.requires.crew.each c.args.q c.requires.processor in
    let stood : c.index_mut-proc.result.now ≡ proc_at procs c.args.q =
    c.index_mut-proc.ensures.value ∙ get_or_default procs c.args.q c.index_mut-proc.result.now no_proc c.requires.processor in
    IsCrew-set (machine c.args.cfg.now) procs c.args.q c.step.new.self c.requires.processor c.requires.crew
    (record { actor = c.step.ensures.actor ∙ ap (λ (x : ProcSeen). x.actor) stood ∙ before.actor; fits = c.step.ensures.fits })
