use Rattle.std.proofs.Common.{◌∙◌, [], ap, sym, subst, arith}
use Rattle.std.proofs.lemmas.Bool.Decides.{nat_tests}
use Rattle.plat_base.specs.Seen.{machine}
use Rattle.plat_base.proofs.LimitLemmas.{frames_most}
use Rattle.plat_events.specs.Sessions.{Returning, session_next}
use Rattle.plat_handler.specs.Phases.{answer_of, session_seen, phase_seen}
use Rattle.plat_handler.specs.Decided.{RunsOn}
use Rattle.plat_handler.specs.declared.phases.Phase.{Phase}
use Rattle.plat_handler.proofs.FaultLemmas.{frame-nearest}
use Rattle.plat_handler.proofs.TakenLemmas.{taken-pool}
use Rattle.plat_handler.proofs.operations.operation.Goals as goal

pub returns-in-Taking-clause-operation : goal.returns-in-Taking-clause-operation
returns-in-Taking-clause-operation c =
    let m = machine c.args.cfg.now in let lock = c.args.lock.now in
    let fits = subst (λ (p : Phase). RunsOn m lock p) c.in-Taking.is c.requires.fits in
    taken-pool c.module_tried-module-in-Taking.result _ c.in-Taking.seen m.frames c.module_tried-module-in-Taking.ensures.tried fits.1.1
    fits.1.2
    (frames_most c.args.cfg.now)
    ∙ ap (λ (p : Phase). session_next m (answer_of m) lock.actor lock.tick (session_seen lock Returning) (phase_seen [] p))
    (sym c.in-Taking.is)

pub returns-in-Reading-clause-name : goal.returns-in-Reading-clause-name
returns-in-Reading-clause-name c =
    let m = machine c.args.cfg.now in let lock = c.args.lock.now in
    let fits = subst (λ (p : Phase). RunsOn m lock p) c.in-Reading.is c.requires.fits in
    let near = frame-nearest m lock.dir lock.actor fits.0.dir fits.1.2 in
    grind (arith, nat_tests, near, fits.1.1, c.nearest-near.ensures, c.memory_at-in-Reading.ensures)
