use Rattle.std.proofs.Common.{◌∙◌, Option, ap, sym, subst}
use Rattle.plat_base.specs.Seen.{machine}
use Rattle.plat_shoot.specs.ShootSeen.{ShootSeen}
use Rattle.plat_handler.specs.Phases.{answer_of, shooting_seen}
use Rattle.plat_handler.specs.Settled.{stage_with, IsShootOf}
use Rattle.plat_handler.specs.Stages.{stage_after}
use Rattle.plat_handler.proofs.SettledLemmas.{stage-shot, word-goes_on}
use Rattle.plat_handler.proofs.sessions.shot.Goals as goal

pub returns-clause-stage : goal.returns-clause-stage
returns-clause-stage c =
    let m = machine c.args.cfg.now in let lock = c.args.lock.now in let course = c.args.course in
    let before : ShootSeen = c.in-Some.running in
    let of = subst (λ (o : Option ShootSeen). IsShootOf m lock course o) c.in-Some.is c.requires.shoots in
    c.settled.ensures.stage
    ∙ ap (λ (s : ShootSeen). stage_with m lock course s.shoot) c.after-own.ensures.after
    ∙ stage-shot m lock course before c.args.old of.0 (word-goes_on m before of.1)
    ∙ ap (λ (o : Option ShootSeen). stage_after m (answer_of m) lock.actor lock.tick c.args.old (shooting_seen lock course o))
    (sym c.in-Some.is)
