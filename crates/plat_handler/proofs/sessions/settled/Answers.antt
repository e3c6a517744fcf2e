use Rattle.std.proofs.Common.{sym, ◌∙◌}
use Rattle.plat_base.specs.Seen.{machine}
use Rattle.plat_shoot.specs.ShootSeen.{need_of}
use Rattle.plat_handler.proofs.SettledLemmas.{finished, not_finished, goes_on, stage-over, stage-going, shoots-over, shoots-going}
use Rattle.plat_handler.proofs.sessions.settled.Goals as goal

pub returns-then-is_finished-clause-shoots : goal.returns-then-is_finished-clause-shoots
returns-then-is_finished-clause-shoots c =
    shoots-over (machine c.args.cfg.now) c.args.lock.now c.args.course c.args.shoot.now c.shot_over.result c.shot_over.ensures

pub returns-then-is_finished-clause-stage : goal.returns-then-is_finished-clause-stage
returns-then-is_finished-clause-stage c =
    let m = machine c.args.cfg.now in let s = c.args.shoot.now in
    stage-over m c.args.lock.now c.args.course s c.shot_over.result
    (finished (need_of m s) (sym (c.is_finished.ensures m) ∙ c.if-is_finished.true)) c.shot_over.ensures

pub returns-else-is_finished-clause-shoots : goal.returns-else-is_finished-clause-shoots
returns-else-is_finished-clause-shoots c =
    let m = machine c.args.cfg.now in let s = c.args.shoot.now in
    shoots-going m c.args.lock.now c.args.course s c.requires.shoots
    (goes_on m c.args.lock.now c.args.course s (not_finished (need_of m s) (sym (c.is_finished.ensures m) ∙ c.if-is_finished.false)))

pub returns-else-is_finished-clause-stage : goal.returns-else-is_finished-clause-stage
returns-else-is_finished-clause-stage c =
    let m = machine c.args.cfg.now in let s = c.args.shoot.now in
    stage-going m c.args.lock.now c.args.course s.shoot
    (goes_on m c.args.lock.now c.args.course s (not_finished (need_of m s) (sym (c.is_finished.ensures m) ∙ c.if-is_finished.false)))

pub returns-else-is_finished-clause-well : goal.returns-else-is_finished-clause-well
returns-else-is_finished-clause-well c =
    let m = machine c.args.cfg.now in let s = c.args.shoot.now in
    goes_on m c.args.lock.now c.args.course s (not_finished (need_of m s) (sym (c.is_finished.ensures m) ∙ c.if-is_finished.false))
