use Rattle.std.proofs.Common.{◌≡◌, ◌∙◌, Option, None, refl, ap, sym, subst}
use Rattle.plat_base.specs.Seen.{machine}
use Rattle.plat_base.proofs.LimitLemmas.{frames_most}
use Rattle.plat_shoot.specs.declared.needs.Own.TheVariants as own
use Rattle.plat_shoot.specs.ShootSeen.{ShootSeen}
use Rattle.plat_handler.specs.Fits.{StageFits, StageShoots}
use Rattle.plat_handler.specs.Phases.{answer_of, stage_seen, posts_in, ShootsWell}
use Rattle.plat_handler.specs.Stages.{stage_after}
use Rattle.plat_handler.specs.HandlerSeen.{HandlerSeen, HandlesOn, own_of}
use Rattle.plat_handler.specs.declared.phases.Stage.{Stage}
use Rattle.plat_handler.proofs.HandlerLemmas.{HandlesOn-after, decides-shooting, own-shooting, own-phase}
use Rattle.plat_handler.proofs.handlers.Handler.after.Goals as goal

pub invariant_of-self : goal.invariant_of-self
invariant_of-self c = c.locked-self-inside.ensures.well c.self.inside.shoot

pub shot-stage-requires-clause-decides : goal.shot-stage-requires-clause-decides
shot-stage-requires-clause-decides c =
    let m = machine c.args.cfg.now in let it = c.self.inside in
    let before = subst (λ (h : HandlerSeen). HandlesOn m h) (sym c.self.view_is) c.requires.fits in
    decides-shooting m it.lock c.in-Shooting.course it.shoot
    (subst (λ (st : Stage). ShootsWell it.shoot st) c.in-Shooting.is c.self.invariant)
    (subst (λ (st : Stage). StageFits m it.lock.actor it.lock.tick (stage_seen it.lock it.shoot st)) c.in-Shooting.is before.fits)

pub returns-in-Locking-clause-fits : goal.returns-in-Locking-clause-fits
returns-in-Locking-clause-fits c =
    let m = machine c.args.cfg.now in let it = c.self.inside in let lock = c.locked-self-inside.new.lock in
    let stage = c.locked-self-inside.result in
    let before = subst (λ (h : HandlerSeen). HandlesOn m h) (sym c.self.view_is) c.requires.fits in
    let none : it.shoot ≡ None =
    subst (λ (st : Stage). StageShoots m it.lock.actor it.lock.tick it.shoot (stage_seen it.lock it.shoot st)) c.in-Locking.is
    before.shoots in
    HandlesOn-after m _ c.args.old _ (frames_most c.args.cfg.now) before c.locked-self-inside.ensures.actor
    c.locked-self-inside.ensures.tick
    (ap (λ (o : Option ShootSeen). stage_seen lock o stage) none ∙ c.locked-self-inside.ensures.stage
    ∙ ap (λ (st : Stage). stage_after m (answer_of m) it.lock.actor it.lock.tick c.args.old (stage_seen it.lock it.shoot st))
    (sym c.in-Locking.is))
    (subst (λ (o : Option ShootSeen). StageShoots m lock.actor lock.tick o (stage_seen lock o stage))
    (sym none) c.locked-self-inside.ensures.shoots)
    c.locked-self-inside.ensures.tried

pub returns-in-Running-clause-own : goal.returns-in-Running-clause-own
returns-in-Running-clause-own c =
    let m = machine c.args.cfg.now in let it = c.self.inside in
    subst (λ (h : HandlerSeen). own.Nothing ≡ own_of m h.actor h.now c.args.old h.stage) c.self.view_is
    (own-phase m it.lock (posts_in it.shoot) c.args.old c.in-Running.phase
    ∙ ap (λ (st : Stage). own_of m it.lock.actor it.lock.tick c.args.old (stage_seen it.lock it.shoot st)) (sym c.in-Running.is))

pub returns-in-Running-clause-fits : goal.returns-in-Running-clause-fits
returns-in-Running-clause-fits c =
    let m = machine c.args.cfg.now in let it = c.self.inside in
    let before = subst (λ (h : HandlerSeen). HandlesOn m h) (sym c.self.view_is) c.requires.fits in
    HandlesOn-after m _ c.args.old _ (frames_most c.args.cfg.now) before refl refl
    (c.ran-self-inside.ensures.stage
    ∙ ap (λ (st : Stage). stage_after m (answer_of m) it.lock.actor it.lock.tick c.args.old (stage_seen it.lock it.shoot st))
    (sym c.in-Running.is))
    c.ran-self-inside.ensures.shoots before.tried

pub returns-in-Shooting-clause-own : goal.returns-in-Shooting-clause-own
returns-in-Shooting-clause-own c =
    let m = machine c.args.cfg.now in let it = c.self.inside in
    let before = subst (λ (h : HandlerSeen). HandlesOn m h) (sym c.self.view_is) c.requires.fits in
    let own = own-shooting m it.lock c.in-Shooting.course c.args.old it.shoot
    (subst (λ (st : Stage). ShootsWell it.shoot st) c.in-Shooting.is c.self.invariant)
    (subst (λ (st : Stage). StageShoots m it.lock.actor it.lock.tick it.shoot (stage_seen it.lock it.shoot st)) c.in-Shooting.is
    before.shoots) in
    subst (λ (h : HandlerSeen). c.shot-stage.result.1 ≡ own_of m h.actor h.now c.args.old h.stage) c.self.view_is
    (c.shot-stage.ensures.own ∙ own
    ∙ ap (λ (st : Stage). own_of m it.lock.actor it.lock.tick c.args.old (stage_seen it.lock it.shoot st)) (sym c.in-Shooting.is))

pub returns-in-Shooting-clause-fits : goal.returns-in-Shooting-clause-fits
returns-in-Shooting-clause-fits c =
    let m = machine c.args.cfg.now in let it = c.self.inside in
    let before = subst (λ (h : HandlerSeen). HandlesOn m h) (sym c.self.view_is) c.requires.fits in
    HandlesOn-after m _ c.args.old _ (frames_most c.args.cfg.now) before refl refl
    (c.shot-stage.ensures.stage
    ∙ ap (λ (st : Stage). stage_after m (answer_of m) it.lock.actor it.lock.tick c.args.old (stage_seen it.lock it.shoot st))
    (sym c.in-Shooting.is))
    c.shot-stage.ensures.shoots before.tried
