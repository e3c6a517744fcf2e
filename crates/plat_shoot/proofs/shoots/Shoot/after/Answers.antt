use Rattle.std.proofs.Common.{◌≡◌, true, sym, ◌∙◌, subst}
use Rattle.std.proofs.lemmas.Bool.Decides.{nat_tests}
use Rattle.std.proofs.Common.{arith}
use Rattle.plat_base.specs.Seen.{machine}
use Rattle.plat_events.specs.Places.{is_word}
use Rattle.plat_events.specs.Shootdowns.{shot_next}
use Rattle.plat_shoot.specs.Steps.{shot_seen, shoot_seen, ShootFits}
use Rattle.plat_shoot.specs.ShootSeen.{ShootSeen, ShootsOn}
use Rattle.plat_shoot.specs.declared.steps.Step.{Step}
use Rattle.plat_shoot.proofs.FitLemmas.{shot_after-fits, followed-word}
use Rattle.plat_shoot.proofs.shoots.Shoot.after.Goals as goal

pub returns-clause-fits : goal.returns-clause-fits
returns-clause-fits c =
    let m = machine c.args.cfg.now in let o = c.self.inside.order in let posts = c.self.inside.posts.items in
    let shot = shot_seen c.in-Makes.shot in
    let before = subst (λ (s : ShootSeen). ShootsOn m s) (sym c.self.view_is) c.requires.fits in
    let fits = subst (λ (st : Step). ShootFits m o.actor o.page (shoot_seen posts st)) c.in-Makes.is before.shoot in
    let name : is_word m (shot_next m o.actor o.page o.removed posts shot).0 c.args.old ≡ true =
    sym (c.may_find.ensures o.actor o.page o.removed posts) ∙ grind (arith, nat_tests, c.if-not-may_find.false) in
    record {
      actor = before.actor;
      page = before.page;
      shoot = rw c.after-self-inside.ensures.step
          (shot_after-fits m o.actor o.page o.removed posts c.args.old shot fits
          (followed-word m o.actor o.page o.removed posts c.args.old shot name));
    }
