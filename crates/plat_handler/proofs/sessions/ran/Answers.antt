use Rattle.std.proofs.Common.{◌≡◌, ◌∙◌, true, Some, ap, sym, arith}
use Rattle.std.proofs.lemmas.Bool.Decides.{nat_tests}
use Rattle.plat_base.specs.Seen.{machine}
use Rattle.plat_base.specs.declared.words.Op.{Op}
use Rattle.plat_base.specs.declared.words.WordName.{WordName}
use Rattle.plat_events.specs.Events.{is_followed}
use Rattle.plat_events.specs.Sessions.{session_next}
use Rattle.plat_handler.specs.Phases.{answer_of, session_seen, phase_seen, posts_in}
use Rattle.plat_handler.proofs.SettledLemmas.{enters_of, then_shoots_of, stage-runs, stage-stays, next-posts}
use Rattle.plat_handler.proofs.StandingLemmas.{early-shoot_fits, posts_suit-early}
use Rattle.plat_handler.proofs.sessions.ran.Goals as goal

pub entered-requires : goal.entered-requires
entered-requires c =
    let m = machine c.args.cfg.now in let lock = c.args.lock.now in let seen = c.args.shoot.now in let posts = posts_in seen in
    let early = early-shoot_fits m lock posts seen (session_seen lock (phase_seen posts c.args.phase)) c.args.phase c.requires.shoots in
    record {
      fits = enters_of m lock c.after.result c.requires.fits.0 c.after.ensures.removed;
      shoots = then_shoots_of m lock seen c.args.phase c.args.old c.after.result
          (c.after.ensures.phase posts (posts_suit-early seen posts c.args.phase early)) early;
    }

pub returns-then-not-is_followed-clause-stage : goal.returns-then-not-is_followed-clause-stage
returns-then-not-is_followed-clause-stage c =
    let lock = c.args.lock.now in
    stage-stays (machine c.args.cfg.now) lock (posts_in c.args.shoot.now) c.args.old c.args.phase
    (sym (c.is_followed.ensures lock) ∙ grind (arith, nat_tests, c.if-not-is_followed.true))

pub returns-in_default : goal.returns-in_default
returns-in_default c =
    let m = machine c.args.cfg.now in let lock = c.args.lock.now in let seen = c.args.shoot.now in let posts = posts_in seen in
    let early = early-shoot_fits m lock posts seen (session_seen lock (phase_seen posts c.args.phase)) c.args.phase c.requires.shoots in
    let followed : is_followed m (Some (session_next m (answer_of m) lock.actor lock.tick
    (session_seen lock (phase_seen posts c.args.phase)) (phase_seen posts c.args.phase))) c.args.old ≡ true =
    ap (λ (x : WordName × Op). is_followed m (Some x) c.args.old)
    (sym (next-posts m lock posts c.args.old c.args.phase))
    ∙ sym (c.is_followed.ensures lock) ∙ grind (arith, nat_tests, c.if-not-is_followed.false) in
    record {
      shoots = c.entered.ensures.shoots;
      stage = c.entered.ensures.stage
          ∙ stage-runs m lock posts c.args.old c.args.phase c.after.result c.in_default.not-Returning c.in_default.not-Unlocking followed
          (c.after.ensures.phase posts (posts_suit-early seen posts c.args.phase early));
      well = c.entered.ensures.well;
    }
