use Rattle.std.proofs.Common.{◌∙◌, Some, ap}
use Rattle.plat_base.specs.Seen.{machine}
use Rattle.plat_base.specs.declared.frames.Frame.{Frame}
use Rattle.plat_base.proofs.LimitLemmas.{frames_most}
use Rattle.plat_events.specs.Sessions.{Returning, with_frame_got}
use Rattle.plat_handler.specs.Phases.{answer_of, session_seen, stamp_seen}
use Rattle.plat_handler.proofs.TakenLemmas.{taken-frame, Decides-taken}
use Rattle.plat_handler.proofs.courses.frame_taken.Goals as goal

pub start_course-requires : goal.start_course-requires
start_course-requires c =
    let m = machine c.args.cfg.now in let lock = c.args.lock.now in let fits = c.requires.fits in let most = frames_most c.args.cfg.now in
    Decides-taken m lock c.args.stamp c.args.passed c.args.seen _ fits.0 fits.1.0 fits.1.1 fits.1.2 most
    (taken-frame m lock c.args.stamp c.args.passed c.args.seen c.module_tried.result fits.1.1 fits.1.2 most c.module_tried.ensures.tried)

pub returns-clause-phase : goal.returns-clause-phase
returns-clause-phase c =
    let m = machine c.args.cfg.now in let lock = c.args.lock.now in let fits = c.requires.fits in let most = frames_most c.args.cfg.now in
    c.start_course.ensures.phase
    ∙ ap (λ (f : Frame). with_frame_got m (answer_of m) lock.actor lock.tick (session_seen lock Returning) (stamp_seen c.args.stamp)
    (Some f))
    (taken-frame m lock c.args.stamp c.args.passed c.args.seen c.module_tried.result fits.1.1 fits.1.2 most c.module_tried.ensures.tried)
