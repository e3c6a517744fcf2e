-- a handler of the machine stays one
use Rattle.std.proofs.Common.{◌≡◌, ℕ, ◌≤◌, Bool, true, false, if◌then◌else◌, Option, Some, refl, arith}
use Rattle.std.specs.Prelude.{IsTrue, ◌==◌, ◌&&◌, not}
use Rattle.std.proofs.lemmas.Bool.Decides.{nat_tests}
use Rattle.plat_base.specs.Machine.{Machine}
use Rattle.plat_base.specs.declared.frames.Dir.{Dir}
use Rattle.plat_base.specs.declared.items.Cause.{Cause}
use Rattle.plat_base.specs.declared.items.Cause.TheVariants as cause
use Rattle.plat_events.specs.Words.{is_locked, dir_read}
use Rattle.plat_events.specs.Places.{is_dir_word}
use Rattle.plat_events.specs.Events.{is_followed}
use Rattle.plat_events.specs.Shootdowns.{Shoot, Makes, Polls, Done, shot_after}
use Rattle.plat_events.specs.Sessions.{Fault, Phase, Stamping, Seeking, Taking, Returning, Shooting, Filling, Reading, Copying, Giving}
use Rattle.plat_events.specs.Sessions.{Storing, Granting, Unlocking, Session, session_next}
use Rattle.plat_handler.specs.Stages.{Stage, Locks, Relocks, Runs, Rewaits, Returned, Changed, stage_next, session_begun, stage_locked}
use Rattle.plat_handler.specs.Stages.{session_after, stage_shot, stage_run, stage_after, stage_polled}
use Rattle.plat_handler.specs.Phases.{answer_of}
use Rattle.plat_handler.specs.Fits.{SessionFits, PhaseFits, StageFits, may_begin, is_fault, is_caused}
use Rattle.plat_handler.proofs.FaultLemmas.{fault-caused}
use Rattle.plat_handler.proofs.CourseLemmas.{phase_after-fits}
use Rattle.plat_handler.proofs.LockLemmas.{is_dir-lock}

-- a session begins on a page that is not returned as it is
may_begin-caused :
    (m : Machine) (a page : ℕ) (entry : Option ℕ) (dir : Dir) (c : Cause) → IsTrue (is_caused m a page entry c) →
    (a == m.nodes && not dir.frozen) ≡ false → IsTrue (may_begin c dir)
may_begin-caused m a page entry dir cause.Read h k = refl
may_begin-caused m a page entry dir cause.Write h k = refl
may_begin-caused m a page entry dir cause.Thaw h k = grind (arith, nat_tests)

module _ (m : Machine) (a now n : ℕ) (most : m.frames ≤ 64) where
  either :
      (b : Bool) (x y : Stage) → (b ≡ true → StageFits m a now x) → (b ≡ false → StageFits m a now y) →
      StageFits m a now (if b then x else y)
  either true x y f g = f refl
  either false x y f g = g refl

  begun :
      (b : Bool) (s : Session) → (b ≡ false → IsTrue (may_begin s.fault.cause s.dir)) →
      PhaseFits m a now s (if b then Returning else Stamping)
  begun true s f = tt
  begun false s f = f refl

  locked-fits : (fault : Fault) → IsTrue (is_fault m a fault) → is_dir_word m n ≡ true → StageFits m a now (stage_locked m a fault n)
  locked-fits fault h w =
      either (is_locked n) (if a == m.nodes then Locks fault else Relocks fault) (Runs (session_begun m a fault n))
      (λ e. either (a == m.nodes) (Locks fault) (Relocks fault) (λ t. h) (λ t. h))
      (λ e. (
        record { fault = h; dir = is_dir-lock m n w },
        begun (a == m.nodes && not (dir_read n).frozen) (session_begun m a fault n)
            (may_begin-caused m a fault.page fault.entry (dir_read n) fault.cause (fault-caused m a fault h)),
      ))

  shot-fits :
      (s : Session) (shoot : Shoot) → SessionFits m a s.fault s.dir → PhaseFits m a now s s.phase → StageFits m a now (stage_shot s shoot)
  shot-fits s (Makes posts shot) h k = (h, k)
  shot-fits s (Polls posts k) h l = (h, l)
  shot-fits s (Done posts) h k = (h, k)

  run-fits :
      (f : Fault) (d : Dir) (p : Phase) → SessionFits m a f d → PhaseFits m a now (record { fault = f; dir = d; phase = p }) p →
      is_followed m (Some (session_next m (answer_of m) a now (record { fault = f; dir = d; phase = p }) p)) n ≡ true →
      StageFits m a now (stage_run m (answer_of m) a now n (record { fault = f; dir = d; phase = p }) p)
  run-fits f d Stamping h k e = (h, phase_after-fits m a now (record { fault = f; dir = d; phase = Stamping }) h n Stamping most k e)
  run-fits f d (Seeking st i) h k e =
      (h, phase_after-fits m a now (record { fault = f; dir = d; phase = Seeking st i }) h n (Seeking st i) most k e)
  run-fits f d (Taking st i seen) h k e =
      (h, phase_after-fits m a now (record { fault = f; dir = d; phase = Taking st i seen }) h n (Taking st i seen) most k e)
  run-fits f d Returning h k e = h
  run-fits f d (Shooting c shot) h k e =
      let s : Session = record { fault = f; dir = d; phase = Shooting c shot } in
      shot-fits (session_after m (answer_of m) a now n s) (shot_after m a s.fault.page c.posts n shot) h
      (phase_after-fits m a now s h n (Shooting c shot) most k e)
  run-fits f d (Filling c w) h k e =
      (h, phase_after-fits m a now (record { fault = f; dir = d; phase = Filling c w }) h n (Filling c w) most k e)
  run-fits f d (Reading c w) h k e =
      (h, phase_after-fits m a now (record { fault = f; dir = d; phase = Reading c w }) h n (Reading c w) most k e)
  run-fits f d (Copying c w seen) h k e =
      (h, phase_after-fits m a now (record { fault = f; dir = d; phase = Copying c w seen }) h n (Copying c w seen) most k e)
  run-fits f d (Giving c i) h k e =
      (h, phase_after-fits m a now (record { fault = f; dir = d; phase = Giving c i }) h n (Giving c i) most k e)
  run-fits f d (Storing c) h k e = (h, phase_after-fits m a now (record { fault = f; dir = d; phase = Storing c }) h n (Storing c) most k e)
  run-fits f d (Granting c) h k e = (
    h,
    phase_after-fits m a now (record { fault = f; dir = d; phase = Granting c }) h n
        (Granting c) most k e,
  )
  run-fits f d (Unlocking c) h k e = (h, k)

  pub stage_after-fits : (stage : Stage) → StageFits m a now stage → StageFits m a now (stage_after m (answer_of m) a now n stage)
  stage_after-fits (Locks fault) h =
      either (is_followed m (stage_next m (answer_of m) a now (Locks fault)) n) (stage_locked m a fault n) (Locks fault)
      (λ e. locked-fits fault h e) (λ e. h)
  stage_after-fits (Relocks fault) h = h
  stage_after-fits (Runs s) h =
      either (is_followed m (stage_next m (answer_of m) a now (Runs s)) n) (stage_run m (answer_of m) a now n s s.phase) (Runs s)
      (λ e. run-fits s.fault s.dir s.phase h.0 h.1 e) (λ e. h)
  stage_after-fits (Rewaits s) h = h
  stage_after-fits (Returned s) h = h
  stage_after-fits (Changed s c) h = h

pub stage_polled-fits : (m : Machine) (a now : ℕ) (stage : Stage) → StageFits m a now stage → StageFits m a now (stage_polled stage)
stage_polled-fits m a now (Locks fault) h = h
stage_polled-fits m a now (Relocks fault) h = h
stage_polled-fits m a now (Runs s) h = h
stage_polled-fits m a now (Rewaits s) h = h
stage_polled-fits m a now (Returned s) h = h
stage_polled-fits m a now (Changed s c) h = h
