-- every event keeps the invariant of the shared state: the laws of all kinds of operations, joined
use Rattle.std.specs.Prelude.{◌≡◌, ℕ, ◌<◌, true}
use Rattle.std.proofs.Common.{refl, ap, ◌∙◌}
use Rattle.plat_base.specs.Verdicts.{Answer}
use Rattle.plat_base.specs.Machine.{Machine}
use Rattle.plat_laws.specs.Guests.{IsWithinLimits}
use Rattle.plat_events.specs.Sessions.{Session, Phase, Stamping, Seeking, Taking, Returning, Shooting, Filling, Reading, Copying, Giving}
use Rattle.plat_events.specs.Sessions.{Storing, Granting, Unlocking}
use Rattle.plat_events.specs.Privates.{Place, Polling, Looking, Applying, Ticking, Switching, Loading, Expecting, Exchanging, Locking}
use Rattle.plat_events.specs.Privates.{InSession, Leaving, Lessening, Gone, LiveLooking, TimeLooking, Over, actor_count}
use Rattle.plat_events.specs.Kept.{private_of}
use Rattle.plat_events.specs.Runs.{Fine, event}
use Rattle.plat_events.specs.Shown.{Shows}
use Rattle.plat_fine_laws.proofs.OutsideLaws.{keeps_outside}
use Rattle.plat_frame_laws.specs.Handling.{handles_frames, phase_handles}
use Rattle.plat_frame_laws.proofs.HandlingLaws.{keeps_handling}
use Rattle.plat_access_laws.proofs.ExchangeLaws.{keeps_exchange}
use Rattle.plat_message_laws.proofs.ApplyLaws.{keeps_apply}
use Rattle.plat_session_laws.specs.Handling.{phase_handles_page}
use Rattle.plat_session_laws.proofs.HandlingLaws.{keeps_page}
use Rattle.plat_shootdown_laws.specs.Shooting.{phase_shoots}
use Rattle.plat_shootdown_laws.proofs.ShootingLaws.{keeps_shooting}
use Rattle.plat_unlock_laws.proofs.UnlockingLaws.{keeps_unlock}

module _ (m : Machine) (answer : Answer) (s : Fine) (a : ℕ) (limits : IsWithinLimits m) (shows : Shows m answer s)
    (within : a < actor_count m) where
  frames : (x : Session) → (private_of m s a).place ≡ InSession x → phase_handles x.phase ≡ true → Shows m answer (event m answer s a)
  frames x stands handles = keeps_handling m answer s a limits shows within (ap handles_frames stands ∙ handles)

  page : (x : Session) → (private_of m s a).place ≡ InSession x → phase_handles_page x.phase ≡ true → Shows m answer (event m answer s a)
  page x stands handles = keeps_page m answer s a limits shows within (InSession x) stands handles

  shoots : (x : Session) → (private_of m s a).place ≡ InSession x → phase_shoots x.phase ≡ true → Shows m answer (event m answer s a)
  shoots x stands shoot = keeps_shooting m answer s a limits shows within (InSession x) stands shoot

  keeps_phase :
      (x : Session) (phase : Phase) → (private_of m s a).place ≡ InSession x → x.phase ≡ phase →
      Shows m answer (event m answer s a)
  keeps_phase x Stamping stands is = page x stands (ap phase_handles_page is)
  keeps_phase x (Seeking st i) stands is = frames x stands (ap phase_handles is)
  keeps_phase x (Taking st i seen) stands is = frames x stands (ap phase_handles is)
  keeps_phase x Returning stands is = page x stands (ap phase_handles_page is)
  keeps_phase x (Shooting c shot) stands is = shoots x stands (ap phase_shoots is)
  keeps_phase x (Filling c w) stands is = frames x stands (ap phase_handles is)
  keeps_phase x (Reading c w) stands is = frames x stands (ap phase_handles is)
  keeps_phase x (Copying c w seen) stands is = frames x stands (ap phase_handles is)
  keeps_phase x (Giving c k) stands is = frames x stands (ap phase_handles is)
  keeps_phase x (Storing c) stands is = page x stands (ap phase_handles_page is)
  keeps_phase x (Granting c) stands is = page x stands (ap phase_handles_page is)
  keeps_phase x (Unlocking c) stands is = keeps_unlock m answer s a x c limits shows within stands is

  pub keeps_event :
      (place : Place) → (private_of m s a).place ≡ place → Shows m answer (event m answer s a)
  keeps_event (Polling onward) stands = keeps_outside m answer s a limits shows within (Polling onward) stands refl
  keeps_event (Looking i moment onward) stands = keeps_outside m answer s a limits shows within (Looking i moment onward) stands refl
  keeps_event (Applying i message moment onward) stands = keeps_apply m answer s a i message moment onward limits shows within stands
  keeps_event Ticking stands = keeps_outside m answer s a limits shows within Ticking stands refl
  keeps_event (Switching space) stands = keeps_outside m answer s a limits shows within (Switching space) stands refl
  keeps_event Loading stands = keeps_outside m answer s a limits shows within Loading stands refl
  keeps_event Expecting stands = keeps_outside m answer s a limits shows within Expecting stands refl
  keeps_event (Exchanging seen) stands = keeps_exchange m answer s a seen limits shows within stands
  keeps_event (Locking fault) stands = keeps_page m answer s a limits shows within (Locking fault) stands refl
  keeps_event (InSession x) stands = keeps_phase x x.phase stands refl
  keeps_event (Leaving end) stands = keeps_outside m answer s a limits shows within (Leaving end) stands refl
  keeps_event (Lessening end) stands = keeps_outside m answer s a limits shows within (Lessening end) stands refl
  keeps_event (Gone end) stands = keeps_outside m answer s a limits shows within (Gone end) stands refl
  keeps_event LiveLooking stands = keeps_outside m answer s a limits shows within LiveLooking stands refl
  keeps_event TimeLooking stands = keeps_outside m answer s a limits shows within TimeLooking stands refl
  keeps_event Over stands = keeps_outside m answer s a limits shows within Over stands refl
