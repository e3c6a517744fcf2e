-- every operation of a session on its page keeps the invariant, but for the unlock with a change
use Rattle.std.specs.Prelude.{◌≡◌, ℕ, ◌<◌, Bool, true, false}
use Rattle.std.proofs.Common.{refl}
use Rattle.plat_base.specs.Verdicts.{Answer}
use Rattle.plat_base.specs.Machine.{Machine}
use Rattle.plat_base.specs.declared.words.WordName.TheVariants as word
use Rattle.plat_laws.specs.Guests.{IsWithinLimits}
use Rattle.plat_events.specs.Words.{is_locked}
use Rattle.plat_events.specs.Sessions.{Fault, Phase, Session, Stamping, Seeking, Taking, Returning, Shooting, Filling, Reading, Copying}
use Rattle.plat_events.specs.Sessions.{Giving, Storing, Granting, Unlocking}
use Rattle.plat_events.specs.Privates.{Place, Polling, Looking, Applying, Ticking, Switching, Loading, Expecting, Exchanging, Locking}
use Rattle.plat_events.specs.Privates.{InSession, Leaving, Lessening, Gone, LiveLooking, TimeLooking, Over, actor_count}
use Rattle.plat_events.specs.Kept.{word_at, private_of}
use Rattle.plat_events.specs.Runs.{Fine, event}
use Rattle.plat_events.specs.Shown.{Shows}
use Rattle.plat_session_laws.specs.Handling.{phase_handles_page, handles_page}
use Rattle.plat_session_laws.proofs.LockLaws.{keeps_lock_found_set}
use Rattle.plat_session_laws.proofs.BeginLaws.{keeps_lock_found_clear}
use Rattle.plat_session_laws.proofs.ReturnLaws.{keeps_return}
use Rattle.plat_session_laws.proofs.StampLoadLaws.{keeps_stamp_load}
use Rattle.plat_session_laws.proofs.StampStoreLaws.{keeps_stamp_store}
use Rattle.plat_session_laws.proofs.GrantLaws.{keeps_grant}

module _ (m : Machine) (answer : Answer) (s : Fine) (a : ℕ) (limits : IsWithinLimits m) (shows : Shows m answer s)
    (within : a < actor_count m) where
  pub keeps_lock : (fault : Fault) → (private_of m s a).place ≡ Locking fault → Shows m answer (event m answer s a)
  keeps_lock fault stands = by (is_locked (word_at m s (word.Dir fault.page))) refl
    where
      by : (b : Bool) → is_locked (word_at m s (word.Dir fault.page)) ≡ b → Shows m answer (event m answer s a)
      by true set = keeps_lock_found_set m answer s a limits shows within fault stands set
      by false clear = keeps_lock_found_clear m answer s a limits shows within fault stands clear

  pub keeps_phase :
      (x : Session) (ph : Phase) → (private_of m s a).place ≡ InSession x → x.phase ≡ ph → phase_handles_page ph ≡ true →
      Shows m answer (event m answer s a)
  keeps_phase x Stamping stands is handles = keeps_stamp_load m answer s a x limits shows within stands is
  keeps_phase x (Seeking st i) stands is handles = absurd cc
  keeps_phase x (Taking st i seen) stands is handles = absurd cc
  keeps_phase x Returning stands is handles = keeps_return m answer s a x limits shows within stands is
  keeps_phase x (Shooting c shot) stands is handles = absurd cc
  keeps_phase x (Filling c w) stands is handles = absurd cc
  keeps_phase x (Reading c w) stands is handles = absurd cc
  keeps_phase x (Copying c w seen) stands is handles = absurd cc
  keeps_phase x (Giving c k) stands is handles = absurd cc
  keeps_phase x (Storing c) stands is handles = keeps_stamp_store m answer s a x c limits shows within stands is
  keeps_phase x (Granting c) stands is handles = keeps_grant m answer s a x c limits shows within stands is
  keeps_phase x (Unlocking c) stands is handles = absurd cc

  pub keeps_page : (place : Place) → (private_of m s a).place ≡ place → handles_page place ≡ true → Shows m answer (event m answer s a)
  keeps_page (Polling onward) stands handles = absurd cc
  keeps_page (Looking i moment onward) stands handles = absurd cc
  keeps_page (Applying i msg moment onward) stands handles = absurd cc
  keeps_page Ticking stands handles = absurd cc
  keeps_page (Switching space) stands handles = absurd cc
  keeps_page Loading stands handles = absurd cc
  keeps_page Expecting stands handles = absurd cc
  keeps_page (Exchanging seen) stands handles = absurd cc
  keeps_page (Locking fault) stands handles = keeps_lock fault stands
  keeps_page (InSession x) stands handles = keeps_phase x x.phase stands refl handles
  keeps_page (Leaving e) stands handles = absurd cc
  keeps_page (Lessening e) stands handles = absurd cc
  keeps_page (Gone e) stands handles = absurd cc
  keeps_page LiveLooking stands handles = absurd cc
  keeps_page TimeLooking stands handles = absurd cc
  keeps_page Over stands handles = absurd cc
