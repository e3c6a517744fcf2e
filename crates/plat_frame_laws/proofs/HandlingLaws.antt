-- every operation that handles frames keeps the invariant
use Rattle.std.specs.Prelude.{◌≡◌, ◌≢◌, ◌⊎◌, ℕ, ◌<◌, true, IsTrue}
use Rattle.std.proofs.Common.{refl, inl, inr}
use Rattle.std.proofs.lemmas.Bool.{cases_eq}
use Rattle.plat_base.specs.Verdicts.{Answer}
use Rattle.plat_base.specs.Machine.{Machine}
use Rattle.plat_base.specs.declared.words.WordName.TheVariants as word
use Rattle.plat_events.specs.Sessions.{Stamp, Phase, Stamping, Seeking, Taking, Returning, Shooting, Filling, Reading, Copying, Giving}
use Rattle.plat_events.specs.Sessions.{Storing, Granting, Unlocking, Session, module_tried}
use Rattle.plat_events.specs.Privates.{Place, Polling, Looking, Applying, Ticking, Switching, Loading, Expecting, Exchanging, Locking}
use Rattle.plat_events.specs.Privates.{InSession, Leaving, Lessening, Gone, LiveLooking, TimeLooking, Over, actor_count}
use Rattle.plat_events.specs.Kept.{word_at, private_of}
use Rattle.plat_events.specs.Runs.{Fine, event}
use Rattle.plat_events.specs.Shown.{Shows}
use Rattle.plat_laws.specs.Guests.{IsWithinLimits}
use Rattle.plat_frame_laws.specs.Handling.{phase_handles, handles_frames}
use Rattle.plat_frame_laws.proofs.FillLaws.{keeps_fill, keeps_copy_store}
use Rattle.plat_frame_laws.proofs.ReadLaws.{keeps_copy_load}
use Rattle.plat_frame_laws.proofs.GiveLaws.{keeps_give}
use Rattle.plat_frame_laws.proofs.SeekLaws.{keeps_pool_load, keeps_pool_lost}
use Rattle.plat_frame_laws.proofs.TakeLaws.{keeps_pool_take}

module _ (m : Machine) (answer : Answer) (s : Fine) (a : ℕ) (limits : IsWithinLimits m) (shows : Shows m answer s)
    (within : a < actor_count m) where
  -- the take of a frame, where the pool is as it was seen and where it is not
  keeps_pool_try :
      (x : Session) (st : Stamp) (i seen : ℕ) → (private_of m s a).place ≡ InSession x → x.phase ≡ Taking st i seen →
      Shows m answer (event m answer s a)
  keeps_pool_try x st i seen stands is =
      by (cases_eq (word_at m s (word.Pool (module_tried m answer a (private_of m s a).now x st i))) seen)
    where
      by :
          (word_at m s (word.Pool (module_tried m answer a (private_of m s a).now x st i)) ≡ seen)
          ⊎ (word_at m s (word.Pool (module_tried m answer a (private_of m s a).now x st i)) ≢ seen) → Shows m answer (event m answer s a)
      by (inl found) = keeps_pool_take m answer s a x st i seen limits shows within stands is found
      by (inr other) = keeps_pool_lost m answer s a x st i limits shows within stands seen is other

  keeps_phase :
      (x : Session) (ph : Phase) → (private_of m s a).place ≡ InSession x → x.phase ≡ ph → phase_handles ph ≡ true →
      Shows m answer (event m answer s a)
  keeps_phase x Stamping stands is handles = absurd cc
  keeps_phase x (Seeking st i) stands is handles = keeps_pool_load m answer s a x st i limits shows within stands is
  keeps_phase x (Taking st i seen) stands is handles = keeps_pool_try x st i seen stands is
  keeps_phase x Returning stands is handles = absurd cc
  keeps_phase x (Shooting c shot) stands is handles = absurd cc
  keeps_phase x (Filling c w) stands is handles = keeps_fill m answer s a x limits shows within stands c w is
  keeps_phase x (Reading c w) stands is handles = keeps_copy_load m answer s a x c w limits shows within stands is
  keeps_phase x (Copying c w seen) stands is handles = keeps_copy_store m answer s a x limits shows within stands c w seen is
  keeps_phase x (Giving c k) stands is handles = keeps_give m answer s a x c k limits shows within stands is
  keeps_phase x (Storing c) stands is handles = absurd cc
  keeps_phase x (Granting c) stands is handles = absurd cc
  keeps_phase x (Unlocking c) stands is handles = absurd cc

  keeps_place : (place : Place) → (private_of m s a).place ≡ place → handles_frames place ≡ true → Shows m answer (event m answer s a)
  keeps_place (Polling onward) stands handles = absurd cc
  keeps_place (Looking i moment onward) stands handles = absurd cc
  keeps_place (Applying i message moment onward) stands handles = absurd cc
  keeps_place Ticking stands handles = absurd cc
  keeps_place (Switching space) stands handles = absurd cc
  keeps_place Loading stands handles = absurd cc
  keeps_place Expecting stands handles = absurd cc
  keeps_place (Exchanging seen) stands handles = absurd cc
  keeps_place (Locking fault) stands handles = absurd cc
  keeps_place (InSession x) stands handles = keeps_phase x x.phase stands refl handles
  keeps_place (Leaving e) stands handles = absurd cc
  keeps_place (Lessening e) stands handles = absurd cc
  keeps_place (Gone e) stands handles = absurd cc
  keeps_place LiveLooking stands handles = absurd cc
  keeps_place TimeLooking stands handles = absurd cc
  keeps_place Over stands handles = absurd cc

  pub keeps_handling : IsTrue (handles_frames (private_of m s a).place) → Shows m answer (event m answer s a)
  keeps_handling handles = keeps_place (private_of m s a).place refl handles
