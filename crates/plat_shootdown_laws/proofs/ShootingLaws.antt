-- every operation of a shootdown keeps the invariant
use Rattle.std.specs.Prelude.{◌≡◌, ◌≢◌, ◌⊎◌, ℕ, ◌<◌, true}
use Rattle.std.proofs.Common.{refl, inl, inr}
use Rattle.std.proofs.lemmas.Bool.{cases_eq}
use Rattle.plat_base.specs.Verdicts.{Answer}
use Rattle.plat_base.specs.Machine.{Machine}
use Rattle.plat_base.specs.declared.words.WordName.TheVariants as word
use Rattle.plat_events.specs.Shootdowns.{Shot, Posting, PostingOn, Asking, Interrupting, Watching, AskingAgain, entry_posted}
use Rattle.plat_events.specs.Sessions.{Course, Phase, Stamping, Seeking, Taking, Returning, Shooting, Filling, Reading, Copying, Giving}
use Rattle.plat_events.specs.Sessions.{Storing, Granting, Unlocking, Session}
use Rattle.plat_events.specs.Privates.{Place, Polling, Looking, Applying, Ticking, Switching, Loading, Expecting, Exchanging, Locking}
use Rattle.plat_events.specs.Privates.{InSession, Leaving, Lessening, Gone, LiveLooking, TimeLooking, Over, actor_count}
use Rattle.plat_events.specs.Kept.{word_at, private_of}
use Rattle.plat_events.specs.Runs.{Fine, event}
use Rattle.plat_events.specs.Shown.{Shows}
use Rattle.plat_laws.specs.Guests.{IsWithinLimits}
use Rattle.plat_shootdown_laws.specs.Shooting.{phase_shoots, shoots}
use Rattle.plat_shootdown_laws.proofs.ShotKindLaws.{keeps_look, keeps_failed_post, keeps_ask, keeps_ask_again, keeps_watch, keeps_interrupt}
use Rattle.plat_shootdown_laws.proofs.PostLaws.{keeps_post}

module _ (m : Machine) (answer : Answer) (s : Fine) (a : ℕ) (limits : IsWithinLimits m) (shows : Shows m answer s)
    (within : a < actor_count m) where
  -- a post, where the mask is as it was seen and where it is not
  keeps_post_try :
      (x : Session) (c : Course) (seen : ℕ) → (private_of m s a).place ≡ InSession x → x.phase ≡ Shooting c (PostingOn seen) →
      Shows m answer (event m answer s a)
  keeps_post_try x c seen stands is = by (cases_eq (word_at m s (word.Cmap (entry_posted m x.fault.page c.posts))) seen)
    where
      by :
          (word_at m s (word.Cmap (entry_posted m x.fault.page c.posts)) ≡ seen)
          ⊎ (word_at m s (word.Cmap (entry_posted m x.fault.page c.posts)) ≢ seen) → Shows m answer (event m answer s a)
      by (inl found) = keeps_post m answer s a x c seen limits shows within stands is found
      by (inr other) = keeps_failed_post m answer s a x c limits shows within stands seen is other

  keeps_shot :
      (x : Session) (c : Course) (shot : Shot) → (private_of m s a).place ≡ InSession x → x.phase ≡ Shooting c shot →
      Shows m answer (event m answer s a)
  keeps_shot x c Posting stands is = keeps_look m answer s a x c limits shows within stands is
  keeps_shot x c (PostingOn seen) stands is = keeps_post_try x c seen stands is
  keeps_shot x c (Asking k) stands is = keeps_ask m answer s a x c limits shows within stands k is
  keeps_shot x c (Interrupting k) stands is = keeps_interrupt m answer s a x c limits shows within stands k is
  keeps_shot x c (Watching k) stands is = keeps_watch m answer s a x c limits shows within stands k is
  keeps_shot x c (AskingAgain k) stands is = keeps_ask_again m answer s a x c limits shows within stands k is

  keeps_phase :
      (x : Session) (ph : Phase) → (private_of m s a).place ≡ InSession x → x.phase ≡ ph → phase_shoots ph ≡ true →
      Shows m answer (event m answer s a)
  keeps_phase x Stamping stands is shoot = absurd cc
  keeps_phase x (Seeking st i) stands is shoot = absurd cc
  keeps_phase x (Taking st i seen) stands is shoot = absurd cc
  keeps_phase x Returning stands is shoot = absurd cc
  keeps_phase x (Shooting c shot) stands is shoot = keeps_shot x c shot stands is
  keeps_phase x (Filling c w) stands is shoot = absurd cc
  keeps_phase x (Reading c w) stands is shoot = absurd cc
  keeps_phase x (Copying c w seen) stands is shoot = absurd cc
  keeps_phase x (Giving c k) stands is shoot = absurd cc
  keeps_phase x (Storing c) stands is shoot = absurd cc
  keeps_phase x (Granting c) stands is shoot = absurd cc
  keeps_phase x (Unlocking c) stands is shoot = absurd cc

  pub keeps_shooting :
      (place : Place) → (private_of m s a).place ≡ place → shoots place ≡ true →
      Shows m answer (event m answer s a)
  keeps_shooting (Polling onward) stands shoot = absurd cc
  keeps_shooting (Looking i moment onward) stands shoot = absurd cc
  keeps_shooting (Applying i message moment onward) stands shoot = absurd cc
  keeps_shooting Ticking stands shoot = absurd cc
  keeps_shooting (Switching space) stands shoot = absurd cc
  keeps_shooting Loading stands shoot = absurd cc
  keeps_shooting Expecting stands shoot = absurd cc
  keeps_shooting (Exchanging seen) stands shoot = absurd cc
  keeps_shooting (Locking fault) stands shoot = absurd cc
  keeps_shooting (InSession x) stands shoot = keeps_phase x x.phase stands refl shoot
  keeps_shooting (Leaving e) stands shoot = absurd cc
  keeps_shooting (Lessening e) stands shoot = absurd cc
  keeps_shooting (Gone e) stands shoot = absurd cc
  keeps_shooting LiveLooking stands shoot = absurd cc
  keeps_shooting TimeLooking stands shoot = absurd cc
  keeps_shooting Over stands shoot = absurd cc
