-- the unlock with a change keeps the invariant
use Rattle.std.specs.Prelude.{◌≡◌, ℕ, ◌<◌, true, false, Some}
use Rattle.std.proofs.Common.{refl}
use Rattle.std.proofs.lemmas.Bool.{eq-eqb}
use Rattle.plat_base.specs.Verdicts.{Answer}
use Rattle.plat_base.specs.Machine.{Machine}
use Rattle.plat_base.specs.declared.items.Item.TheVariants as item
use Rattle.plat_base.specs.declared.words.WordName.TheVariants as word
use Rattle.plat_laws.specs.Guests.{IsWithinLimits}
use Rattle.plat_events.specs.Words.{dir_word}
use Rattle.plat_events.specs.Sessions.{Course, Phase, Session, Stamping, Seeking, Taking, Returning, Shooting, Filling, Reading, Copying}
use Rattle.plat_events.specs.Sessions.{Giving, Storing, Granting, Unlocking, change_made, decision_of}
use Rattle.plat_events.specs.Privates.{Place, Polling, Looking, Applying, Ticking, Switching, Loading, Expecting, Exchanging, Locking}
use Rattle.plat_events.specs.Privates.{InSession, Leaving, Lessening, Gone, LiveLooking, TimeLooking, Over, actor_count}
use Rattle.plat_events.specs.Kept.{private_of}
use Rattle.plat_events.specs.Runs.{Fine, event}
use Rattle.plat_events.specs.Shown.{Shows}
use Rattle.plat_session_laws.proofs.PageLaws.{shows-page}
use Rattle.plat_session_laws.proofs.UnlockFieldLaws.{unlock-after, unlock-changes, unlock-encoded, unlock-inside, unlock-named}
use Rattle.plat_session_laws.proofs.UnlockFieldLaws.{unlock-reached}
use Rattle.plat_session_laws.proofs.UnlockLeavesLaws.{unlock-goes}
use Rattle.plat_session_laws.proofs.UnlockOthersLaws.{unlock-leaves}
use Rattle.plat_unlock_laws.specs.Unlocking.{phase_unlocks_changed, unlocks_changed}
use Rattle.plat_unlock_laws.proofs.UnlockGoodLaws.{unlock-good}
use Rattle.plat_unlock_laws.proofs.UnlockPageLaws.{unlock-once, unlock-page, unlock-sole}
use Rattle.plat_unlock_laws.proofs.UnlockEntryLaws.{unlock-entry}

pub keeps_unlock :
    (m : Machine) (answer : Answer) (s : Fine) (a : ℕ) (x : Session) (c : Course) → IsWithinLimits m → Shows m answer s →
    a < actor_count m → (private_of m s a).place ≡ InSession x → x.phase ≡ Unlocking c → Shows m answer (event m answer s a)
keeps_unlock m answer s a x c limits shows within stands is =
    shows-page m answer s (event m answer s a) a (word.Dir x.fault.page) (dir_word (decision_of m answer a (private_of m s a).now x
    c).after false)
    (unlock-after m answer s a x c limits shows within stands is) (Some (item.Change (change_made m answer a (private_of m s a).now x c)))
    x.fault.page limits shows within (unlock-changes m answer s a x c limits shows within stands is)
    (unlock-named m answer s a x c limits shows within stands is) (eq-eqb x.fault.page x.fault.page refl)
    (unlock-goes m answer a (private_of m s a) x c stands) (unlock-sole m answer s a x c limits shows within stands is)
    (unlock-inside m answer s a x c limits shows within stands is) (unlock-leaves m answer s a x c limits shows within stands is)
    (unlock-page m answer s a x c limits shows within stands is)
    (λ q e inner below there. unlock-entry m answer s a x c limits shows within stands is q e inner below there)
    (unlock-once m answer s a x c limits shows within stands is) (unlock-good m answer s a x c limits shows within stands is)
    (unlock-encoded m answer s a x c limits shows within stands is) (unlock-reached m answer s a x c limits shows within stands is)

module _ (m : Machine) (answer : Answer) (s : Fine) (a : ℕ) (limits : IsWithinLimits m) (shows : Shows m answer s)
    (within : a < actor_count m) where
  keeps_phase :
      (x : Session) (ph : Phase) → (private_of m s a).place ≡ InSession x → x.phase ≡ ph → phase_unlocks_changed ph ≡ true →
      Shows m answer (event m answer s a)
  keeps_phase x Stamping stands is unlocks = absurd cc
  keeps_phase x (Seeking st i) stands is unlocks = absurd cc
  keeps_phase x (Taking st i seen) stands is unlocks = absurd cc
  keeps_phase x Returning stands is unlocks = absurd cc
  keeps_phase x (Shooting c shot) stands is unlocks = absurd cc
  keeps_phase x (Filling c w) stands is unlocks = absurd cc
  keeps_phase x (Reading c w) stands is unlocks = absurd cc
  keeps_phase x (Copying c w seen) stands is unlocks = absurd cc
  keeps_phase x (Giving c k) stands is unlocks = absurd cc
  keeps_phase x (Storing c) stands is unlocks = absurd cc
  keeps_phase x (Granting c) stands is unlocks = absurd cc
  keeps_phase x (Unlocking c) stands is unlocks = keeps_unlock m answer s a x c limits shows within stands is

  pub keeps_unlocking :
      (place : Place) → (private_of m s a).place ≡ place → unlocks_changed place ≡ true → Shows m answer (event m answer s a)
  keeps_unlocking (Polling onward) stands unlocks = absurd cc
  keeps_unlocking (Looking i moment onward) stands unlocks = absurd cc
  keeps_unlocking (Applying i msg moment onward) stands unlocks = absurd cc
  keeps_unlocking Ticking stands unlocks = absurd cc
  keeps_unlocking (Switching space) stands unlocks = absurd cc
  keeps_unlocking Loading stands unlocks = absurd cc
  keeps_unlocking Expecting stands unlocks = absurd cc
  keeps_unlocking (Exchanging seen) stands unlocks = absurd cc
  keeps_unlocking (Locking fault) stands unlocks = absurd cc
  keeps_unlocking (InSession x) stands unlocks = keeps_phase x x.phase stands refl unlocks
  keeps_unlocking (Leaving e) stands unlocks = absurd cc
  keeps_unlocking (Lessening e) stands unlocks = absurd cc
  keeps_unlocking (Gone e) stands unlocks = absurd cc
  keeps_unlocking LiveLooking stands unlocks = absurd cc
  keeps_unlocking TimeLooking stands unlocks = absurd cc
  keeps_unlocking Over stands unlocks = absurd cc
