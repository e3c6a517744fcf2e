-- where an actor stands: what holds at each place, of its translations, and of its turns, whatever the words were that it found
use Rattle.std.specs.Prelude.{◌≡◌, ℕ, ◌<◌, ◌≤◌, Bool, true, false, length, Some, IsTrue}
use Rattle.plat_base.specs.Verdicts.{Answer}
use Rattle.plat_base.specs.Machine.{Machine}
use Rattle.plat_base.specs.Pages.{entries_of_space}
use Rattle.plat_base.specs.GuestRun.{want_of}
use Rattle.plat_base.specs.Decide.{is_frame}
use Rattle.plat_base.specs.declared.guests.Want.TheVariants as want
use Rattle.plat_base.specs.declared.items.Moment.{Moment}
use Rattle.plat_base.specs.declared.items.Moment.TheVariants as moment
use Rattle.plat_base.specs.declared.items.Translation.{Translation}
use Rattle.plat_base.specs.declared.endings.End.{End}
use Rattle.plat_events.specs.Places.{entry_count, is_data_word}
use Rattle.plat_events.specs.Shootdowns.{Watching}
use Rattle.plat_events.specs.Sessions.{Fault, Course, Session, Shooting}
use Rattle.plat_events.specs.Privates.{Onward, NewTurn, TurnOver, Relock, Rewait, Place, Polling, Looking, Applying, Ticking, Switching}
use Rattle.plat_events.specs.Privates.{Loading, Expecting, Exchanging, Locking, InSession, Leaving, Lessening, Gone, LiveLooking}
use Rattle.plat_events.specs.Privates.{TimeLooking, Over, Private, translation_at}
use Rattle.plat_local_laws.specs.Faults.{LacksRight, AccessOk, FaultOk, EndOk}
use Rattle.plat_local_laws.specs.Phases.{SessionOk}

-- ---- polls and scans

-- a poll and its scan lead to a new turn, to the lock, or back to the session, and the scan after a switch to the end of the
-- turn
abbrev pub leads_to : Moment → Onward → Bool
leads_to moment.Interrupt NewTurn = true
leads_to moment.Interrupt TurnOver = false
leads_to moment.Interrupt (Relock fault) = true
leads_to moment.Interrupt (Rewait session) = true
leads_to moment.Activation NewTurn = false
leads_to moment.Activation TurnOver = true
leads_to moment.Activation (Relock fault) = false
leads_to moment.Activation (Rewait session) = false

-- the lock of a page is next
pub record LockingOk (m : Machine) (a : ℕ) (p : Private) (fault : Fault) : Type 0 where
  pub lacks : LacksRight m a p
  pub locks : FaultOk m a p fault

-- the session watches a target again behind the poll
pub record RewaitOk (m : Machine) (answer : Answer) (a : ℕ) (p : Private) (s : Session) : Type 0 where
  pub session : SessionOk m answer a p s
  pub watches : (c : Course) × (k : ℕ) × (s.phase ≡ Shooting c (Watching k))

abbrev pub OnwardOk : Machine → Answer → (a : ℕ) → Private → Onward → Type 0
OnwardOk m answer a p NewTurn = p.turns < m.budget
OnwardOk m answer a p TurnOver = p.turns ≤ m.budget
OnwardOk m answer a p (Relock fault) = LockingOk m a p fault
OnwardOk m answer a p (Rewait s) = RewaitOk m answer a p s

pub record PollingOk (m : Machine) (answer : Answer) (a : ℕ) (p : Private) (onward : Onward) : Type 0 where
  pub processor : a < m.nodes
  pub leads : leads_to moment.Interrupt onward ≡ true
  pub behind : OnwardOk m answer a p onward

-- an entry of the active space is left to be looked at
pub record ScanningOk (m : Machine) (answer : Answer) (a : ℕ) (p : Private) (i : ℕ) (moment : Moment) (onward : Onward) : Type 0 where
  pub processor : a < m.nodes
  pub left : i < length (entries_of_space m p.guest.space)
  pub leads : leads_to moment onward ≡ true
  pub behind : OnwardOk m answer a p onward

-- ---- turns

pub record TickingOk (m : Machine) (a : ℕ) (p : Private) : Type 0 where
  pub processor : a < m.nodes
  pub left : p.turns < m.budget

pub record SwitchingOk (m : Machine) (a : ℕ) (p : Private) (space : ℕ) : Type 0 where
  pub processor : a < m.nodes
  pub wants : want_of m a p.guest ≡ want.Switch space

-- the word that was found before the write is one of the machine
pub record ExchangingOk (m : Machine) (a : ℕ) (p : Private) (seen : ℕ) : Type 0 where
  pub access : AccessOk m a p true
  pub word : IsTrue (is_data_word m seen)

pub record EndingOk (m : Machine) (a : ℕ) (p : Private) (e : End) : Type 0 where
  pub processor : a < m.nodes
  pub end : EndOk m a p e

-- ---- places

abbrev pub PlaceOk : Machine → Answer → (a : ℕ) → Private → Place → Type 0
PlaceOk m answer a p (Polling onward) = PollingOk m answer a p onward
PlaceOk m answer a p (Looking i moment onward) = ScanningOk m answer a p i moment onward
PlaceOk m answer a p (Applying i message moment onward) = ScanningOk m answer a p i moment onward
PlaceOk m answer a p Ticking = TickingOk m a p
PlaceOk m answer a p (Switching space) = SwitchingOk m a p space
PlaceOk m answer a p Loading = AccessOk m a p false
PlaceOk m answer a p Expecting = AccessOk m a p true
PlaceOk m answer a p (Exchanging seen) = ExchangingOk m a p seen
PlaceOk m answer a p (Locking fault) = LockingOk m a p fault
PlaceOk m answer a p (InSession s) = SessionOk m answer a p s
PlaceOk m answer a p (Leaving e) = EndingOk m a p e
PlaceOk m answer a p (Lessening e) = EndingOk m a p e
PlaceOk m answer a p (Gone e) = EndingOk m a p e
PlaceOk m answer a p LiveLooking = a ≡ m.nodes
PlaceOk m answer a p TimeLooking = a ≡ m.nodes
PlaceOk m answer a p Over = a ≡ m.nodes

-- a translation is of its entry, and leads to a frame of the machine
pub record TranslationOk (m : Machine) (e : ℕ) (t : Translation) : Type 0 where
  pub entry : t.grant.entry ≡ e
  pub frame : IsTrue (is_frame m t.grant.frame)

pub record StandingOk (m : Machine) (answer : Answer) (a : ℕ) (p : Private) : Type 0 where
  -- there is a place for the translation of each entry
  pub all_entries : length p.pmap ≡ entry_count m
  pub translations : (e : ℕ) (t : Translation) → translation_at p e ≡ Some t → TranslationOk m e t
  -- no processor makes more turns than its budget
  pub turns_most : p.turns ≤ m.budget
  pub place : PlaceOk m answer a p p.place
