-- what holds at a place reads the turns, the tick, the guest and the translations, and nothing else of a private state
use Rattle.std.proofs.Common.{ℕ, Bool, List}
use Rattle.std.specs.Prelude.{Option}
use Rattle.plat_base.specs.Verdicts.{Answer}
use Rattle.plat_base.specs.Machine.{Machine}
use Rattle.plat_base.specs.Cache.{Place as CachePlace}
use Rattle.plat_base.specs.declared.items.Item.{Item}
use Rattle.plat_base.specs.declared.items.Action.{Action}
use Rattle.plat_base.specs.declared.endings.End.{End}
use Rattle.plat_base.specs.declared.endings.End.TheVariants as end
use Rattle.plat_events.specs.Sessions.{Fault, Stamp, Course, Phase, Stamping, Seeking, Taking, Returning, Shooting, Filling, Reading}
use Rattle.plat_events.specs.Sessions.{Copying, Giving, Storing, Granting, Unlocking, Session}
use Rattle.plat_events.specs.Privates.{Onward, NewTurn, TurnOver, Relock, Rewait, Place, Polling, Looking, Applying, Ticking, Switching}
use Rattle.plat_events.specs.Privates.{Loading, Expecting, Exchanging, Locking, InSession, Leaving, Lessening, Gone, LiveLooking}
use Rattle.plat_events.specs.Privates.{TimeLooking, Over, Private}
use Rattle.plat_local_laws.specs.Faults.{AccessOk, IsFaultNow, FaultOk, EndOk}
use Rattle.plat_local_laws.specs.Phases.{CourseOk, SeekingOk, QuietOk, FillingOk, StoringOk, PhaseOk, SessionOk}
use Rattle.plat_local_laws.specs.Standing.{LockingOk, OnwardOk, PlaceOk}

-- the private state elsewhere, with another cache, another time of the next pass and another journal
abbrev pub moved_to : Private → Place → List (Option CachePlace) → ℕ → List Item → Private
moved_to p place atc due journal = record p { place = place; atc = atc; due = due; journal = journal }

pub AccessOk-moved :
    (m : Machine) (a : ℕ) (p : Private) (writes : Bool) (x : Place) (c : List (Option CachePlace)) (d : ℕ) (j : List Item)
    → AccessOk m a p writes → AccessOk m a (moved_to p x c d j) writes
AccessOk-moved m a p writes x c d j h = record { processor = h.processor; wants = h.wants; right = h.right; kind = h.kind }

IsFaultNow-moved :
    (m : Machine) (a : ℕ) (p : Private) (fault : Fault) (x : Place) (c : List (Option CachePlace)) (d : ℕ) (j : List Item)
    → IsFaultNow m a p fault → IsFaultNow m a (moved_to p x c d j) fault
IsFaultNow-moved m a p fault x c d j h = record { wants = h.wants; page = h.page; entry = h.entry; cause = h.cause }

pub FaultOk-moved :
    (m : Machine) (a : ℕ) (p : Private) (fault : Fault) (x : Place) (c : List (Option CachePlace)) (d : ℕ) (j : List Item)
    → FaultOk m a p fault → FaultOk m a (moved_to p x c d j) fault
FaultOk-moved m a p fault x c d j h =
    record { page = h.page; access = λ l. IsFaultNow-moved m a p fault x c d j (h.access l); thaw = h.thaw }

EndOk-moved :
    (m : Machine) (a : ℕ) (p : Private) (e : End) (x : Place) (c : List (Option CachePlace)) (d : ℕ) (j : List Item)
    → EndOk m a p e → EndOk m a (moved_to p x c d j) e
EndOk-moved m a p end.Halted x c d j h = h
EndOk-moved m a p end.Trapped x c d j h = h
EndOk-moved m a p end.Spent x c d j h = h
EndOk-moved m a p end.NoFrames x c d j h = h
EndOk-moved m a p end.Cut x c d j h = h

CourseOk-moved :
    (m : Machine) (answer : Answer) (a : ℕ) (p : Private) (s : Session) (k : Course) (x : Place) (c : List (Option CachePlace)) (d : ℕ)
    (j : List Item) → CourseOk m answer a p s k → CourseOk m answer a (moved_to p x c d j) s k
CourseOk-moved m answer a p s k x c d j h = record { may = h.may; stamp = h.stamp; masks = h.masks }

SeekingOk-moved :
    (m : Machine) (answer : Answer) (a : ℕ) (p : Private) (s : Session) (st : Stamp) (i : ℕ) (x : Place)
    (c : List (Option CachePlace)) (d : ℕ) (j : List Item)
    → SeekingOk m answer a p s st i → SeekingOk m answer a (moved_to p x c d j) s st i
SeekingOk-moved m answer a p s st i x c d j h =
    record { processor = h.processor; lacks = h.lacks; stamp = h.stamp; left = h.left }

QuietOk-moved :
    (m : Machine) (answer : Answer) (a : ℕ) (p : Private) (s : Session) (k : Course) (x : Place) (c : List (Option CachePlace)) (d : ℕ)
    (j : List Item) → QuietOk m answer a p s k → QuietOk m answer a (moved_to p x c d j) s k
QuietOk-moved m answer a p s k x c d j h =
    record { course = CourseOk-moved m answer a p s k x c d j h.course; posted = h.posted; silent = h.silent }

FillingOk-moved :
    (m : Machine) (answer : Answer) (a : ℕ) (p : Private) (s : Session) (k : Course) (does : Action → Bool) (w : ℕ) (x : Place)
    (c : List (Option CachePlace)) (d : ℕ) (j : List Item)
    → FillingOk m answer a p s k does w → FillingOk m answer a (moved_to p x c d j) s k does w
FillingOk-moved m answer a p s k does w x c d j h =
    record { lacks = h.lacks; quiet = QuietOk-moved m answer a p s k x c d j h.quiet; action = h.action; left = h.left }

StoringOk-moved :
    (m : Machine) (answer : Answer) (a : ℕ) (p : Private) (s : Session) (k : Course) (x : Place) (c : List (Option CachePlace)) (d : ℕ)
    (j : List Item) → StoringOk m answer a p s k → StoringOk m answer a (moved_to p x c d j) s k
StoringOk-moved m answer a p s k x c d j h = record { lacks = h.lacks; quiet = QuietOk-moved m answer a p s k x c d j h.quiet }

PhaseOk-moved :
    (m : Machine) (answer : Answer) (a : ℕ) (p : Private) (s : Session) (phase : Phase) (x : Place) (c : List (Option CachePlace)) (d : ℕ)
    (j : List Item) → PhaseOk m answer a p s phase → PhaseOk m answer a (moved_to p x c d j) s phase
PhaseOk-moved m answer a p s Stamping x c d j h = record { lacks = h.lacks; frozen = h.frozen }
PhaseOk-moved m answer a p s (Seeking st i) x c d j h = SeekingOk-moved m answer a p s st i x c d j h
PhaseOk-moved m answer a p s (Taking st i seen) x c d j h =
    record { seeks = SeekingOk-moved m answer a p s st i x c d j h.seeks; some = h.some; pool = h.pool }
PhaseOk-moved m answer a p s Returning x c d j h = record { lacks = h.lacks; empty = h.empty; thawed = h.thawed }
PhaseOk-moved m answer a p s (Shooting k shot) x c d j h =
    record { lacks = h.lacks; course = CourseOk-moved m answer a p s k x c d j h.course; removes = h.removes; stands = h.stands }
PhaseOk-moved m answer a p s (Filling k w) x c d j h = FillingOk-moved m answer a p s k _ w x c d j h
PhaseOk-moved m answer a p s (Reading k w) x c d j h = FillingOk-moved m answer a p s k _ w x c d j h
PhaseOk-moved m answer a p s (Copying k w seen) x c d j h =
    record { fills = FillingOk-moved m answer a p s k _ w x c d j h.fills; word = h.word }
PhaseOk-moved m answer a p s (Giving k n) x c d j h =
    record { lacks = h.lacks; quiet = QuietOk-moved m answer a p s k x c d j h.quiet; action = h.action; left = h.left }
PhaseOk-moved m answer a p s (Storing k) x c d j h = StoringOk-moved m answer a p s k x c d j h
PhaseOk-moved m answer a p s (Granting k) x c d j h =
    record { processor = h.processor; stores = StoringOk-moved m answer a p s k x c d j h.stores }
PhaseOk-moved m answer a p s (Unlocking k) x c d j h =
    record { quiet = QuietOk-moved m answer a p s k x c d j h.quiet; granted = h.granted }

pub SessionOk-moved :
    (m : Machine) (answer : Answer) (a : ℕ) (p : Private) (s : Session) (x : Place) (c : List (Option CachePlace)) (d : ℕ)
    (j : List Item) → SessionOk m answer a p s → SessionOk m answer a (moved_to p x c d j) s
SessionOk-moved m answer a p s x c d j h = record {
  fault = FaultOk-moved m a p s.fault x c d j h.fault;
  dir = h.dir;
  phase = PhaseOk-moved m answer a p s s.phase x c d j h.phase;
}

pub LockingOk-moved :
    (m : Machine) (a : ℕ) (p : Private) (fault : Fault) (x : Place) (c : List (Option CachePlace)) (d : ℕ) (j : List Item)
    → LockingOk m a p fault → LockingOk m a (moved_to p x c d j) fault
LockingOk-moved m a p fault x c d j h = record { lacks = h.lacks; locks = FaultOk-moved m a p fault x c d j h.locks }

OnwardOk-moved :
    (m : Machine) (answer : Answer) (a : ℕ) (p : Private) (onward : Onward) (x : Place) (c : List (Option CachePlace)) (d : ℕ)
    (j : List Item) → OnwardOk m answer a p onward → OnwardOk m answer a (moved_to p x c d j) onward
OnwardOk-moved m answer a p NewTurn x c d j h = h
OnwardOk-moved m answer a p TurnOver x c d j h = h
OnwardOk-moved m answer a p (Relock fault) x c d j h = LockingOk-moved m a p fault x c d j h
OnwardOk-moved m answer a p (Rewait s) x c d j h =
    record { session = SessionOk-moved m answer a p s x c d j h.session; watches = h.watches }

pub PlaceOk-moved :
    (m : Machine) (answer : Answer) (a : ℕ) (p : Private) (place x : Place) (c : List (Option CachePlace)) (d : ℕ) (j : List Item)
    → PlaceOk m answer a p place → PlaceOk m answer a (moved_to p x c d j) place
PlaceOk-moved m answer a p (Polling onward) x c d j h =
    record { processor = h.processor; leads = h.leads; behind = OnwardOk-moved m answer a p onward x c d j h.behind }
PlaceOk-moved m answer a p (Looking i moment onward) x c d j h =
    record { processor = h.processor; left = h.left; leads = h.leads; behind = OnwardOk-moved m answer a p onward x c d j h.behind }
PlaceOk-moved m answer a p (Applying i message moment onward) x c d j h =
    record { processor = h.processor; left = h.left; leads = h.leads; behind = OnwardOk-moved m answer a p onward x c d j h.behind }
PlaceOk-moved m answer a p Ticking x c d j h = record { processor = h.processor; left = h.left }
PlaceOk-moved m answer a p (Switching space) x c d j h = record { processor = h.processor; wants = h.wants }
PlaceOk-moved m answer a p Loading x c d j h = AccessOk-moved m a p _ x c d j h
PlaceOk-moved m answer a p Expecting x c d j h = AccessOk-moved m a p _ x c d j h
PlaceOk-moved m answer a p (Exchanging seen) x c d j h =
    record { access = AccessOk-moved m a p _ x c d j h.access; word = h.word }
PlaceOk-moved m answer a p (Locking fault) x c d j h = LockingOk-moved m a p fault x c d j h
PlaceOk-moved m answer a p (InSession s) x c d j h = SessionOk-moved m answer a p s x c d j h
PlaceOk-moved m answer a p (Leaving e) x c d j h =
    record { processor = h.processor; end = EndOk-moved m a p e x c d j h.end }
PlaceOk-moved m answer a p (Lessening e) x c d j h =
    record { processor = h.processor; end = EndOk-moved m a p e x c d j h.end }
PlaceOk-moved m answer a p (Gone e) x c d j h =
    record { processor = h.processor; end = EndOk-moved m a p e x c d j h.end }
PlaceOk-moved m answer a p LiveLooking x c d j h = h
PlaceOk-moved m answer a p TimeLooking x c d j h = h
PlaceOk-moved m answer a p Over x c d j h = h
