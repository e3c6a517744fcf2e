-- where a handler stands is where the definition of an event puts its actor
use Rattle.std.proofs.Common.{◌≡◌, ℕ, Bool, true, false, if◌then◌else◌, Some, refl}
use Rattle.std.specs.Prelude.{◌==◌}
use Rattle.plat_base.specs.Machine.{Machine}
use Rattle.plat_base.specs.Verdicts.{Answer}
use Rattle.plat_events.specs.Words.{is_locked}
use Rattle.plat_events.specs.Events.{named_next, lock_place_after, session_moved, shoot_place}
use Rattle.plat_events.specs.Shootdowns.{Shoot, Makes, Polls, Done, shot_after}
use Rattle.plat_events.specs.Sessions.{Fault, Phase, Stamping, Seeking, Taking, Returning, Shooting, Filling, Reading, Copying, Giving}
use Rattle.plat_events.specs.Sessions.{Storing, Granting, Unlocking, Session}
use Rattle.plat_events.specs.Privates.{Private, Polling, Relock, Locking, InSession}
use Rattle.plat_handler.specs.Stages.{Locks, Relocks, Runs, stage_next, stage_locked, stage_shot, stage_run, session_begun, session_after}
use Rattle.plat_handler.specs.Stages.{place_in}

-- ---- the operation

pub next-locking :
    (m : Machine) (answer : Answer) (a now : ℕ) (p : Private) (fault : Fault) →
    named_next m answer a p (Locking fault) ≡ stage_next m answer a now (Locks fault)
next-locking m answer a now p fault = refl

pub next-session :
    (m : Machine) (answer : Answer) (a : ℕ) (p : Private) (s : Session) →
    named_next m answer a p (InSession s) ≡ stage_next m answer a p.now (Runs s)
next-session m answer a p s = refl

-- ---- the lock

locked_by :
    (m : Machine) (a n : ℕ) (fault : Fault) (b d : Bool) →
    place_in (if b then (if d then Locks fault else Relocks fault) else Runs (session_begun m a fault n))
    ≡ Some (if b then (if d then Locking fault else Polling (Relock fault)) else InSession (session_begun m a fault n))
locked_by m a n fault true true = refl
locked_by m a n fault true false = refl
locked_by m a n fault false d = refl

pub place-locked : (m : Machine) (a n : ℕ) (fault : Fault) → place_in (stage_locked m a fault n) ≡ Some (lock_place_after m a fault n)
place-locked m a n fault = locked_by m a n fault (is_locked n) (a == m.nodes)

-- ---- the session

pub place-shot : (s : Session) (shoot : Shoot) → place_in (stage_shot s shoot) ≡ Some (shoot_place s shoot)
place-shot s (Makes posts shot) = refl
place-shot s (Polls posts k) = refl
place-shot s (Done posts) = refl

-- the unlocks end a session, and what follows is the actor's own
abbrev pub is_last : Phase → Bool
is_last Stamping = false
is_last (Seeking st i) = false
is_last (Taking st i seen) = false
is_last Returning = true
is_last (Shooting c shot) = false
is_last (Filling c w) = false
is_last (Reading c w) = false
is_last (Copying c w seen) = false
is_last (Giving c k) = false
is_last (Storing c) = false
is_last (Granting c) = false
is_last (Unlocking c) = true

pub place-session :
    (m : Machine) (answer : Answer) (a n : ℕ) (p : Private) (s : Session) (phase : Phase) → is_last phase ≡ false →
    place_in (stage_run m answer a p.now n s phase) ≡ Some (session_moved m answer a p n s phase).place
place-session m answer a n p s Stamping h = refl
place-session m answer a n p s (Seeking st i) h = refl
place-session m answer a n p s (Taking st i seen) h = refl
place-session m answer a n p s Returning h = absurd cc
place-session m answer a n p s (Shooting c shot) h =
    place-shot (session_after m answer a p.now n s) (shot_after m a s.fault.page c.posts n shot)
place-session m answer a n p s (Filling c w) h = refl
place-session m answer a n p s (Reading c w) h = refl
place-session m answer a n p s (Copying c w seen) h = refl
place-session m answer a n p s (Giving c k) h = refl
place-session m answer a n p s (Storing c) h = refl
place-session m answer a n p s (Granting c) h = refl
place-session m answer a n p s (Unlocking c) h = absurd cc
