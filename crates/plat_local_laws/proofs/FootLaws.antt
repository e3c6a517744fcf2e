-- what one operation changes of an actor: its turns, its tick, whether it has ended, and the space that it is active in
use Rattle.std.proofs.Common.{◌≡◌, ℕ, ◌+◌, ◌*◌, ◌/◌, refl, arith, ap, ◌∙◌}
use Rattle.std.specs.Prelude.{◌==◌, nat_lt}
use Rattle.std.proofs.lemmas.Bool.{cond_both}
use Rattle.plat_base.specs.Verdicts.{Answer}
use Rattle.plat_base.specs.Machine.{Machine}
use Rattle.plat_base.specs.GuestRun.{GuestState, want_of, guest_after}
use Rattle.plat_base.specs.declared.frames.Dir.{Dir}
use Rattle.plat_base.specs.declared.endings.End.TheVariants as end
use Rattle.plat_base.specs.declared.guests.Want.{Want}
use Rattle.plat_base.specs.declared.guests.Want.TheVariants as want
use Rattle.plat_laws.proofs.GuestLaws.{space-guest_after, space_after}
use Rattle.plat_events.specs.Words.{value_read}
use Rattle.plat_events.specs.Shootdowns.{own_post}
use Rattle.plat_events.specs.Sessions.{Fault, Phase, Stamping, Seeking, Taking, Returning, Shooting, Filling, Reading, Copying, Giving}
use Rattle.plat_events.specs.Sessions.{Storing, Granting, Unlocking, decision_of}
use Rattle.plat_events.specs.Privates.{Place, Polling, Looking, Applying, Ticking, Switching, Loading, Expecting, Exchanging, Locking}
use Rattle.plat_events.specs.Privates.{InSession, Leaving, Lessening, Gone, LiveLooking, TimeLooking, Over, Private, period}
use Rattle.plat_events.specs.Events.{at, turn_does, thaw_of, page_done, access_over, session_moved, moved_at}
use Rattle.plat_local_laws.specs.Faults.{WantsAccess}
use Rattle.plat_local_laws.specs.Standing.{PlaceOk}
use Rattle.plat_local_laws.proofs.SessionLaws.{session_at}
use Rattle.plat_local_laws.proofs.GuestStepLaws.{drop_own-still}

-- ---- turns

-- a tick counts a turn
abbrev pub ticks_made : Place → ℕ
ticks_made (Polling onward) = 0
ticks_made (Looking i moment onward) = 0
ticks_made (Applying i message moment onward) = 0
ticks_made Ticking = 1
ticks_made (Switching space) = 0
ticks_made Loading = 0
ticks_made Expecting = 0
ticks_made (Exchanging seen) = 0
ticks_made (Locking fault) = 0
ticks_made (InSession session) = 0
ticks_made (Leaving e) = 0
ticks_made (Lessening e) = 0
ticks_made (Gone e) = 0
ticks_made LiveLooking = 0
ticks_made TimeLooking = 0
ticks_made Over = 0

turn_does-turns : (m : Machine) (a : ℕ) (p : Private) (w : Want) → (turn_does m a p w).turns ≡ p.turns
turn_does-turns m a p want.Local = refl
turn_does-turns m a p (want.Access k sp ad o) = refl
turn_does-turns m a p (want.Switch space) = refl
turn_does-turns m a p (want.Print v) = refl
turn_does-turns m a p want.Halted = refl
turn_does-turns m a p want.Trap = refl

pub page_done-still : (m : Machine) (p : Private) (page : ℕ) → ((page_done m p page).turns ≡ p.turns)
    × ((page_done m p page).guest ≡ p.guest)
page_done-still m p page =
    cond_both (nat_lt (page + 1) m.pages) (at p (Locking (thaw_of (page + 1))))
    (record p { due = (p.now / period m.policy + 1) * period m.policy; place = LiveLooking })
    (λ x. (x.turns ≡ p.turns) × (x.guest ≡ p.guest)) (λ _. (refl, refl)) (λ _. (refl, refl))

pub session-still :
    (m : Machine) (answer : Answer) (a : ℕ) (p : Private) (n : ℕ) (f : Fault) (d : Dir) (phase : Phase)
    → ((session_moved m answer a p n (session_at f d phase) phase).turns ≡ p.turns)
    × ((session_moved m answer a p n (session_at f d phase) phase).guest ≡ p.guest)
session-still m answer a p n f d Stamping = (refl, refl)
session-still m answer a p n f d (Seeking st i) = (refl, refl)
session-still m answer a p n f d (Taking st i seen) = (refl, refl)
session-still m answer a p n f d Returning =
    cond_both (a == m.nodes) (page_done m p f.page) (at p (Leaving end.NoFrames)) (λ x. (x.turns ≡ p.turns) × (x.guest ≡ p.guest))
    (λ _. page_done-still m p f.page) (λ _. (refl, refl))
session-still m answer a p n f d (Shooting c shot) =
    drop_own-still p (decision_of m answer a p.now (session_at f d (Shooting c shot)) c).removed (own_post m a f.page c.posts n shot)
session-still m answer a p n f d (Filling c w) = (refl, refl)
session-still m answer a p n f d (Reading c w) = (refl, refl)
session-still m answer a p n f d (Copying c w seen) = (refl, refl)
session-still m answer a p n f d (Giving c k) = (refl, refl)
session-still m answer a p n f d (Storing c) = (refl, refl)
session-still m answer a p n f d (Granting c) = (refl, refl)
session-still m answer a p n f d (Unlocking c) =
    cond_both (a == m.nodes) (page_done m p f.page) _ (λ x. (x.turns ≡ p.turns) × (x.guest ≡ p.guest))
    (λ _. page_done-still m p f.page) (λ _. (refl, refl))

-- only a tick changes the turns
pub moved-turns :
    (m : Machine) (answer : Answer) (a : ℕ) (p : Private) (n : ℕ) (place : Place)
    → (moved_at m answer a p n place).turns ≡ p.turns + ticks_made place
moved-turns m answer a p n (Polling onward) = omega arith
moved-turns m answer a p n (Looking i moment onward) = omega arith
moved-turns m answer a p n (Applying i msg moment onward) = omega arith
moved-turns m answer a p n Ticking =
    turn_does-turns m a (record p { turns = p.turns + 1; now = n + 1 }) (want_of m a p.guest)
moved-turns m answer a p n (Switching space) = omega arith
moved-turns m answer a p n Loading = omega arith
moved-turns m answer a p n Expecting = omega arith
moved-turns m answer a p n (Exchanging seen) =
    cond_both (n == seen) (access_over m a p n) (at p (Exchanging n)) (λ x. x.turns ≡ p.turns + 0) (λ _. omega arith) (λ _. omega arith)
moved-turns m answer a p n (Locking fault) = omega arith
moved-turns m answer a p n (InSession s) = omega (arith, (session-still m answer a p n s.fault s.dir s.phase).0)
moved-turns m answer a p n (Leaving x) = omega arith
moved-turns m answer a p n (Lessening x) = omega arith
moved-turns m answer a p n (Gone x) = omega arith
moved-turns m answer a p n LiveLooking = omega arith
moved-turns m answer a p n TimeLooking =
    cond_both (nat_lt n p.due) (at p LiveLooking) (record p { now = n; place = Locking (thaw_of 0) }) (λ x. x.turns ≡ p.turns + 0)
    (λ _. omega arith) (λ _. omega arith)
moved-turns m answer a p n Over = omega arith

-- ---- the active space

-- the space that a processor is in after its operation: a switch goes to its space
abbrev pub space_moved : Private → Place → ℕ
space_moved p (Polling onward) = p.guest.space
space_moved p (Looking i moment onward) = p.guest.space
space_moved p (Applying i message moment onward) = p.guest.space
space_moved p Ticking = p.guest.space
space_moved p (Switching space) = space
space_moved p Loading = p.guest.space
space_moved p Expecting = p.guest.space
space_moved p (Exchanging seen) = p.guest.space
space_moved p (Locking fault) = p.guest.space
space_moved p (InSession session) = p.guest.space
space_moved p (Leaving e) = p.guest.space
space_moved p (Lessening e) = p.guest.space
space_moved p (Gone e) = p.guest.space
space_moved p LiveLooking = p.guest.space
space_moved p TimeLooking = p.guest.space
space_moved p Over = p.guest.space

over-space :
    (m : Machine) (a : ℕ) (s : GuestState) (w : Want) (v : ℕ) → want_of m a s ≡ w → space_after s.space w ≡ s.space
    → (guest_after m a s v).space ≡ s.space
over-space m a s w v e k = space-guest_after m a s v ∙ ap (space_after s.space) e ∙ k

turn-space :
    (m : Machine) (a : ℕ) (p : Private) (w : Want) → want_of m a p.guest ≡ w → (turn_does m a p w).guest.space ≡ p.guest.space
turn-space m a p want.Local e = over-space m a p.guest want.Local 0 e refl
turn-space m a p (want.Access k sp ad o) e = refl
turn-space m a p (want.Switch space) e = refl
turn-space m a p (want.Print v) e = over-space m a p.guest (want.Print v) 0 e refl
turn-space m a p want.Halted e = refl
turn-space m a p want.Trap e = refl

access-space : (m : Machine) (a : ℕ) (p : Private) (v : ℕ) → WantsAccess m a p → (guest_after m a p.guest v).space ≡ p.guest.space
access-space m a p v w = over-space m a p.guest _ v w refl

pub moved-space :
    (m : Machine) (answer : Answer) (a : ℕ) (p : Private) (n : ℕ) (place : Place) → PlaceOk m answer a p place
    → (moved_at m answer a p n place).guest.space ≡ space_moved p place
moved-space m answer a p n (Polling onward) h = refl
moved-space m answer a p n (Looking i moment onward) h = refl
moved-space m answer a p n (Applying i msg moment onward) h = refl
moved-space m answer a p n Ticking h = turn-space m a (record p { turns = p.turns + 1; now = n + 1 }) (want_of m a p.guest) refl
moved-space m answer a p n (Switching space) h = space-guest_after m a p.guest 0 ∙ ap (space_after p.guest.space) h.wants
moved-space m answer a p n Loading h = access-space m a p (value_read n) h.wants
moved-space m answer a p n Expecting h = refl
moved-space m answer a p n (Exchanging seen) h =
    cond_both (n == seen) (access_over m a p n) (at p (Exchanging n)) (λ x. x.guest.space ≡ p.guest.space)
    (λ _. access-space m a p (value_read n) h.access.wants) (λ _. refl)
moved-space m answer a p n (Locking fault) h = refl
moved-space m answer a p n (InSession s) h = ap (λ (x : GuestState). x.space) (session-still m answer a p n s.fault s.dir s.phase).1
moved-space m answer a p n (Leaving x) h = refl
moved-space m answer a p n (Lessening x) h = refl
moved-space m answer a p n (Gone x) h = refl
moved-space m answer a p n LiveLooking h = refl
moved-space m answer a p n TimeLooking h =
    cond_both (nat_lt n p.due) (at p LiveLooking) (record p { now = n; place = Locking (thaw_of 0) }) (λ x. x.guest.space ≡ p.guest.space)
    (λ _. refl) (λ _. refl)
moved-space m answer a p n Over h = refl
