-- what one operation changes of an actor: whether it is live, the space that it is active in as others see it, and its tick
use Rattle.std.proofs.Common.{◌≡◌, ℕ, ◌+◌, ◌*◌, ◌/◌, Bool, true, false, refl, ap, ◌∙◌}
use Rattle.std.specs.Prelude.{◌==◌, nat_lt, if◌then◌else◌}
use Rattle.std.proofs.lemmas.Bool.{cond_both}
use Rattle.plat_base.specs.Verdicts.{Answer}
use Rattle.plat_base.specs.Machine.{Machine}
use Rattle.plat_base.specs.GuestRun.{Reach, want_of, reach_of}
use Rattle.plat_base.specs.Flat.{is_write}
use Rattle.plat_base.specs.Held.{has_right}
use Rattle.plat_base.specs.declared.frames.Dir.{Dir}
use Rattle.plat_base.specs.declared.items.Message.TheVariants as message
use Rattle.plat_base.specs.declared.items.Moment.{Moment}
use Rattle.plat_base.specs.declared.items.Moment.TheVariants as moment
use Rattle.plat_base.specs.declared.endings.End.TheVariants as end
use Rattle.plat_base.specs.declared.guests.Want.{Want}
use Rattle.plat_base.specs.declared.guests.Want.TheVariants as want
use Rattle.plat_events.specs.Words.{has_bit, has_invalidate, has_restrict, is_locked}
use Rattle.plat_events.specs.Shootdowns.{Shoot, Makes, Polls, Done, shot_after}
use Rattle.plat_events.specs.Sessions.{Fault, Phase, Stamping, Seeking, Taking, Returning, Shooting, Filling, Reading, Copying, Giving}
use Rattle.plat_events.specs.Sessions.{Storing, Granting, Unlocking, Session}
use Rattle.plat_events.specs.Privates.{Onward, NewTurn, TurnOver, Relock, Rewait, Place, Polling, Looking, Applying, Ticking, Switching}
use Rattle.plat_events.specs.Privates.{Loading, Expecting, Exchanging, Locking, InSession, Leaving, Lessening, Gone, LiveLooking}
use Rattle.plat_events.specs.Privates.{TimeLooking, Over, Private, is_over, period, translation_at}
use Rattle.plat_events.specs.Scans.{turn_over, go_on, scan_from, poll_place, look_place}
use Rattle.plat_events.specs.Events.{at, reach_now, entry_of, look_up_place, lock_place_after, turn_does, thaw_of, page_done, shoot_place}
use Rattle.plat_events.specs.Events.{access_over, session_moved, moved_at}
use Rattle.plat_events.specs.Kept.{has_left}
use Rattle.plat_events.specs.Shown.{act_of}
use Rattle.plat_local_laws.specs.Standing.{PlaceOk}
use Rattle.plat_local_laws.proofs.SessionLaws.{session_at}
use Rattle.plat_local_laws.proofs.FootLaws.{space_moved, moved-space}

-- ---- places at which an actor is active and live

-- the actor has not left its space, and has not ended
pub record IsActive (x : Place) : Type 0 where
  pub stays : has_left x ≡ false
  pub lives : is_over x ≡ false

turn_over-active : (m : Machine) (t : ℕ) → IsActive (turn_over m t)
turn_over-active m t =
    cond_both (t == m.budget) (Leaving end.Spent) (Polling NewTurn) IsActive
    (λ _. record { stays = refl; lives = refl }) (λ _. record { stays = refl; lives = refl })

go_on-active : (m : Machine) (t : ℕ) (onward : Onward) → IsActive (go_on m t onward)
go_on-active m t NewTurn = record { stays = refl; lives = refl }
go_on-active m t TurnOver = turn_over-active m t
go_on-active m t (Relock fault) = record { stays = refl; lives = refl }
go_on-active m t (Rewait s) = record { stays = refl; lives = refl }

scan_from-active : (m : Machine) (t space i : ℕ) (moment : Moment) (onward : Onward) → IsActive (scan_from m t space i moment onward)
scan_from-active m t space i moment onward =
    cond_both (nat_lt i _) (Looking i moment onward) (go_on m t onward) IsActive (λ _. record { stays = refl; lives = refl })
    (λ _. go_on-active m t onward)

poll_place-active : (m : Machine) (p : Private) (onward : Onward) (n : ℕ) → IsActive (poll_place m p onward n)
poll_place-active m p onward n =
    cond_both (has_bit n p.guest.space) (scan_from m p.turns p.guest.space 0 moment.Interrupt onward) (go_on m p.turns onward) IsActive
    (λ _. scan_from-active m p.turns p.guest.space 0 moment.Interrupt onward) (λ _. go_on-active m p.turns onward)

look_place-active :
    (m : Machine) (a : ℕ) (p : Private) (i : ℕ) (moment : Moment) (onward : Onward) (n : ℕ) → IsActive (look_place m a p i moment onward n)
look_place-active m a p i moment onward n =
    let next = scan_from m p.turns p.guest.space (i + 1) moment onward in
    cond_both (has_invalidate n a) (Applying i message.Invalidate moment onward)
    (if has_restrict n a then Applying i message.Restrict moment onward else next) IsActive (λ _. record { stays = refl; lives = refl })
    (λ _. cond_both (has_restrict n a) (Applying i message.Restrict moment onward) next IsActive
    (λ _. record { stays = refl; lives = refl }) (λ _. scan_from-active m p.turns p.guest.space (i + 1) moment onward))

look_up-active : (m : Machine) (p : Private) (r : Reach) → IsActive (look_up_place m p r)
look_up-active m p r =
    cond_both (has_right r.kind (translation_at p (entry_of m r))) (if is_write r.kind then Expecting else Loading) (Locking _) IsActive
    (λ _. cond_both (is_write r.kind) Expecting Loading IsActive (λ _. record { stays = refl; lives = refl })
    (λ _. record { stays = refl; lives = refl }))
    (λ _. record { stays = refl; lives = refl })

lock-active : (m : Machine) (a : ℕ) (fault : Fault) (n : ℕ) → IsActive (lock_place_after m a fault n)
lock-active m a fault n =
    cond_both (is_locked n) (if a == m.nodes then Locking fault else Polling (Relock fault)) (InSession _) IsActive
    (λ _. cond_both (a == m.nodes) (Locking fault) (Polling (Relock fault)) IsActive (λ _. record { stays = refl; lives = refl })
    (λ _. record { stays = refl; lives = refl }))
    (λ _. record { stays = refl; lives = refl })

turn_does-active : (m : Machine) (a : ℕ) (p : Private) (w : Want) → IsActive (turn_does m a p w).place
turn_does-active m a p want.Local = turn_over-active m p.turns
turn_does-active m a p (want.Access k sp ad o) = look_up-active m p (reach_of m k sp ad o)
turn_does-active m a p (want.Switch space) = record { stays = refl; lives = refl }
turn_does-active m a p (want.Print v) = turn_over-active m p.turns
turn_does-active m a p want.Halted = record { stays = refl; lives = refl }
turn_does-active m a p want.Trap = record { stays = refl; lives = refl }

shoot-active : (s : Session) (sh : Shoot) → IsActive (shoot_place s sh)
shoot-active s (Makes posts shot) = record { stays = refl; lives = refl }
shoot-active s (Polls posts k) = record { stays = refl; lives = refl }
shoot-active s (Done posts) = record { stays = refl; lives = refl }

page_done-active : (m : Machine) (p : Private) (page : ℕ) → IsActive (page_done m p page).place
page_done-active m p page =
    cond_both (nat_lt (page + 1) m.pages) (at p (Locking (thaw_of (page + 1))))
    (record p { due = (p.now / period m.policy + 1) * period m.policy; place = LiveLooking }) (λ x. IsActive x.place)
    (λ _. record { stays = refl; lives = refl }) (λ _. record { stays = refl; lives = refl })

session-active :
    (m : Machine) (answer : Answer) (a : ℕ) (p : Private) (n : ℕ) (f : Fault) (d : Dir) (phase : Phase)
    → IsActive (session_moved m answer a p n (session_at f d phase) phase).place
session-active m answer a p n f d Stamping = record { stays = refl; lives = refl }
session-active m answer a p n f d (Seeking st i) = record { stays = refl; lives = refl }
session-active m answer a p n f d (Taking st i seen) = record { stays = refl; lives = refl }
session-active m answer a p n f d Returning =
    cond_both (a == m.nodes) (page_done m p f.page) (at p (Leaving end.NoFrames)) (λ x. IsActive x.place)
    (λ _. page_done-active m p f.page) (λ _. record { stays = refl; lives = refl })
session-active m answer a p n f d (Shooting c shot) = shoot-active _ (shot_after m a f.page c.posts n shot)
session-active m answer a p n f d (Filling c w) = record { stays = refl; lives = refl }
session-active m answer a p n f d (Reading c w) = record { stays = refl; lives = refl }
session-active m answer a p n f d (Copying c w seen) = record { stays = refl; lives = refl }
session-active m answer a p n f d (Giving c k) = record { stays = refl; lives = refl }
session-active m answer a p n f d (Storing c) = record { stays = refl; lives = refl }
session-active m answer a p n f d (Granting c) = record { stays = refl; lives = refl }
session-active m answer a p n f d (Unlocking c) =
    cond_both (a == m.nodes) (page_done m p f.page) _ (λ x. IsActive x.place) (λ _. page_done-active m p f.page)
    (λ _. look_up-active m p (reach_now m a p))

-- ---- where an operation leads

-- what has become of an actor: has it left its space, and has it ended
abbrev pub left_moved : Place → Bool
left_moved (Polling onward) = false
left_moved (Looking i moment onward) = false
left_moved (Applying i message moment onward) = false
left_moved Ticking = false
left_moved (Switching space) = false
left_moved Loading = false
left_moved Expecting = false
left_moved (Exchanging seen) = false
left_moved (Locking fault) = false
left_moved (InSession session) = false
left_moved (Leaving e) = true
left_moved (Lessening e) = true
left_moved (Gone e) = true
left_moved LiveLooking = false
left_moved TimeLooking = false
left_moved Over = false

abbrev pub over_moved : (n : ℕ) → Place → Bool
over_moved n (Polling onward) = false
over_moved n (Looking i moment onward) = false
over_moved n (Applying i message moment onward) = false
over_moved n Ticking = false
over_moved n (Switching space) = false
over_moved n Loading = false
over_moved n Expecting = false
over_moved n (Exchanging seen) = false
over_moved n (Locking fault) = false
over_moved n (InSession session) = false
over_moved n (Leaving e) = false
over_moved n (Lessening e) = true
over_moved n (Gone e) = true
over_moved n LiveLooking = n == 0
over_moved n TimeLooking = false
over_moved n Over = true

active-both : (x : Place) → IsActive x → (has_left x ≡ false) × (is_over x ≡ false)
active-both x h = (h.stays, h.lives)

live_looked : (n : ℕ) (b : Bool) → (has_left (if b then Over else TimeLooking) ≡ false) × (is_over (if b then Over else TimeLooking) ≡ b)
live_looked n true = (refl, refl)
live_looked n false = (refl, refl)

-- an actor leaves by its swap to none, a processor ends by one processor less, and the daemon where it finds no live processor
pub moved-left :
    (m : Machine) (answer : Answer) (a : ℕ) (p : Private) (n : ℕ) (place : Place) → p.place ≡ place
    → (has_left (moved_at m answer a p n place).place ≡ left_moved place)
    × (is_over (moved_at m answer a p n place).place ≡ over_moved n place)
moved-left m answer a p n (Polling onward) e = active-both _ (poll_place-active m p onward n)
moved-left m answer a p n (Looking i moment onward) e = active-both _ (look_place-active m a p i moment onward n)
moved-left m answer a p n (Applying i msg moment onward) e =
    active-both _ (scan_from-active m p.turns p.guest.space (i + 1) moment onward)
moved-left m answer a p n Ticking e =
    active-both _ (turn_does-active m a (record p { turns = p.turns + 1; now = n + 1 }) (want_of m a p.guest))
moved-left m answer a p n (Switching space) e = active-both _ (scan_from-active m p.turns space 0 moment.Activation TurnOver)
moved-left m answer a p n Loading e = active-both _ (turn_over-active m p.turns)
moved-left m answer a p n Expecting e = (refl, refl)
moved-left m answer a p n (Exchanging seen) e =
    cond_both (n == seen) (access_over m a p n) (at p (Exchanging n)) (λ x. (has_left x.place ≡ false) × (is_over x.place ≡ false))
    (λ _. active-both _ (turn_over-active m p.turns)) (λ _. (refl, refl))
moved-left m answer a p n (Locking fault) e = active-both _ (lock-active m a fault n)
moved-left m answer a p n (InSession s) e = active-both _ (session-active m answer a p n s.fault s.dir s.phase)
moved-left m answer a p n (Leaving x) e = (refl, refl)
moved-left m answer a p n (Lessening x) e = (refl, refl)
moved-left m answer a p n (Gone x) e = (ap has_left e, ap is_over e)
moved-left m answer a p n LiveLooking e = live_looked n (n == 0)
moved-left m answer a p n TimeLooking e =
    cond_both (nat_lt n p.due) (at p LiveLooking) (record p { now = n; place = Locking (thaw_of 0) })
    (λ x. (has_left x.place ≡ false) × (is_over x.place ≡ false)) (λ _. (refl, refl)) (λ _. (refl, refl))
moved-left m answer a p n Over e = (ap has_left e, ap is_over e)

-- the space + 1 that others see it active in, or 0
pub moved-act :
    (m : Machine) (answer : Answer) (a : ℕ) (p : Private) (n : ℕ) (place : Place) → p.place ≡ place → PlaceOk m answer a p place
    → act_of (moved_at m answer a p n place) ≡ (if left_moved place then 0 else space_moved p place + 1)
moved-act m answer a p n place e h =
    ap (λ b. if b then 0 else (moved_at m answer a p n place).guest.space + 1) (moved-left m answer a p n place e).0
    ∙ ap (λ s. if left_moved place then 0 else s + 1) (moved-space m answer a p n place h)
