-- what the cache keeps after the operation of each place
use Rattle.std.proofs.Common.{◌≡◌, ℕ, zero, suc, ◌+◌, ◌<◌, Bool, true, false, List, length, Some, None, refl, ap, sym, subst, ◌∙◌, inl, inr}
use Rattle.std.proofs.Common.{replicate}
use Rattle.std.specs.Prelude.{◌==◌, nat_lt, ◌&&◌, not, if◌then◌else◌, Option, slice_get}
use Rattle.std.proofs.lemmas.Bool.{cond_both, cases_Bool, eqb-true}
use Rattle.plat_base.specs.Machine.{Machine}
use Rattle.plat_base.specs.Flat.{is_write}
use Rattle.plat_base.specs.GuestRun.{Reach, reach_of, want_of}
use Rattle.plat_base.specs.Held.{has_right, told}
use Rattle.plat_base.specs.Messages.{removes_some}
use Rattle.plat_base.specs.Pages.{entries_of_space, page_of}
use Rattle.plat_base.specs.declared.frames.Dir.{Dir}
use Rattle.plat_base.specs.declared.guests.Want.{Want}
use Rattle.plat_base.specs.declared.guests.Want.TheVariants as want
use Rattle.plat_base.specs.declared.endings.End.TheVariants as end
use Rattle.plat_base.specs.declared.items.Message.TheVariants as message
use Rattle.plat_base.specs.declared.items.Moment.{Moment}
use Rattle.plat_base.specs.declared.items.Moment.TheVariants as moment
use Rattle.plat_events.specs.Words.{dir_read, has_bit, has_invalidate, has_reference, has_restrict, is_locked, last_read, seq_read}
use Rattle.plat_events.specs.Shootdowns.{Shot, Posting, PostingOn, Asking, Interrupting, Watching, AskingAgain, Shoot, Makes, Polls, Done}
use Rattle.plat_events.specs.Shootdowns.{entry_posted, own_post, shot_after}
use Rattle.plat_events.specs.Sessions.{Fault, Course, Phase, Stamping, Seeking, Taking, Returning, Shooting, Filling, Reading, Copying}
use Rattle.plat_events.specs.Sessions.{Giving, Storing, Granting, Unlocking, Session, entry_faulted, phase_after, with_phase, with_shoot}
use Rattle.plat_events.specs.Sessions.{translation_made}
use Rattle.plat_events.specs.Privates.{Onward, NewTurn, TurnOver, Relock, Rewait, Place, Polling, Looking, Applying, Ticking, Switching}
use Rattle.plat_events.specs.Privates.{Loading, Expecting, Exchanging, Locking, InSession, Leaving, Lessening, Gone, LiveLooking}
use Rattle.plat_events.specs.Privates.{TimeLooking, Over, Private, translation_at}
use Rattle.plat_events.specs.Scans.{entry_scanned, turn_over, go_on, scan_from, poll_place, look_place}
use Rattle.plat_events.specs.Kept.{session_behind, session_of}
use Rattle.plat_events.specs.Events.{at, entry_of, reach_now, look_up, look_up_place, turn_does, access_over, lock_place_after, page_done}
use Rattle.plat_events.specs.Events.{forget_page, drop_own, shoot_place, session_moved, moved_at}
use Rattle.plat_handler.specs.Phases.{answer_of}
use Rattle.plat_local_laws.specs.Phases.{ShotOk, SessionOk}
use Rattle.plat_local_laws.specs.Standing.{PlaceOk}
use Rattle.plat_local_laws.proofs.NameLaws.{entry_posted-is}
use Rattle.plat_local_laws.proofs.PhaseLaws.{not_daemon}
use Rattle.plat_local_laws.proofs.SessionLaws.{session_at}
use Rattle.plat_local_laws.proofs.TurnLaws.{reach_now-wanted, WantsAccess-from}
use Rattle.plat_pmap.specs.Slots.{AreSlots, no_slots}
use Rattle.plat_pmap.specs.declared.atcs.Slot.{Slot}
use Rattle.plat_proc.specs.Cached.{slots_at, slots_forgotten, slots_in, slots_looked, slots_ticked}
use Rattle.plat_proc.specs.Fits.{CacheFits, grants_by, removes_of}
use Rattle.plat_proc.proofs.GoesOnLemmas.{IsBefore, removed_by, give_from-goes, fill_from-goes, copy_from-goes, with_shoot-goes}
use Rattle.plat_proc.proofs.GoesOnLemmas.{seek_from-before, pool_found-before, take-before, storing-goes}
use Rattle.plat_proc.proofs.SlotFitsLemmas.{AllCurrent, applied-fits, current-fits, current-idle, current-same, idle-current, idle-fits}
use Rattle.plat_proc.proofs.SlotFitsLemmas.{place-fits, ungranted}
use Rattle.plat_proc.proofs.SessionFitsLemmas.{removes, granted-fits, posted-fits, session-fits}
use Rattle.plat_proc.proofs.LookUpLemmas.{UnlocksOk, entry-faulted, page-faulted, ticked-current, unlocked-current}

-- ---- the session behind a poll stays

turn_over-session : (m : Machine) (turns : ℕ) → session_of (turn_over m turns) ≡ None
turn_over-session m turns =
    cond_both (turns == m.budget) (Leaving end.Spent) (Polling NewTurn) (λ place. session_of place ≡ None) (λ _. refl) (λ _. refl)

go_on-session : (m : Machine) (turns : ℕ) (onward : Onward) → session_of (go_on m turns onward) ≡ session_behind onward
go_on-session m turns NewTurn = refl
go_on-session m turns TurnOver = turn_over-session m turns
go_on-session m turns (Relock fault) = refl
go_on-session m turns (Rewait session) = refl

scan_from-session :
    (m : Machine) (turns space i : ℕ) (moment : Moment) (onward : Onward)
    → session_of (scan_from m turns space i moment onward) ≡ session_behind onward
scan_from-session m turns space i moment onward =
    cond_both (nat_lt i (length (entries_of_space m space))) (Looking i moment onward) (go_on m turns onward)
    (λ place. session_of place ≡ session_behind onward) (λ _. refl) (λ _. go_on-session m turns onward)

poll_place-session :
    (m : Machine) (p : Private) (onward : Onward) (n : ℕ) → session_of (poll_place m p onward n) ≡ session_behind onward
poll_place-session m p onward n =
    cond_both (has_bit n p.guest.space) (scan_from m p.turns p.guest.space 0 moment.Interrupt onward) (go_on m p.turns onward)
    (λ place. session_of place ≡ session_behind onward) (λ _. scan_from-session m p.turns p.guest.space 0 moment.Interrupt onward)
    (λ _. go_on-session m p.turns onward)

look_place-session :
    (m : Machine) (a : ℕ) (p : Private) (i : ℕ) (moment : Moment) (onward : Onward) (n : ℕ)
    → session_of (look_place m a p i moment onward n) ≡ session_behind onward
look_place-session m a p i moment onward n =
    cond_both (has_invalidate n a) (Applying i message.Invalidate moment onward)
    (if has_restrict n a then Applying i message.Restrict moment onward else scan_from m p.turns p.guest.space (i + 1) moment onward)
    (λ place. session_of place ≡ session_behind onward) (λ _. refl)
    (λ _. cond_both (has_restrict n a) (Applying i message.Restrict moment onward)
    (scan_from m p.turns p.guest.space (i + 1) moment onward) (λ place. session_of place ≡ session_behind onward) (λ _. refl)
    (λ _. scan_from-session m p.turns p.guest.space (i + 1) moment onward))

look_up-session : (m : Machine) (p : Private) (r : Reach) → session_of (look_up_place m p r) ≡ None
look_up-session m p r =
    cond_both (has_right r.kind (translation_at p (entry_of m r))) (if is_write r.kind then Expecting else Loading) (Locking _)
    (λ place. session_of place ≡ None)
    (λ _. cond_both (is_write r.kind) Expecting Loading (λ place. session_of place ≡ None) (λ _. refl) (λ _. refl)) (λ _. refl)

-- ---- turns

ticked-fits :
    (m : Machine) (a : ℕ) (p q : Private) (slots : List (Option Slot)) (w : Want) → session_of p.place ≡ None → q.pmap ≡ p.pmap
    → want_of m a p.guest ≡ w → CacheFits m a p slots → CacheFits m a (turn_does m a q w) (slots_ticked m p slots w)
ticked-fits m a p q slots want.Local e t w h = idle-fits m a p (turn_does m a q want.Local) slots e (turn_over-session m q.turns) t h
ticked-fits m a p q slots (want.Access k sp ad o) e t w h =
    let r = reach_of m k sp ad o in
    current-idle m a (look_up m r q) (slots_looked m p r slots) (look_up-session m q r)
    (current-same m p (look_up m r q) (slots_looked m p r slots) t
    (subst (λ x. AllCurrent m p (slots_looked m p x slots)) (reach_now-wanted m a p k sp ad o w)
    (ticked-current m a p slots (WantsAccess-from m a p k sp ad o w) (idle-current m a p slots e h))))
ticked-fits m a p q slots (want.Switch space) e t w h = idle-fits m a p (turn_does m a q (want.Switch space)) slots e refl t h
ticked-fits m a p q slots (want.Print v) e t w h =
    idle-fits m a p (turn_does m a q (want.Print v)) slots e (turn_over-session m q.turns) t h
ticked-fits m a p q slots want.Halted e t w h = idle-fits m a p (turn_does m a q want.Halted) slots e refl t h
ticked-fits m a p q slots want.Trap e t w h = idle-fits m a p (turn_does m a q want.Trap) slots e refl t h

abbrev no_slot : Option Slot
no_slot = None

none-replicated : (n k : ℕ) (s : Slot) → slice_get (replicate n no_slot) k ≡ Some (Some s) → ⊥
none-replicated zero k s h = absurd cc
none-replicated (suc n) zero s h = absurd cc
none-replicated (suc n) (suc k) s h = none-replicated n k s h

-- eight empty places
pub empty-fits : (m : Machine) (a : ℕ) (p : Private) → CacheFits m a p no_slots
empty-fits m a p k s g = absurd (none-replicated 8 k s g)

over-fits :
    (m : Machine) (a : ℕ) (p : Private) (n : ℕ) (slots : List (Option Slot)) → session_of p.place ≡ None → CacheFits m a p slots
    → CacheFits m a (access_over m a p n) slots
over-fits m a p n slots e h = idle-fits m a p (access_over m a p n) slots e (turn_over-session m p.turns) refl h

-- ---- the lock

-- a session begins, whose row is not fixed
begun-fits :
    (m : Machine) (a : ℕ) (p : Private) (s : Session) (slots : List (Option Slot)) → session_of p.place ≡ None → IsBefore s.phase
    → CacheFits m a p slots → CacheFits m a (at p (InSession s)) slots
begun-fits m a p s slots e b h =
    let q = at p (InSession s) in
    current-fits m a q slots (λ i. ungranted m a q i s b) (current-same m p q slots refl (idle-current m a p slots e h))

locked-fits :
    (m : Machine) (a : ℕ) (p : Private) (fault : Fault) (n : ℕ) (slots : List (Option Slot)) → session_of p.place ≡ None
    → CacheFits m a p slots → CacheFits m a (at p (lock_place_after m a fault n)) slots
locked-fits m a p fault n slots e h =
    let phase : Phase = if a == m.nodes && not (dir_read n).frozen then Returning else Stamping in
    let before : IsBefore phase =
    cond_both (a == m.nodes && not (dir_read n).frozen) Returning Stamping IsBefore (λ _. refl) (λ _. refl) in
    cond_both (is_locked n) (if a == m.nodes then Locking fault else Polling (Relock fault))
    (InSession (session_at fault (dir_read n) phase)) (λ place. CacheFits m a (at p place) slots)
    (λ _. cond_both (a == m.nodes) (Locking fault) (Polling (Relock fault)) (λ place. CacheFits m a (at p place) slots)
    (λ _. place-fits m a p (Locking fault) slots (sym e) h) (λ _. place-fits m a p (Polling (Relock fault)) slots (sym e) h))
    (λ _. begun-fits m a p (session_at fault (dir_read n) phase) slots e before h)

-- ---- sessions

-- a session that removes nothing, and whose unlock is not next
before-current :
    (m : Machine) (a : ℕ) (p : Private) (s : Session) (slots : List (Option Slot)) → session_of p.place ≡ Some s → IsBefore s.phase
    → removes m a p s ≡ false → CacheFits m a p slots → AllCurrent m p slots
before-current m a p s slots e b r h k t g =
    let f = h k t g in
    record {
      place = f.place;
      current = f.current (ap (removes_of m a p t.entry) e ∙ ap (λ x. x && page_of m t.entry == s.fault.page) r)
          (ap (grants_by m a p t.entry) e ∙ ungranted m a p t.entry s b);
    }

own_if : (b : Bool) (e i : ℕ) → (if b then Some e else None) ≡ Some i → e ≡ i
own_if true e i h = cc
own_if false e i h = absurd cc

-- an own post is to an entry of the page
own_post-page :
    (m : Machine) (a page : ℕ) (posts : List ℕ) (n : ℕ) (shot : Shot) (i : ℕ) → ShotOk m a page posts shot
    → own_post m a page posts n shot ≡ Some i → page_of m i ≡ page
own_post-page m a page posts n Posting i h e = absurd cc
own_post-page m a page posts n (PostingOn seen) i h e =
    subst (λ x. page_of m x ≡ page) (own_if (n == seen && has_reference n a) (entry_posted m page posts) i e)
    (entry_posted-is m page posts h.left).1
own_post-page m a page posts n (Asking k) i h e = absurd cc
own_post-page m a page posts n (Interrupting k) i h e = absurd cc
own_post-page m a page posts n (Watching k) i h e = absurd cc
own_post-page m a page posts n (AskingAgain k) i h e = absurd cc

shoot_place-session : (s : Session) (sh : Shoot) → session_of (shoot_place s sh) ≡ Some s
shoot_place-session s (Makes posts shot) = refl
shoot_place-session s (Polls posts k) = refl
shoot_place-session s (Done posts) = refl

shot-fits :
    (m : Machine) (a : ℕ) (p : Private) (f : Fault) (d : Dir) (c : Course) (shot : Shot) (sh : Shoot) (own : Option ℕ)
    (slots : List (Option Slot)) → session_of p.place ≡ Some (session_at f d (Shooting c shot))
    → removes_some (removed_by m (answer_of m) a p.now (session_at f d (Shooting c shot)) c) ≡ true
    → ((i : ℕ) → own ≡ Some i → page_of m i ≡ f.page) → CacheFits m a p slots
    → CacheFits m a
    (at (drop_own p (removed_by m (answer_of m) a p.now (session_at f d (Shooting c shot)) c) own)
    (shoot_place (session_at f d (with_shoot m (answer_of m) a p.now (session_at f d (Shooting c shot)) c sh)) sh))
    slots
shot-fits m a p f d c shot sh None slots e r o h =
    let s = session_at f d (Shooting c shot) in
    let y = with_shoot m (answer_of m) a p.now s c sh in
    let goes = with_shoot-goes m (answer_of m) a p.now s c sh in
    session-fits m a p (shoot_place (session_at f d y) sh) s y slots e (shoot_place-session (session_at f d y) sh) refl goes.before
    (λ x. ap removes_some goes.removes ∙ r) h
shot-fits m a p f d c shot sh (Some i) slots e r o h =
    let s = session_at f d (Shooting c shot) in
    let y = with_shoot m (answer_of m) a p.now s c sh in
    let goes = with_shoot-goes m (answer_of m) a p.now s c sh in
    posted-fits m a p (shoot_place (session_at f d y) sh) s y i _ slots e (shoot_place-session (session_at f d y) sh) r
    (ap removes_some goes.removes ∙ r) (o i refl) h

-- what holds of a processor in a session
pub record RunsFits (m : Machine) (a : ℕ) (p : Private) (s : Session) (slots : List (Option Slot)) : Type 0 where
  pub processor : a < m.nodes
  pub place : p.place ≡ InSession s
  pub session : SessionOk m (answer_of m) a p s
  pub are : AreSlots slots
  pub cache : CacheFits m a p slots

apart_from : (m : Machine) (a : ℕ) → a < m.nodes → (a == m.nodes) ≡ false
apart_from m a l = elim (cases_Bool (a == m.nodes)) [
  | inl e ↦ not_daemon m a l (eqb-true a m.nodes e)
  | inr e ↦ e
]

-- the session in its next phase
into-fits :
    (m : Machine) (a : ℕ) (p : Private) (s : Session) (y : Phase) (slots : List (Option Slot)) → RunsFits m a p s slots
    → IsBefore s.phase → IsBefore y → (removes m a p s ≡ true → removes m a p (with_phase s y) ≡ true)
    → CacheFits m a (at p (InSession (with_phase s y))) slots
into-fits m a p s y slots r b c k = session-fits m a p (InSession (with_phase s y)) s y slots (ap session_of r.place) refl b c k r.cache

returned-fits :
    (m : Machine) (a : ℕ) (p : Private) (f : Fault) (d : Dir) (slots : List (Option Slot)) → RunsFits m a p (session_at f d Returning) slots
    → CacheFits m a (if a == m.nodes then page_done m p f.page else at p (Leaving end.NoFrames)) slots
returned-fits m a p f d slots r =
    let s = session_at f d Returning in
    let q = at p (Leaving end.NoFrames) in
    cond_both (a == m.nodes) (page_done m p f.page) q (λ x. CacheFits m a x slots)
    (λ e. not_daemon m a r.processor (eqb-true a m.nodes e))
    (λ _. current-idle m a q slots refl
    (current-same m p q slots refl (before-current m a p s slots (ap session_of r.place) refl refl r.cache)))

unlocks : (m : Machine) (a : ℕ) (p : Private) (f : Fault) (d : Dir) (c : Course) (slots : List (Option Slot))
    → RunsFits m a p (session_at f d (Unlocking c)) slots → UnlocksOk m a p (session_at f d (Unlocking c)) c slots
unlocks m a p f d c slots r = record {
  session = ap session_of r.place;
  unlocking = refl;
  fault = r.session.fault.access r.processor;
  granted = r.session.phase.granted r.processor;
  cache = r.cache;
}

unlocked-fits :
    (m : Machine) (a : ℕ) (p : Private) (f : Fault) (d : Dir) (c : Course) (slots : List (Option Slot))
    → RunsFits m a p (session_at f d (Unlocking c)) slots
    → CacheFits m a (session_moved m (answer_of m) a p 0 (session_at f d (Unlocking c)) (Unlocking c))
    (slots_looked m p (reach_now m a p) (slots_forgotten m a p (session_at f d (Unlocking c)) c slots))
unlocked-fits m a p f d c slots r =
    let s = session_at f d (Unlocking c) in
    let left = slots_looked m p (reach_now m a p) (slots_forgotten m a p s c slots) in
    let q = forget_page m f.page (removed_by m (answer_of m) a p.now s c) p in
    let there = look_up m (reach_now m a p) q in
    cond_both (a == m.nodes) (page_done m p f.page) there (λ x. CacheFits m a x left)
    (λ e. not_daemon m a r.processor (eqb-true a m.nodes e))
    (λ _. current-idle m a there left (look_up-session m q (reach_now m a p))
    (current-same m p there left refl (unlocked-current m a p s c slots (unlocks m a p f d c slots r))))

grant-fits :
    (m : Machine) (a : ℕ) (p : Private) (f : Fault) (d : Dir) (c : Course) (slots : List (Option Slot))
    → RunsFits m a p (session_at f d (Granting c)) slots
    → CacheFits m a (session_moved m (answer_of m) a p 0 (session_at f d (Granting c)) (Granting c)) slots
grant-fits m a p f d c slots r =
    let s = session_at f d (Granting c) in
    let now = r.session.fault.access r.processor in
    let same = entry-faulted m a p s now in
    granted-fits m a p f d c (Some (translation_made m (answer_of m) a p.now s c (entry_faulted m f))) slots (ap session_of r.place)
    (ap (page_of m) same ∙ page-faulted m a p s now)
    (ap (λ e. has_right (reach_now m a p).kind (translation_at p e)) same ∙ r.session.phase.stores.lacks r.processor) r.are r.cache

pub session-moved :
    (m : Machine) (a : ℕ) (p : Private) (n : ℕ) (f : Fault) (d : Dir) (phase : Phase) (slots : List (Option Slot))
    → RunsFits m a p (session_at f d phase) slots
    → CacheFits m a (session_moved m (answer_of m) a p n (session_at f d phase) phase)
    (slots_in m a p (session_at f d phase) slots phase)
session-moved m a p n f d Stamping slots r =
    let s = session_at f d Stamping in
    into-fits m a p s (phase_after m (answer_of m) a p.now s n Stamping) slots r refl
    (seek_from-before m (answer_of m) a p.now s (record { last = last_read n; seq = seq_read n }) 0) (λ x. absurd cc)
session-moved m a p n f d (Seeking st i) slots r =
    let s = session_at f d (Seeking st i) in
    into-fits m a p s (phase_after m (answer_of m) a p.now s n (Seeking st i)) slots r refl
    (pool_found-before m (answer_of m) a p.now s st i n) (λ x. absurd cc)
session-moved m a p n f d (Taking st i seen) slots r =
    let s = session_at f d (Taking st i seen) in
    into-fits m a p s (phase_after m (answer_of m) a p.now s n (Taking st i seen)) slots r refl
    (take-before m (answer_of m) a p.now s st i seen n) (λ x. absurd cc)
session-moved m a p n f d Returning slots r = returned-fits m a p f d slots r
session-moved m a p n f d (Shooting c shot) slots r =
    shot-fits m a p f d c shot (shot_after m a f.page c.posts n shot) (own_post m a f.page c.posts n shot) slots (ap session_of r.place)
    r.session.phase.removes (λ i e. own_post-page m a f.page c.posts n shot i r.session.phase.stands e) r.cache
session-moved m a p n f d (Filling c w) slots r =
    let s = session_at f d (Filling c w) in
    let goes = fill_from-goes m (answer_of m) a p.now s c (w + 1) in
    into-fits m a p s _ slots r refl goes.before (λ x. ap removes_some goes.removes ∙ x)
session-moved m a p n f d (Reading c w) slots r = into-fits m a p (session_at f d (Reading c w)) (Copying c w n) slots r refl refl (λ x. x)
session-moved m a p n f d (Copying c w seen) slots r =
    let s = session_at f d (Copying c w seen) in
    let goes = copy_from-goes m (answer_of m) a p.now s c (w + 1) in
    into-fits m a p s _ slots r refl goes.before (λ x. ap removes_some goes.removes ∙ x)
session-moved m a p n f d (Giving c k) slots r =
    let s = session_at f d (Giving c k) in
    let goes = give_from-goes m (answer_of m) a p.now s c (k + 1) in
    into-fits m a p s _ slots r refl goes.before (λ x. ap removes_some goes.removes ∙ x)
session-moved m a p n f d (Storing c) slots r =
    let s = session_at f d (Storing c) in
    let goes = storing-goes m (answer_of m) a p.now s c (apart_from m a r.processor) in
    into-fits m a p s _ slots r refl goes.before (λ x. ap removes_some goes.removes ∙ x)
session-moved m a p n f d (Granting c) slots r = grant-fits m a p f d c slots r
session-moved m a p n f d (Unlocking c) slots r = unlocked-fits m a p f d c slots r

-- ---- any place

pub place-moved :
    (m : Machine) (a : ℕ) (p : Private) (n : ℕ) (place : Place) (slots : List (Option Slot)) → p.place ≡ place → a < m.nodes
    → PlaceOk m (answer_of m) a p place → AreSlots slots → CacheFits m a p slots
    → CacheFits m a (moved_at m (answer_of m) a p n place) (slots_at m a p slots place)
place-moved m a p n (Polling onward) slots e l k are h =
    place-fits m a p (poll_place m p onward n) slots (poll_place-session m p onward n ∙ sym (ap session_of e)) h
place-moved m a p n (Looking i moment onward) slots e l k are h =
    place-fits m a p (look_place m a p i moment onward n) slots
    (look_place-session m a p i moment onward n ∙ sym (ap session_of e)) h
place-moved m a p n (Applying i msg moment onward) slots e l k are h =
    let entry = entry_scanned m p i in
    applied-fits m a p entry (told msg (translation_at p entry)) _ (scan_from m p.turns p.guest.space (i + 1) moment onward) slots
    (scan_from-session m p.turns p.guest.space (i + 1) moment onward ∙ sym (ap session_of e)) h
place-moved m a p n Ticking slots e l k are h =
    ticked-fits m a p (record p { turns = p.turns + 1; now = n + 1 }) slots (want_of m a p.guest) (ap session_of e) refl refl h
place-moved m a p n (Switching space) slots e l k are h = empty-fits m a _
place-moved m a p n Loading slots e l k are h = over-fits m a p n slots (ap session_of e) h
place-moved m a p n Expecting slots e l k are h = place-fits m a p (Exchanging n) slots (sym (ap session_of e)) h
place-moved m a p n (Exchanging seen) slots e l k are h =
    cond_both (n == seen) (access_over m a p n) (at p (Exchanging n)) (λ q. CacheFits m a q slots)
    (λ _. over-fits m a p n slots (ap session_of e) h) (λ _. place-fits m a p (Exchanging n) slots (sym (ap session_of e)) h)
place-moved m a p n (Locking fault) slots e l k are h = locked-fits m a p fault n slots (ap session_of e) h
place-moved m a p n (InSession s) slots e l k are h =
    session-moved m a p n s.fault s.dir s.phase slots
    (record { processor = l; place = e; session = k; are = are; cache = h })
place-moved m a p n (Leaving x) slots e l k are h = place-fits m a p (Lessening x) slots (sym (ap session_of e)) h
place-moved m a p n (Lessening x) slots e l k are h = place-fits m a p (Gone x) slots (sym (ap session_of e)) h
place-moved m a p n (Gone x) slots e l k are h = h
place-moved m a p n LiveLooking slots e l k are h = not_daemon m a l k
place-moved m a p n TimeLooking slots e l k are h = not_daemon m a l k
place-moved m a p n Over slots e l k are h = h
