-- the guest and its journal: each number that is followed keeps them together
use Rattle.std.proofs.Common.{◌≡◌, ℕ, ◌+◌, ◌*◌, ◌/◌, ◌<◌, Bool, true, false, [], ◌∷◌, Some, None, refl, arith, ap, sym, subst, ◌∙◌, inl}
use Rattle.std.proofs.Common.{inr}
use Rattle.std.specs.Prelude.{◌==◌, nat_lt, if◌then◌else◌, Option}
use Rattle.std.proofs.lemmas.Bool.{cond_both, eqb-true, true≢false}
use Rattle.plat_base.specs.Verdicts.{Answer}
use Rattle.plat_base.specs.Machine.{Machine}
use Rattle.plat_base.specs.GuestRun.{Reach, want_of, guest_after, reach_of}
use Rattle.plat_base.specs.Done.{is_done_access, new_value}
use Rattle.plat_base.specs.Flat.{is_write}
use Rattle.plat_base.specs.Held.{has_right}
use Rattle.plat_base.specs.Rules.{may_apply}
use Rattle.plat_base.specs.Accesses.{writes_made}
use Rattle.plat_base.specs.declared.frames.Dir.{Dir}
use Rattle.plat_base.specs.declared.items.Access.{Access}
use Rattle.plat_base.specs.declared.items.Message.{Message}
use Rattle.plat_base.specs.declared.items.Message.TheVariants as message
use Rattle.plat_base.specs.declared.items.Moment.{Moment}
use Rattle.plat_base.specs.declared.items.Moment.TheVariants as moment
use Rattle.plat_base.specs.declared.items.Removed.{Removed}
use Rattle.plat_base.specs.declared.items.Translation.{Translation}
use Rattle.plat_base.specs.declared.items.Item.{Item}
use Rattle.plat_base.specs.declared.items.Item.TheVariants as item
use Rattle.plat_base.specs.declared.endings.End.TheVariants as end
use Rattle.plat_base.specs.declared.guests.Want.{Want}
use Rattle.plat_base.specs.declared.guests.Want.TheVariants as want
use Rattle.plat_laws.specs.Guests.{IsWithinLimits}
use Rattle.plat_laws.proofs.GuestLaws.{IsGuest-start}
use Rattle.plat_events.specs.Words.{has_bit, has_invalidate, has_restrict, is_locked, value_read, version_read}
use Rattle.plat_events.specs.Shootdowns.{Shoot, Makes, Polls, Done, shot_after, own_post}
use Rattle.plat_events.specs.Sessions.{Fault, Phase, Stamping, Seeking, Taking, Returning, Shooting, Filling, Reading, Copying, Giving}
use Rattle.plat_events.specs.Sessions.{Storing, Granting, Unlocking, Session, decision_of, change_made}
use Rattle.plat_events.specs.Privates.{Onward, NewTurn, TurnOver, Relock, Rewait, Place, Polling, Looking, Applying, Ticking, Switching}
use Rattle.plat_events.specs.Privates.{Loading, Expecting, Exchanging, Locking, InSession, Leaving, Lessening, Gone, LiveLooking}
use Rattle.plat_events.specs.Privates.{TimeLooking, Over, Private, actor_count, first_place, first_private, period, translation_at}
use Rattle.plat_events.specs.Scans.{entry_scanned, turn_over, go_on, scan_from, poll_place, look_place}
use Rattle.plat_events.specs.Events.{at, reach_now, entry_of, frame_by, seq_by, translation_now, look_up_place, turn_does, lock_place_after}
use Rattle.plat_events.specs.Events.{thaw_of, page_done, apply_message, drop_own, shoot_place, access_over, session_moved, moved_at}
use Rattle.plat_events.specs.Events.{access_made, applied_item, session_item, item_at, named_next, is_followed, with_item}
use Rattle.plat_events.specs.Shown.{IsReachedAlone}
use Rattle.plat_local_laws.specs.Faults.{WantsAccess}
use Rattle.plat_local_laws.specs.Standing.{PlaceOk, StandingOk}
use Rattle.plat_local_laws.specs.Numbers.{faults_behind, ticks_behind, is_in_turn, is_before_tick, GuestOk}
use Rattle.plat_local_laws.proofs.AloneLaws.{followed, alone-keeps}
use Rattle.plat_local_laws.proofs.CourseLaws.{IsActor}
use Rattle.plat_local_laws.proofs.TurnLaws.{reach_now-wanted}
use Rattle.plat_local_laws.proofs.SessionLaws.{session_at}
use Rattle.plat_local_laws.proofs.StandingLaws.{actor-is, standing-kept, standing-first}
use Rattle.plat_local_laws.proofs.GuestTurnLaws.{items_by-one, guest-item, guest-still, guest-daemon, guest-daemon_still, guest-ticked}
use Rattle.plat_local_laws.proofs.GuestTurnLaws.{guest-local, guest-switch, guest-access, is_done-made}

-- ---- whether the turn is done, where a scan or a look-up leads

pub turn_over-done : (m : Machine) (t : ℕ) → is_in_turn (turn_over m t) ≡ false
turn_over-done m t =
    cond_both (t == m.budget) (Leaving end.Spent) (Polling NewTurn) (λ x. is_in_turn x ≡ false) (λ _. refl) (λ _. refl)

go_on-in_turn : (m : Machine) (t : ℕ) (onward : Onward) → is_in_turn (go_on m t onward) ≡ faults_behind onward
go_on-in_turn m t NewTurn = refl
go_on-in_turn m t TurnOver = turn_over-done m t
go_on-in_turn m t (Relock fault) = refl
go_on-in_turn m t (Rewait s) = refl

pub scan_from-in_turn :
    (m : Machine) (t space i : ℕ) (moment : Moment) (onward : Onward) → is_in_turn (scan_from m t space i moment onward)
    ≡ faults_behind onward
scan_from-in_turn m t space i moment onward =
    cond_both (nat_lt i _) (Looking i moment onward) (go_on m t onward) (λ x. is_in_turn x ≡ faults_behind onward)
    (λ _. refl) (λ _. go_on-in_turn m t onward)

pub poll_place-in_turn : (m : Machine) (p : Private) (onward : Onward) (n : ℕ) → is_in_turn (poll_place m p onward n) ≡ faults_behind onward
poll_place-in_turn m p onward n =
    cond_both (has_bit n p.guest.space) (scan_from m p.turns p.guest.space 0 moment.Interrupt onward) (go_on m p.turns onward)
    (λ x. is_in_turn x ≡ faults_behind onward) (λ _. scan_from-in_turn m p.turns p.guest.space 0 moment.Interrupt onward)
    (λ _. go_on-in_turn m p.turns onward)

pub look_place-in_turn :
    (m : Machine) (a : ℕ) (p : Private) (i : ℕ) (moment : Moment) (onward : Onward) (n : ℕ)
    → is_in_turn (look_place m a p i moment onward n) ≡ faults_behind onward
look_place-in_turn m a p i moment onward n =
    let next = scan_from m p.turns p.guest.space (i + 1) moment onward in
    cond_both (has_invalidate n a) (Applying i message.Invalidate moment onward)
    (if has_restrict n a then Applying i message.Restrict moment onward else next) (λ x. is_in_turn x ≡ faults_behind onward) (λ _. refl)
    (λ _. cond_both (has_restrict n a) (Applying i message.Restrict moment onward) next (λ x. is_in_turn x ≡ faults_behind onward)
    (λ _. refl) (λ _. scan_from-in_turn m p.turns p.guest.space (i + 1) moment onward))

pub look_up-in_turn : (m : Machine) (p : Private) (r : Reach) → is_in_turn (look_up_place m p r) ≡ true
look_up-in_turn m p r =
    cond_both (has_right r.kind (translation_at p (entry_of m r))) (if is_write r.kind then Expecting else Loading) (Locking _)
    (λ x. is_in_turn x ≡ true)
    (λ _. cond_both (is_write r.kind) Expecting Loading (λ x. is_in_turn x ≡ true) (λ _. refl) (λ _. refl)) (λ _. refl)

lock-in_turn : (m : Machine) (a : ℕ) (fault : Fault) (n : ℕ) → is_in_turn (lock_place_after m a fault n) ≡ true
lock-in_turn m a fault n =
    cond_both (is_locked n) (if a == m.nodes then Locking fault else Polling (Relock fault)) (InSession _) (λ x. is_in_turn x ≡ true)
    (λ _. cond_both (a == m.nodes) (Locking fault) (Polling (Relock fault)) (λ x. is_in_turn x ≡ true) (λ _. refl) (λ _. refl))
    (λ _. refl)

-- and whether a tick is next
go_on-ticks : (m : Machine) (t : ℕ) (onward : Onward) → is_before_tick (go_on m t onward) ≡ false → ticks_behind onward ≡ false
go_on-ticks m t NewTurn h = h
go_on-ticks m t TurnOver h = refl
go_on-ticks m t (Relock fault) h = refl
go_on-ticks m t (Rewait s) h = refl

scan_from-ticks :
    (m : Machine) (t space i : ℕ) (moment : Moment) (onward : Onward) → is_before_tick (scan_from m t space i moment onward) ≡ false
    → ticks_behind onward ≡ false
scan_from-ticks m t space i moment onward =
    cond_both (nat_lt i _) (Looking i moment onward) (go_on m t onward) (λ x. is_before_tick x ≡ false → ticks_behind onward ≡ false)
    (λ _ h. h) (λ _. go_on-ticks m t onward)

poll_place-ticks :
    (m : Machine) (p : Private) (onward : Onward) (n : ℕ) → is_before_tick (poll_place m p onward n) ≡ false → ticks_behind onward ≡ false
poll_place-ticks m p onward n =
    cond_both (has_bit n p.guest.space) (scan_from m p.turns p.guest.space 0 moment.Interrupt onward) (go_on m p.turns onward)
    (λ x. is_before_tick x ≡ false → ticks_behind onward ≡ false)
    (λ _. scan_from-ticks m p.turns p.guest.space 0 moment.Interrupt onward) (λ _. go_on-ticks m p.turns onward)

look_place-ticks :
    (m : Machine) (a : ℕ) (p : Private) (i : ℕ) (moment : Moment) (onward : Onward) (n : ℕ)
    → is_before_tick (look_place m a p i moment onward n) ≡ false → ticks_behind onward ≡ false
look_place-ticks m a p i moment onward n =
    let next = scan_from m p.turns p.guest.space (i + 1) moment onward in
    cond_both (has_invalidate n a) (Applying i message.Invalidate moment onward)
    (if has_restrict n a then Applying i message.Restrict moment onward else next)
    (λ x. is_before_tick x ≡ false → ticks_behind onward ≡ false) (λ _ h. h)
    (λ _. cond_both (has_restrict n a) (Applying i message.Restrict moment onward) next
    (λ x. is_before_tick x ≡ false → ticks_behind onward ≡ false) (λ _ h. h)
    (λ _. scan_from-ticks m p.turns p.guest.space (i + 1) moment onward))

-- ---- one step of each kind

-- the journal with what a private state that is moved made
abbrev pub with_made : Private → Private → Option Item → Private
with_made p moved made = record moved { journal = with_item p.journal made }

apply-guest :
    (m : Machine) (a : ℕ) (p q : Private) (e : ℕ) (msg : Message) (moment : Moment) (t : Option Translation) → GuestOk m a p
    → q.turns ≡ p.turns → q.guest ≡ p.guest → is_in_turn q.place ≡ is_in_turn p.place
    → (is_before_tick q.place ≡ false → is_before_tick p.place ≡ false) → GuestOk m a (with_made p q (applied_item a e msg moment t))
apply-guest m a p q e msg moment t g ts gs k b =
    cond_both (may_apply msg t) (Some (item.Applied (record { actor = a; entry = e; message = msg; moment = moment }))) None
    (λ o. GuestOk m a (with_made p q o))
    (λ _. guest-item m a p (with_made p q (Some (item.Applied (record { actor = a; entry = e; message = msg; moment = moment }))))
    (item.Applied (record { actor = a; entry = e; message = msg; moment = moment })) g ts gs refl k b refl refl)
    (λ _. guest-still m a p (with_made p q None) g ts gs refl k b)

tick-guest :
    (m : Machine) (a : ℕ) (p q : Private) (w : Want) → GuestOk m a p → a < m.nodes → q.turns ≡ p.turns + 1 → q.guest ≡ p.guest
    → q.journal ≡ p.journal → is_in_turn p.place ≡ false → want_of m a p.guest ≡ w → GuestOk m a (with_made p (turn_does m a q w) None)
tick-guest m a p q want.Local g l t gs j e h =
    guest-local m a p _ want.Local g l h (inl refl) t (ap (λ s. guest_after m a s 0) gs) refl e (turn_over-done m q.turns)
tick-guest m a p q (want.Access k sp ad o) g l t gs j e h =
    guest-ticked m a p _ g l t gs refl e (look_up-in_turn m q (reach_of m k sp ad o))
tick-guest m a p q (want.Switch space) g l t gs j e h = guest-ticked m a p _ g l t gs refl e refl
tick-guest m a p q (want.Print v) g l t gs j e h =
    guest-local m a p _ (want.Print v) g l h (inr (v, refl)) t (ap (λ s. guest_after m a s 0) gs) refl e (turn_over-done m q.turns)
tick-guest m a p q want.Halted g l t gs j e h = guest-ticked m a p _ g l t gs refl e refl
tick-guest m a p q want.Trap g l t gs j e h = guest-ticked m a p _ g l t gs refl e refl

-- the access of a place, as its item has it
abbrev pub access_now : Machine → (a : ℕ) → Private → ℕ → Access
access_now m a p n =
    let r = reach_now m a p in record {
      actor = a;
      kind = r.kind;
      space = r.space;
      addr = r.addr;
      page = r.page;
      word = r.word;
      old = value_read n;
      new = new_value r.kind (value_read n) r.operand;
      version = version_read n + writes_made r.kind;
      frame = frame_by (translation_now m a p);
      grant = seq_by (translation_now m a p);
    }

access-guest :
    (m : Machine) (a : ℕ) (p : Private) (n : ℕ) → GuestOk m a p → a < m.nodes → WantsAccess m a p → is_in_turn p.place ≡ true
    → is_before_tick p.place ≡ false → GuestOk m a (with_made p (access_over m a p n) (Some (access_made m a p n)))
access-guest m a p n g l w e b =
    let r = reach_now m a p in
    let x = access_now m a p n in
    let does : is_done_access (reach_of m r.kind r.space r.addr r.operand) x ≡ true =
    subst (λ y. is_done_access y x ≡ true) (reach_now-wanted m a p r.kind r.space r.addr r.operand w)
    (is_done-made r x refl refl refl refl refl refl) in
    guest-access m a p _ r.kind r.space r.addr r.operand x g l w refl refl does refl refl refl e b (turn_over-done m p.turns)

exchange-guest :
    (m : Machine) (a : ℕ) (p : Private) (n : ℕ) (same : Bool) → GuestOk m a p → a < m.nodes → WantsAccess m a p → is_in_turn p.place ≡ true
    → is_before_tick p.place ≡ false
    → GuestOk m a (with_made p (if same then access_over m a p n else at p (Exchanging n)) (if same then Some (access_made m a p n)
    else None))
exchange-guest m a p n true g l w e b = access-guest m a p n g l w e b
exchange-guest m a p n false g l w e b = guest-still m a p _ g refl refl refl (sym e) (λ _. b)

-- ---- sessions

pub drop_own-still :
    (p : Private) (rem : Removed) (o : Option ℕ) → ((drop_own p rem o).turns ≡ p.turns) × ((drop_own p rem o).guest ≡ p.guest)
drop_own-still p rem None = (refl, refl)
drop_own-still p rem (Some e) = (refl, refl)

shoot-in_turn : (s : Session) (sh : Shoot) → is_in_turn (shoot_place s sh) ≡ true
shoot-in_turn s (Makes posts shot) = refl
shoot-in_turn s (Polls posts k) = refl
shoot-in_turn s (Done posts) = refl

page_done-guest :
    (m : Machine) (a : ℕ) (p : Private) (page : ℕ) (more : Option Item) → a ≡ m.nodes
    → ((q : Private) → q.turns ≡ p.turns → q.guest ≡ p.guest → GuestOk m a (with_made p q more))
    → GuestOk m a (with_made p (page_done m p page) more)
page_done-guest m a p page more d k =
    cond_both (nat_lt (page + 1) m.pages) (at p (Locking (thaw_of (page + 1))))
    (record p { due = (p.now / period m.policy + 1) * period m.policy; place = LiveLooking }) (λ q. GuestOk m a (with_made p q more))
    (λ _. k (at p (Locking (thaw_of (page + 1)))) refl refl)
    (λ _. k (record p { due = (p.now / period m.policy + 1) * period m.policy; place = LiveLooking }) refl refl)

session-guest :
    (m : Machine) (answer : Answer) (a : ℕ) (p : Private) (n : ℕ) (f : Fault) (d : Dir) (phase : Phase) → GuestOk m a p
    → is_in_turn p.place ≡ true → is_before_tick p.place ≡ false
    → GuestOk m a
    (with_made p (session_moved m answer a p n (session_at f d phase) phase) (session_item m answer a p.now (session_at f d phase) phase))
session-guest m answer a p n f d Stamping g e b = guest-still m a p _ g refl refl refl (sym e) (λ _. b)
session-guest m answer a p n f d (Seeking st i) g e b = guest-still m a p _ g refl refl refl (sym e) (λ _. b)
session-guest m answer a p n f d (Taking st i seen) g e b = guest-still m a p _ g refl refl refl (sym e) (λ _. b)
session-guest m answer a p n f d Returning g e b =
    cond_both (a == m.nodes) (page_done m p f.page) (at p (Leaving end.NoFrames)) (λ q. GuestOk m a (with_made p q None))
    (λ q. let daemon = eqb-true a m.nodes q in
    page_done-guest m a p f.page None daemon (λ q t gs. guest-daemon_still m a p (with_made p q None) g daemon t gs refl))
    (λ _. guest-still m a p _ g refl refl refl (sym e) (λ _. b))
session-guest m answer a p n f d (Shooting c shot) g e b =
    let s = session_at f d (Shooting c shot) in
    let still = drop_own-still p (decision_of m answer a p.now s c).removed (own_post m a f.page c.posts n shot) in
    guest-still m a p _ g still.0 still.1 refl (shoot-in_turn _ (shot_after m a f.page c.posts n shot) ∙ sym e) (λ _. b)
session-guest m answer a p n f d (Filling c w) g e b = guest-still m a p _ g refl refl refl (sym e) (λ _. b)
session-guest m answer a p n f d (Reading c w) g e b = guest-still m a p _ g refl refl refl (sym e) (λ _. b)
session-guest m answer a p n f d (Copying c w seen) g e b = guest-still m a p _ g refl refl refl (sym e) (λ _. b)
session-guest m answer a p n f d (Giving c k) g e b = guest-still m a p _ g refl refl refl (sym e) (λ _. b)
session-guest m answer a p n f d (Storing c) g e b = guest-still m a p _ g refl refl refl (sym e) (λ _. b)
session-guest m answer a p n f d (Granting c) g e b = guest-still m a p _ g refl refl refl (sym e) (λ _. b)
session-guest m answer a p n f d (Unlocking c) g e b =
    let s = session_at f d (Unlocking c) in
    let i = item.Change (change_made m answer a p.now s c) in
    cond_both (a == m.nodes) (page_done m p f.page) _ (λ q. GuestOk m a (with_made p q (Some i)))
    (λ q. let daemon = eqb-true a m.nodes q in
    page_done-guest m a p f.page (Some i) daemon
    (λ q t gs. guest-daemon m a p (with_made p q (Some i)) (i ∷ []) g daemon t gs refl refl (items_by-one a i refl)))
    (λ _. guest-item m a p _ i g refl refl refl (look_up-in_turn m p (reach_now m a p) ∙ sym e) (λ _. b) refl refl)

-- ---- any step

place-guest :
    (m : Machine) (answer : Answer) (a : ℕ) (p : Private) (n : ℕ) (place : Place) → p.place ≡ place → GuestOk m a p
    → PlaceOk m answer a p place → is_followed m (named_next m answer a p place) n ≡ true
    → GuestOk m a (with_made p (moved_at m answer a p n place) (item_at m answer a p n place))
place-guest m answer a p n (Polling onward) e g h k =
    guest-still m a p _ g refl refl refl (poll_place-in_turn m p onward n ∙ sym (ap is_in_turn e))
    (λ b. ap is_before_tick e ∙ poll_place-ticks m p onward n b)
place-guest m answer a p n (Looking i moment onward) e g h k =
    guest-still m a p _ g refl refl refl (look_place-in_turn m a p i moment onward n ∙ sym (ap is_in_turn e))
    (λ b. ap is_before_tick e ∙ look_place-ticks m a p i moment onward n b)
place-guest m answer a p n (Applying i msg moment onward) e g h k =
    apply-guest m a p (at (apply_message p (entry_scanned m p i) msg) (scan_from m p.turns p.guest.space (i + 1) moment onward))
    (entry_scanned m p i) msg moment (translation_at p (entry_scanned m p i)) g refl refl
    (scan_from-in_turn m p.turns p.guest.space (i + 1) moment onward ∙ sym (ap is_in_turn e))
    (λ b. ap is_before_tick e ∙ scan_from-ticks m p.turns p.guest.space (i + 1) moment onward b)
place-guest m answer a p n Ticking e g h k =
    tick-guest m a p (record p { turns = p.turns + 1; now = n + 1 }) (want_of m a p.guest) g h.processor refl refl refl (ap is_in_turn e)
    refl
place-guest m answer a p n (Switching space) e g h k =
    guest-switch m a p _ space g h.processor h.wants refl refl refl (ap is_in_turn e) (ap is_before_tick e)
    (scan_from-in_turn m p.turns space 0 moment.Activation TurnOver)
place-guest m answer a p n Loading e g h k = access-guest m a p n g h.processor h.wants (ap is_in_turn e) (ap is_before_tick e)
place-guest m answer a p n Expecting e g h k = guest-still m a p _ g refl refl refl (sym (ap is_in_turn e)) (λ _. ap is_before_tick e)
place-guest m answer a p n (Exchanging seen) e g h k =
    exchange-guest m a p n (n == seen) g h.access.processor h.access.wants (ap is_in_turn e) (ap is_before_tick e)
place-guest m answer a p n (Locking fault) e g h k =
    guest-still m a p _ g refl refl refl (lock-in_turn m a fault n ∙ sym (ap is_in_turn e)) (λ _. ap is_before_tick e)
place-guest m answer a p n (InSession s) e g h k =
    session-guest m answer a p n s.fault s.dir s.phase g (ap is_in_turn e) (ap is_before_tick e)
place-guest m answer a p n (Leaving x) e g h k =
    guest-still m a p _ g refl refl refl (sym (ap is_in_turn e)) (λ _. ap is_before_tick e)
place-guest m answer a p n (Lessening x) e g h k =
    guest-still m a p _ g refl refl refl (sym (ap is_in_turn e)) (λ _. ap is_before_tick e)
place-guest m answer a p n (Gone x) e g h k = absurd cc
place-guest m answer a p n LiveLooking e g h k = guest-daemon_still m a p _ g h refl refl refl
place-guest m answer a p n TimeLooking e g h k =
    cond_both (nat_lt n p.due) (at p LiveLooking) (record p { now = n; place = Locking (thaw_of 0) })
    (λ q. GuestOk m a (with_made p q None)) (λ _. guest-daemon_still m a p _ g h refl refl refl)
    (λ _. guest-daemon_still m a p _ g h refl refl refl)
place-guest m answer a p n Over e g h k = absurd cc

pub guest-kept :
    (m : Machine) (answer : Answer) (a : ℕ) (p : Private) (n : ℕ) → is_followed m (named_next m answer a p p.place) n ≡ true
    → StandingOk m answer a p → GuestOk m a p → GuestOk m a (followed m answer a p n)
guest-kept m answer a p n e h g = place-guest m answer a p n p.place refl g h.place e

-- ---- the start

pub guest-first : (m : Machine) (a : ℕ) → IsActor m a → GuestOk m a (first_private m a)
guest-first m a actor =
    let out : is_in_turn (first_place m a) ≡ false =
    cond_both (a == m.nodes) LiveLooking (Polling NewTurn) (λ x. is_in_turn x ≡ false) (λ _. refl) (λ _. refl) in
    record {
      run = rw out (IsGuest-start m a);
      guest = rw out refl;
      turns_some = λ l k. absurd (ticks l k);
      turns_none = λ _. refl;
      own = refl;
    }
  where
    ticks : a < m.nodes → is_before_tick (first_place m a) ≡ false → ⊥
    ticks l =
        cond_both (a == m.nodes) LiveLooking (Polling NewTurn) (λ x. is_before_tick x ≡ false → ⊥)
        (λ q _. absurd (omega (arith, eqb-true a m.nodes q))) (λ _ k. true≢false k)

pub guest_ok :
    (m : Machine) (answer : Answer) (a : ℕ) (p : Private) → IsWithinLimits m → a < actor_count m → IsReachedAlone m answer a p →
    GuestOk m a p
guest_ok m answer a p h l r =
    let actor = actor-is m a l in
    let both = alone-keeps m answer a (λ q. StandingOk m answer a q × GuestOk m a q)
    (λ q n e k. (standing-kept m answer a q n h actor e k.0, guest-kept m answer a q n e k.0 k.1))
    (standing-first m answer a h actor, guest-first m a actor) p r in
    both.1
