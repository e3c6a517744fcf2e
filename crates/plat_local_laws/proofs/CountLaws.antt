-- how many items of each kind a processor's journal has: each number that is followed keeps the bounds
use Rattle.std.proofs.Common.{◌≡◌, ℕ, zero, suc, ◌+◌, ◌*◌, ◌<◌, ◌≤◌, Bool, true, false, List, [], ◌∷◌, ◌++◌, length, Some, None, refl}
use Rattle.std.proofs.Common.{arith, ap, sym, ◌∙◌, get_or, set, sum_by, count_by, replicate}
use Rattle.std.specs.Prelude.{◌==◌, nat_lt, not, if◌then◌else◌, Option, slice_set, is_some, unwrap_or}
use Rattle.std.proofs.lemmas.Bool.{cond_both, eqb-true}
use Rattle.std.proofs.lemmas.List.Sums.{sum_by-append}
use Rattle.plat_base.specs.Items.{is_change, is_applied}
use Rattle.plat_base.specs.Verdicts.{Answer}
use Rattle.plat_base.specs.Machine.{Machine}
use Rattle.plat_base.specs.GuestRun.{Reach, want_of}
use Rattle.plat_base.specs.Flat.{is_write}
use Rattle.plat_base.specs.Held.{serves, has_right, kept_of, told}
use Rattle.plat_base.specs.Rules.{may_apply}
use Rattle.plat_base.specs.Accesses.{cause_of, right_of}
use Rattle.plat_base.specs.declared.frames.Dir.{Dir}
use Rattle.plat_base.specs.declared.items.Applied.{Applied}
use Rattle.plat_base.specs.declared.items.Kind.{Kind}
use Rattle.plat_base.specs.declared.items.Kind.TheVariants as kind
use Rattle.plat_base.specs.declared.items.Message.{Message}
use Rattle.plat_base.specs.declared.items.Message.TheVariants as message
use Rattle.plat_base.specs.declared.items.Moment.{Moment}
use Rattle.plat_base.specs.declared.items.Moment.TheVariants as moment
use Rattle.plat_base.specs.declared.items.Removed.{Removed}
use Rattle.plat_base.specs.declared.items.Removed.TheVariants as removed
use Rattle.plat_base.specs.declared.items.Translation.{Translation}
use Rattle.plat_base.specs.declared.items.Item.{Item}
use Rattle.plat_base.specs.declared.items.Item.TheVariants as item
use Rattle.plat_base.specs.declared.endings.End.{End}
use Rattle.plat_base.specs.declared.endings.End.TheVariants as end
use Rattle.plat_base.specs.declared.guests.Want.{Want}
use Rattle.plat_base.specs.declared.guests.Want.TheVariants as want
use Rattle.plat_events.specs.Words.{has_bit, has_invalidate, has_restrict}
use Rattle.plat_events.specs.Places.{entry_count}
use Rattle.plat_events.specs.Shootdowns.{own_post}
use Rattle.plat_events.specs.Sessions.{Fault, Phase, Stamping, Seeking, Taking, Returning, Shooting, Filling, Reading, Copying, Giving}
use Rattle.plat_events.specs.Sessions.{Storing, Granting, Unlocking, Session, Course, decision_of, entry_faulted, change_made}
use Rattle.plat_events.specs.Sessions.{translation_made}
use Rattle.plat_events.specs.Privates.{Onward, NewTurn, TurnOver, Relock, Rewait, Place, Polling, Looking, Applying, Ticking, Switching}
use Rattle.plat_events.specs.Privates.{Loading, Expecting, Exchanging, Locking, InSession, Leaving, Lessening, Gone, LiveLooking}
use Rattle.plat_events.specs.Privates.{TimeLooking, Over, Private, first_place, first_private, translation_at}
use Rattle.plat_events.specs.Scans.{entry_scanned, turn_over, go_on, scan_from, poll_place, look_place}
use Rattle.plat_events.specs.Events.{at, reach_now, entry_of, look_up_place, lock_place_after, turn_does, page_done, apply_message}
use Rattle.plat_events.specs.Events.{drop_own, access_over, session_moved, moved_at, access_made, applied_item, session_item, item_at}
use Rattle.plat_events.specs.Events.{named_next, is_followed}
use Rattle.plat_events.specs.Standings.{unlocking_of}
use Rattle.plat_events.specs.Shown.{bit_of}
use Rattle.plat_local_laws.specs.Faults.{IsFaultNow}
use Rattle.plat_local_laws.specs.Phases.{SessionOk}
use Rattle.plat_local_laws.specs.Standing.{PlaceOk}
use Rattle.plat_local_laws.specs.Numbers.{faults_behind, is_undone, is_in_turn, is_faulting, is_granted, is_operation}
use Rattle.plat_local_laws.specs.Numbers.{messages_left}
use Rattle.plat_local_laws.proofs.SessionLaws.{session_at}
use Rattle.plat_local_laws.proofs.GuestStepLaws.{with_made, access_now, turn_over-done, scan_from-in_turn, poll_place-in_turn}
use Rattle.plat_local_laws.proofs.GuestStepLaws.{look_place-in_turn}

-- ---- how many items of each kind

abbrev pub changes_in : List Item → ℕ
changes_in items = count_by is_change items

abbrev pub operations_in : List Item → ℕ
operations_in items = count_by is_operation items

abbrev pub messages_in : List Item → ℕ
messages_in items = count_by is_applied items

count_by-one : (p : Item → Bool) (xs : List Item) (i : Item) → count_by p (xs ++ i ∷ []) ≡ count_by p xs + (if p i then 1 else 0)
count_by-one p xs i = omega (arith, sum_by-append (λ x. if p x then 1 else 0) xs (i ∷ []))

-- the counts of one more item
record Counted (items : List Item) (i : Item) (c o s : ℕ) : Type 0 where
  changes : changes_in (items ++ i ∷ []) ≡ changes_in items + c
  operations : operations_in (items ++ i ∷ []) ≡ operations_in items + o
  messages : messages_in (items ++ i ∷ []) ≡ messages_in items + s

counted :
    (xs : List Item) (i : Item) →
    Counted xs i (if is_change i then 1 else 0) (if is_operation i then 1 else 0) (if is_applied i then 1 else 0)
counted xs i = record {
  changes = count_by-one is_change xs i;
  operations = count_by-one is_operation xs i;
  messages = count_by-one is_applied xs i;
}

-- ---- the bounds

pub record CountsOk (p : Private) : Type 0 where
  pub changes : changes_in p.journal + bit_of (is_faulting p.place) ≤ p.turns
  pub operations : operations_in p.journal + bit_of (is_in_turn p.place) ≤ p.turns
  pub messages : messages_in p.journal + sum_by messages_left p.pmap ≤ 2 * (changes_in p.journal + bit_of (is_granted p.place))

-- no item
counts-still :
    (p q : Private) → CountsOk p → q.turns ≡ p.turns → q.journal ≡ p.journal
    → sum_by messages_left q.pmap ≤ sum_by messages_left p.pmap → bit_of (is_faulting q.place) ≤ bit_of (is_faulting p.place)
    → bit_of (is_in_turn q.place) ≤ bit_of (is_in_turn p.place) → bit_of (is_granted p.place) ≤ bit_of (is_granted q.place) → CountsOk q
counts-still p q h t j w f i g = record {
  changes = rw (t, j) (omega (arith, h.changes));
  operations = rw (t, j) (omega (arith, h.operations));
  messages = rw j (omega (arith, h.messages));
}

-- an item
counts-item :
    (p q : Private) (i : Item) (c o s : ℕ) → CountsOk p → Counted p.journal i c o s → q.turns ≡ p.turns → q.journal ≡ p.journal ++ i ∷ []
    → s + sum_by messages_left q.pmap ≤ sum_by messages_left p.pmap
    → c + bit_of (is_faulting q.place) ≤ bit_of (is_faulting p.place)
    → o + bit_of (is_in_turn q.place) ≤ bit_of (is_in_turn p.place)
    → bit_of (is_granted p.place) ≤ c + bit_of (is_granted q.place) → CountsOk q
counts-item p q i c o s h k t j w f n g = record {
  changes = rw (t, j) (omega (arith, h.changes, k.changes));
  operations = rw (t, j) (omega (arith, h.operations, k.operations));
  messages = rw j (omega (arith, h.messages, k.messages, k.changes));
}

bit-most : (b : Bool) → bit_of b ≤ 1
bit-most true = omega arith
bit-most false = omega arith

-- a tick
counts-ticked :
    (p q : Private) → CountsOk p → q.turns ≡ p.turns + 1 → q.journal ≡ p.journal → q.pmap ≡ p.pmap → is_faulting p.place ≡ false
    → is_in_turn p.place ≡ false → is_granted p.place ≡ false → CountsOk q
counts-ticked p q h t j w f i g =
    let c : changes_in p.journal + 0 ≤ p.turns = rw f at h.changes in
    let o : operations_in p.journal + 0 ≤ p.turns = rw i at h.operations in
    let s : messages_in p.journal + sum_by messages_left p.pmap ≤ 2 * (changes_in p.journal + 0) = rw g at h.messages in
    record {
      changes = rw (t, j) (omega (arith, c, bit-most (is_faulting q.place)));
      operations = rw (t, j) (omega (arith, o, bit-most (is_in_turn q.place)));
      messages = rw (j, w) (omega (arith, s));
    }

-- ---- the messages that can still be applied

sum-set :
    (xs : List (Option Translation)) (e : ℕ) (v : Option Translation)
    → sum_by messages_left (set xs e v) + messages_left (get_or xs e None) ≤ sum_by messages_left xs + messages_left v
sum-set [] e v = omega arith
sum-set (x ∷ xs) zero v =
    omega (arith, sum_by-append messages_left (x ∷ []) xs, sum_by-append messages_left (v ∷ []) xs)
sum-set (x ∷ xs) (suc e) v =
    omega (arith, sum_by-append messages_left (x ∷ []) xs, sum_by-append messages_left (x ∷ []) (set xs e v), sum-set xs e v)

told-left : (msg : Message) (t : Option Translation) → may_apply msg t ≡ true → messages_left (told msg t) + 1 ≤ messages_left t
told-left msg None h = absurd cc
told-left message.Invalidate (Some t) h = some t.restricted
  where
    some : (b : Bool) → 0 + 1 ≤ (if b then 1 else 2)
    some true = omega arith
    some false = omega arith
told-left message.Restrict (Some t) h = left t.restricted h
  where
    left : (b : Bool) → not b ≡ true → 1 + 1 ≤ (if b then 1 else 2)
    left true k = absurd cc
    left false k = omega arith

told-not_more : (msg : Message) (t : Option Translation) → messages_left (told msg t) ≤ messages_left t
told-not_more message.Invalidate t = omega arith
told-not_more message.Restrict None = omega arith
told-not_more message.Restrict (Some t) = some t.restricted
  where
    some : (b : Bool) → 1 ≤ (if b then 1 else 2)
    some true = omega arith
    some false = omega arith

kept_of-not_more : (rem : Removed) (t : Option Translation) → messages_left (kept_of rem t) ≤ messages_left t
kept_of-not_more removed.Nothing t = omega arith
kept_of-not_more removed.Writes None = omega arith
kept_of-not_more removed.Writes (Some t) = omega arith
kept_of-not_more removed.All t = omega arith

drop_own-not_more : (p : Private) (rem : Removed) (o : Option ℕ) →
    sum_by messages_left (drop_own p rem o).pmap ≤ sum_by messages_left p.pmap
drop_own-not_more p rem None = omega arith
drop_own-not_more p rem (Some e) =
    omega (arith, sum-set p.pmap e (kept_of rem (translation_at p e)), kept_of-not_more rem (translation_at p e))

drop_own-same : (p : Private) (rem : Removed) (o : Option ℕ) → (drop_own p rem o).turns ≡ p.turns
drop_own-same p rem None = refl
drop_own-same p rem (Some e) = refl

-- ---- whether a fault is under way, where a scan or a look-up leads

go_on-faulting : (m : Machine) (t : ℕ) (onward : Onward) → is_faulting (go_on m t onward) ≡ faults_behind onward
go_on-faulting m t NewTurn = refl
go_on-faulting m t TurnOver = turn_over-faulting m t
  where
    turn_over-faulting : (m : Machine) (t : ℕ) → is_faulting (turn_over m t) ≡ false
    turn_over-faulting m t =
        cond_both (t == m.budget) (Leaving end.Spent) (Polling NewTurn) (λ x. is_faulting x ≡ false) (λ _. refl) (λ _. refl)
go_on-faulting m t (Relock fault) = refl
go_on-faulting m t (Rewait s) = refl

scan_from-faulting :
    (m : Machine) (t space i : ℕ) (moment : Moment) (onward : Onward) → is_faulting (scan_from m t space i moment onward)
    ≡ faults_behind onward
scan_from-faulting m t space i moment onward =
    cond_both (nat_lt i _) (Looking i moment onward) (go_on m t onward) (λ x. is_faulting x ≡ faults_behind onward)
    (λ _. refl) (λ _. go_on-faulting m t onward)

poll_place-faulting : (m : Machine) (p : Private) (onward : Onward) (n : ℕ) → is_faulting (poll_place m p onward n) ≡ faults_behind onward
poll_place-faulting m p onward n =
    cond_both (has_bit n p.guest.space) (scan_from m p.turns p.guest.space 0 moment.Interrupt onward) (go_on m p.turns onward)
    (λ x. is_faulting x ≡ faults_behind onward) (λ _. scan_from-faulting m p.turns p.guest.space 0 moment.Interrupt onward)
    (λ _. go_on-faulting m p.turns onward)

look_place-faulting :
    (m : Machine) (a : ℕ) (p : Private) (i : ℕ) (moment : Moment) (onward : Onward) (n : ℕ)
    → is_faulting (look_place m a p i moment onward n) ≡ faults_behind onward
look_place-faulting m a p i moment onward n =
    let next = scan_from m p.turns p.guest.space (i + 1) moment onward in
    cond_both (has_invalidate n a) (Applying i message.Invalidate moment onward)
    (if has_restrict n a then Applying i message.Restrict moment onward else next) (λ x. is_faulting x ≡ faults_behind onward) (λ _. refl)
    (λ _. cond_both (has_restrict n a) (Applying i message.Restrict moment onward) next (λ x. is_faulting x ≡ faults_behind onward)
    (λ _. refl) (λ _. scan_from-faulting m p.turns p.guest.space (i + 1) moment onward))

turn_over-faulting : (m : Machine) (t : ℕ) → is_faulting (turn_over m t) ≡ false
turn_over-faulting m t =
    cond_both (t == m.budget) (Leaving end.Spent) (Polling NewTurn) (λ x. is_faulting x ≡ false) (λ _. refl) (λ _. refl)

-- with enough right there is no fault
look_up-faulting :
    (m : Machine) (p : Private) (r : Reach) → has_right r.kind (translation_at p (entry_of m r)) ≡ true
    → is_faulting (look_up_place m p r) ≡ false
look_up-faulting m p r h =
    rw h (cond_both (is_write r.kind) Expecting Loading (λ x. is_faulting x ≡ false) (λ _. refl) (λ _. refl))

pub serves-cause : (k : Kind) → serves k (right_of (cause_of k)) ≡ true
serves-cause kind.Load = refl
serves-cause kind.Store = refl
serves-cause kind.Add = refl

-- the granted translation has enough right for the access under way
pub granted-right :
    (m : Machine) (answer : Answer) (a : ℕ) (p : Private) (f : Fault) (d : Dir) (phase : Phase) (now : ℕ) (c : Course)
    → IsFaultNow m a p f
    → translation_at p (entry_faulted m f) ≡ Some (translation_made m answer a now (session_at f d phase) c (entry_faulted m f))
    → has_right (reach_now m a p).kind (translation_at p (entry_of m (reach_now m a p))) ≡ true
granted-right m answer a p f d phase now c h k =
    let r = reach_now m a p in
    let e : entry_faulted m f ≡ entry_of m r = ap (λ x. unwrap_or x (length m.entries)) h.entry in
    let there : translation_at p (entry_of m r) ≡ Some (translation_made m answer a now (session_at f d phase) c (entry_faulted m f)) =
    ap (translation_at p) (sym e) ∙ k in
    rw (there, h.cause) (serves-cause r.kind)

-- ---- each step of a processor

le_of : (x y : Bool) → x ≡ y → bit_of x ≤ bit_of y
le_of x y e = rw e (omega arith)

le_none : (x : Bool) (n : ℕ) → x ≡ false → bit_of x ≤ n
le_none x n e = rw e (omega arith)

apply-counts :
    (a : ℕ) (p q : Private) (e : ℕ) (msg : Message) (moment : Moment) → CountsOk p → q.turns ≡ p.turns
    → q.pmap ≡ slice_set p.pmap e (told msg (translation_at p e)) → is_faulting q.place ≡ is_faulting p.place
    → is_in_turn q.place ≡ is_in_turn p.place → is_granted p.place ≡ false
    → CountsOk (with_made p q (applied_item a e msg moment (translation_at p e)))
apply-counts a p q e msg moment h t w f i g =
    let x : Applied = record { actor = a; entry = e; message = msg; moment = moment } in
    let s = sum-set p.pmap e (told msg (translation_at p e)) in
    let w' = ap (λ l. sum_by messages_left l) w in
    cond_both (may_apply msg (translation_at p e)) (Some (item.Applied x)) None (λ o. CountsOk (with_made p q o))
    (λ k. counts-item p (with_made p q (Some (item.Applied x))) (item.Applied x) 0 0 1 h (counted p.journal (item.Applied x)) t refl
    (omega (arith, s, w', told-left msg (translation_at p e) k)) (omega (arith, le_of (is_faulting q.place) (is_faulting p.place) f))
    (omega (arith, le_of (is_in_turn q.place) (is_in_turn p.place) i)) (omega (arith, le_none (is_granted p.place) 0 g)))
    (λ k. counts-still p (with_made p q None) h t refl (omega (arith, s, w', told-not_more msg (translation_at p e)))
    (le_of (is_faulting q.place) (is_faulting p.place) f) (le_of (is_in_turn q.place) (is_in_turn p.place) i)
    (le_none (is_granted p.place) _ g))

tick-counts :
    (m : Machine) (a : ℕ) (p q : Private) (w : Want) → CountsOk p → q.turns ≡ p.turns + 1 → q.pmap ≡ p.pmap → is_faulting p.place ≡ false
    → is_in_turn p.place ≡ false → is_granted p.place ≡ false → CountsOk (with_made p (turn_does m a q w) None)
tick-counts m a p q want.Local h t s f i g = counts-ticked p _ h t refl s f i g
tick-counts m a p q (want.Access k sp ad o) h t s f i g = counts-ticked p _ h t refl s f i g
tick-counts m a p q (want.Switch space) h t s f i g = counts-ticked p _ h t refl s f i g
tick-counts m a p q (want.Print v) h t s f i g = counts-ticked p _ h t refl s f i g
tick-counts m a p q want.Halted h t s f i g = counts-ticked p _ h t refl s f i g
tick-counts m a p q want.Trap h t s f i g = counts-ticked p _ h t refl s f i g

-- an operation of the guest, which ends its turn
over-counts :
    (p q : Private) (i : Item) → CountsOk p → Counted p.journal i 0 1 0 → q.turns ≡ p.turns → q.journal ≡ p.journal ++ i ∷ []
    → q.pmap ≡ p.pmap → is_faulting q.place ≡ false → is_in_turn q.place ≡ false → is_in_turn p.place ≡ true
    → is_granted p.place ≡ false → CountsOk q
over-counts p q i h k t j w f n e g =
    counts-item p q i 0 1 0 h k t j (omega (arith, ap (λ l. sum_by messages_left l) w))
    (omega (arith, le_none (is_faulting q.place) 0 f)) (rw (n, e) (omega arith)) (omega (arith, le_none (is_granted p.place) 0 g))

exchange-counts :
    (m : Machine) (a : ℕ) (p : Private) (n : ℕ) (same : Bool) → CountsOk p → is_faulting p.place ≡ false → is_in_turn p.place ≡ true
    → is_granted p.place ≡ false
    → CountsOk (with_made p (if same then access_over m a p n else at p (Exchanging n)) (if same then Some (access_made m a p n) else None))
exchange-counts m a p n true h f e g =
    over-counts p _ _ h (counted p.journal (item.Access _)) refl refl refl (turn_over-faulting m p.turns) (turn_over-done m p.turns) e g
exchange-counts m a p n false h f e g =
    counts-still p _ h refl refl (omega arith) (omega arith) (rw e (omega arith)) (le_none (is_granted p.place) _ g)

-- a session that goes on, and is not before its unlock
stays :
    (p q : Private) (s : Session) → CountsOk p → p.place ≡ InSession s → q.turns ≡ p.turns → q.journal ≡ p.journal
    → sum_by messages_left q.pmap ≤ sum_by messages_left p.pmap → is_some (unlocking_of s.phase) ≡ false → CountsOk q
stays p q s h e t j w g =
    counts-still p q h t j w
    (rw (ap is_faulting e) (omega (arith, bit-most (is_faulting q.place))))
    (rw (ap is_in_turn e) (omega (arith, bit-most (is_in_turn q.place))))
    (omega (arith, le_none (is_granted p.place) 0 (ap is_granted e ∙ g)))

session-counts :
    (m : Machine) (answer : Answer) (a : ℕ) (p : Private) (n : ℕ) (f : Fault) (d : Dir) (phase : Phase) → a < m.nodes → CountsOk p
    → p.place ≡ InSession (session_at f d phase) → SessionOk m answer a p (session_at f d phase)
    → CountsOk
    (with_made p (session_moved m answer a p n (session_at f d phase) phase) (session_item m answer a p.now (session_at f d phase) phase))
session-counts m answer a p n f d Stamping l h e s = stays p _ _ h e refl refl (omega arith) refl
session-counts m answer a p n f d (Seeking st i) l h e s = stays p _ _ h e refl refl (omega arith) refl
session-counts m answer a p n f d (Taking st i seen) l h e s = stays p _ _ h e refl refl (omega arith) refl
session-counts m answer a p n f d Returning l h e s =
    cond_both (a == m.nodes) (page_done m p f.page) (at p (Leaving end.NoFrames)) (λ q. CountsOk (with_made p q None))
    (λ q. absurd (omega (arith, eqb-true a m.nodes q)))
    (λ _. stays p _ _ h e refl refl (omega arith) refl)
session-counts m answer a p n f d (Shooting c shot) l h e s =
    let x = session_at f d (Shooting c shot) in
    let rem = (decision_of m answer a p.now x c).removed in
    let own = own_post m a f.page c.posts n shot in
    stays p _ _ h e (drop_own-same p rem own) refl (drop_own-not_more p rem own) refl
session-counts m answer a p n f d (Filling c w) l h e s = stays p _ _ h e refl refl (omega arith) refl
session-counts m answer a p n f d (Reading c w) l h e s = stays p _ _ h e refl refl (omega arith) refl
session-counts m answer a p n f d (Copying c w seen) l h e s = stays p _ _ h e refl refl (omega arith) refl
session-counts m answer a p n f d (Giving c k) l h e s = stays p _ _ h e refl refl (omega arith) refl
session-counts m answer a p n f d (Storing c) l h e s = stays p _ _ h e refl refl (omega arith) refl
session-counts m answer a p n f d (Granting c) l h e s =
    let x = session_at f d (Granting c) in
    let i = entry_faulted m f in
    let t : Option Translation = Some (translation_made m answer a p.now x c i) in
    let more = sum-set p.pmap i t in
    let c1 : changes_in p.journal + 1 ≤ p.turns = rw (ap is_faulting e) at h.changes in
    let o1 : operations_in p.journal + 1 ≤ p.turns = rw (ap is_in_turn e) at h.operations in
    let m1 : messages_in p.journal + sum_by messages_left p.pmap ≤ 2 * (changes_in p.journal + 0) = rw (ap is_granted e) at h.messages in
    record { changes = c1; operations = o1; messages = omega (arith, m1, more) }
session-counts m answer a p n f d (Unlocking c) l h e s =
    let x = session_at f d (Unlocking c) in
    let i = item.Change (change_made m answer a p.now x c) in
    let fault = s.fault.access l in
    let right = granted-right m answer a p f d (Unlocking c) p.now c fault (s.phase.granted l) in
    cond_both (a == m.nodes) (page_done m p f.page) _ (λ q. CountsOk (with_made p q (Some i)))
    (λ q. absurd (omega (arith, eqb-true a m.nodes q)))
    (λ _. counts-item p _ i 1 0 0 h (counted p.journal (item.Change _)) refl refl (omega arith)
    (rw (look_up-faulting m p (reach_now m a p) right, ap is_faulting e) (omega arith))
    (rw (ap is_in_turn e) (omega (arith, bit-most (is_in_turn (look_up_place m p (reach_now m a p))))))
    (rw (ap is_granted e) (omega arith)))

ended :
    (p q : Private) (x : End) → CountsOk p → is_in_turn p.place ≡ is_undone x → is_granted p.place ≡ false
    → q.turns ≡ p.turns → q.journal ≡ p.journal → q.pmap ≡ p.pmap → is_in_turn q.place ≡ is_undone x → is_faulting q.place ≡ false
    → CountsOk q
ended p q x h e g t j w i f =
    counts-still p q h t j (omega (arith, ap (λ l. sum_by messages_left l) w)) (le_none (is_faulting q.place) _ f)
    (le_of (is_in_turn q.place) (is_in_turn p.place) (i ∙ sym e)) (le_none (is_granted p.place) _ g)

-- ---- any step

pub place-counts :
    (m : Machine) (answer : Answer) (a : ℕ) (p : Private) (n : ℕ) (place : Place) → a < m.nodes → p.place ≡ place → CountsOk p
    → PlaceOk m answer a p place → is_followed m (named_next m answer a p place) n ≡ true
    → CountsOk (with_made p (moved_at m answer a p n place) (item_at m answer a p n place))
place-counts m answer a p n (Polling onward) l e h k w =
    counts-still p _ h refl refl (omega arith)
    (le_of (is_faulting (poll_place m p onward n)) (is_faulting p.place) (poll_place-faulting m p onward n ∙ sym (ap is_faulting e)))
    (le_of (is_in_turn (poll_place m p onward n)) (is_in_turn p.place) (poll_place-in_turn m p onward n ∙ sym (ap is_in_turn e)))
    (le_none (is_granted p.place) _ (ap is_granted e))
place-counts m answer a p n (Looking i moment onward) l e h k w =
    let next = look_place m a p i moment onward n in
    counts-still p _ h refl refl (omega arith)
    (le_of (is_faulting next) (is_faulting p.place) (look_place-faulting m a p i moment onward n ∙ sym (ap is_faulting e)))
    (le_of (is_in_turn next) (is_in_turn p.place) (look_place-in_turn m a p i moment onward n ∙ sym (ap is_in_turn e)))
    (le_none (is_granted p.place) _ (ap is_granted e))
place-counts m answer a p n (Applying i msg moment onward) l e h k w =
    apply-counts a p (at (apply_message p (entry_scanned m p i) msg) (scan_from m p.turns p.guest.space (i + 1) moment onward))
    (entry_scanned m p i) msg moment h refl refl
    (scan_from-faulting m p.turns p.guest.space (i + 1) moment onward ∙ sym (ap is_faulting e))
    (scan_from-in_turn m p.turns p.guest.space (i + 1) moment onward ∙ sym (ap is_in_turn e)) (ap is_granted e)
place-counts m answer a p n Ticking l e h k w =
    tick-counts m a p (record p { turns = p.turns + 1; now = n + 1 }) (want_of m a p.guest) h refl refl (ap is_faulting e)
    (ap is_in_turn e) (ap is_granted e)
place-counts m answer a p n (Switching space) l e h k w =
    over-counts p _ _ h (counted p.journal (item.Switch (record { actor = a; space = space }))) refl refl refl
    (scan_from-faulting m p.turns space 0 moment.Activation TurnOver) (scan_from-in_turn m p.turns space 0 moment.Activation TurnOver)
    (ap is_in_turn e) (ap is_granted e)
place-counts m answer a p n Loading l e h k w =
    over-counts p _ _ h (counted p.journal (item.Access (access_now m a p n))) refl refl refl (turn_over-faulting m p.turns)
    (turn_over-done m p.turns) (ap is_in_turn e) (ap is_granted e)
place-counts m answer a p n Expecting l e h k w =
    counts-still p _ h refl refl (omega arith) (omega arith) (rw (ap is_in_turn e) (omega arith))
    (le_none (is_granted p.place) _ (ap is_granted e))
place-counts m answer a p n (Exchanging seen) l e h k w =
    exchange-counts m a p n (n == seen) h (ap is_faulting e) (ap is_in_turn e) (ap is_granted e)
place-counts m answer a p n (Locking fault) l e h k w =
    counts-still p _ h refl refl (omega arith)
    (rw (ap is_faulting e) (omega (arith, bit-most (is_faulting (lock_place_after m a fault n)))))
    (rw (ap is_in_turn e) (omega (arith, bit-most (is_in_turn (lock_place_after m a fault n)))))
    (le_none (is_granted p.place) _ (ap is_granted e))
place-counts m answer a p n (InSession s) l e h k w = session-counts m answer a p n s.fault s.dir s.phase l h e k
place-counts m answer a p n (Leaving x) l e h k w = ended p _ x h (ap is_in_turn e) (ap is_granted e) refl refl refl refl refl
place-counts m answer a p n (Lessening x) l e h k w = ended p _ x h (ap is_in_turn e) (ap is_granted e) refl refl refl refl refl
place-counts m answer a p n (Gone x) l e h k w = absurd cc
place-counts m answer a p n LiveLooking l e h k w = absurd (omega arith)
place-counts m answer a p n TimeLooking l e h k w = absurd (omega arith)
place-counts m answer a p n Over l e h k w = absurd cc

-- ---- the start

none_left : (n : ℕ) → sum_by messages_left (replicate n None) ≡ 0
none_left zero = refl
none_left (suc n) = omega (arith, sum_by-append messages_left (None ∷ []) (replicate n None), none_left n)

pub counts-first : (m : Machine) (a : ℕ) → a < m.nodes → CountsOk (first_private m a)
counts-first m a l =
    let faulting : is_faulting (first_place m a) ≡ false =
    cond_both (a == m.nodes) LiveLooking (Polling NewTurn) (λ x. is_faulting x ≡ false) (λ _. refl) (λ _. refl) in
    let in_turn : is_in_turn (first_place m a) ≡ false =
    cond_both (a == m.nodes) LiveLooking (Polling NewTurn) (λ x. is_in_turn x ≡ false) (λ _. refl) (λ _. refl) in
    record {
      changes = rw faulting (omega arith);
      operations = rw in_turn (omega arith);
      messages = omega (arith, none_left (entry_count m));
    }

-- ---- the room of a journal

kinds : (i : Item) → (if is_change i then 1 else 0) + (if is_operation i then 1 else 0) + (if is_applied i then 1 else 0) ≡ 1
kinds (item.Access x) = refl
kinds (item.Change x) = refl
kinds (item.Applied x) = refl
kinds (item.Switch x) = refl

length-kinds : (items : List Item) → length items ≡ changes_in items + operations_in items + messages_in items
length-kinds [] = refl
length-kinds (i ∷ is) =
    omega (
      arith,
      kinds i,
      length-kinds is,
      sum_by-append (λ x. if is_change x then 1 else 0) (i ∷ []) is,
      sum_by-append (λ x. if is_operation x then 1 else 0) (i ∷ []) is,
      sum_by-append (λ x. if is_applied x then 1 else 0) (i ∷ []) is,
    )

granted-faulting : (x : Place) → bit_of (is_granted x) ≤ bit_of (is_faulting x)
granted-faulting (Polling onward) = omega arith
granted-faulting (Looking i moment onward) = omega arith
granted-faulting (Applying i message moment onward) = omega arith
granted-faulting Ticking = omega arith
granted-faulting (Switching space) = omega arith
granted-faulting Loading = omega arith
granted-faulting Expecting = omega arith
granted-faulting (Exchanging seen) = omega arith
granted-faulting (Locking fault) = omega arith
granted-faulting (InSession s) = bit-most (is_some (unlocking_of s.phase))
granted-faulting (Leaving e) = omega arith
granted-faulting (Lessening e) = omega arith
granted-faulting (Gone e) = omega arith
granted-faulting LiveLooking = omega arith
granted-faulting TimeLooking = omega arith
granted-faulting Over = omega arith

-- four items for each turn at most
pub counts-room : (p : Private) → CountsOk p → length p.journal ≤ 4 * p.turns
counts-room p h =
    omega (arith, length-kinds p.journal, h.changes, h.operations, h.messages, granted-faulting p.place)
