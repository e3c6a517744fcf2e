-- the times of changes fit 32 bits, in every state with the invariant
use Rattle.std.specs.Prelude.{◌≡◌, ℕ, ◌+◌, ◌*◌, ◌<◌, ◌≤◌, ◌==◌, nat_lt, if◌then◌else◌, Bool, true, false, List, [], ◌∷◌, ◌++◌, cond, Option}
use Rattle.std.specs.Prelude.{Some, None}
use Rattle.std.proofs.Common.{refl, arith, subst}
use Rattle.std.specs.List.{fold, list_all}
use Rattle.std.specs.Option.{option_map_or}
use Rattle.std.proofs.lemmas.Bool.{and_parts, eq-eqb}
use Rattle.std.proofs.lemmas.Bool.Decides.{nat_tests}
use Rattle.std.proofs.lemmas.Nat.{mul-le}
use Rattle.plat_base.specs.Verdicts.{Answer}
use Rattle.plat_base.specs.Machine.{Machine}
use Rattle.plat_base.specs.Directories.{change_on, last_of, last_after, sets_last}
use Rattle.plat_base.specs.GuestRun.{want_of}
use Rattle.plat_base.specs.declared.guests.Want.{Want}
use Rattle.plat_base.specs.declared.guests.Want.TheVariants as want
use Rattle.plat_base.specs.declared.items.Item.{Item}
use Rattle.plat_base.specs.declared.items.Item.TheVariants as item
use Rattle.plat_base.specs.declared.items.Removed.{Removed}
use Rattle.plat_laws.specs.Guests.{IsWithinLimits}
use Rattle.plat_laws.proofs.Limits.{nodes-most, budget-most}
use Rattle.plat_events.specs.Words.{last_number}
use Rattle.plat_events.specs.Sessions.{Stamping, Seeking, Taking, Returning, Shooting, Filling, Reading, Copying, Giving, Storing, Granting}
use Rattle.plat_events.specs.Sessions.{Unlocking, Session, Phase}
use Rattle.plat_events.specs.Privates.{Place, Polling, Looking, Applying, Ticking, Switching, Loading, Expecting, Exchanging, Locking}
use Rattle.plat_events.specs.Privates.{InSession, Leaving, Lessening, Gone, LiveLooking, TimeLooking, Over, Private, actor_count}
use Rattle.plat_events.specs.Events.{named_next, is_followed, moved_at, session_moved, turn_does, drop_own, page_done, item_at}
use Rattle.plat_events.specs.Events.{session_item, with_item}
use Rattle.plat_events.specs.Kept.{private_of}
use Rattle.plat_events.specs.Runs.{Fine, ends_of}
use Rattle.plat_events.specs.Shown.{actor_of, items_by, IsReachedAlone, Shows}
use Rattle.plat_local_laws.proofs.AloneLaws.{IsKept, alone-keeps}
use Rattle.plat_session_laws.proofs.SeqLaws.{is_within, changes-within}
use Rattle.plat_laws.proofs.HistoryLaws.{good-items}

-- ---- the tick that an actor knows

if-now : (b : Bool) (x y : Private) (k : ℕ) → x.now ≡ k → y.now ≡ k → (if b then x else y).now ≡ k
if-now true x y k hx hy = hx
if-now false x y k hx hy = hy

turn-now : (m : Machine) (a : ℕ) (p : Private) (w : Want) → (turn_does m a p w).now ≡ p.now
turn-now m a p want.Local = refl
turn-now m a p (want.Access kind space addr operand) = refl
turn-now m a p (want.Switch space) = refl
turn-now m a p (want.Print value) = refl
turn-now m a p want.Halted = refl
turn-now m a p want.Trap = refl

drop-now : (p : Private) (rem : Removed) (o : Option ℕ) → (drop_own p rem o).now ≡ p.now
drop-now p rem None = refl
drop-now p rem (Some e) = refl

done-now : (m : Machine) (p : Private) (page : ℕ) → (page_done m p page).now ≡ p.now
done-now m p page = if-now (nat_lt (page + 1) m.pages) _ _ p.now refl refl

session-now : (m : Machine) (answer : Answer) (a : ℕ) (p : Private) (n : ℕ) (x : Session) (ph : Phase) →
    (session_moved m answer a p n x ph).now ≡ p.now
session-now m answer a p n x Stamping = refl
session-now m answer a p n x (Seeking st i) = refl
session-now m answer a p n x (Taking st i seen) = refl
session-now m answer a p n x Returning = if-now (a == m.nodes) _ _ p.now (done-now m p x.fault.page) refl
session-now m answer a p n x (Shooting c shot) = drop-now p _ _
session-now m answer a p n x (Filling c w) = refl
session-now m answer a p n x (Reading c w) = refl
session-now m answer a p n x (Copying c w seen) = refl
session-now m answer a p n x (Giving c k) = refl
session-now m answer a p n x (Storing c) = refl
session-now m answer a p n x (Granting c) = refl
session-now m answer a p n x (Unlocking c) = if-now (a == m.nodes) _ _ p.now (done-now m p x.fault.page) refl

pass-small : (b : Bool) (x y : Private) → x.now < 4294967295 → y.now < 4294967295 → (if b then x else y).now < 4294967295
pass-small true x y hx hy = hx
pass-small false x y hx hy = hy

same-small : (x k : ℕ) → x ≡ k → k < 4294967295 → x < 4294967295
same-small x k same small = omega (arith, same)

now-small :
    (m : Machine) (answer : Answer) (a : ℕ) (p : Private) (n : ℕ) (place : Place) → IsWithinLimits m →
    is_followed m (named_next m answer a p place) n ≡ true → p.now < 4294967295 → (moved_at m answer a p n place).now < 4294967295
now-small m answer a p n (Polling onward) limits found small = small
now-small m answer a p n (Looking i moment onward) limits found small = small
now-small m answer a p n (Applying i msg moment onward) limits found small = small
now-small m answer a p n Ticking limits found small =
    let tick : n ≤ m.nodes * m.budget = grind (arith, nat_tests) in
    same-small _ (n + 1) (turn-now m a (record p { turns = p.turns + 1; now = n + 1 }) (want_of m a p.guest))
    (omega (arith, tick, mul-le m.nodes m.budget 8 65536 (nodes-most m limits) (budget-most m limits)))
now-small m answer a p n (Switching space) limits found small = small
now-small m answer a p n Loading limits found small = small
now-small m answer a p n Expecting limits found small = small
now-small m answer a p n (Exchanging seen) limits found small = pass-small (n == seen) _ _ small small
now-small m answer a p n (Locking fault) limits found small = small
now-small m answer a p n (InSession x) limits found small = same-small _ p.now (session-now m answer a p n x x.phase) small
now-small m answer a p n (Leaving e) limits found small = small
now-small m answer a p n (Lessening e) limits found small = small
now-small m answer a p n (Gone e) limits found small = small
now-small m answer a p n LiveLooking limits found small = small
now-small m answer a p n TimeLooking limits found small =
    let tick : n ≤ m.nodes * m.budget = grind (arith, nat_tests) in
    pass-small (nat_lt n p.due) _ _ small
    (omega (arith, tick, mul-le m.nodes m.budget 8 65536 (nodes-most m limits) (budget-most m limits)))
now-small m answer a p n Over limits found small = small

-- ---- the changes of one actor

abbrev pub is_timely : Item → Bool
is_timely (item.Access x) = true
is_timely (item.Change c) = nat_lt c.time 4294967295
is_timely (item.Applied x) = true
is_timely (item.Switch x) = true

if-timely : (b : Bool) (i : Item) → is_timely i ≡ true → option_map_or is_timely (if b then Some i else None) true ≡ true
if-timely true i h = h
if-timely false i h = refl

session-timely :
    (m : Machine) (answer : Answer) (a now : ℕ) (x : Session) (ph : Phase) → now < 4294967295 →
    option_map_or is_timely (session_item m answer a now x ph) true ≡ true
session-timely m answer a now x Stamping small = refl
session-timely m answer a now x (Seeking st i) small = refl
session-timely m answer a now x (Taking st i seen) small = refl
session-timely m answer a now x Returning small = refl
session-timely m answer a now x (Shooting c shot) small = refl
session-timely m answer a now x (Filling c w) small = refl
session-timely m answer a now x (Reading c w) small = refl
session-timely m answer a now x (Copying c w seen) small = refl
session-timely m answer a now x (Giving c k) small = refl
session-timely m answer a now x (Storing c) small = refl
session-timely m answer a now x (Granting c) small = refl
session-timely m answer a now x (Unlocking c) small = grind (arith, nat_tests)

item-timely :
    (m : Machine) (answer : Answer) (a : ℕ) (p : Private) (n : ℕ) (place : Place) → p.now < 4294967295 →
    option_map_or is_timely (item_at m answer a p n place) true ≡ true
item-timely m answer a p n (Polling onward) small = refl
item-timely m answer a p n (Looking i moment onward) small = refl
item-timely m answer a p n (Applying i msg moment onward) small = if-timely _ (item.Applied _) refl
item-timely m answer a p n Ticking small = refl
item-timely m answer a p n (Switching space) small = refl
item-timely m answer a p n Loading small = refl
item-timely m answer a p n Expecting small = refl
item-timely m answer a p n (Exchanging seen) small = if-timely (n == seen) (item.Access _) refl
item-timely m answer a p n (Locking fault) small = refl
item-timely m answer a p n (InSession x) small = session-timely m answer a p.now x x.phase small
item-timely m answer a p n (Leaving e) small = refl
item-timely m answer a p n (Lessening e) small = refl
item-timely m answer a p n (Gone e) small = refl
item-timely m answer a p n LiveLooking small = refl
item-timely m answer a p n TimeLooking small = refl
item-timely m answer a p n Over small = refl

all-more : (items : List Item) (i : Item) → list_all is_timely items ≡ true → is_timely i ≡ true → list_all is_timely (items ++ i ∷ [])
    ≡ true
all-more [] i all small = rw small refl
all-more (x ∷ xs) i all small =
    let parts = and_parts (is_timely x) (list_all is_timely xs) all in rw (parts.0) (all-more xs i parts.1 small)

timely-more :
    (items : List Item) (made : Option Item) → list_all is_timely items ≡ true → option_map_or is_timely made true ≡ true →
    list_all is_timely (with_item items made) ≡ true
timely-more items None all small = all
timely-more items (Some i) all small = all-more items i all small

journal-timely :
    (m : Machine) (answer : Answer) (a : ℕ) (p : Private) → IsWithinLimits m → IsReachedAlone m answer a p →
    list_all is_timely p.journal ≡ true
journal-timely m answer a p limits reached =
    (alone-keeps m answer a (λ (q : Private). (q.now < 4294967295) × (list_all is_timely q.journal ≡ true)) kept (omega arith, refl) p
    reached).1
  where
    kept : IsKept m answer a (λ (q : Private). (q.now < 4294967295) × (list_all is_timely q.journal ≡ true))
    kept q n found so_far = (
      now-small m answer a q n q.place limits found so_far.0,
      timely-more q.journal (item_at m answer a q n q.place) so_far.1 (item-timely m answer a q n q.place so_far.0),
    )

-- ---- the whole history

timely-by :
    (n : ℕ) (items : List Item) → list_all (is_within n) items ≡ true → ((b : ℕ) → b < n → list_all is_timely (items_by b items) ≡ true) →
    list_all is_timely items ≡ true
timely-by n [] known each = refl
timely-by n (i ∷ is) known each =
    let parts = and_parts (is_within n i) (list_all (is_within n) is) known in
    rw (first i parts.0 (λ below. own (actor_of i == actor_of i) (eq-eqb (actor_of i) (actor_of i) refl) (each (actor_of i) below)))
    (timely-by n is parts.1 (λ b below. rest b (actor_of i == b) (each b below)))
  where
    rest : (b : ℕ) (same : Bool) → list_all is_timely (cond same (i ∷ items_by b is) (items_by b is)) ≡ true →
        list_all is_timely (items_by b is) ≡ true
    rest b true all = (and_parts (is_timely i) (list_all is_timely (items_by b is)) all).1
    rest b false all = all

    own : (same : Bool) → same ≡ true → list_all is_timely (cond same (i ∷ items_by (actor_of i) is) (items_by (actor_of i) is)) ≡ true →
        is_timely i ≡ true
    own true h all = (and_parts (is_timely i) (list_all is_timely (items_by (actor_of i) is)) all).0
    own false h all = absurd cc

    first : (j : Item) → is_within n j ≡ true → (actor_of j < n → is_timely j ≡ true) → is_timely j ≡ true
    first (item.Access x) inside more = refl
    first (item.Change c) inside more = more (let low : nat_lt c.actor n ≡ true = inside in grind (arith, nat_tests))
    first (item.Applied x) inside more = refl
    first (item.Switch x) inside more = refl

last-small :
    (page : ℕ) (last : Option ℕ) (items : List Item) → list_all is_timely items ≡ true → last_number last < 4294967296 →
    last_number (fold (λ l i. last_after l (change_on page i)) last items) < 4294967296
last-small page last [] all small = small
last-small page last (item.Access x ∷ is) all small = last-small page last is all small
last-small page last (item.Change c ∷ is) all small =
    let parts = and_parts (nat_lt c.time 4294967295) (list_all is_timely is) all in
    by (c.page == page) parts.0 (λ l h. last-small page l is parts.1 h)
  where
    by :
        (b : Bool) → nat_lt c.time 4294967295 ≡ true →
        ((l : Option ℕ) → last_number l < 4294967296 → last_number (fold (λ k i. last_after k (change_on page i)) l is) < 4294967296) →
        last_number (fold (λ k i. last_after k (change_on page i)) (last_after last (if b then Some c else None)) is) < 4294967296
    by false time more = more last small
    by true time more = more (if sets_last c.action then Some c.time else last) (one (sets_last c.action))
      where
        one : (e : Bool) → last_number (if e then Some c.time else last) < 4294967296
        one true = let low : c.time < 4294967295 = grind (arith, nat_tests) in omega arith
        one false = small
last-small page last (item.Applied x ∷ is) all small = last-small page last is all small
last-small page last (item.Switch x ∷ is) all small = last-small page last is all small

-- the tick of a page's last invalidation fits its stamp
pub last-fits :
    (m : Machine) (answer : Answer) (s : Fine) (page : ℕ) → IsWithinLimits m → Shows m answer s →
    last_number (last_of s.history page) < 4294967296
last-fits m answer s page limits shows =
    last-small page None s.history
    (timely-by (actor_count m) s.history
    (changes-within m answer [] 0 s.history (good-items m answer s.history (ends_of m s.privates) shows.history_good))
    (λ b below.
    subst (λ j. list_all is_timely j ≡ true) (shows.journals_are_history b below)
    (journal-timely m answer b (private_of m s b) limits (shows.reached_alone b below))))
    (omega arith)
