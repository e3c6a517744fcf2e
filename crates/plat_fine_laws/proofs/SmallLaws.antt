-- the words of flat memory are numbers of 32 bits, in every state with the invariant
use Rattle.std.specs.Prelude.{◌≡◌, ℕ, zero, suc, ◌+◌, ◌/◌, ◌<◌, ◌==◌, nat_lt, ◌&&◌, ◌||◌, not, if◌then◌else◌, Bool, true, false, List, []}
use Rattle.std.specs.Prelude.{◌∷◌, ◌++◌, cond, slice_index, slice_get, is_some, Option, Some, None}
use Rattle.std.proofs.Common.{refl, sym, ◌∙◌, arith, subst}
use Rattle.std.specs.List.{fold, list_all}
use Rattle.std.specs.Option.{option_map_or}
use Rattle.std.proofs.lemmas.Bool.{and_parts, eq-eqb, or_right}
use Rattle.std.proofs.lemmas.Bool.Decides.{nat_tests}
use Rattle.plat_base.specs.Verdicts.{Answer}
use Rattle.plat_base.specs.Machine.{Machine, is_number}
use Rattle.plat_base.specs.Pages.{program_of, entry_at, initial_value}
use Rattle.plat_base.specs.GuestRun.{GuestState, register, address, wanted, wanted_next}
use Rattle.plat_base.specs.Done.{new_value}
use Rattle.plat_base.specs.Flat.{is_write, writes_word, written, flat_value}
use Rattle.plat_base.specs.Rules.{bad_rule, bad_after, is_access_next, next_operation, may_apply}
use Rattle.plat_base.specs.Decide.{is_frame}
use Rattle.plat_base.specs.declared.guests.Instr.{Instr}
use Rattle.plat_base.specs.declared.guests.Instr.TheVariants as instr
use Rattle.plat_base.specs.declared.guests.Want.TheVariants as want
use Rattle.plat_base.specs.declared.items.Access.{Access}
use Rattle.plat_base.specs.declared.items.Kind.{Kind}
use Rattle.plat_base.specs.declared.items.Kind.TheVariants as kind
use Rattle.plat_base.specs.declared.items.Item.{Item}
use Rattle.plat_base.specs.declared.items.Item.TheVariants as item
use Rattle.plat_base.proofs.LimitLemmas.{initial_value-below}
use Rattle.plat_laws.specs.Guests.{IsWithinLimits}
use Rattle.plat_laws.proofs.AccessLaws.{access_parts}
use Rattle.plat_events.specs.Words.{value_read}
use Rattle.plat_events.specs.Sessions.{Stamping, Seeking, Taking, Returning, Shooting, Filling, Reading, Copying, Giving, Storing, Granting}
use Rattle.plat_events.specs.Sessions.{Unlocking, Session, Phase}
use Rattle.plat_events.specs.Privates.{Place, Polling, Looking, Applying, Ticking, Switching, Loading, Expecting, Exchanging, Locking}
use Rattle.plat_events.specs.Privates.{InSession, Leaving, Lessening, Gone, LiveLooking, TimeLooking, Over, Private, translation_at}
use Rattle.plat_events.specs.Privates.{actor_count}
use Rattle.plat_events.specs.Scans.{entry_scanned}
use Rattle.plat_events.specs.Events.{reach_now, item_at, session_item, access_made, with_item}
use Rattle.plat_events.specs.Kept.{private_of}
use Rattle.plat_events.specs.Runs.{Fine, ends_of}
use Rattle.plat_events.specs.Shown.{actor_of, items_by, IsReachedAlone, Shows}
use Rattle.plat_words.proofs.SingleBits.{bits_from-below}
use Rattle.plat_local_laws.specs.Faults.{WantsAccess}
use Rattle.plat_local_laws.specs.Standing.{PlaceOk}
use Rattle.plat_local_laws.proofs.AloneLaws.{after-followed, IsKept, alone-keeps}
use Rattle.plat_local_laws.proofs.PrivateLaws.{private_ok}
use Rattle.plat_fine_laws.proofs.ReachedLaws.{reached-more}
use Rattle.plat_local_laws.proofs.WordLaws.{new_value-below}
use Rattle.plat_base.proofs.RuleLemmas.{bad_at-none}
use Rattle.plat_laws.proofs.HistoryLaws.{good-items}

-- what an item writes is a number of 32 bits
abbrev pub is_small : Item → Bool
is_small (item.Access x) = not (is_write x.kind) || is_number x.new
is_small (item.Change c) = true
is_small (item.Applied x) = true
is_small (item.Switch x) = true

-- ---- what a guest writes

register-small : (xs : List ℕ) (i : ℕ) → list_all is_number xs ≡ true → slice_index xs i < 4294967296
register-small [] i h = omega arith
register-small (x ∷ xs) zero h = let parts = and_parts (is_number x) (list_all is_number xs) h in let small = parts.0 in grind
    (arith, nat_tests)
register-small (x ∷ xs) (suc i) h = register-small xs i (and_parts (is_number x) (list_all is_number xs) h).1

wanted-operand :
    (k1 : Kind) (s1 a1 o1 : ℕ) (k : Kind) (sp ad o : ℕ) (b : Bool) →
    (if b then want.Access k1 s1 a1 o1 else want.Trap) ≡ want.Access k sp ad o → o1 ≡ o
wanted-operand k1 s1 a1 o1 k sp ad o true h = cc
wanted-operand k1 s1 a1 o1 k sp ad o false h = absurd cc

operand-of :
    (m : Machine) (st : GuestState) (i : Instr) (k : Kind) (sp ad o : ℕ) → list_all is_number st.registers ≡ true →
    wanted m st i ≡ want.Access k sp ad o → o < 4294967296
operand-of m st (instr.Set d n) k sp ad o small h = absurd cc
operand-of m st (instr.Move d r) k sp ad o small h = absurd cc
operand-of m st (instr.Add d r t) k sp ad o small h = absurd cc
operand-of m st (instr.Sub d r t) k sp ad o small h = absurd cc
operand-of m st (instr.Mul d r t) k sp ad o small h = absurd cc
operand-of m st (instr.And d r t) k sp ad o small h = absurd cc
operand-of m st (instr.Shr d r t) k sp ad o small h = absurd cc
operand-of m st (instr.Load d n i) k sp ad o small h =
    let same : 0 ≡ o =
    wanted-operand kind.Load st.space (address st n i) 0 k sp ad o (is_some (entry_at m st.space (address st n i / m.words))) h in
    omega arith
operand-of m st (instr.Store r n i) k sp ad o small h =
    let same : register st r ≡ o =
    wanted-operand kind.Store st.space (address st n i) (register st r) k sp ad o (is_some (entry_at m st.space
    (address st n i / m.words))) h in
    subst (λ x. x < 4294967296) same (register-small st.registers r small)
operand-of m st (instr.Fadd d r n i) k sp ad o small h =
    let same : register st r ≡ o =
    wanted-operand kind.Add st.space (address st n i) (register st r) k sp ad o (is_some (entry_at m st.space
    (address st n i / m.words))) h in
    subst (λ x. x < 4294967296) same (register-small st.registers r small)
operand-of m st (instr.Switch next) k sp ad o small h = absurd cc
operand-of m st (instr.Print r) k sp ad o small h = absurd cc
operand-of m st (instr.Jump l) k sp ad o small h = absurd cc
operand-of m st (instr.Zero r l) k sp ad o small h = absurd cc
operand-of m st (instr.Less r t l) k sp ad o small h = absurd cc
operand-of m st instr.Halt k sp ad o small h = absurd cc

operand-next :
    (m : Machine) (st : GuestState) (i : Option Instr) (k : Kind) (sp ad o : ℕ) → list_all is_number st.registers ≡ true →
    wanted_next m st i ≡ want.Access k sp ad o → o < 4294967296
operand-next m st None k sp ad o small h = absurd cc
operand-next m st (Some i) k sp ad o small h = operand-of m st i k sp ad o small h

operand-small :
    (m : Machine) (a : ℕ) (p : Private) → list_all is_number p.guest.registers ≡ true → WantsAccess m a p →
    (reach_now m a p).operand < 4294967296
operand-small m a p small wants =
    operand-next m p.guest (slice_get (program_of m a).code p.guest.at) (reach_now m a p).kind (reach_now m a p).space
    (reach_now m a p).addr
    (reach_now m a p).operand small wants

-- ---- the items of one actor

made-small : (m : Machine) (a : ℕ) (p : Private) (n : ℕ) → list_all is_number p.guest.registers ≡ true → WantsAccess m a p →
    is_small (access_made m a p n) ≡ true
made-small m a p n small wants =
    let r = reach_now m a p in
    let below : value_read n < 4294967296 = bits_from-below n 0 32 in
    let new : new_value r.kind (value_read n) r.operand < 4294967296 =
    new_value-below r.kind (value_read n) r.operand below (operand-small m a p small wants) in
    or_right (not (is_write r.kind)) (is_number (new_value r.kind (value_read n) r.operand)) (grind (arith, nat_tests))

if-small : (b : Bool) (i : Item) → is_small i ≡ true → option_map_or is_small (if b then Some i else None) true ≡ true
if-small true i h = h
if-small false i h = refl

session-small :
    (m : Machine) (answer : Answer) (a now : ℕ) (x : Session) (ph : Phase) →
    option_map_or is_small (session_item m answer a now x ph) true ≡ true
session-small m answer a now x Stamping = refl
session-small m answer a now x (Seeking st i) = refl
session-small m answer a now x (Taking st i seen) = refl
session-small m answer a now x Returning = refl
session-small m answer a now x (Shooting c shot) = refl
session-small m answer a now x (Filling c w) = refl
session-small m answer a now x (Reading c w) = refl
session-small m answer a now x (Copying c w seen) = refl
session-small m answer a now x (Giving c k) = refl
session-small m answer a now x (Storing c) = refl
session-small m answer a now x (Granting c) = refl
session-small m answer a now x (Unlocking c) = refl

item-small :
    (m : Machine) (answer : Answer) (a : ℕ) (p : Private) (n : ℕ) (place : Place) → PlaceOk m answer a p place →
    list_all is_number p.guest.registers ≡ true → option_map_or is_small (item_at m answer a p n place) true ≡ true
item-small m answer a p n (Polling onward) ok small = refl
item-small m answer a p n (Looking i moment onward) ok small = refl
item-small m answer a p n (Applying i msg moment onward) ok small =
    if-small (may_apply msg (translation_at p (entry_scanned m p i)))
    (item.Applied (record { actor = a; entry = entry_scanned m p i; message = msg; moment = moment })) refl
item-small m answer a p n Ticking ok small = refl
item-small m answer a p n (Switching space) ok small = refl
item-small m answer a p n Loading ok small = made-small m a p n small ok.wants
item-small m answer a p n Expecting ok small = refl
item-small m answer a p n (Exchanging seen) ok small = if-small (n == seen) (access_made m a p n) (made-small m a p n small ok.access.wants)
item-small m answer a p n (Locking fault) ok small = refl
item-small m answer a p n (InSession x) ok small = session-small m answer a p.now x x.phase
item-small m answer a p n (Leaving e) ok small = refl
item-small m answer a p n (Lessening e) ok small = refl
item-small m answer a p n (Gone e) ok small = refl
item-small m answer a p n LiveLooking ok small = refl
item-small m answer a p n TimeLooking ok small = refl
item-small m answer a p n Over ok small = refl

all-more : (items : List Item) (i : Item) → list_all is_small items ≡ true → is_small i ≡ true → list_all is_small (items ++ i ∷ []) ≡ true
all-more [] i all small = rw small refl
all-more (x ∷ xs) i all small =
    let parts = and_parts (is_small x) (list_all is_small xs) all in rw (parts.0) (all-more xs i parts.1 small)

small-more :
    (items : List Item) (made : Option Item) → list_all is_small items ≡ true → option_map_or is_small made true ≡ true →
    list_all is_small (with_item items made) ≡ true
small-more items None all small = all
small-more items (Some i) all small = all-more items i all small

module _ (m : Machine) (answer : Answer) (a : ℕ) (limits : IsWithinLimits m) (within : a < actor_count m) where
  small-kept : IsKept m answer a (λ p. IsReachedAlone m answer a p × (list_all is_small p.journal ≡ true))
  small-kept p n followed_is so_far =
      let ok = private_ok m answer a p limits within so_far.0 in (
        subst (IsReachedAlone m answer a) (after-followed m answer a p n followed_is) (reached-more m answer a p n so_far.0 followed_is),
        small-more p.journal (item_at m answer a p n p.place) so_far.1 (item-small m answer a p n p.place ok.standing.place ok.registers),
      )

  pub journal-small : (p : Private) → IsReachedAlone m answer a p → list_all is_small p.journal ≡ true
  journal-small p reached =
      (alone-keeps m answer a (λ q. IsReachedAlone m answer a q × (list_all is_small q.journal ≡ true)) small-kept
      (([], tt, refl), refl) p reached).1

-- ---- the whole history

actors-good :
    (m : Machine) (answer : Answer) (before : List Item) (k : ℕ) (items : List Item) → bad_after m answer before k items ≡ None →
    list_all (λ i. is_small i || nat_lt (actor_of i) m.nodes) items ≡ true
actors-good m answer before k [] good = refl
actors-good m answer before k (i ∷ is) good =
    let parts = bad_at-none k (bad_rule m answer before i) (bad_after m answer (before ++ i ∷ []) (k + 1) is) good in
    rw (one i parts.0) (actors-good m answer (before ++ i ∷ []) (k + 1) is parts.1)
  where
    one : (i : Item) → bad_rule m answer before i ≡ None → (is_small i || nat_lt (actor_of i) m.nodes) ≡ true
    one (item.Access x) ok =
        let ordered = (access_parts m answer before x ok).0 in
        let both =
        and_parts (nat_lt x.actor m.nodes && is_frame m x.frame) (is_access_next (next_operation m before x.actor) x) ordered in
        or_right (is_small (item.Access x)) (nat_lt x.actor m.nodes) (and_parts (nat_lt x.actor m.nodes) (is_frame m x.frame) both.0).0
    one (item.Change c) ok = refl
    one (item.Applied x) ok = refl
    one (item.Switch x) ok = refl

small-by :
    (n : ℕ) (items : List Item) → list_all (λ i. is_small i || nat_lt (actor_of i) n) items ≡ true →
    ((b : ℕ) → b < n → list_all is_small (items_by b items) ≡ true) → list_all is_small items ≡ true
small-by n [] known each = refl
small-by n (i ∷ is) known each =
    let parts = and_parts (is_small i || nat_lt (actor_of i) n) (list_all (λ j. is_small j || nat_lt (actor_of j) n) is) known in
    rw (first (is_small i) refl parts.0) (small-by n is parts.1 (λ b below. rest b (actor_of i == b) (each b below)))
  where
    rest : (b : ℕ) (same : Bool) → list_all is_small (cond same (i ∷ items_by b is) (items_by b is)) ≡ true →
        list_all is_small (items_by b is) ≡ true
    rest b true all = (and_parts (is_small i) (list_all is_small (items_by b is)) all).1
    rest b false all = all

    own : (same : Bool) → same ≡ true → list_all is_small (cond same (i ∷ items_by (actor_of i) is) (items_by (actor_of i) is)) ≡ true →
        is_small i ≡ true
    own true h all = (and_parts (is_small i) (list_all is_small (items_by (actor_of i) is)) all).0
    own false h all = absurd cc

    first : (b : Bool) → is_small i ≡ b → (b || nat_lt (actor_of i) n) ≡ true → b ≡ true
    first true is h = refl
    first false is h =
        let below : actor_of i < n = grind (arith, nat_tests) in
        let small = own (actor_of i == actor_of i) (eq-eqb (actor_of i) (actor_of i) refl) (each (actor_of i) below) in
        sym is ∙ small

pub history-small :
    (m : Machine) (answer : Answer) (s : Fine) → IsWithinLimits m → Shows m answer s → list_all is_small s.history ≡ true
history-small m answer s limits shows =
    small-by m.nodes s.history
    (actors-good m answer [] 0 s.history (good-items m answer s.history (ends_of m s.privates) shows.history_good))
    (λ b below.
    let within : b < actor_count m = omega arith in
    subst (λ j. list_all is_small j ≡ true) (shows.journals_are_history b within)
    (journal-small m answer b limits within (private_of m s b) (shows.reached_alone b within)))

written-small :
    (v : ℕ) (x : Access) (b c d : Bool) → v < 4294967296 → (not b || is_number x.new) ≡ true →
    (if b && c && d then x.new else v) < 4294967296
written-small v x true true true small h = let number : is_number x.new ≡ true = h in grind (arith, nat_tests)
written-small v x true true false small h = small
written-small v x true false d small h = small
written-small v x false c d small h = small

fold-small :
    (page w v : ℕ) (items : List Item) → v < 4294967296 → list_all is_small items ≡ true →
    fold (λ x i. if writes_word page w i then written i else x) v items < 4294967296
fold-small page w v [] small all = small
fold-small page w v (i ∷ is) small all =
    let parts = and_parts (is_small i) (list_all is_small is) all in
    fold-small page w (if writes_word page w i then written i else v) is (one i parts.0) parts.1
  where
    one : (i : Item) → is_small i ≡ true → (if writes_word page w i then written i else v) < 4294967296
    one (item.Access x) h = written-small v x (is_write x.kind) (x.page == page) (x.word == w) small h
    one (item.Change c) h = small
    one (item.Applied x) h = small
    one (item.Switch x) h = small

pub flat-small :
    (m : Machine) (answer : Answer) (s : Fine) (page w : ℕ) → IsWithinLimits m → Shows m answer s →
    flat_value m s.history page w < 4294967296
flat-small m answer s page w limits shows =
    fold-small page w (initial_value m page w) s.history (initial_value-below m page w limits) (history-small m answer s limits shows)
