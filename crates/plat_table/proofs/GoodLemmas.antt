-- the journals of a run are those of its history, which is good
use Rattle.std.proofs.Common.{◌≡◌, ℕ, zero, suc, ◌<◌, ◌≤◌, Bool, true, false, List, [], ◌∷◌, length, refl, sym, ap, ◌∙◌, subst, arith}
use Rattle.std.specs.Prelude.{◌==◌, if◌then◌else◌, nat_lt, All, IsTrue, Option, Some, None, slice_index, slice_index_or}
use Rattle.std.proofs.lemmas.Bool.{ne_eqb, ltb-true, ltb-false}
use Rattle.std.proofs.lemmas.List.{length-set, length-map}
use Rattle.std.proofs.lemmas.List.Elements.{All-nil, All-push, All-head, All-tail}
use Rattle.std.proofs.lemmas.List.FromFn.{length-range_with_len}
use Rattle.std.proofs.lemmas.Option.{slice_get_within}
use Rattle.plat_base.specs.Machine.{Machine, is_machine}
use Rattle.plat_base.specs.Pages.{numbers}
use Rattle.plat_base.specs.Rules.{Good, may_apply}
use Rattle.plat_base.specs.Verdicts.{Answer, policy_answer}
use Rattle.plat_base.specs.declared.items.Item.{Item}
use Rattle.plat_base.specs.declared.words.Op.{Op}
use Rattle.plat_events.specs.Operations.{told}
use Rattle.plat_events.specs.Sessions.{Session, Phase, Stamping, Seeking, Taking, Returning, Shooting, Filling, Reading, Copying, Giving}
use Rattle.plat_events.specs.Sessions.{Storing, Granting, Unlocking}
use Rattle.plat_events.specs.Privates.{Place, Polling, Looking, Applying, Ticking, Switching, Loading, Expecting, Exchanging, Locking}
use Rattle.plat_events.specs.Privates.{InSession, Leaving, Lessening, Gone, LiveLooking, TimeLooking, Over, Private, actor_count}
use Rattle.plat_events.specs.Privates.{first_private, translation_at}
use Rattle.plat_events.specs.Events.{named_next, after, is_followed, item_if, item_at, item_of, session_item, with_item}
use Rattle.plat_events.specs.Scans.{entry_scanned}
use Rattle.plat_events.specs.Runs.{Fine, fine_start, event, event_at, run, run_from, AllLive}
use Rattle.plat_events.specs.Shown.{Shows, actor_of, items_by}
use Rattle.plat_fine_laws.specs.Changes.{IsBy}
use Rattle.plat_event_laws.proofs.RunLaws.{run-shows}
use Rattle.plat_table.specs.Closed.{ClosedSeen, IsRun, HasGoodHistory, journals_in}
use Rattle.plat_table.proofs.RunLemmas.{event-is}
use Rattle.plat_fine_laws.proofs.MadeLaws.{made-by as some-by}

-- ---- each item is its actor's

none-by : (a : ℕ) → IsBy a None
none-by a = λ i e. absurd cc

same-item : (i j : Item) → Some i ≡ Some j → i ≡ j
same-item i j e = cc

if-by : (a : ℕ) (b : Bool) (j : Item) → actor_of j ≡ a → IsBy a (if b then Some j else None)
if-by a true j h = some-by a j h
if-by a false j h = none-by a

session-by : (m : Machine) (answer : Answer) (a now : ℕ) (s : Session) (phase : Phase) → IsBy a (session_item m answer a now s phase)
session-by m answer a now s Stamping = none-by a
session-by m answer a now s (Seeking st i) = none-by a
session-by m answer a now s (Taking st i seen) = none-by a
session-by m answer a now s Returning = none-by a
session-by m answer a now s (Shooting c shot) = none-by a
session-by m answer a now s (Filling c w) = none-by a
session-by m answer a now s (Reading c w) = none-by a
session-by m answer a now s (Copying c w seen) = none-by a
session-by m answer a now s (Giving c k) = none-by a
session-by m answer a now s (Storing c) = none-by a
session-by m answer a now s (Granting c) = none-by a
session-by m answer a now s (Unlocking c) = some-by a _ refl

item-by : (m : Machine) (answer : Answer) (a : ℕ) (p : Private) (n : ℕ) (place : Place) → IsBy a (item_at m answer a p n place)
item-by m answer a p n (Polling onward) = none-by a
item-by m answer a p n (Looking i moment onward) = none-by a
item-by m answer a p n (Applying i msg moment onward) = if-by a (may_apply msg (translation_at p (entry_scanned m p i))) _ refl
item-by m answer a p n Ticking = none-by a
item-by m answer a p n (Switching space) = some-by a _ refl
item-by m answer a p n Loading = some-by a _ refl
item-by m answer a p n Expecting = none-by a
item-by m answer a p n (Exchanging seen) = if-by a (n == seen) _ refl
item-by m answer a p n (Locking fault) = none-by a
item-by m answer a p n (InSession s) = session-by m answer a p.now s s.phase
item-by m answer a p n (Leaving e) = none-by a
item-by m answer a p n (Lessening e) = none-by a
item-by m answer a p n (Gone e) = none-by a
item-by m answer a p n LiveLooking = none-by a
item-by m answer a p n TimeLooking = none-by a
item-by m answer a p n Over = none-by a

followed-by : (a : ℕ) (b : Bool) (made : Option Item) → IsBy a made → IsBy a (item_if b made)
followed-by a true made h = h
followed-by a false made h = none-by a

made-by : (m : Machine) (answer : Answer) (a : ℕ) (p : Private) (n : ℕ) → IsBy a (item_of m answer a p n)
unfolding item_of
made-by m answer a p n =
    followed-by a (is_followed m (named_next m answer a p p.place) n) (item_at m answer a p n p.place) (item-by m answer a p n p.place)

-- ---- no item of a run is another's than its actors'

abbrev IsBelow : ℕ → Item → Type 0
IsBelow n i = actor_of i < n

with-below : (n a : ℕ) (items : List Item) (made : Option Item) → a < n → IsBy a made → All (IsBelow n) items → All (IsBelow n)
    (with_item items made)
with-below n a items None l by all = all
with-below n a items (Some i) l by all = All-push (IsBelow n) items i all (subst (λ k. k < n) (sym (by i refl)) l)

from-below :
    (m : Machine) (answer : Answer) (n : ℕ) (who : List ℕ) (s : Fine) → All (IsBelow n) s.history → length s.privates ≡ n
    → AllLive m answer s who
    → All (IsBelow n) (run_from m answer s who).history
from-below m answer n [] s all long live = all
from-below m answer n (a ∷ who) s all long live =
    let p : Private = live.0.0 in
    let x : ℕ × Op = live.0.2 in
    let made : event m answer s a ≡ event_at m answer s a p (Some x) = event-is m answer s a p x live.0.1 live.0.3 in
    let within : a < n = subst (λ k. a < k) long (slice_get_within s.privates a p live.0.1) in
    let t : Fine = event_at m answer s a p (Some x) in
    from-below m answer n who (event m answer s a)
    (subst (λ (u : Fine). All (IsBelow n) u.history) (sym made)
    (with-below n a s.history (item_of m answer a p (told x.1 (slice_index s.words x.0))) within
    (made-by m answer a p (told x.1 (slice_index s.words x.0))) all))
    (subst (λ (u : Fine). length u.privates ≡ n) (sym made)
    (length-set s.privates a (after m answer a p (told x.1 (slice_index s.words x.0))) ∙ long))
    live.1

run-below :
    (m : Machine) (answer : Answer) (who : List ℕ) → AllLive m answer (fine_start m) who
    → All (IsBelow (actor_count m)) (run m answer who).history
unfolding run
run-below m answer who live =
    from-below m answer (actor_count m) who (fine_start m) (All-nil (IsBelow (actor_count m)))
    (length-map (numbers (actor_count m)) (first_private m) ∙ length-range_with_len 0 (actor_count m)) live

nobodys : (n a : ℕ) (items : List Item) → n ≤ a → All (IsBelow n) items → items_by a items ≡ []
nobodys n a [] l all = refl
nobodys n a (i ∷ is) l all =
    let other : (actor_of i == a) ≡ false =
    ne_eqb (actor_of i) a (λ e. let below = All-head (IsBelow n) i is all in absurd (omega (arith, below, e))) in
    ap (λ b. if b then i ∷ items_by a is else items_by a is) other ∙ nobodys n a is l (All-tail (IsBelow n) i is all)

-- ---- journals

journal-within :
    (privates : List Private) (a : ℕ) (d : Private) → a < length privates
    → slice_index_or (journals_in privates) a [] ≡ (slice_index_or privates a d).journal
journal-within [] a d l = absurd (omega arith)
journal-within (p ∷ ps) zero d l = refl
journal-within (p ∷ ps) (suc a) d l = journal-within ps a d (omega arith)

journal-past : (privates : List Private) (a : ℕ) → length privates ≤ a → slice_index_or (journals_in privates) a [] ≡ []
journal-past [] a l = refl
journal-past (p ∷ ps) zero l = absurd (omega arith)
journal-past (p ∷ ps) (suc a) l = journal-past ps a (omega arith)

journal-is :
    (m : Machine) (answer : Answer) (s : Fine) (a : ℕ) (b : Bool) → nat_lt a (actor_count m) ≡ b → Shows m answer s
    → All (IsBelow (actor_count m)) s.history → slice_index_or (journals_in s.privates) a [] ≡ items_by a s.history
journal-is m answer s a true e shows below =
    let within : a < actor_count m = ltb-true a (actor_count m) e in
    journal-within s.privates a (first_private m a) (omega (arith, within, shows.all_privates)) ∙ shows.journals_are_history a within
journal-is m answer s a false e shows below =
    let past : actor_count m ≤ a = ltb-false a (actor_count m) e in
    journal-past s.privates a (omega (arith, past, shows.all_privates)) ∙ sym (nobodys (actor_count m) a s.history past below)

pub has-good : (x : ClosedSeen) → IsTrue (is_machine x.machine) → IsRun x → HasGoodHistory x
has-good x limits r =
    let answer = policy_answer x.machine.policy in
    let s = run x.machine answer r.who in
    let shows = run-shows x.machine answer limits r.who r.is_run.live in
    record {
      items = s.history;
      has = λ a. ap (λ (lists : List (List Item)). slice_index_or lists a []) r.is_run.journals
          ∙ journal-is x.machine answer s a (nat_lt a (actor_count x.machine)) refl shows (run-below x.machine answer r.who r.is_run.live);
      good = subst (λ es. Good x.machine answer s.history es) (sym r.is_run.ends) shows.history_good;
    }
