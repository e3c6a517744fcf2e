-- what a run leaves, once every actor has ended
use Rattle.std.proofs.Common.{◌≡◌, ℕ, zero, suc, ◌+◌, ◌-◌, ◌≤◌, true, List, [], ◌∷◌, ◌++◌, length, map, take, drop, refl, sym, ap, ◌∙◌}
use Rattle.std.proofs.Common.{subst, arith, length-append}
use Rattle.std.specs.Prelude.{All, if◌then◌else◌, IsTrue, replicate, Some, slice_get, slice_index}
use Rattle.std.specs.Option.{option_to_list}
use Rattle.std.specs.List.{range_with_len}
use Rattle.std.proofs.lemmas.List.{length-map, length-replicate, drop_all}
use Rattle.std.proofs.lemmas.List.Elements.{All-head, All-tail, All-map}
use mathlib.Core.Option.{some}
use lib.ListN.{get_elem?}
use Rattle.plat_base.specs.Machine.{Machine, is_machine}
use Rattle.plat_base.specs.Rooms.{journal_rooms, daemon_room, processor_room}
use Rattle.plat_base.specs.Rules.{has_daemon}
use Rattle.plat_base.specs.Verdicts.{policy_answer}
use Rattle.plat_base.specs.declared.endings.Ended.{Ended}
use Rattle.plat_base.specs.declared.items.Item.{Item}
use Rattle.plat_base.specs.declared.policies.PolicyKind.{PolicyKind}
use Rattle.plat_base.specs.declared.policies.PolicyKind.TheVariants as policy
use Rattle.plat_events.specs.Privates.{Private, actor_count, is_over}
use Rattle.plat_events.specs.Runs.{run, ended_by, ends_of}
use Rattle.plat_local_laws.proofs.RoomLaws.{journal_fits}
use Rattle.plat_event_laws.proofs.RunLaws.{run-shows}
use Rattle.plat_table.specs.declared.actors.Part.{Part}
use Rattle.plat_table.specs.declared.actors.Part.TheVariants as part
use Rattle.plat_table.specs.declared.actors.Actor.{Actor}
use Rattle.plat_table.specs.Actors.{Fits, PartFits, HasRoomIn, IsSomebody, ended_in, ends_in, held, journal_in, journals_of, state_in}
use Rattle.plat_table.specs.Closed.{ClosedSeen, IsRunBy, journals_in}
use Rattle.plat_table.specs.Riders.{Rise, numbers_of}
use Rattle.plat_table.specs.Rule.{Held, Kept, IsStateIn, AreStatesIn}
use Rattle.plat_table.proofs.ActorLemmas.{actor-below, actor-alone}
use Rattle.plat_table.proofs.CrewLemmas.{All-at}
use Rattle.plat_table.proofs.RiseLemmas.{Rise-all}

-- ---- the actors stand at their numbers

pub numbers-are : (m : Machine) (actors : List Actor) → numbers_of (map (held m) actors) ≡ map (λ (x : Actor). x.number) actors
numbers-are m [] = refl
numbers-are m (x ∷ xs) = ap (λ ns. x.number ∷ ns) (numbers-are m xs)

-- where there are as many as the machine has, they are all in order
pub all-numbers : (n : ℕ) (xs : List ℕ) → Rise 0 n xs → length xs ≡ n → xs ≡ range_with_len 0 (length xs)
all-numbers n xs r e = Rise-all 0 xs (subst (λ k. Rise 0 k xs) (omega (arith, e)) r)

-- ---- the private states are those that the last seat knows

same-some : (x y : Private) → Some x ≡ Some y → x ≡ y
same-some x y e = cc

drop-get : (xs : List Private) (k : ℕ) (x : Private) → slice_get xs k ≡ Some x → drop k xs ≡ x ∷ drop (suc k) xs
drop-get [] k x e = absurd cc
drop-get (y ∷ ys) zero x e = ap (λ z. z ∷ ys) (same-some y x e)
drop-get (y ∷ ys) (suc k) x e = drop-get ys k x e

head-same : (x y : ℕ) (xs ys : List ℕ) → x ∷ xs ≡ y ∷ ys → x ≡ y
head-same x y xs ys e = cc

tail-same : (x y : ℕ) (xs ys : List ℕ) → x ∷ xs ≡ y ∷ ys → xs ≡ ys
tail-same x y xs ys e = cc

abbrev states_of : List Held → List Private
states_of crew = map (λ (h : Held). h.1) crew

states-from :
    (low : ℕ) (crew : List Held) (privates : List Private) → numbers_of crew ≡ range_with_len low (length crew) → AreStatesIn privates crew
    → length privates ≡ low + length crew → drop low privates ≡ states_of crew
states-from low [] privates order known long = drop_all low privates (omega (arith, long))
states-from low (h ∷ hs) privates order known long =
    let here : h.0 ≡ low = head-same h.0 low (numbers_of hs) (range_with_len (low + 1) (length hs)) order in
    let there : slice_get privates low ≡ Some h.1 =
    subst (λ n. slice_get privates n ≡ Some h.1) here (All-head (IsStateIn privates) h hs known) in
    let next : suc low ≡ low + 1 = omega arith in
    drop-get privates low h.1 there ∙ ap (λ k. h.1 ∷ drop k privates) next
    ∙ ap (λ ps. h.1 ∷ ps)
    (states-from (low + 1) hs privates (tail-same h.0 low (numbers_of hs) (range_with_len (low + 1) (length hs)) order)
    (All-tail (IsStateIn privates) h hs known) (omega (arith, long)))

states-all :
    (crew : List Held) (privates : List Private) → numbers_of crew ≡ range_with_len 0 (length crew) → AreStatesIn privates crew
    → length privates ≡ length crew → privates ≡ states_of crew
states-all crew privates order known long = states-from 0 crew privates order known (omega (arith, long))

-- ---- journals and ends

journal-of : (m : Machine) (x : Part) → (state_in m x).journal ≡ journal_in x
journal-of m part.Nobody = refl
journal-of m (part.Processor x) = refl
journal-of m (part.Daemon x) = refl

journals-are : (m : Machine) (actors : List Actor) → journals_of actors ≡ journals_in (states_of (map (held m) actors))
journals-are m [] = refl
journals-are m (x ∷ xs) = λ i. sym (journal-of m x.part) i ∷ journals-are m xs i

ends-one :
    (m : Machine) (low k : ℕ) (x : Part) (more : List Ended) (rest : List Private) → PartFits m low x → k ≡ m.nodes - low
    → ((j : ℕ) → j ≡ m.nodes - (low + 1) → more ≡ map ended_by (take j rest))
    → option_to_list (ended_in x) ++ more ≡ map ended_by (take k (state_in m x ∷ rest))
ends-one m low k part.Nobody more rest fits e each = absurd fits
ends-one m low zero (part.Processor x) more rest fits e each =
    let inner = fits.1.processor in absurd (omega (arith, inner, fits.0))
ends-one m low (suc k) (part.Processor x) more rest fits e each =
    ap (λ es. ended_by x.state ∷ es) (each k (omega (arith, e)))
ends-one m low zero (part.Daemon x) more rest fits e each = each 0 (omega (arith, e))
ends-one m low (suc k) (part.Daemon x) more rest fits e each = absurd (omega (arith, fits.0))

none-taken : (k : ℕ) → take {A = Private} k [] ≡ []
none-taken zero = refl
none-taken (suc k) = refl

ends-by :
    (m : Machine) (low k : ℕ) (actors : List Actor) → map (λ (x : Actor). x.number) actors ≡ range_with_len low (length actors)
    → All (Fits m) actors → k ≡ m.nodes - low → ends_in actors ≡ map ended_by (take k (states_of (map (held m) actors)))
ends-by m low k [] order fit e = ap (map ended_by) (sym (none-taken k))
ends-by m low k (x ∷ xs) order fit e =
    let here : x.number ≡ low =
    head-same x.number low (map (λ (y : Actor). y.number) xs) (range_with_len (low + 1) (length xs)) order in
    ends-one m low k x.part (ends_in xs) (states_of (map (held m) xs))
    (subst (λ a. PartFits m a x.part) here (All-head (Fits m) x xs fit)) e
    (λ j f. ends-by m (low + 1) j xs
    (tail-same x.number low (map (λ (y : Actor). y.number) xs) (range_with_len (low + 1) (length xs)) order)
    (All-tail (Fits m) x xs fit) f)

pub ends-are :
    (m : Machine) (actors : List Actor) → map (λ (x : Actor). x.number) actors ≡ range_with_len 0 (length actors) → All (Fits m) actors
    → ends_in actors ≡ ends_of m (states_of (map (held m) actors))
ends-are m actors order fit = ends-by m 0 m.nodes actors order fit (omega arith)

taken-few : (k : ℕ) (ps : List Private) → length (map ended_by (take k ps)) ≤ k
taken-few zero ps = omega arith
taken-few (suc k) [] = omega arith
taken-few (suc k) (p ∷ ps) = omega (arith, taken-few k ps)

pub ends-few :
    (m : Machine) (actors : List Actor) → map (λ (x : Actor). x.number) actors ≡ range_with_len 0 (length actors) → All (Fits m) actors
    → length (ends_in actors) ≤ m.nodes
ends-few m actors order fit =
    subst (λ (es : List Ended). length es ≤ m.nodes) (sym (ends-are m actors order fit))
    (taken-few m.nodes (states_of (map (held m) actors)))

-- ---- rooms

rooms-by : (nodes budget pages : ℕ) (p : PolicyKind) → length (option_to_list (daemon_room nodes budget pages p)) ≡
    (if has_daemon p then 1 else 0)
rooms-by nodes budget pages policy.Place = refl
rooms-by nodes budget pages policy.Replicate = refl
rooms-by nodes budget pages (policy.Platinum t1 t2) = refl

pub rooms-actors : (m : Machine) → length (journal_rooms m) ≡ actor_count m
rooms-actors m =
    length-append (replicate m.nodes (processor_room m.budget)) (option_to_list (daemon_room m.nodes m.budget m.pages m.policy))
    ∙ ap (λ n. n + length (option_to_list (daemon_room m.nodes m.budget m.pages m.policy)))
    (length-replicate m.nodes (processor_room m.budget))
    ∙ ap (λ n. m.nodes + n) (rooms-by m.nodes m.budget m.pages m.policy)

somebody : (m : Machine) (a : ℕ) (x : Part) → PartFits m a x → IsSomebody x
somebody m a part.Nobody fits = absurd fits
somebody m a (part.Processor x) fits = tt
somebody m a (part.Daemon x) fits = tt

pub has-room : (m : Machine) (x : Actor) → IsTrue (is_machine m) → Fits m x → HasRoomIn (journal_rooms m) x
has-room m x limits fits = record {
  somebody = somebody m x.number x.part fits;
  actor = omega (arith, actor-below m x.number x.part fits, rooms-actors m);
  room = subst (λ (items : List Item). length items ≤ slice_index (journal_rooms m) x.number) (journal-of m x.part)
      (journal_fits m (policy_answer m.policy) x.number (state_in m x.part) limits (actor-below m x.number x.part fits)
      (actor-alone m x.number x.part fits));
}

-- ---- the run

states-over : (crew : List Held) → All (λ (h : Held). is_over h.1.place ≡ true) crew → All (λ (p : Private). is_over p.place ≡ true)
    (states_of crew)
states-over crew over = All-map (λ (p : Private). is_over p.place ≡ true) (λ (h : Held). h.1) crew over

pub left-by :
    (m : Machine) (words : List ℕ) (crews : List (List Held)) (who : List ℕ) (privates : List Private) (id : ℕ) (actors : List Actor)
    (x : ClosedSeen) → IsTrue (is_machine m) → Kept m words crews who privates → get_elem? crews id ≡ some (map (held m) actors)
    → All (Fits m) actors → map (λ (y : Actor). y.number) actors ≡ range_with_len 0 (length actors) → length actors ≡ actor_count m
    → All (λ (h : Held). is_over h.1.place ≡ true) (map (held m) actors) → x.machine ≡ m → x.words ≡ words
    → x.journals.lists ≡ journals_of actors → x.ends ≡ ends_in actors → IsRunBy x who
left-by m words crews who privates id actors x limits kept there fit order long over is_m is_words is_journals is_ends =
    let answer = policy_answer m.policy in
    let crew = map (held m) actors in
    let known : AreStatesIn privates crew = All-at (AreStatesIn privates) crews id crew kept.known there in
    let shown = run-shows m answer limits who kept.reached.live in
    let count : length privates ≡ length crew =
    ap (λ (ps : List Private). length ps) (sym kept.reached.privates_are) ∙ shown.all_privates ∙ sym long ∙ sym
    (length-map actors (held m)) in
    let in_order : numbers_of crew ≡ range_with_len 0 (length crew) =
    numbers-are m actors ∙ order ∙ ap (range_with_len 0) (sym (length-map actors (held m))) in
    let states : (run m answer who).privates ≡ states_of crew =
    kept.reached.privates_are ∙ states-all crew privates in_order known count in
    subst (λ (y : ClosedSeen). IsRunBy y who)
    (sym (λ i. record { machine = is_m i; words = x.words; journals = x.journals; ends = x.ends }))
    (record {
      live = kept.reached.live;
      words = is_words ∙ sym kept.reached.words_are;
      journals = is_journals ∙ journals-are m actors ∙ ap journals_in (sym states);
      ends = is_ends ∙ ends-are m actors order fit ∙ ap (ends_of m) (sym states);
      over = subst (λ (ps : List Private). All (λ (p : Private). is_over p.place ≡ true) ps) (sym states) (states-over crew over);
    })
