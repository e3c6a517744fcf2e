-- boards at the start, and the words at the end
use Rattle.plat_base.specs.declared.items.Item.{Item}
use Rattle.std.proofs.Common.{◌≡◌, ℕ, zero, suc, ◌+◌, ◌<◌, ◌≤◌, ◌≢◌, Bool, true, false, List, [], ◌∷◌, ◌++◌, length, map, set, take, drop}
use Rattle.std.proofs.Common.{refl, sym, ap, ◌∙◌, subst, arith, zero-add, inl, inr}
use Rattle.std.specs.Prelude.{◌==◌, ◌⊎◌, if◌then◌else◌, All, IsTrue, Some, slice_get, slice_index_or}
use Rattle.std.specs.Option.{option_map}
use Rattle.std.specs.List.{range_with_len}
use Rattle.std.proofs.lemmas.Bool.Decides.{nat_tests}
use Rattle.std.proofs.lemmas.Option.{slice_get-map, slice_get_read}
use Rattle.std.proofs.lemmas.List.{length-map, map-append, get_or-drop}
use Rattle.std.proofs.lemmas.List.Elements.{All-nil, All-cons, All-append}
use Rattle.std.proofs.lemmas.List.FromFn.{length-range_with_len, map-range_with_len_more}
use mathlib.Core.Option.{some, some-injective, some-ne-none}
use lib.ListN.{get_elem?}
use Rattle.plat_base.specs.Machine.{Machine, is_machine}
use Rattle.plat_base.specs.Pages.{numbers}
use Rattle.plat_base.specs.Rules.{has_daemon}
use Rattle.plat_base.specs.Verdicts.{policy_answer}
use Rattle.plat_base.specs.declared.policies.PolicyKind.{PolicyKind}
use Rattle.plat_base.specs.declared.policies.PolicyKind.TheVariants as policy
use Rattle.plat_events.specs.Places.{first_words}
use Rattle.plat_events.specs.Privates.{actor_count, first_private, first_privates}
use Rattle.plat_events.specs.Runs.{Reached}
use Rattle.atomic_table.specs.Table.{Me}
use Rattle.plat_table.specs.declared.actors.Actor.{Actor}
use Rattle.plat_table.specs.Actors.{Fits, held, journal_in, journals_of}
use Rattle.plat_table.specs.Riders.{Rides, Rise, numbers_of}
use Rattle.plat_table.specs.Rule.{Held, Known, Kept, IsStateIn, AreStatesIn, held_first, times}
use Rattle.plat_table.proofs.RunLemmas.{reached-start}
use Rattle.plat_table.proofs.RiseLemmas.{Rise-range}

-- ---- words, one after another

pub read-more :
    (xs ys : List ℕ) (k x : ℕ) → get_elem? xs k ≡ some x → k < length ys
    → set (take k xs ++ drop k ys) k x ≡ take (suc k) xs ++ drop (suc k) ys
read-more [] ys k x e within = absurd (some-ne-none x (sym e))
read-more (a ∷ xs) [] k x e within = absurd (omega arith)
read-more (a ∷ xs) (b ∷ ys) zero x e within = ap (λ n. n ∷ ys) (sym (some-injective a x e))
read-more (a ∷ xs) (b ∷ ys) (suc k) x e within = ap (λ ns. a ∷ ns) (read-more xs ys k x e (omega arith))

-- ---- all actors at the start

numbers-get : (low n k : ℕ) → k < n → slice_get (range_with_len low n) k ≡ Some (low + k)
numbers-get low zero k h = absurd (omega arith)
numbers-get low (suc n) zero h = ap Some (omega arith)
numbers-get low (suc n) (suc k) h = numbers-get (low + 1) n k (omega arith) ∙ ap Some (omega arith)

first-get : (m : Machine) (a : ℕ) → a < actor_count m → slice_get (first_privates m) a ≡ Some (first_private m a)
first-get m a h =
    slice_get-map (first_private m) (numbers (actor_count m)) a
    ∙ ap (option_map (first_private m)) (numbers-get 0 (actor_count m) a h)
    ∙ ap (λ k. Some (first_private m k)) (omega arith)

first-known :
    (m : Machine) (low n : ℕ) → low + n ≤ actor_count m → AreStatesIn (first_privates m) (map (held_first m) (range_with_len low n))
first-known m low zero h = All-nil (IsStateIn (first_privates m))
first-known m low (suc n) h =
    All-cons (IsStateIn (first_privates m)) (held_first m low) (map (held_first m) (range_with_len (low + 1) n))
    (first-get m low (omega (arith, h))) (first-known m (low + 1) n (omega (arith, h)))

other-than : (a b : ℕ) → a < b → (b == a) ≡ false
other-than a b h = grind (arith, nat_tests)

first-none : (m : Machine) (a low n : ℕ) → a < low → times a (map (held_first m) (range_with_len low n)) ≡ 0
first-none m a low zero h = refl
first-none m a low (suc n) h =
    ap (λ (b : Bool). (if b then 1 else 0) + times a (map (held_first m) (range_with_len (low + 1) n))) (other-than a low h)
    ∙ (let none = first-none m a (low + 1) n (omega (arith, h)) in omega (arith, none))

once-by : (low a t : ℕ) (b : Bool) → (low == a) ≡ b → (low ≡ a → t ≡ 0) → (low ≢ a → t ≡ 1) → (if b then 1 else 0) + t ≡ 1
once-by low a t true e none once = let zero_more = none (grind (arith, nat_tests)) in omega (arith, zero_more)
once-by low a t false e none once = let one = once (λ s. grind (arith, nat_tests)) in omega (arith, one)

first-once : (m : Machine) (a low n : ℕ) → low ≤ a → a < low + n → times a (map (held_first m) (range_with_len low n)) ≡ 1
first-once m a low zero l h = absurd (omega arith)
first-once m a low (suc n) l h =
    once-by low a (times a (map (held_first m) (range_with_len (low + 1) n))) (low == a) refl
    (λ same. first-none m a (low + 1) n (omega (arith, same)))
    (λ apart. first-once m a (low + 1) n (omega (arith, apart, l)) (omega (arith, h)))

pub kept-start :
    (m : Machine) (words : List ℕ) → words ≡ first_words m
    → Kept m words (map (held_first m) (numbers (actor_count m)) ∷ []) [] (first_privates m)
kept-start m words e =
    let crew = map (held_first m) (numbers (actor_count m)) in
    record {
      reached = subst (λ ws. Reached m (policy_answer m.policy) ws (first_privates m) []) (sym e) (reached-start m);
      known = All-cons (AreStatesIn (first_privates m)) crew [] (first-known m 0 (actor_count m) (omega arith))
          (All-nil (AreStatesIn (first_privates m)));
      once = λ a l.
          let long : length (first_privates m) ≡ actor_count m =
          length-map (numbers (actor_count m)) (first_private m) ∙ length-range_with_len 0 (actor_count m) in
          let one = first-once m a 0 (actor_count m) (omega arith) (omega (arith, l, long)) in
          omega (arith, one);
    }

numbers-first : (m : Machine) (low n : ℕ) → numbers_of (map (held_first m) (range_with_len low n)) ≡ range_with_len low n
numbers-first m low zero = refl
numbers-first m low (suc n) = ap (λ ns. low ∷ ns) (numbers-first m (low + 1) n)

-- the first rider has them all
pub rides-start :
    (m : Machine) (me : Me ℕ Known) (actors : List Actor) → IsTrue (is_machine m) → All (Fits m) actors
    → map (held m) actors ≡ map (held_first m) (numbers (actor_count m))
    → me ≡ (record { machine = m; crew = map (held_first m) (numbers (actor_count m)) }, []) → Rides me.0.machine me actors
rides-start m me actors limits fit crew seat =
    subst (λ (mm : Machine). Rides mm me actors) (sym (ap (λ (x : Me ℕ Known). x.0.machine) seat))
    (record {
      limits = limits;
      seat = seat ∙ ap (λ (c : List Held). (record { machine = m; crew = c }, [])) (sym crew);
      fit = fit;
      rise = subst (λ ns. Rise 0 (actor_count m) ns)
          (sym (ap numbers_of crew ∙ numbers-first m 0 (actor_count m)))
          (subst (λ n. Rise 0 n (range_with_len 0 (actor_count m))) (omega arith) (Rise-range 0 (actor_count m)));
    })

-- ---- one more actor

pub fit-more : (m : Machine) (actors : List Actor) (x : Actor) → All (Fits m) actors → Fits m x → All (Fits m) (actors ++ x ∷ [])
fit-more m actors x all one = All-append (Fits m) actors (x ∷ []) all (All-cons (Fits m) x [] one (All-nil (Fits m)))

pub held-more :
    (m : Machine) (actors : List Actor) (n : ℕ) (x : Actor) → map (held m) actors ≡ map (held_first m) (numbers n)
    → held m x ≡ held_first m n → map (held m) (actors ++ x ∷ []) ≡ map (held_first m) (numbers (n + 1))
held-more m actors n x before one =
    map-append (held m) actors (x ∷ []) ∙ ap (λ (hs : List Held). hs ++ held m x ∷ []) before
    ∙ ap (λ (h : Held). map (held_first m) (numbers n) ++ h ∷ []) one
    ∙ sym (map-range_with_len_more (held_first m) 0 n n (zero-add n))

-- how many actors there are
pub count-without : (m : Machine) → (m.policy ≡ policy.Place) ⊎ (m.policy ≡ policy.Replicate) → actor_count m ≡ m.nodes
count-without m (inl e) = let none = ap has_daemon e in
    ap (λ (b : Bool). m.nodes + (if b then 1 else 0)) none ∙ omega arith
count-without m (inr e) = let none = ap has_daemon e in
    ap (λ (b : Bool). m.nodes + (if b then 1 else 0)) none ∙ omega arith

pub count-with : (m : Machine) (first second : ℕ) → m.policy ≡ policy.Platinum first second → actor_count m ≡ m.nodes + 1
count-with m first second e = ap (λ (p : PolicyKind). m.nodes + (if has_daemon p then 1 else 0)) e

-- all actors of a machine without a daemon, and of one with it
pub held-without :
    (m : Machine) (actors : List Actor) (n : ℕ) → map (held m) actors ≡ map (held_first m) (numbers n) → n ≡ m.nodes
    → (m.policy ≡ policy.Place) ⊎ (m.policy ≡ policy.Replicate)
    → map (held m) actors ≡ map (held_first m) (numbers (actor_count m))
held-without m actors n before all none =
    before ∙ ap (λ (k : ℕ). map (held_first m) (numbers k)) (all ∙ sym (count-without m none))

pub held-with :
    (m : Machine) (actors : List Actor) (n : ℕ) (x : Actor) (first second : ℕ) → map (held m) actors ≡ map (held_first m) (numbers n)
    → n ≡ m.nodes → held m x ≡ held_first m m.nodes → m.policy ≡ policy.Platinum first second
    → map (held m) (actors ++ x ∷ []) ≡ map (held_first m) (numbers (actor_count m))
held-with m actors n x first second before all one has =
    held-more m actors m.nodes x (before ∙ ap (λ (k : ℕ). map (held_first m) (numbers k)) all) one
    ∙ ap (λ (k : ℕ). map (held_first m) (numbers k)) (sym (count-with m first second has))

-- ---- one more journal

same-number : (x y : ℕ) → Some x ≡ Some y → x ≡ y
same-number x y e = cc

-- the actor that is next
next-there :
    (all rest : List Actor) (k : ℕ) (x : Actor) → rest ≡ drop k all → k < length all → x ≡ slice_index_or rest 0 x →
    slice_get all k ≡ Some x
next-there all rest k x e within is =
    slice_get_read all (length all) k x refl within
    (is ∙ ap (λ (xs : List Actor). slice_index_or xs 0 x) e ∙ get_or-drop k all 0 x ∙ ap (λ n. slice_index_or all n x) (omega arith))

next-number :
    (all : List Actor) (k : ℕ) (x : Actor) → map (λ (y : Actor). y.number) all ≡ numbers (length all) → k < length all
    → slice_get all k ≡ Some x → x.number ≡ k
next-number all k x order within there =
    same-number x.number k
    (ap (option_map (λ (y : Actor). y.number)) (sym there) ∙ sym (slice_get-map (λ (y : Actor). y.number) all k)
    ∙ ap (λ (ns : List ℕ). slice_get ns k) order ∙ numbers-get 0 (length all) k within ∙ ap Some (omega arith))

hand-more :
    (xs ys : List (List Item)) (k : ℕ) (x : List Item) → slice_get xs k ≡ Some x → k < length ys
    → set (take k xs ++ drop k ys) k x ≡ take (suc k) xs ++ drop (suc k) ys
hand-more [] ys k x e within = absurd cc
hand-more (a ∷ xs) [] k x e within = absurd (omega arith)
hand-more (a ∷ xs) (b ∷ ys) zero x e within = let here : x ≡ a = cc in ap (λ n. n ∷ ys) here
hand-more (a ∷ xs) (b ∷ ys) (suc k) x e within = ap (λ ns. a ∷ ns) (hand-more xs ys k x e (omega arith))

pub handed :
    (all rest : List Actor) (k : ℕ) (x : Actor) (first lists : List (List Item)) (items : List Item)
    → map (λ (y : Actor). y.number) all ≡ numbers (length all) → rest ≡ drop k all → k < length all → x ≡ slice_index_or rest 0 x
    → length first ≡ length all → lists ≡ take k (journals_of all) ++ drop k first → items ≡ journal_in x.part
    → set lists x.number items ≡ take (k + 1) (journals_of all) ++ drop (k + 1) first
handed all rest k x first lists items order left within is long so_far journal =
    let there : slice_get all k ≡ Some x = next-there all rest k x left within is in
    let place : slice_get (journals_of all) k ≡ Some (journal_in x.part) =
    slice_get-map (λ (y : Actor). journal_in y.part) all k ∙ ap (option_map (λ (y : Actor). journal_in y.part)) there in
    let next : suc k ≡ k + 1 = omega arith in
    ap (λ n. set lists n items) (next-number all k x order within there) ∙ ap (λ ls. set ls k items) so_far
    ∙ ap (set (take k (journals_of all) ++ drop k first) k) journal
    ∙ hand-more (journals_of all) first k (journal_in x.part) place (omega (arith, within, long))
    ∙ ap (λ n. take n (journals_of all) ++ drop n first) next

drop-one : (k : ℕ) (xs : List Actor) → drop 1 (drop k xs) ≡ drop (suc k) xs
drop-one zero xs = refl
drop-one (suc k) [] = refl
drop-one (suc k) (x ∷ xs) = drop-one k xs

pub left-more : (all rest now : List Actor) (k : ℕ) → rest ≡ drop k all → now ≡ drop 1 rest → now ≡ drop (k + 1) all
left-more all rest now k e is =
    let next : suc k ≡ k + 1 = omega arith in
    is ∙ ap (drop 1) e ∙ drop-one k all ∙ ap (λ n. drop n all) next
