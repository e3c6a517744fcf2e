-- journals of items: what is in them, how many items they have, and the next item taken from one
use Rattle.std.specs.Prelude.{◌≡◌, ◌≢◌, ◌⊎◌, ℕ, zero, suc, ◌+◌, ◌<◌, ◌==◌, ◌||◌, if◌then◌else◌, Bool, true, false, List, [], ◌∷◌, ◌++◌}
use Rattle.std.specs.Prelude.{length, drop, filter, Some, None, slice_index_or}
use Rattle.std.proofs.Common.{refl, ap, sym, ◌∙◌, inl, inr, arith, get_or-set_same, get_or-set_other}
use Rattle.std.specs.List.{list_any, position_from}
use Rattle.std.proofs.lemmas.Bool.{cases_Bool, or_parts, eqb-true, eq-eqb, ne_eqb, true≢false}
use Rattle.std.proofs.lemmas.List.Sums.{sum_by-set, sum_by-cons}
use Rattle.plat_base.specs.declared.items.Item.{Item}
use Rattle.plat_events.specs.Shown.{actor_of, items_by}
use Rattle.plat_events.specs.Merges.{Journals, is_ready, has_ready, ready_actor, items_left, without_next}
use Rattle.plat_merge_laws.specs.Merging.{HasJournals}

-- ---- where nothing of a list passes a test

none-at : {A : Type 0} (f : A → Bool) (d : A) → f d ≡ false → (xs : List A) → list_any f xs ≡ false → (k : ℕ) →
    f (slice_index_or xs k d) ≡ false
none-at f d none [] h k = none
none-at f d none (x ∷ xs) h zero = (or_parts (f x) (list_any f xs) h).0
none-at f d none (x ∷ xs) h (suc k) = none-at f d none xs (or_parts (f x) (list_any f xs) h).1 k

none-each : {A : Type 0} (f : A → Bool) (d : A) (xs : List A) → ((k : ℕ) → f (slice_index_or xs k d) ≡ false) → list_any f xs ≡ false
none-each f d [] h = refl
none-each f d (x ∷ xs) h = rw (h 0) (none-each f d xs (λ k. h (suc k)))

none-filter : {A : Type 0} (f p : A → Bool) (xs : List A) → list_any f xs ≡ false → list_any f (filter p xs) ≡ false
none-filter f p [] h = refl
none-filter f p (x ∷ xs) h = by (p x) (none-filter f p xs (or_parts (f x) (list_any f xs) h).1)
  where
    by : (b : Bool) → list_any f (filter p xs) ≡ false → list_any f (if b then x ∷ filter p xs else filter p xs) ≡ false
    by true rest = rw (or_parts (f x) (list_any f xs) h).0 rest
    by false rest = rest

-- ---- the items of one actor

mine : (a : ℕ) (x : Item) (xs : List Item) → actor_of x ≡ a → items_by a (x ∷ xs) ≡ x ∷ items_by a xs
mine a x xs e = rw (eq-eqb (actor_of x) a e) refl

others : (a : ℕ) (x : Item) (xs : List Item) → actor_of x ≢ a → items_by a (x ∷ xs) ≡ items_by a xs
others a x xs e = rw (ne_eqb (actor_of x) a e) refl

-- nothing of any actor's items passes: so nothing does
none-by : (f : Item → Bool) (xs : List Item) → ((a : ℕ) → list_any f (items_by a xs) ≡ false) → list_any f xs ≡ false
none-by f [] h = refl
none-by f (x ∷ xs) h =
    let here = or_parts (f x) (list_any f (items_by (actor_of x) xs)) (sym (ap (list_any f) (mine (actor_of x) x xs refl))
    ∙ h (actor_of x)) in
    rw here.0 (none-by f xs (λ a. rest a (cases_Bool (actor_of x == a))))
  where
    rest : (a : ℕ) → ((actor_of x == a) ≡ true) ⊎ ((actor_of x == a) ≡ false) → list_any f (items_by a xs) ≡ false
    rest a (inl own) =
        (or_parts (f x) (list_any f (items_by a xs))
        (sym (ap (λ (b : Bool). list_any f (if b then x ∷ items_by a xs else items_by a xs)) own) ∙ h a)).1
    rest a (inr other) = sym (ap (λ (b : Bool). list_any f (if b then x ∷ items_by a xs else items_by a xs)) other) ∙ h a

module _ (items : List Item) (journals : Journals) (has : HasJournals items journals) where
  -- what is in no journal is no item
  pub none-journals : (f : Item → Bool) → list_any (list_any f) journals ≡ false → list_any f items ≡ false
  none-journals f h = none-by f items (λ a. sym (ap (list_any f) (has a)) ∙ none-at (list_any f) [] refl journals h a)

  -- what is no item is in no journal
  pub journals-none : (f : Item → Bool) → list_any f items ≡ false → list_any (list_any f) journals ≡ false
  journals-none f h = none-each (list_any f) [] journals (λ a. ap (list_any f) (has a) ∙ none-filter f (λ i. actor_of i == a) items h)

-- ---- an item is taken from the front of its actor's journal

-- the first of an actor's items, and the others before and behind it
pub record IsFirst (a : ℕ) (items : List Item) (i : Item) (rest : List Item) : Type 0 where
  pub front : List Item
  pub back : List Item
  pub parts : items ≡ front ++ i ∷ back
  pub by_actor : actor_of i ≡ a
  pub alone : list_any (λ j. actor_of j == a) front ≡ false
  pub later_ones : items_by a back ≡ rest

pub first_of : (a : ℕ) (items : List Item) (i : Item) (rest : List Item) → items_by a items ≡ i ∷ rest → IsFirst a items i rest
first_of a [] i rest h = absurd cc
first_of a (x ∷ xs) i rest h = by (cases_Bool (actor_of x == a)) (first_of a xs i rest)
  where
    by : ((actor_of x == a) ≡ true) ⊎ ((actor_of x == a) ≡ false) → (items_by a xs ≡ i ∷ rest → IsFirst a xs i rest) →
        IsFirst a (x ∷ xs) i rest
    by (inl own) more =
        let e : x ∷ items_by a xs ≡ i ∷ rest = sym (ap (λ (b : Bool). if b then x ∷ items_by a xs else items_by a xs) own) ∙ h in
        let head : x ≡ i = cc in
        let tail : items_by a xs ≡ rest = cc in
        record {
          front = [];
          back = xs;
          parts = ap (λ y. y ∷ xs) head;
          by_actor = ap actor_of (sym head) ∙ eqb-true (actor_of x) a own;
          alone = refl;
          later_ones = tail;
        }
    by (inr other) more =
        let rest_of = more (sym (ap (λ (b : Bool). if b then x ∷ items_by a xs else items_by a xs) other) ∙ h) in
        record {
          front = x ∷ rest_of.front;
          back = rest_of.back;
          parts = ap (λ ys. x ∷ ys) rest_of.parts;
          by_actor = rest_of.by_actor;
          alone = ap (λ b. b || list_any (λ j. actor_of j == a) rest_of.front) other ∙ rest_of.alone;
          later_ones = rest_of.later_ones;
        }

-- items of others move behind an item: each actor's stay in order
by-moved :
    (a b : ℕ) (front back : List Item) (i : Item) → actor_of i ≡ a → list_any (λ j. actor_of j == a) front ≡ false
    → items_by b (front ++ i ∷ back) ≡ items_by b (i ∷ front ++ back)
by-moved a b [] back i e h = refl
by-moved a b (x ∷ front) back i e h =
    by (cases_Bool (actor_of x == b)) (cases_Bool (actor_of i == b))
    (by-moved a b front back i e (or_parts (actor_of x == a) (list_any (λ j. actor_of j == a) front) h).1)
  where
    apart : ((actor_of x == a) ≡ false) × (list_any (λ j. actor_of j == a) front ≡ false)
    apart = or_parts (actor_of x == a) (list_any (λ j. actor_of j == a) front) h

    by :
        ((actor_of x == b) ≡ true) ⊎ ((actor_of x == b) ≡ false) → ((actor_of i == b) ≡ true) ⊎ ((actor_of i == b) ≡ false)
        → items_by b (front ++ i ∷ back) ≡ items_by b (i ∷ front ++ back)
        → items_by b (x ∷ front ++ i ∷ back) ≡ items_by b (i ∷ x ∷ front ++ back)
    by (inl p) (inl q) rest =
        let same : actor_of x ≡ a = eqb-true (actor_of x) b p ∙ (sym (eqb-true (actor_of i) b q) ∙ e) in
        absurd (true≢false (sym (eq-eqb (actor_of x) a same) ∙ apart.0))
    by (inl p) (inr q) rest =
        let moved : items_by b (front ++ i ∷ back) ≡ items_by b (front ++ back) =
        rest ∙ ap (λ (t : Bool). if t then i ∷ items_by b (front ++ back) else items_by b (front ++ back)) q in
        rw (q, p) (ap (λ ys. x ∷ ys) moved)
    by (inr p) (inl q) rest =
        let moved : items_by b (front ++ i ∷ back) ≡ i ∷ items_by b (front ++ back) =
        rest ∙ ap (λ (t : Bool). if t then i ∷ items_by b (front ++ back) else items_by b (front ++ back)) q in
        rw (q, p) moved
    by (inr p) (inr q) rest =
        let moved : items_by b (front ++ i ∷ back) ≡ items_by b (front ++ back) =
        rest ∙ ap (λ (t : Bool). if t then i ∷ items_by b (front ++ back) else items_by b (front ++ back)) q in
        rw (q, p) moved

pub journals-moved :
    (front back : List Item) (i : Item) (journals : Journals) → list_any (λ j. actor_of j == actor_of i) front ≡ false
    → HasJournals (front ++ i ∷ back) journals → HasJournals (i ∷ front ++ back) journals
journals-moved front back i journals alone has b = has b ∙ by-moved (actor_of i) b front back i refl alone

-- a journal that has an item is one of the journals
pub journal-within : (journals : Journals) (a : ℕ) (i : Item) (rest : List Item) → slice_index_or journals a [] ≡ i ∷ rest → a < length journals
journal-within [] a i rest h = absurd cc
journal-within (x ∷ xs) zero i rest h = omega arith
journal-within (x ∷ xs) (suc a) i rest h = let l = journal-within xs a i rest h in omega arith

module _ (i : Item) (items : List Item) (journals : Journals) where
  front-of : HasJournals (i ∷ items) journals → slice_index_or journals (actor_of i) [] ≡ i ∷ items_by (actor_of i) items
  front-of has = has (actor_of i) ∙ mine (actor_of i) i items refl

  pub journals-without : HasJournals (i ∷ items) journals → HasJournals items (without_next journals (actor_of i))
  journals-without has b = by (cases_Bool (actor_of i == b))
    where
      by : ((actor_of i == b) ≡ true) ⊎ ((actor_of i == b) ≡ false) → slice_index_or (without_next journals (actor_of i)) b []
          ≡ items_by b items
      by (inl own) =
          let e : actor_of i ≡ b = eqb-true (actor_of i) b own in
          let l = journal-within journals (actor_of i) i (items_by (actor_of i) items) (front-of has) in
          ap (λ k. slice_index_or (without_next journals (actor_of i)) k []) (sym e)
          ∙ (get_or-set_same journals (actor_of i) (drop 1 (slice_index_or journals (actor_of i) [])) [] l
          ∙ (ap (drop 1) (front-of has) ∙ ap (λ k. items_by k items) e))
      by (inr other) =
          let n : b ≢ actor_of i = λ e. true≢false (sym (eq-eqb (actor_of i) b (sym e)) ∙ other) in
          get_or-set_other journals (actor_of i) b (drop 1 (slice_index_or journals (actor_of i) [])) [] n
          ∙ (has b ∙ ap (λ (t : Bool). if t then i ∷ items_by b items else items_by b items) other)

  -- and back
  pub journals-with :
      (rest : List Item) → slice_index_or journals (actor_of i) [] ≡ i ∷ rest → HasJournals items (without_next journals (actor_of i))
      → HasJournals (i ∷ items) journals
  journals-with rest here has b = by (cases_Bool (actor_of i == b))
    where
      by : ((actor_of i == b) ≡ true) ⊎ ((actor_of i == b) ≡ false) → slice_index_or journals b [] ≡ items_by b (i ∷ items)
      by (inl own) =
          let e : actor_of i ≡ b = eqb-true (actor_of i) b own in
          let l = journal-within journals (actor_of i) i rest here in
          let taken : rest ≡ items_by (actor_of i) items =
          sym (ap (drop 1) here) ∙ (sym (get_or-set_same journals (actor_of i) (drop 1 (slice_index_or journals (actor_of i) [])) [] l)
          ∙ has (actor_of i)) in
          ap (λ k. slice_index_or journals k []) (sym e)
          ∙ (here ∙ (ap (λ ys. i ∷ ys) taken ∙ (sym (mine (actor_of i) i items refl) ∙ ap (λ k. items_by k (i ∷ items)) e)))
      by (inr other) =
          let n : b ≢ actor_of i = λ e. true≢false (sym (eq-eqb (actor_of i) b (sym e)) ∙ other) in
          sym (get_or-set_other journals (actor_of i) b (drop 1 (slice_index_or journals (actor_of i) [])) [] n)
          ∙ (has b ∙ sym (ap (λ (t : Bool). if t then i ∷ items_by b items else items_by b items) other))

  -- one item fewer is left
  items_left-without : HasJournals (i ∷ items) journals → items_left journals ≡ suc (items_left (without_next journals (actor_of i)))
  items_left-without has =
      let l = journal-within journals (actor_of i) i (items_by (actor_of i) items) (front-of has) in
      let j : List Item = slice_index_or journals (actor_of i) [] in
      let size = sum_by-set (λ (journal : List Item). length journal) journals (actor_of i) (drop 1 j) [] l in
      let whole : length j ≡ suc (length (items_by (actor_of i) items)) = ap length (front-of has) in
      let fewer : length (drop 1 j) ≡ length (items_by (actor_of i) items) = ap (λ ys. length (drop 1 ys)) (front-of has) in
      omega (arith, size, whole, fewer)

empty-left : (journals : Journals) → ((a : ℕ) → slice_index_or journals a [] ≡ []) → items_left journals ≡ 0
empty-left [] h = refl
empty-left (x ∷ xs) h =
    let rest = empty-left xs (λ a. h (suc a)) in
    let here : length x ≡ 0 = ap length (h 0) in
    let both : items_left (x ∷ xs) ≡ length x + items_left xs = sum_by-cons (λ (journal : List Item). length journal) x xs in
    omega (arith, rest, here, both)

-- the items left are as many as the items
pub items_left-length : (items : List Item) (journals : Journals) → HasJournals items journals → items_left journals ≡ length items
items_left-length [] journals has = empty-left journals has
items_left-length (i ∷ items) journals has =
    items_left-without i items journals has
    ∙ ap (λ n. suc n) (items_left-length items (without_next journals (actor_of i)) (journals-without i items journals has))

-- ---- the actor whose next item is ready

next-ready : (left : Journals) (journal : List Item) → has_ready left journal ≡ true
    → (i : Item) × (rest : List Item) × (journal ≡ i ∷ rest) × (is_ready left i ≡ true)
next-ready left [] h = absurd cc
next-ready left (i ∷ rest) h = (i, rest, refl, h)

position-some : {A : Type 0} (f : A → Bool) (d : A) (n : ℕ) (xs : List A) (k : ℕ) → position_from f n xs ≡ Some k
    → (p : ℕ) × (k ≡ n + p) × (p < length xs) × (f (slice_index_or xs p d) ≡ true)
position-some f d n [] k h = absurd cc
position-some f d n (x ∷ xs) k h = by (cases_Bool (f x)) (position-some f d (n + 1) xs k)
  where
    by :
        (f x ≡ true) ⊎ (f x ≡ false)
        → (position_from f (n + 1) xs ≡ Some k → (p : ℕ) × (k ≡ n + 1 + p) × (p < length xs) × (f (slice_index_or xs p d) ≡ true))
        → (p : ℕ) × (k ≡ n + p) × (p < length (x ∷ xs)) × (f (slice_index_or (x ∷ xs) p d) ≡ true)
    by (inl here) more =
        let e : Some n ≡ Some k = sym (ap (λ (b : Bool). if b then Some n else position_from f (n + 1) xs) here) ∙ h in
        let same : n ≡ k = cc in
        (0, omega arith, omega arith, here)
    by (inr none) more =
        let r = more (sym (ap (λ (b : Bool). if b then Some n else position_from f (n + 1) xs) none) ∙ h) in
        (suc r.0, omega (arith, r.1), omega (arith, r.2), r.3)

position-none : {A : Type 0} (f : A → Bool) (n : ℕ) (xs : List A) → position_from f n xs ≡ None → list_any f xs ≡ false
position-none f n [] h = refl
position-none f n (x ∷ xs) h = by (cases_Bool (f x)) (position-none f (n + 1) xs)
  where
    by : (f x ≡ true) ⊎ (f x ≡ false) → (position_from f (n + 1) xs ≡ None → list_any f xs ≡ false) → list_any f (x ∷ xs) ≡ false
    by (inl here) more =
        let e : Some n ≡ None = sym (ap (λ (b : Bool). if b then Some n else position_from f (n + 1) xs) here) ∙ h in
        absurd cc
    by (inr none) more =
        rw none (more (sym (ap (λ (b : Bool). if b then Some n else position_from f (n + 1) xs) none) ∙ h))

-- what is ready next
pub record IsReadyNext (left : Journals) (a : ℕ) : Type 0 where
  pub next : Item
  pub rest : List Item
  pub here : slice_index_or left a [] ≡ next ∷ rest
  pub ready : is_ready left next ≡ true

pub ready_actor-some : (left : Journals) (a : ℕ) → ready_actor left ≡ Some a → IsReadyNext left a
ready_actor-some left a h =
    let at = position-some (has_ready left) [] 0 left a h in
    let e : a ≡ at.0 = omega (arith, at.1) in
    let i = next-ready left (slice_index_or left a []) (ap (λ k. has_ready left (slice_index_or left k [])) e ∙ at.3)
    in record { next = i.0; rest = i.1; here = i.2; ready = i.3 }

-- where the next item of an actor is ready, some actor is chosen
pub ready_actor-there : (left : Journals) (a : ℕ) (i : Item) (rest : List Item) → slice_index_or left a [] ≡ i ∷ rest →
    is_ready left i ≡ true
    → ready_actor left ≢ None
ready_actor-there left a i rest here ready none =
    let nothing = none-at (has_ready left) [] refl left (position-none (has_ready left) 0 left none) a in
    true≢false (sym (ap (has_ready left) here ∙ ready_first) ∙ nothing)
  where
    ready_first : has_ready left (i ∷ rest) ≡ true
    ready_first = ready
