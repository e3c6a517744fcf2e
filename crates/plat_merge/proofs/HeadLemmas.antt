-- the journals from some places on, and the first actor whose next item passes
use Rattle.std.specs.Prelude.{◌≡◌, ℕ, zero, suc, ◌+◌, ◌<◌, ◌≤◌, Bool, true, false, List, [], ◌∷◌, length, drop, replicate, Option, Some}
use Rattle.std.specs.Prelude.{None, slice_index, slice_index_or, slice_set, slice_get, MatchOption}
use Rattle.std.proofs.Common.{refl, ap, sym, ◌∙◌, arith}
use Rattle.std.specs.List.{position_from}
use Rattle.std.specs.Option.{option_map_or}
use Rattle.std.proofs.lemmas.List.Sums.{sum_by-cons}
use Rattle.std.proofs.lemmas.Option.{slice_get_within}
use Rattle.plat_base.specs.declared.items.Item.{Item}
use Rattle.plat_events.specs.Merges.{Journals, items_left, without_next}
use Rattle.plat_merge.specs.Heads.{left_from, head_passes}

no_items : List Item
no_items = []

drop-none : (n : ℕ) → drop n no_items ≡ no_items
unfolding no_items
drop-none zero = refl
drop-none (suc n) = refl

-- what is left of one journal
pub left-at : (journals : Journals) (next : List ℕ) (a : ℕ) → slice_index_or (left_from journals next) a []
    ≡ drop (slice_index next a) (slice_index_or journals a [])
unfolding no_items
left-at [] next a = sym (drop-none (slice_index next a))
left-at (journal ∷ journals) [] zero = refl
left-at (journal ∷ journals) [] (suc a) = refl
left-at (journal ∷ journals) (n ∷ next) zero = refl
left-at (journal ∷ journals) (n ∷ next) (suc a) = left-at journals next a

-- at the start all is left
pub left-start : (journals : Journals) (k : ℕ) → left_from journals (replicate k 0) ≡ journals
left-start [] k = refl
left-start (journal ∷ journals) zero = refl
left-start (journal ∷ journals) (suc k) = ap (λ js. journal ∷ js) (left-start journals k)

pub left-length : (journals : Journals) (next : List ℕ) → length (left_from journals next) ≡ length journals
left-length [] next = refl
left-length (journal ∷ journals) [] = refl
left-length (journal ∷ journals) (n ∷ next) = ap (λ k. suc k) (left-length journals next)

-- the next item of one actor is taken
pub left-next :
    (journals : Journals) (next : List ℕ) (a : ℕ) → a < length next
    → left_from journals (slice_set next a (slice_index next a + 1)) ≡ without_next (left_from journals next) a
left-next [] next a l = none a (drop 1 [])
  where
    none : (a : ℕ) (j : List Item) → left_from [] next ≡ slice_set (left_from [] next) a j
    none zero j = refl
    none (suc a) j = refl
left-next (journal ∷ journals) [] a l = absurd (omega arith)
left-next (journal ∷ journals) (n ∷ next) zero l = ap (λ j. j ∷ left_from journals next) (drop-more n journal)
  where
    drop-suc : (n : ℕ) (xs : List Item) → drop (suc n) xs ≡ drop 1 (drop n xs)
    drop-suc zero xs = refl
    drop-suc (suc n) [] = refl
    drop-suc (suc n) (x ∷ xs) = drop-suc n xs

    drop-more : (n : ℕ) (xs : List Item) → drop (n + 1) xs ≡ drop 1 (drop n xs)
    drop-more n xs = let e : n + 1 ≡ suc n = omega arith in ap (λ k. drop k xs) e ∙ drop-suc n xs
left-next (journal ∷ journals) (n ∷ next) (suc a) l = ap (λ js. drop n journal ∷ js) (left-next journals next a (omega arith))

-- the next item
pub get-drop : {A : Type 0} (xs : List A) (n : ℕ) → slice_get (drop n xs) 0 ≡ slice_get xs n
get-drop [] zero = refl
get-drop [] (suc n) = refl
get-drop (x ∷ xs) zero = refl
get-drop (x ∷ xs) (suc n) = get-drop xs n

pub head-of : {A : Type 0} (xs : List A) (x : A) → slice_get xs 0 ≡ Some x → xs ≡ x ∷ drop 1 xs
head-of [] x h = absurd cc
head-of (y ∷ ys) x h = let e : y ≡ x = cc in ap (λ z. z ∷ ys) e

-- the first place that passes
pub first-place :
    {A : Type 0} (f : A → Bool) (d : A) (n : ℕ) (xs : List A) (a : ℕ) → a < length xs → f (slice_index_or xs a d) ≡ true
    → ((k : ℕ) → k < a → f (slice_index_or xs k d) ≡ false) → position_from f n xs ≡ Some (n + a)
first-place f d n [] a l h none = absurd (omega arith)
first-place f d n (x ∷ xs) zero l h none = rw h (ap Some (plus n))
  where
    plus : (n : ℕ) → n ≡ n + 0
    plus n = omega arith
first-place f d n (x ∷ xs) (suc a) l h none =
    let here : f x ≡ false = none 0 (omega arith) in
    let rest = first-place f d (n + 1) xs a (omega arith) h (λ k u. none (suc k) (omega arith)) in
    let e : n + 1 + a ≡ n + suc a = omega arith in
    rw here (rest ∙ ap Some e)

pub no-place :
    {A : Type 0} (f : A → Bool) (d : A) (n : ℕ) (xs : List A) → ((k : ℕ) → k < length xs → f (slice_index_or xs k d) ≡ false)
    → position_from f n xs ≡ None
no-place f d n [] none = refl
no-place f d n (x ∷ xs) none =
    let here : f x ≡ false = none 0 (omega arith) in
    rw here (no-place f d (n + 1) xs (λ k u. none (suc k) (omega arith)))

-- ---- one item of a list

pub get-some : {A : Type 0} (xs : List A) (n : ℕ) (x : A) → n < length xs → x ≡ slice_index_or xs n x → slice_get xs n ≡ Some x
get-some [] n x l e = absurd (omega arith)
get-some (y ∷ ys) zero x l e = ap Some (sym e)
get-some (y ∷ ys) (suc n) x l e = get-some ys n x (omega arith) e

-- an actor whose next item passes has a next item
pub passes-head : (test : Item → Bool) (journals : Journals) (next : List ℕ) (a : ℕ) → head_passes test journals next a ≡ true
    → slice_index next a < length (slice_index_or journals a [])
passes-head test journals next a h = by (slice_get (slice_index_or journals a []) (slice_index next a)) refl h
  where
    by :
        (o : Option Item) → slice_get (slice_index_or journals a []) (slice_index next a) ≡ o → option_map_or test o false ≡ true
        → slice_index next a < length (slice_index_or journals a [])
    by None e k = absurd cc
    by (Some i) e k = slice_get_within (slice_index_or journals a []) (slice_index next a) i e

-- no journal has more items than all have
pub one-left : (journals : Journals) (a : ℕ) → length (slice_index_or journals a []) ≤ items_left journals
one-left [] a = omega arith
one-left (j ∷ js) zero = omega (arith, sum_by-cons (λ (x : List Item). length x) j js)
one-left (j ∷ js) (suc a) = let rest = one-left js a in omega (arith, rest, sum_by-cons (λ (x : List Item). length x) j js)

-- of an answer that is none
pub at-none : (P : Type 0) (Q : ℕ → Type 0) (o : Option ℕ) → MatchOption o P Q → ((a : ℕ) → o ≡ Some a → ⊥) → P
at-none P Q None h n = h
at-none P Q (Some a) h n = absurd (n a refl)
