-- sums over the private states and the ends of the processors, where one private state is another
use Rattle.std.specs.Prelude.{◌≡◌, ℕ, zero, suc, ◌+◌, ◌<◌, List, [], ◌∷◌, map, take, Some, slice_get, slice_set, slice_index_or}
use Rattle.std.proofs.Common.{refl, ap, sym, ◌∙◌, arith}
use Rattle.std.specs.List.{sum_by}
use Rattle.std.proofs.lemmas.List.Sums.{sum_by-set}
use Rattle.std.proofs.lemmas.Option.{slice_get_within, get_or_from_slice_get}

-- a sum where one summand is another
pub sum_by-changed :
    {A : Type 0} (f : A → ℕ) (xs : List A) (i : ℕ) (x y : A) → slice_get xs i ≡ Some x →
    sum_by f (slice_set xs i y) + f x ≡ sum_by f xs + f y
sum_by-changed f xs i x y here =
    let same = sum_by-set f xs i y x (slice_get_within xs i x here) in
    let first : slice_index_or xs i x ≡ x = get_or_from_slice_get xs i x x here in
    ap (λ v. sum_by f (slice_set xs i y) + f v) (sym first) ∙ same

pub sum_by-still :
    {A : Type 0} (f : A → ℕ) (xs : List A) (i : ℕ) (x y : A) → slice_get xs i ≡ Some x → f y ≡ f x →
    sum_by f (slice_set xs i y) ≡ sum_by f xs
sum_by-still f xs i x y here same = let changed = sum_by-changed f xs i x y here in omega (arith, changed)

-- a list of values is the same where the one at the changed place is
pub map-still :
    {A B : Type 0} (f : A → B) (xs : List A) (i : ℕ) (x y : A) → slice_get xs i ≡ Some x → f y ≡ f x →
    map f (slice_set xs i y) ≡ map f xs
map-still f [] i x y here same = refl
map-still f (z ∷ xs) zero x y here same =
    let first : z ≡ x = cc in ap (λ v. v ∷ map f xs) (same ∙ ap f (sym first))
map-still f (z ∷ xs) (suc i) x y here same = ap (λ l. f z ∷ l) (map-still f xs i x y here same)

-- the first n, where one of them or one behind them is another

pub take-set_within :
    {A : Type 0} (n i : ℕ) (xs : List A) (y : A) → i < n → take n (slice_set xs i y) ≡ slice_set (take n xs) i y
take-set_within zero i xs y within = absurd (omega arith)
take-set_within (suc n) i [] y within = refl
take-set_within (suc n) zero (x ∷ xs) y within = refl
take-set_within (suc n) (suc i) (x ∷ xs) y within = ap (λ l. x ∷ l) (take-set_within n i xs y (omega arith))

pub slice_get-take :
    {A : Type 0} (n i : ℕ) (xs : List A) (x : A) → i < n → slice_get xs i ≡ Some x → slice_get (take n xs) i ≡ Some x
slice_get-take zero i xs x within here = absurd (omega arith)
slice_get-take (suc n) i [] x within here = absurd cc
slice_get-take (suc n) zero (z ∷ xs) x within here = here
slice_get-take (suc n) (suc i) (z ∷ xs) x within here = slice_get-take n i xs x (omega arith) here
