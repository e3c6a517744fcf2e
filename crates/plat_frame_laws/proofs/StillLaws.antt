-- lists of private states of which one is another that counts the same
use Rattle.std.specs.Prelude.{◌≡◌, ℕ, zero, suc, List, [], ◌∷◌, map, take, Some, slice_get, slice_set}
use Rattle.std.proofs.Common.{refl, ap, sym, ◌∙◌, arith}
use Rattle.std.specs.List.{sum_by}
use Rattle.std.proofs.lemmas.List.Sums.{sum_by-cons}

pub map-take_still :
    {A B : Type 0} (f : A → B) (n a : ℕ) (xs : List A) (x y : A) → slice_get xs a ≡ Some x → f y ≡ f x →
    map f (take n (slice_set xs a y)) ≡ map f (take n xs)
map-take_still f zero a xs x y here same = refl
map-take_still f (suc n) a [] x y here same = refl
map-take_still f (suc n) zero (z ∷ xs) x y here same = let first : z ≡ x = cc in ap (λ v. v ∷ map f (take n xs)) (same ∙ ap f (sym first))
map-take_still f (suc n) (suc a) (z ∷ xs) x y here same = ap (λ l. f z ∷ l) (map-take_still f n a xs x y here same)

pub sum-take_still :
    {A : Type 0} (f : A → ℕ) (n a : ℕ) (xs : List A) (x y : A) → slice_get xs a ≡ Some x → f y ≡ f x →
    sum_by f (take n (slice_set xs a y)) ≡ sum_by f (take n xs)
sum-take_still f zero a xs x y here same = refl
sum-take_still f (suc n) a [] x y here same = refl
sum-take_still f (suc n) zero (z ∷ xs) x y here same =
    let first : z ≡ x = cc in let equal : f y ≡ f z = same ∙ ap f (sym first) in
    omega (arith, sum_by-cons f y (take n xs), sum_by-cons f z (take n xs), equal)
sum-take_still f (suc n) (suc a) (z ∷ xs) x y here same =
    let rest = sum-take_still f n a xs x y here same in
    omega (arith, sum_by-cons f z (take n (slice_set xs a y)), sum_by-cons f z (take n xs), rest)
