-- whom a schedule chooses: one of the live, and nobody only where there is none
use Rattle.std.proofs.Common.{◌≡◌, ℕ, zero, suc, ◌≤◌, nat_lt, if◌then◌else◌, Bool, true, false, List, [], ◌∷◌, length, Option, Some, None}
use Rattle.std.proofs.Common.{refl, sym, ap, ◌∙◌, arith}
use Rattle.std.specs.Prelude.{◌==◌, ◌%◌, find, filter, slice_get}
use Rattle.std.specs.Option.{option_map}
use Rattle.std.specs.List.{list_any}
use Rattle.std.proofs.lemmas.Bool.Decides.{nat_tests}
use Rattle.std.proofs.lemmas.List.{nil_from_length}
use Rattle.plat_base.specs.Machine.{Turns, robin, random, listed}
use Rattle.plat_base.specs.Schedule.{Chooser, or_else, robin_choice, listed_choice, chosen, listed_or_robin, choose, random_word}

abbrev pub among : ℕ → List ℕ → Bool
among a live = list_any (λ b. b == a) live

slice_get-among : (live : List ℕ) (i a : ℕ) → slice_get live i ≡ Some a → among a live ≡ true
slice_get-among [] i a h = absurd cc
slice_get-among (b ∷ live) zero a h = grind (arith, nat_tests)
slice_get-among (b ∷ live) (suc i) a h = grind (arith, nat_tests, slice_get-among live i a)

find-among : (test : ℕ → Bool) (live : List ℕ) (a : ℕ) → find test live ≡ Some a → among a live ≡ true
find-among test [] a h = absurd cc
find-among test (b ∷ live) a h = grind (arith, nat_tests, find-among test live a)

pub filter-among : (test : ℕ → Bool) (xs : List ℕ) (a : ℕ) → among a (filter test xs) ≡ true → test a ≡ true
filter-among test [] a h = absurd cc
filter-among test (x ∷ xs) a h = grind (arith, nat_tests, filter-among test xs a)

-- ---- by the kinds of schedules

or_else-either : (x y : Option ℕ) (live : List ℕ) (a : ℕ) → ((b : ℕ) → x ≡ Some b → among b live ≡ true) →
    ((b : ℕ) → y ≡ Some b → among b live ≡ true) → or_else x y ≡ Some a → among a live ≡ true
or_else-either None y live a first second e = second a e
or_else-either (Some b) y live a first second e = first a e

robin_choice-among : (last : Option ℕ) (live : List ℕ) (a : ℕ) → robin_choice last live ≡ Some a → among a live ≡ true
robin_choice-among None live a h = slice_get-among live 0 a h
robin_choice-among (Some last) live a h =
    or_else-either (find (λ b. nat_lt last b) live) (slice_get live 0) live a (find-among (λ b. nat_lt last b) live)
    (slice_get-among live 0) h

chosen-is : (left : List ℕ) (seed : ℕ) (o : Option ℕ) (x : ℕ × Chooser) → chosen left seed o ≡ Some x → o ≡ Some x.0
chosen-is left seed None x h = absurd cc
chosen-is left seed (Some a) x h = ap (λ (o : Option (ℕ × Chooser)). option_map (λ (y : ℕ × Chooser). y.0) o) h

listed_choice-among : (live left : List ℕ) (x : ℕ × List ℕ) → listed_choice live left ≡ Some x → among x.0 live ≡ true
listed_choice-among live [] x h = absurd cc
listed_choice-among live (a ∷ more) x h = by (among a live) refl h (listed_choice-among live more x)
  where
    by : (b : Bool) → among a live ≡ b → (if b then Some (a, more) else listed_choice live more) ≡ Some x →
        (listed_choice live more ≡ Some x → among x.0 live ≡ true) → among x.0 live ≡ true
    by true here e rest = let same : ◌≡◌ {A = ℕ × List ℕ} (a, more) x = cc in ap (λ (y : ℕ × List ℕ). among y.0 live) (sym same) ∙ here
    by false here e rest = rest e

listed_or_robin-among : (c : Chooser) (live : List ℕ) (o : Option (ℕ × List ℕ)) (x : ℕ × Chooser) →
    ((y : ℕ × List ℕ) → o ≡ Some y → among y.0 live ≡ true) → listed_or_robin c live o ≡ Some x → among x.0 live ≡ true
listed_or_robin-among c live None x listed_one h =
    robin_choice-among c.last live x.0 (chosen-is [] c.random (robin_choice c.last live) x h)
listed_or_robin-among c live (Some y) x listed_one h =
    let same : y.0 ≡ x.0 = cc (chosen-is y.1 c.random (Some y.0) x h) in ap (λ a. among a live) (sym same) ∙ listed_one y refl

-- an actor that is chosen is one of the live
pub choose-among : (turns : Turns) (live : List ℕ) (c : Chooser) (x : ℕ × Chooser) → choose turns live c ≡ Some x → among x.0 live ≡ true
choose-among robin live c x h = robin_choice-among c.last live x.0 (chosen-is [] c.random (robin_choice c.last live) x h)
choose-among (random a b) live c x h =
    slice_get-among live (random_word c.random % length live) x.0
    (chosen-is [] _ (slice_get live (random_word c.random % length live)) x h)
choose-among (listed actors) [] c x h = absurd cc
choose-among (listed actors) (a ∷ more) c x h =
    listed_or_robin-among c (a ∷ more) (listed_choice (a ∷ more) c.left) x (listed_choice-among (a ∷ more) c.left) h

-- ---- nobody is chosen

chosen-none : (left : List ℕ) (seed : ℕ) (o : Option ℕ) → chosen left seed o ≡ None → o ≡ None
chosen-none left seed None h = refl
chosen-none left seed (Some a) h = absurd cc

robin_choice-none : (last : Option ℕ) (live : List ℕ) → robin_choice last live ≡ None → slice_get live 0 ≡ None
robin_choice-none None live h = h
robin_choice-none (Some last) live h = by (find (λ b. nat_lt last b) live) h
  where
    by : (o : Option ℕ) → or_else o (slice_get live 0) ≡ None → slice_get live 0 ≡ None
    by None e = e
    by (Some a) e = absurd cc

slice_get-none : (live : List ℕ) (i : ℕ) → slice_get live i ≡ None → length live ≤ i
slice_get-none [] i h = omega arith
slice_get-none (a ∷ live) zero h = absurd cc
slice_get-none (a ∷ live) (suc i) h = omega (arith, slice_get-none live i h)

no_place : (live : List ℕ) (w : ℕ) → length live ≤ w % length live → live ≡ []
no_place [] w h = refl
no_place (a ∷ live) w h = absurd (omega arith)

-- where nobody is chosen nobody is live
pub choose-none : (turns : Turns) (live : List ℕ) (c : Chooser) → choose turns live c ≡ None → live ≡ []
choose-none robin live c h =
    nil_from_length live
    (omega (arith, slice_get-none live 0 (robin_choice-none c.last live (chosen-none [] c.random (robin_choice c.last live) h))))
choose-none (random a b) live c h =
    no_place live (random_word c.random)
    (slice_get-none live (random_word c.random % length live) (chosen-none [] _ (slice_get live (random_word c.random % length live)) h))
choose-none (listed actors) [] c h = refl
choose-none (listed actors) (a ∷ more) c h = absurd (some (listed_choice (a ∷ more) c.left) h)
  where
    some : (o : Option (ℕ × List ℕ)) → listed_or_robin c (a ∷ more) o ≡ None → ⊥
    some None e = cc (robin_choice-none c.last (a ∷ more) (chosen-none [] c.random (robin_choice c.last (a ∷ more)) e))
    some (Some x) e = cc

-- and where nobody is live nobody is chosen
pub choose-nobody : (turns : Turns) (c : Chooser) → choose turns [] c ≡ None
choose-nobody robin c = by c.last
  where
    by : (last : Option ℕ) → chosen [] c.random (robin_choice last []) ≡ None
    by None = refl
    by (Some a) = refl
choose-nobody (random a b) c = refl
choose-nobody (listed actors) c = refl
