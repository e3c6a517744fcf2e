-- every module of the machine is among those that are tried for an empty page
use Rattle.std.specs.Prelude.{◌≡◌, ℕ, zero, suc, ◌+◌, ◌<◌, ◌≤◌, nat_lt, List, [], ◌∷◌}
use Rattle.std.proofs.Common.{refl, ◌⊎◌, inl, inr, arith, subst}
use Rattle.std.specs.List.{fold, range_with_len, Contains}
use Rattle.std.proofs.lemmas.Bool.{cond_both, cases_eq}
use Rattle.plat_base.specs.Machine.{Machine}
use Rattle.plat_base.specs.Pages.{distance}
use Rattle.plat_events.specs.Sessions.{insert_near, by_distance}

Contains-here : (x : ℕ) (xs : List ℕ) → Contains (x ∷ xs) x
Contains-here x xs = (0, omega arith, refl)

Contains-there : (y x : ℕ) (xs : List ℕ) → Contains xs x → Contains (y ∷ xs) x
Contains-there y x xs h = let within = h.1 in (suc h.0, omega (arith, within), h.2)

Contains-cases : (y x : ℕ) (xs : List ℕ) → Contains (y ∷ xs) x → (y ≡ x) ⊎ Contains xs x
Contains-cases y x xs (zero, within, is) = inl is
Contains-cases y x xs (suc k, within, is) = inr (k, omega (arith, within), is)

Contains-nil : (x : ℕ) → Contains [] x → ⊥
Contains-nil x h = let within = h.1 in omega (arith, within)

module _ (m : Machine) (node : ℕ) where
  insert_near-new : (mo : ℕ) (xs : List ℕ) → Contains (insert_near m node mo xs) mo
  insert_near-new mo [] = Contains-here mo []
  insert_near-new mo (x ∷ xs) =
      cond_both (nat_lt (distance m node mo) (distance m node x)) (mo ∷ x ∷ xs) (x ∷ insert_near m node mo xs)
      (λ ys. Contains ys mo) (λ nearer. Contains-here mo (x ∷ xs))
      (λ farther. Contains-there x mo (insert_near m node mo xs) (insert_near-new mo xs))

  insert_near-old : (mo y : ℕ) (xs : List ℕ) → Contains xs y → Contains (insert_near m node mo xs) y
  insert_near-old mo y [] h = absurd (Contains-nil y h)
  insert_near-old mo y (x ∷ xs) h =
      cond_both (nat_lt (distance m node mo) (distance m node x)) (mo ∷ x ∷ xs) (x ∷ insert_near m node mo xs)
      (λ ys. Contains ys y) (λ nearer. Contains-there mo y (x ∷ xs) h) (λ farther. by (Contains-cases x y xs h) (insert_near-old mo y xs))
    where
      by : (x ≡ y) ⊎ Contains xs y → (Contains xs y → Contains (insert_near m node mo xs) y) → Contains (x ∷ insert_near m node mo xs) y
      by (inl same) more = subst (λ z. Contains (x ∷ insert_near m node mo xs) z) same (Contains-here x (insert_near m node mo xs))
      by (inr there) more = Contains-there x y (insert_near m node mo xs) (more there)

  near-old : (k n y : ℕ) (xs : List ℕ) → Contains xs y → Contains (fold (λ ms mo. insert_near m node mo ms) xs (range_with_len k n)) y
  near-old k zero y xs h = h
  near-old k (suc n) y xs h = near-old (k + 1) n y (insert_near m node k xs) (insert_near-old k y xs h)

  near-new : (k n y : ℕ) (xs : List ℕ) → k ≤ y → y < k + n →
      Contains (fold (λ ms mo. insert_near m node mo ms) xs (range_with_len k n)) y
  near-new k zero y xs low high = absurd (omega arith)
  near-new k (suc n) y xs low high =
      by (cases_eq k y) (λ apart. near-new (k + 1) n y (insert_near m node k xs) (omega (arith, apart)) (omega arith))
    where
      by : (k ≡ y) ⊎ (k ≡ y → ⊥) →
          ((k ≡ y → ⊥) → Contains (fold (λ ms mo. insert_near m node mo ms) (insert_near m node k xs) (range_with_len (k + 1) n)) y) →
          Contains (fold (λ ms mo. insert_near m node mo ms) xs (range_with_len k (suc n))) y
      by (inl same) more =
          near-old (k + 1) n y (insert_near m node k xs)
          (subst (λ z. Contains (insert_near m node k xs) z) same (insert_near-new k xs))
      by (inr apart) more = more apart

  pub by_distance-each : (mo : ℕ) → mo < m.nodes → Contains (by_distance m node) mo
  by_distance-each mo inside = near-new 0 m.nodes mo [] (omega arith) (omega arith)
