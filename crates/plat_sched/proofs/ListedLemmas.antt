-- the next number of a list that is a live actor
use Rattle.std.proofs.Common.{◌≡◌, ◌≢◌, ℕ, ◌+◌, ◌^◌, ◌<◌, zero, suc, true, false, List, [], ◌∷◌, length, drop, get_or, Option, Some, refl}
use Rattle.std.proofs.Common.{ap, ◌∙◌, arith}
use Rattle.std.specs.Prelude.{◌==◌}
use Rattle.std.specs.List.{list_any}
use Rattle.std.proofs.lemmas.Bool.Decides.{nat_tests}
use Rattle.plat_base.specs.Machine.{listed}
use Rattle.plat_base.specs.Schedule.{Chooser, choose, listed_choice, listed_or_robin}
use Rattle.plat_sched.specs.Actors.{is_actor, actors_of}
use Rattle.plat_sched.proofs.ActorsLemmas.{any_is, some_actor}

listed_passed : (live xs : List ℕ) (i a : ℕ) → i < length xs → get_or xs i 0 ≡ a → list_any (λ b. b == a) live ≡ false →
    listed_choice live (drop i xs) ≡ listed_choice live (drop (i + 1) xs)
listed_passed live [] i a l e h = absurd (omega arith)
listed_passed live (x ∷ xs) zero a l e h = grind (arith, nat_tests)
listed_passed live (x ∷ xs) (suc i) a l e h = let f : suc i + 1 ≡ suc (i + 1) = omega arith in
    rw f (listed_passed live xs i a (omega arith) e h)

listed_taken : (live xs : List ℕ) (i a : ℕ) → i < length xs → get_or xs i 0 ≡ a → list_any (λ b. b == a) live ≡ true →
    listed_choice live (drop i xs) ≡ Some (a, drop (i + 1) xs)
listed_taken live [] i a l e h = absurd (omega arith)
listed_taken live (x ∷ xs) zero a l e h = grind (arith, nat_tests)
listed_taken live (x ∷ xs) (suc i) a l e h = let f : suc i + 1 ≡ suc (i + 1) = omega arith in
    rw f (listed_taken live xs i a (omega arith) e h)

-- ---- the same, where live is a word of bits

pub passed : (live : ℕ) (xs : List ℕ) (i : ℕ) → i < length xs → is_actor live (get_or xs i 0) ≡ false →
    listed_choice (actors_of live) (drop i xs) ≡ listed_choice (actors_of live) (drop (i + 1) xs)
passed live xs i l h = listed_passed (actors_of live) xs i (get_or xs i 0) l refl (any_is live (get_or xs i 0) ∙ h)

pub taken : (live : ℕ) (xs : List ℕ) (i : ℕ) → i < length xs → is_actor live (get_or xs i 0) ≡ true →
    listed_choice (actors_of live) (drop i xs) ≡ Some (get_or xs i 0, drop (i + 1) xs)
taken live xs i l h = listed_taken (actors_of live) xs i (get_or xs i 0) l refl (any_is live (get_or xs i 0) ∙ h)

-- ---- a choice from the list

choose_listed : (actors live : List ℕ) (c : Chooser) → 0 < length live →
    choose (listed actors) live c ≡ listed_or_robin c live (listed_choice live c.left)
choose_listed actors [] c h = absurd (omega arith)
choose_listed actors (a ∷ live) c h = refl

pub listed_next : (actors : List ℕ) (used more live a : ℕ) (last : Option ℕ) → live < 2 ^ 32 → live ≢ 0 →
    listed_choice (actors_of live) (drop used actors) ≡ Some (a, drop more actors) →
    choose (listed actors) (actors_of live) (record { last = last; left = drop used actors; random = 0 })
    ≡ Some (a, record { last = Some a; left = drop more actors; random = 0 })
listed_next actors used more live a last h k e =
    let c : Chooser = record { last = last; left = drop used actors; random = 0 } in
    choose_listed actors (actors_of live) c (some_actor live h k) ∙ ap (listed_or_robin c (actors_of live)) e
