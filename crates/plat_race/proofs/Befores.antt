-- before: the computed test is the relation
use Rattle.std.specs.Prelude.{◌≡◌, ◌⊎◌, ℕ, zero, suc, ◌+◌, ◌<◌, ◌≤◌, nat_lt, ◌&&◌, ◌||◌, Bool, true, false, List, [], ◌∷◌, ◌++◌, length}
use Rattle.std.specs.Prelude.{refl}
use Rattle.std.specs.List.{fold, list_any, range_with_len}
use Rattle.std.proofs.Common.{ap, sym, ◌∙◌, inl, inr, get_or, arith, ⊎_elim}
use Rattle.std.proofs.lemmas.Bool.{and_parts, or_cases, or_left, or_right, and_from}
use Rattle.std.proofs.lemmas.Bool.Decides.{nat_tests}
use Rattle.std.proofs.lemmas.Grind.{fold-append, common_steps}
use Rattle.plat_base.specs.Pages.{numbers}
use Rattle.plat_base.specs.declared.items.Item.{Item}
use Rattle.plat_laws.proofs.NumberLaws.{list_any_numbers-true}
use Rattle.plat_race.specs.Races.{item_at, of_two, is_linked, is_directly_before, IsBefore, directly, by_way_of, is_next_before, befores}
use Rattle.plat_race.specs.Races.{is_before}
use Rattle.plat_base.proofs.ListLemmas.{range-more, any-range, any-numbers}

-- ---- the numbers below a bound

-- the numbers below n + 1
pub numbers-more : (n : ℕ) → numbers (suc n) ≡ numbers n ++ n ∷ []
numbers-more n = range-more 0 n ∙ ap (λ k. numbers n ++ k ∷ []) (omega arith)

-- ---- the table of the computed test

-- the earlier of two places
pub directly-below : (items : List Item) (i j : ℕ) → is_directly_before items i j ≡ true → i < j
directly-below items i j h =
    let t = (and_parts (nat_lt i j) (of_two is_linked (item_at items i) (item_at items j)) h).0 in grind (arith, nat_tests)

pub before-below : (items : List Item) (i j : ℕ) → IsBefore items i j → i < j
before-below items i j (directly h) = directly-below items i j h
before-below items i j (by_way_of {k} p h) =
    let first : i < k = before-below items i k p in let second : k < j = directly-below items k j h in omega arith

module _ (items : List Item) (i : ℕ) where
  befores-more : (n : ℕ) → befores items i (suc n) ≡ befores items i n ++ is_next_before items i (befores items i n) n ∷ []
  befores-more n =
      ap (fold (λ known j. known ++ is_next_before items i known j ∷ []) []) (numbers-more n)
      ∙ fold-append (λ known j. known ++ is_next_before items i known j ∷ []) [] (numbers n) (n ∷ [])

  length-befores : (n : ℕ) → length (befores items i n) ≡ n
  length-befores zero = refl
  length-befores (suc n) = ap length (befores-more n) ∙ (let h = length-befores n in grind (arith, common_steps))

  -- one more entry
  last_entry : (known : List Bool) (b : Bool) (n : ℕ) → length known ≡ n → get_or (known ++ b ∷ []) n false ≡ b
  last_entry known b n h = grind (arith, common_steps)

  earlier_entry : (known : List Bool) (b : Bool) (n k : ℕ) → length known ≡ n → k < n
      → get_or (known ++ b ∷ []) k false ≡ get_or known k false
  earlier_entry known b n k h l = grind (arith, common_steps)

  -- each entry is the test at its place
  befores-at : (n k : ℕ) → k < n → get_or (befores items i n) k false ≡ is_before items i k
  unfolding is_before
  befores-at zero k l = absurd (omega arith)
  befores-at (suc n) k l =
      ⊎_elim
      (λ (below : k < n).
      ap (λ known. get_or known k false) (befores-more n)
      ∙ (earlier_entry (befores items i n) (is_next_before items i (befores items i n) n) n k (length-befores n) below
      ∙ befores-at n k below))
      (λ (same : k ≡ n). rw same refl)
      (cases n k l)
    where
      cases : (n k : ℕ) → k < suc n → (k < n) ⊎ (k ≡ n)
      cases n k l = grind arith

  -- the test is that for the next place
  is_before-next : (j : ℕ) → is_before items i j ≡ is_next_before items i (befores items i j) j
  unfolding is_before
  is_before-next j = ap (λ known. get_or known j false) (befores-more j)
      ∙ last_entry (befores items i j) (is_next_before items i (befores items i j) j) j (length-befores j)

  -- ---- the computed test is the relation

  below-computed : (n j : ℕ) → j < n → is_before items i j ≡ true → IsBefore items i j
  below-computed zero j l h = absurd (omega arith)
  below-computed (suc n) j l h =
      ⊎_elim
      (λ (here : is_directly_before items i j ≡ true). directly here)
      (λ (some : list_any (λ k. get_or (befores items i j) k false && is_directly_before items k j) (numbers j) ≡ true).
      let found = list_any_numbers-true (λ k. get_or (befores items i j) k false && is_directly_before items k j) j some
      in let parts = and_parts (get_or (befores items i j) found.0 false) (is_directly_before items found.0 j) found.2
      in by_way_of (below-computed n found.0 (let below = found.1 in omega arith) (sym (befores-at j found.0 found.1) ∙ parts.0)) parts.1)
      (or_cases (is_directly_before items i j) (list_any (λ k. get_or (befores items i j) k false && is_directly_before items k j)
      (numbers j)) (sym (is_before-next j) ∙ h))

  pub before-computed : (j : ℕ) → is_before items i j ≡ true → IsBefore items i j
  before-computed j h = below-computed (suc j) j (omega arith) h

  pub computed-before : (j : ℕ) → IsBefore items i j → is_before items i j ≡ true
  computed-before j (directly h) = is_before-next j ∙ or_left (is_directly_before items i j) (list_any (λ k. get_or
      (befores items i j) k false && is_directly_before items k j) (numbers j)) h
  computed-before j (by_way_of {k} p h) =
      let below = directly-below items k j h
      in is_before-next j
      ∙ or_right (is_directly_before items i j) (list_any (λ k. get_or (befores items i j) k false && is_directly_before items k j)
      (numbers j))
      (any-numbers (λ k. get_or (befores items i j) k false && is_directly_before items k j) j k below
      (and_from (get_or (befores items i j) k false) (is_directly_before items k j) (befores-at j k below ∙ computed-before k p) h))
