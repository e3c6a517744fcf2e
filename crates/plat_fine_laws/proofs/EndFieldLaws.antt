-- sums, counts and ends over the processors, where one private state is another
use Rattle.std.specs.Prelude.{◌≡◌, ◌⊎◌, ℕ, ◌<◌, ◌≤◌, not, List, map, take, cond, slice_get, slice_set, Option, Some}
use Rattle.std.proofs.Common.{ap, ◌∙◌, inl, inr}
use Rattle.std.specs.List.{sum_by, count_by}
use Rattle.std.proofs.lemmas.List.{take-set-le}
use Rattle.std.proofs.lemmas.Bool.{cases_lt}
use Rattle.plat_base.specs.Machine.{Machine}
use Rattle.plat_base.specs.declared.items.Item.{Item}
use Rattle.plat_base.specs.declared.words.WordName.{WordName}
use Rattle.plat_events.specs.Privates.{Private, is_over}
use Rattle.plat_events.specs.Kept.{private_of}
use Rattle.plat_events.specs.Runs.{Fine, ended_by, ends_of}
use Rattle.plat_fine_laws.specs.Changes.{Changes}
use Rattle.plat_fine_laws.proofs.CountLaws.{sum_by-still, map-still, take-set_within, slice_get-take}

-- among the first n the changed one is another, or it stands behind them
pub among-cases :
    (n a : ℕ) (ps : List Private) (p after : Private) → slice_get ps a ≡ Some p →
    ((a < n) × (take n (slice_set ps a after) ≡ slice_set (take n ps) a after) × (slice_get (take n ps) a ≡ Some p))
    ⊎ (take n (slice_set ps a after) ≡ take n ps)
among-cases n a ps p after here = by (cases_lt a n)
  where
    by : (a < n) ⊎ (n ≤ a) → ((a < n) × (take n (slice_set ps a after) ≡ slice_set (take n ps) a after) × (slice_get
        (take n ps) a ≡ Some p))
        ⊎ (take n (slice_set ps a after) ≡ take n ps)
    by (inl within) = inl (within, take-set_within n a ps after within, slice_get-take n a ps p within here)
    by (inr behind) = inr (take-set-le n ps a after behind)

pub among-map :
    {A : Type 0} (f : Private → A) (n a : ℕ) (ps : List Private) (p after : Private) → slice_get ps a ≡ Some p →
    (a < n → f after ≡ f p) → map f (take n (slice_set ps a after)) ≡ map f (take n ps)
among-map f n a ps p after here same = by (among-cases n a ps p after here)
  where
    by : ((a < n) × (take n (slice_set ps a after) ≡ slice_set (take n ps) a after) × (slice_get (take n ps) a ≡ Some p))
        ⊎ (take n (slice_set ps a after) ≡ take n ps) → map f (take n (slice_set ps a after)) ≡ map f (take n ps)
    by (inl x) = ap (map f) x.1 ∙ map-still f (take n ps) a p after x.2 (same x.0)
    by (inr e) = ap (map f) e

pub among-sum :
    (f : Private → ℕ) (n a : ℕ) (ps : List Private) (p after : Private) → slice_get ps a ≡ Some p →
    (a < n → f after ≡ f p) → sum_by f (take n (slice_set ps a after)) ≡ sum_by f (take n ps)
among-sum f n a ps p after here same = by (among-cases n a ps p after here)
  where
    by : ((a < n) × (take n (slice_set ps a after) ≡ slice_set (take n ps) a after) × (slice_get (take n ps) a ≡ Some p))
        ⊎ (take n (slice_set ps a after) ≡ take n ps) → sum_by f (take n (slice_set ps a after)) ≡ sum_by f (take n ps)
    by (inl x) = ap (sum_by f) x.1 ∙ sum_by-still f (take n ps) a p after x.2 (same x.0)
    by (inr e) = ap (sum_by f) e

module _ (m : Machine) (s t : Fine) (a : ℕ) (name : WordName) (number : ℕ) (p : Private) (made : Option Item)
    (changes : Changes m s t a name number p made) (here : slice_get s.privates a ≡ Some (private_of m s a)) where
  pub turns-still :
      p.turns ≡ (private_of m s a).turns →
      sum_by (λ (x : Private). x.turns) t.privates ≡ sum_by (λ (x : Private). x.turns) s.privates
  turns-still same =
      ap (sum_by (λ (x : Private). x.turns)) changes.privates
      ∙ sum_by-still (λ (x : Private). x.turns) s.privates a (private_of m s a) p here same

  pub live-still :
      (a < m.nodes → is_over p.place ≡ is_over (private_of m s a).place) →
      count_by (λ (x : Private). not (is_over x.place)) (take m.nodes t.privates)
      ≡ count_by (λ (x : Private). not (is_over x.place)) (take m.nodes s.privates)
  live-still same =
      ap (λ ps. count_by (λ (x : Private). not (is_over x.place)) (take m.nodes ps)) changes.privates
      ∙ among-sum (λ (x : Private). cond (not (is_over x.place)) 1 0) m.nodes a s.privates (private_of m s a) p here
      (λ inside. ap (λ b. cond (not b) 1 0) (same inside))

  pub ends-still : (a < m.nodes → ended_by p ≡ ended_by (private_of m s a)) → ends_of m t.privates ≡ ends_of m s.privates
  ends-still same =
      ap (ends_of m) changes.privates ∙ among-map ended_by m.nodes a s.privates (private_of m s a) p here same
