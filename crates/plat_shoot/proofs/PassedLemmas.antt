-- the posts that a search for targets went past
use Rattle.std.proofs.Common.{◌≡◌, ℕ, zero, suc, ◌+◌, ◌-◌, ◌<◌, ◌≤◌, List, [], ◌∷◌, length, drop, get_or, refl, ap, sym, ◌∙◌, arith}
use Rattle.std.specs.Prelude.{slice_get, take, sum_by}
use Rattle.std.specs.List.{flat_map, zip}
use Rattle.std.proofs.Math.Seq.{take-suc}
use Rattle.std.proofs.lemmas.List.Sums.{sum_by-append, sum_by-cons}
use Rattle.plat_base.specs.Machine.{Machine}
use Rattle.plat_base.specs.Pages.{entries_of_page}
use Rattle.plat_events.specs.Shootdowns.{targets, targets_of}
use Rattle.plat_shoot.specs.Sought.{others, IsAt}
use Rattle.plat_shoot.specs.declared.targets.Passed.{Passed}
use Rattle.plat_shoot.proofs.TargetLemmas.{get_behind, length-targets_of, targets_from}

-- at this place the page has this entry, and this mask was found
pub record StandsAt (m : Machine) (page : ℕ) (posts : List ℕ) (n e found : ℕ) : Type 0 where
  pub among : n < length (entries_of_page m page)
  pub within : n < length posts
  pub entry : e ≡ get_or (entries_of_page m page) n 0
  pub mask : found ≡ get_or posts n 0

-- the targets of masks
abbrev pub counted : (nodes actor : ℕ) → List ℕ → ℕ
counted nodes actor masks = sum_by (λ mask. length (others nodes actor mask)) masks

-- one more post is passed
pub counted-next :
    (nodes actor : ℕ) (posts : List ℕ) (n mask : ℕ) → n < length posts → mask ≡ get_or posts n 0 →
    counted nodes actor (take (suc n) posts) ≡ counted nodes actor (take n posts) + length (others nodes actor mask)
counted-next nodes actor posts n mask h e =
    ap (counted nodes actor) (take-suc posts n 0 h)
    ∙ sum_by-append (λ m. length (others nodes actor m)) (take n posts) (get_or posts n 0 ∷ [])
    ∙ rw (sum_by-cons (λ m. length (others nodes actor m)) (get_or posts n 0) [], ← e) (omega arith)

-- a target behind the posts that are passed
behind :
    (m : Machine) (actor : ℕ) (es ms : List ℕ) (n at left : ℕ) → n ≤ length es → n ≤ length ms →
    counted m.nodes actor (take n ms) + left ≡ at →
    slice_get (flat_map (λ (x : ℕ × ℕ). targets_of m actor x.0 x.1) (zip es ms)) at
    ≡ slice_get (flat_map (λ (x : ℕ × ℕ). targets_of m actor x.0 x.1) (drop n (zip es ms))) left
behind m actor es ms zero at left h k e = ap (λ i. slice_get (flat_map (λ (x : ℕ × ℕ). targets_of m actor x.0 x.1) (zip es ms)) i) (omega (arith, sym e))
behind m actor [] ms (suc n) at left h k e = absurd (omega (arith, h))
behind m actor (x ∷ es) [] (suc n) at left h k e = absurd (omega (arith, k))
behind m actor (x ∷ es) (y ∷ ms) (suc n) at left h k e =
    get_behind (targets_of m actor x y) (flat_map (λ (z : ℕ × ℕ). targets_of m actor z.0 z.1) (zip es ms))
    (counted m.nodes actor (take n ms) + left) at
    (omega (arith, e, length-targets_of m actor x y, sum_by-cons (λ k. length (others m.nodes actor k)) y (take n ms)))
    ∙ behind m actor es ms n (counted m.nodes actor (take n ms) + left) left (omega (arith, h)) (omega (arith, k)) refl

pub target-behind :
    (m : Machine) (actor page : ℕ) (posts : List ℕ) (at : ℕ) (p : Passed) → IsAt m.nodes actor posts at p →
    p.posts ≤ length (entries_of_page m page) →
    slice_get (targets m actor page posts) at ≡ slice_get (targets_from m actor page posts p.posts) (at - p.targets)
target-behind m actor page posts at p is h =
    behind m actor (entries_of_page m page) posts p.posts at (at - p.targets) h is.passed.within
    (omega (arith, is.left, is.passed.counted, ap (λ n. counted n actor (take p.posts posts)) is.nodes))

-- the target is behind one more post
pub is_at-next :
    (nodes actor : ℕ) (posts : List ℕ) (at : ℕ) (p q : Passed) (mask more : ℕ) → IsAt nodes actor posts at p → p.posts < length posts →
    mask ≡ get_or posts p.posts 0 → q.nodes ≡ p.nodes → q.posts ≡ p.posts + 1 → q.targets ≡ at - more →
    length (others nodes actor mask) + more ≡ at - p.targets → IsAt nodes actor posts at q
is_at-next nodes actor posts at p q mask more is h e n k t sought = record {
  nodes = n ∙ is.nodes;
  passed = record {
    within = omega (arith, k, h);
    counted = omega (
      arith,
      t,
      sought,
      is.left,
      is.passed.counted,
      ap (λ i. counted i actor (take p.posts posts)) is.nodes,
      counted-next nodes actor posts p.posts mask h e,
      ap (λ i. counted i actor (take q.posts posts)) (n ∙ is.nodes),
      ap (λ i. counted nodes actor (take i posts)) (k ∙ next),
    );
  };
  left = omega (arith, t);
} where
  next : p.posts + 1 ≡ suc p.posts
  next = omega arith
