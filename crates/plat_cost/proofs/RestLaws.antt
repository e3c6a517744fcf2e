-- the first least number, and one more row of a table
use Rattle.std.specs.Prelude.{◌≡◌, ◌⊎◌, ℕ, zero, suc, ◌+◌, ◌-◌, ◌*◌, ◌<◌, ◌≤◌, List, [], ◌∷◌, length, slice_index, refl}
use Rattle.std.proofs.Common.{ap, sym, ◌∙◌, inl, inr, arith, ⊎_elim, subst, get_or, set, get_or-set_other, get_or-set_same}
use Rattle.std.proofs.lemmas.List.{get_or_past}
use Rattle.std.proofs.Math.Nat.{mul-le-mul_right}
use Rattle.plat_base.specs.Machine.{Machine}
use Rattle.plat_base.specs.Pages.{distance}
use Rattle.plat_cost.specs.Plans.{plan_cost, IsBestPlan}
use Rattle.plat_cost.specs.Certificates.{number_at, IsCertificate}
use Rattle.plat_cost.specs.Rests.{IsFirstLeast, onward, onward_at, IsTableFrom, IsWalk, IsWalked, IsRowOf, IsKeptFrom, AreLow, AreRisen}
use Rattle.plat_cost.specs.Rests.{IsLowTable}
use Rattle.plat_cost.proofs.PlanLaws.{table-below, walk-best, walk-least}

-- ---- the first least number

-- functions that agree have one
pub least_same : (f g : ℕ → ℕ) (n y : ℕ) → ((z : ℕ) → z < n → f z ≡ g z) → IsFirstLeast f n y → IsFirstLeast g n y
least_same f g n y same h = record {
  within = h.within;
  least = λ z l. let a = same y h.within in let b = same z l in let old = h.least z l in omega arith;
  first = λ z l. let w = h.within in let below : z < n = omega arith in let a = same y w in let b = same z below
      in let old = h.first z l in omega arith;
}

-- ---- one more row

module _ (m : Machine) where
  -- the next row's numbers, by its place
  next_place : (i base y : ℕ) → base ≡ i * m.nodes → suc i * m.nodes + y ≡ base + m.nodes + y
  next_place i base y e = let s : suc i * m.nodes ≡ i * m.nodes + m.nodes = omega arith in omega arith

  -- a table of one more row in front
  pub table_more :
      (actors old new : List ℕ) (i base : ℕ) → suc i < length actors → base ≡ i * m.nodes → IsTableFrom m actors (suc i) (number_at m old)
      → IsRowOf m (slice_index actors i) old base new m.nodes → IsKeptFrom (base + m.nodes) old new
      → IsTableFrom m actors i (number_at m new)
  table_more actors old new i base count at table row kept = record {
    last = λ k x l e low.
        let later : suc i ≤ k = omega arith in behind k x later ∙ table.last k x later e low;
    earlier = λ k x l e low.
        ⊎_elim
        (λ (same : k ≡ i).
        let r = row x low
        in subst (λ (k : ℕ). Follows k x) (sym same) (
          r.0,
          least_same (onward_at m old (base + m.nodes) x) (onward m (number_at m new) i x) m.nodes r.0 (λ y w. same_next y x) r.1,
          (rw (sym at) (r.2 ∙ ap (λ n. distance m (slice_index actors i) x + n) (same_next r.0 x))),
        ))
        (λ (later : suc i ≤ k).
        let r = table.earlier k x later e low
        in (
          r.0,
          least_same (onward m (number_at m old) k x) (onward m (number_at m new) k x) m.nodes r.0 (λ y w. same_later k x y later) r.1,
          behind k x later ∙ (r.2 ∙ ap (λ n. distance m (slice_index actors k) x + n) (same_later k x r.0 later)),
        ))
        (cases k l);
  }
    where
      Follows : ℕ → ℕ → Type 0
      Follows k x =
          (y : ℕ) × IsFirstLeast (onward m (number_at m new) k x) m.nodes y
          × (number_at m new k x ≡ distance m (slice_index actors k) x + onward m (number_at m new) k x y)

      cases : (k : ℕ) → i ≤ k → (k ≡ i) ⊎ (suc i ≤ k)
      cases k l = grind arith

      behind : (k x : ℕ) → suc i ≤ k → number_at m new k x ≡ number_at m old k x
      behind k x later =
          kept (k * m.nodes + x)
          (let product : suc i * m.nodes ≤ k * m.nodes = mul-le-mul_right m.nodes later in let s = next_place i base 0 at in omega arith)

      same_later : (k x y : ℕ) → suc i ≤ k → onward m (number_at m old) k x y ≡ onward m (number_at m new) k x y
      same_later k x y later = ap (λ n. m.words * distance m y x + n) (sym (behind (suc k) y (omega arith)))

      same_next : (y x : ℕ) → onward_at m old (base + m.nodes) x y ≡ onward m (number_at m new) i x y
      same_next y x =
          ap (λ n. m.words * distance m y x + n)
          (sym (ap (slice_index new) (next_place i base y at) ∙ kept (base + m.nodes + y) (omega arith)))

  -- ---- how high the numbers are

  -- the last row is a list of distances
  pub low_last :
      (rest : List ℕ) (base actor : ℕ) → base + m.nodes ≡ length rest → ((b : ℕ) → distance m actor b ≤ 1000)
      → ((x : ℕ) → x < m.nodes → slice_index rest (base + x) ≡ distance m actor x) → AreLow rest base 1000
  low_last rest base actor count most row k l =
      ⊎_elim
      (λ (past : length rest ≤ k). rw (get_or_past rest k 0 past) (omega arith))
      (λ (here : (x : ℕ) × (x < m.nodes) × (k ≡ base + x)).
      let is = row here.0 here.1 in let low = most here.0 in rw here.2 (omega arith))
      (cases (length rest) k base m.nodes count l)
    where
      cases : (n k base nodes : ℕ) → base + nodes ≡ n → base ≤ k → (n ≤ k) ⊎ ((x : ℕ) × (x < nodes) × (k ≡ base + x))
      cases n k base nodes e l = ⊎_elim (λ past. inl past) (λ under. inr (k - base, omega arith, omega arith)) (order n k)
        where
          order : (n k : ℕ) → (n ≤ k) ⊎ (k < n)
          order n k = grind arith

  -- one more row
  pub low_more :
      (old new : List ℕ) (base i count : ℕ) → suc i ≤ count → IsLowTable old (base + m.nodes) (suc i) count
      → IsKeptFrom (base + m.nodes) old new
      → AreRisen old (base + m.nodes) new base m.nodes → IsLowTable new base i count
  low_more old new base i count few low kept risen k l =
      ⊎_elim
      (λ (behind : base + m.nodes ≤ k). let is = kept k behind in let under = low k behind in omega arith)
      (λ (here : (x : ℕ) × (x < m.nodes) × (k ≡ base + x)).
      let under = risen ((count - suc i) * 65000) (λ k behind. let u = low k behind in omega arith) here.0 here.1
      in rw here.2 (omega arith))
      (cases (base + m.nodes) k base m.nodes refl l)
    where
      cases : (n k base nodes : ℕ) → base + nodes ≡ n → base ≤ k → (n ≤ k) ⊎ ((x : ℕ) × (x < nodes) × (k ≡ base + x))
      cases n k base nodes e l = ⊎_elim (λ past. inl past) (λ under. inr (k - base, omega arith, omega arith)) (order n k)
        where
          order : (n k : ℕ) → (n ≤ k) ⊎ (k < n)
          order n k = grind arith

  -- ---- walks by places

  pub walked_within : (rest plan : List ℕ) (n k : ℕ) → IsWalked m rest plan n → k < n → slice_index plan k < m.nodes
  walked_within rest plan n zero h l = h.start.within
  walked_within rest plan n (suc k) h l = (h.steps k l).within

  -- one more module
  pub walked_more :
      (rest plan : List ℕ) (i next : ℕ) → 0 < i → i < length plan → IsWalked m rest plan i
      → IsFirstLeast (onward_at m rest (i * m.nodes) (slice_index plan (i - 1))) m.nodes next → IsWalked m rest (set plan i next) (i + 1)
  walked_more rest plan i next some l h step = record {
    start = rw (get_or-set_other plan i 0 next 0 (λ e. absurd (omega arith))) h.start;
    steps = λ k below.
        ⊎_elim
        (λ (before : suc k < i).
        rw (
          get_or-set_other plan i k next 0 (λ e. absurd (omega arith)),
          get_or-set_other plan i (suc k) next 0 (λ e. absurd
              (omega arith)),
        ) (h.steps k before))
        (λ (last : suc k ≡ i). at_last k last)
        (cases k below);
  }
    where
      cases : (k : ℕ) → suc k < i + 1 → (suc k < i) ⊎ (suc k ≡ i)
      cases k below = grind arith

      at_last : (k : ℕ) → suc k ≡ i
          → IsFirstLeast (onward_at m rest (suc k * m.nodes) (slice_index (set plan i next) k)) m.nodes (slice_index (set plan i next)
          (suc k))
      at_last k last =
          let before : i - 1 ≡ k = omega arith
          in rw
          (last, get_or-set_other plan i k next 0 (λ e. absurd (omega arith)), get_or-set_same plan i next 0 l)
          (rw before at step)

  walk_from :
      (more ys : List ℕ) (x : ℕ) (r : ℕ → ℕ → ℕ) → length ys ≡ length more
      → ((k : ℕ) → suc k < suc (length ys) → IsFirstLeast (onward m r k (get_or (x ∷ ys) k 0)) m.nodes (get_or (x ∷ ys) (suc k) 0))
      → IsWalk m r x more ys
  walk_from [] [] x r e h = tt
  walk_from [] (y ∷ ys) x r e h = absurd (omega arith)
  walk_from (b ∷ more) [] x r e h = absurd (omega arith)
  walk_from (b ∷ more) (y ∷ ys) x r e h = (
    h 0 (omega arith),
    walk_from more ys y (λ i. r (suc i)) (omega arith) (λ k l. h (suc k)
        (omega arith)),
  )

  -- what is walked along a whole table is the best plan, its cost is the least number of the first access, and the table shows it
  pub best_of :
      (actors rest plan : List ℕ) → 0 < length actors → length plan ≡ length actors → IsTableFrom m actors 0 (number_at m rest)
      → IsWalked m rest plan (length actors)
      → IsBestPlan m actors plan × (slice_index rest (slice_index plan 0) ≡ plan_cost m actors plan)
      × IsCertificate m actors rest (slice_index rest (slice_index plan 0))
  best_of [] rest plan some count table walked = absurd (omega arith)
  best_of (a ∷ more) rest [] some count table walked = absurd (omega arith)
  best_of (a ∷ more) rest (x ∷ ys) some count table walked = (
    walk-best m a more (number_at m rest) x ys table start steps,
    sym (first x) ∙ walk-least m a more (number_at m rest) x ys table start steps,
    (table-below m (a ∷ more) (number_at m rest) table, λ z l. let low = walked.start.least z l in let e = first z in omega arith),
  )
    where
      first : (z : ℕ) → number_at m rest 0 z ≡ slice_index rest z
      first z = let e : 0 * m.nodes + z ≡ z = omega arith in ap (slice_index rest) e

      start : IsFirstLeast (number_at m rest 0) m.nodes x
      start = least_same (slice_index rest) (number_at m rest 0) m.nodes x (λ z l. sym (first z)) walked.start

      steps : IsWalk m (number_at m rest) x more ys
      steps = walk_from more ys x (number_at m rest) (omega arith) (λ k l. walked.steps k (omega arith))

  -- ---- steps of the loops that fill the table

  -- one more number of a row
  pub row_step :
      (actor : ℕ) (old cur : List ℕ) (base x v y : ℕ) → base + x < length cur → x < m.nodes → IsKeptFrom (base + m.nodes) old cur
      → IsRowOf m actor old base cur x → IsFirstLeast (onward_at m cur (base + m.nodes) x) m.nodes y
      → v ≡ distance m actor x + onward_at m cur (base + m.nodes) x y
      → IsKeptFrom (base + m.nodes) old (set cur (base + x) v) × IsRowOf m actor old base (set cur (base + x) v) (x + 1)
  row_step actor old cur base x v y within low kept row least e = (stays, rows)
    where
      stays : IsKeptFrom (base + m.nodes) old (set cur (base + x) v)
      stays k l = get_or-set_other cur (base + x) k v 0 (λ e. absurd (omega arith)) ∙ kept k l

      as_before : (z : ℕ) → onward_at m cur (base + m.nodes) x z ≡ onward_at m old (base + m.nodes) x z
      as_before z = ap (λ n. m.words * distance m z x + n) (kept (base + m.nodes + z) (omega arith))

      cases : (k : ℕ) → k < x + 1 → (k < x) ⊎ (k ≡ x)
      cases k l = grind arith

      rows : IsRowOf m actor old base (set cur (base + x) v) (x + 1)
      rows k l =
          ⊎_elim
          (λ (before : k < x).
          let r = row k before
          in (r.0, r.1, get_or-set_other cur (base + x) (base + k) v 0 (λ e. absurd (omega arith)) ∙ r.2))
          (λ (same : k ≡ x).
          subst (λ (k : ℕ). (y : ℕ) × IsFirstLeast (onward_at m old (base + m.nodes) k) m.nodes y
          × (slice_index (set cur (base + x) v) (base + k) ≡ distance m actor k + onward_at m old (base + m.nodes) k y)) (sym same) (
            y,
            least_same (onward_at m cur (base + m.nodes) x) (onward_at m old (base + m.nodes) x) m.nodes y (λ z w. as_before z) least,
            get_or-set_same cur (base + x) v 0 within ∙ (e ∙ ap (λ n. distance m actor x + n) (as_before y)),
          ))
          (cases k l)

  pub risen_step :
      (old cur : List ℕ) (next base x v : ℕ) → base + x < length cur → AreRisen old next cur base x
      → ((top : ℕ) → AreLow old next top → v ≤ top + 65000) → AreRisen old next (set cur (base + x) v) base (x + 1)
  risen_step old cur next base x v within risen low top under k l =
      ⊎_elim
      (λ (before : k < x). rw (get_or-set_other cur (base + x) (base + k) v 0 (λ e. absurd (omega arith))) (risen top under k before))
      (λ (same : k ≡ x). rw (same, get_or-set_same cur (base + x) v 0 within) (low top under))
      (cases k l)
    where
      cases : (k : ℕ) → k < x + 1 → (k < x) ⊎ (k ≡ x)
      cases k l = grind arith

  -- one more row of the table
  pub fill_step :
      (actors old new : List ℕ) (i p base : ℕ) → suc p ≡ i → i < length actors → base ≡ i * m.nodes
      → IsTableFrom m actors i (number_at m old)
      → IsLowTable old base i (length actors) → IsRowOf m (slice_index actors p) old (base - m.nodes) new m.nodes
      → IsKeptFrom (base - m.nodes + m.nodes) old new → AreRisen old (base - m.nodes + m.nodes) new (base - m.nodes) m.nodes
      → (base - m.nodes ≡ p * m.nodes) × IsTableFrom m actors p (number_at m new) × IsLowTable new (base - m.nodes) p (length actors)
  fill_step actors old new i p base e within at table low row kept risen = (
    less,
    table_more actors old new p (base - m.nodes) (omega arith) less (subst (λ (i : ℕ). IsTableFrom m actors i (number_at m old))
        (sym e) table) row kept,
    low_more old new (base - m.nodes) p (length actors) (omega arith)
        (subst (λ (b : ℕ). IsLowTable old b (suc p) (length actors)) back (subst (λ (i : ℕ). IsLowTable old base i (length actors))
        (sym e) low)) kept risen,
  )
    where
      here : base ≡ p * m.nodes + m.nodes
      here = at ∙ (ap (λ k. k * m.nodes) (sym e) ∙ (let s : suc p * m.nodes ≡ p * m.nodes + m.nodes = omega arith in s))

      less : base - m.nodes ≡ p * m.nodes
      less = let h = here in omega arith

      back : base ≡ base - m.nodes + m.nodes
      back = let h = here in omega arith
