-- what a certificate is worth, and that the walk along a table of least rests is the best plan
use Rattle.std.specs.Prelude.{◌≡◌, ◌⊎◌, ℕ, suc, ◌+◌, ◌<◌, ◌≤◌, List, [], ◌∷◌, refl}
use Rattle.std.proofs.Common.{sym, ◌∙◌, inl, inr, arith, ⊎_elim, subst}
use Rattle.plat_base.specs.Machine.{Machine}
use Rattle.plat_base.specs.Pages.{distance}
use Rattle.plat_cost.specs.Plans.{plan_cost, IsPlan, StandsBefore, IsBestPlan}
use Rattle.plat_cost.specs.Certificates.{number_at, IsBelow, IsCertificate}
use Rattle.plat_cost.specs.Rests.{IsFirstLeast, onward, IsTableFrom, IsWalk}

module _ (m : Machine) where
  -- ---- bounds below

  below-tail : (a b : ℕ) (more : List ℕ) (r : ℕ → ℕ → ℕ) → IsBelow m (a ∷ b ∷ more) r → IsBelow m (b ∷ more) (λ i. r (suc i))
  below-tail a b more r h = record {
    last = λ i x e l. h.last (suc i) x (omega arith) l;
    earlier = λ i x y e l k. h.earlier (suc i) x y (omega arith) l k;
  }

  -- no plan from a module costs less than the number there
  below-plan :
      (a : ℕ) (more : List ℕ) (r : ℕ → ℕ → ℕ) (x : ℕ) (xs : List ℕ) → IsBelow m (a ∷ more) r → IsPlan m (a ∷ more) (x ∷ xs)
      → r 0 x ≤ plan_cost m (a ∷ more) (x ∷ xs)
  below-plan a [] r x [] h p = let own = h.last 0 x refl p.0 in omega arith
  below-plan a [] r x (y ∷ ys) h p = absurd p.1
  below-plan a (b ∷ more) r x [] h p = absurd p.1
  below-plan a (b ∷ more) r x (y ∷ ys) h p =
      let rest = below-plan b more (λ i. r (suc i)) y ys (below-tail a b more r h) p.1
      in let here = h.earlier 0 x y (omega arith) p.0 p.1.0 in omega arith

  -- a certificate bounds every plan, whoever made it
  pub certified : (actors rest : List ℕ) (least : ℕ) (plan : List ℕ) → IsCertificate m actors rest least → IsPlan m actors plan
      → least ≤ plan_cost m actors plan
  certified [] rest least plan h p = omega arith
  certified (a ∷ more) rest least [] h p = absurd p
  certified (a ∷ more) rest least (x ∷ xs) h p =
      let rest_below = below-plan a more (number_at m rest) x xs h.0 p in let here = h.1 x p.0 in omega arith

  -- ---- tables of least rests

  pub table-below : (actors : List ℕ) (r : ℕ → ℕ → ℕ) → IsTableFrom m actors 0 r → IsBelow m actors r
  table-below actors r h = record {
    last = λ i x e l. let is = h.last i x (omega arith) e l in omega arith;
    earlier = λ i x y e l k. let is = h.earlier i x (omega arith) e l in let least = is.1.least y k in let sum = is.2 in omega arith;
  }

  table-tail : (a b : ℕ) (more : List ℕ) (r : ℕ → ℕ → ℕ) → IsTableFrom m (a ∷ b ∷ more) 0 r → IsTableFrom m (b ∷ more) 0 (λ i. r (suc i))
  table-tail a b more r h = record {
    last = λ i x k e l. h.last (suc i) x (omega arith) (omega arith) l;
    earlier = λ i x k e l. h.earlier (suc i) x (omega arith) (omega arith) l;
  }

  -- two first least numbers are one
  least-one : (f : ℕ → ℕ) (n y z : ℕ) → IsFirstLeast f n y → IsFirstLeast f n z → y ≡ z
  least-one f n y z h g =
      ⊎_elim
      (λ (l : y < z). absurd (let under = g.first y l in let over = h.least z g.within in omega arith))
      (λ (rest : (y ≡ z) ⊎ (z < y)).
      ⊎_elim (λ (e : y ≡ z). e) (λ (l : z < y). absurd (let under = h.first z l in let over = g.least y h.within in omega arith)) rest)
      (cases y z)
    where
      cases : (y z : ℕ) → (y < z) ⊎ ((y ≡ z) ⊎ (z < y))
      cases y z = grind arith

  -- ---- walks

  walk-plan : (a : ℕ) (more : List ℕ) (r : ℕ → ℕ → ℕ) (x : ℕ) (ys : List ℕ) → x < m.nodes → IsWalk m r x more ys
      → IsPlan m (a ∷ more) (x ∷ ys)
  walk-plan a [] r x [] l w = (l, tt)
  walk-plan a [] r x (y ∷ ys) l w = absurd w
  walk-plan a (b ∷ more) r x [] l w = absurd w
  walk-plan a (b ∷ more) r x (y ∷ ys) l w = (l, walk-plan b more (λ i. r (suc i)) y ys w.0.within w.1)

  -- a walk from a module costs the number there
  walk-cost :
      (a : ℕ) (more : List ℕ) (r : ℕ → ℕ → ℕ) (x : ℕ) (ys : List ℕ) → IsTableFrom m (a ∷ more) 0 r → x < m.nodes → IsWalk m r x more ys
      → plan_cost m (a ∷ more) (x ∷ ys) ≡ r 0 x
  walk-cost a [] r x [] h l w = let own = h.last 0 x (omega arith) refl l in omega arith
  walk-cost a [] r x (y ∷ ys) h l w = absurd w
  walk-cost a (b ∷ more) r x [] h l w = absurd w
  walk-cost a (b ∷ more) r x (y ∷ ys) h l w =
      let rest = walk-cost b more (λ i. r (suc i)) y ys (table-tail a b more r h) w.0.within w.1
      in let here = h.earlier 0 x (omega arith) (omega arith) l
      in let same : y ≡ here.0 = least-one (onward m r 0 x) m.nodes y here.0 w.0 here.1
      in let sum = subst (λ (z : ℕ). r 0 x ≡ distance m a x + onward m r 0 x z) (sym same) here.2
      in omega arith

  -- no plan of that cost stands before it
  walk-first :
      (a : ℕ) (more : List ℕ) (r : ℕ → ℕ → ℕ) (x : ℕ) (ys zs : List ℕ) → IsTableFrom m (a ∷ more) 0 r → IsWalk m r x more ys
      → IsPlan m (a ∷ more) (x ∷ zs) → plan_cost m (a ∷ more) (x ∷ zs) ≡ r 0 x → StandsBefore zs ys → ⊥
  walk-first a more r x ys [] h w p e s = s
  walk-first a more r x [] (z ∷ zs) h w p e s = s
  walk-first a [] r x (y ∷ ys) (z ∷ zs) h w p e s = w
  walk-first a (b ∷ more) r x (y ∷ ys) (z ∷ zs) h w p e s =
      ⊎_elim
      (λ (l : z < y). early l)
      (λ (t : (z ≡ y) × StandsBefore zs ys).
      walk-first b more (λ i. r (suc i)) y ys zs (table-tail a b more r h) w.1
      (subst (λ (q : ℕ). IsPlan m (b ∷ more) (q ∷ zs)) t.0 p.1) (later t.0) t.1)
      s
    where
      here : (t : ℕ) × IsFirstLeast (onward m r 0 x) m.nodes t × (r 0 x ≡ distance m a x + onward m r 0 x t)
      here = h.earlier 0 x (omega arith) (omega arith) p.0

      sum : r 0 x ≡ distance m a x + onward m r 0 x y
      sum = subst (λ (t : ℕ). r 0 x ≡ distance m a x + onward m r 0 x t) (sym (least-one
          (onward m r 0 x) m.nodes y here.0 w.0 here.1)) here.2

      rest_below : r 1 z ≤ plan_cost m (b ∷ more) (z ∷ zs)
      rest_below = below-plan b more (λ i. r (suc i)) z zs (table-below (b ∷ more) (λ i. r (suc i)) (table-tail a b more r h)) p.1

      early : z < y → ⊥
      early l = let under = w.0.first z l in let s2 = sum in let r2 = rest_below in absurd (omega arith)

      later : z ≡ y → plan_cost m (b ∷ more) (y ∷ zs) ≡ r 1 y
      later same =
          let cost = subst (λ (q : ℕ). plan_cost m (a ∷ b ∷ more) (x ∷ q ∷ zs) ≡ r 0 x) same e in let s2 = sum in omega arith

  -- the walk from the first least number is the best plan
  pub walk-best :
      (a : ℕ) (more : List ℕ) (r : ℕ → ℕ → ℕ) (x : ℕ) (ys : List ℕ) → IsTableFrom m (a ∷ more) 0 r → IsFirstLeast (r 0) m.nodes x
      → IsWalk m r x more ys → IsBestPlan m (a ∷ more) (x ∷ ys)
  walk-best a more r x ys h f w = record {
    possible = walk-plan a more r x ys f.within w;
    least = λ other p. least other p;
    first = λ other p e s. first other p e s;
  }
    where
      cost : plan_cost m (a ∷ more) (x ∷ ys) ≡ r 0 x
      cost = walk-cost a more r x ys h f.within w

      least : (other : List ℕ) → IsPlan m (a ∷ more) other → plan_cost m (a ∷ more) (x ∷ ys) ≤ plan_cost m (a ∷ more) other
      least [] p = absurd p
      least (z ∷ zs) p =
          let under = below-plan a more r z zs (table-below (a ∷ more) r h) p in let over = f.least z p.0 in let c = cost in omega arith

      first : (other : List ℕ) → IsPlan m (a ∷ more) other → plan_cost m (a ∷ more) other ≡ plan_cost m (a ∷ more) (x ∷ ys)
          → StandsBefore other (x ∷ ys) → ⊥
      first [] p e s = s
      first (z ∷ zs) p e (inl l) =
          absurd (let under = below-plan a more r z zs (table-below (a ∷ more) r h) p in let over = f.first z l
          in let c = cost in omega arith)
      first (z ∷ zs) p e (inr t) =
          walk-first a more r x ys zs h w (subst (λ (q : ℕ). IsPlan m (a ∷ more) (q ∷ zs)) t.0 p)
          (subst (λ (q : ℕ). plan_cost m (a ∷ more) (q ∷ zs) ≡ r 0 x) t.0 (e ∙ cost)) t.1

  -- its cost is that number
  pub walk-least :
      (a : ℕ) (more : List ℕ) (r : ℕ → ℕ → ℕ) (x : ℕ) (ys : List ℕ) → IsTableFrom m (a ∷ more) 0 r → IsFirstLeast (r 0) m.nodes x
      → IsWalk m r x more ys → r 0 x ≡ plan_cost m (a ∷ more) (x ∷ ys)
  walk-least a more r x ys h f w = sym (walk-cost a more r x ys h f.within w)

  -- ---- there is one best plan

  plan-cases : (actors xs ys : List ℕ) → IsPlan m actors xs → IsPlan m actors ys → (xs ≡ ys) ⊎ (StandsBefore xs ys ⊎ StandsBefore ys xs)
  plan-cases [] [] [] p q = inl refl
  plan-cases [] [] (y ∷ ys) p q = absurd q
  plan-cases [] (x ∷ xs) ys p q = absurd p
  plan-cases (a ∷ more) [] ys p q = absurd p
  plan-cases (a ∷ more) (x ∷ xs) [] p q = absurd q
  plan-cases (a ∷ more) (x ∷ xs) (y ∷ ys) p q = joined (heads x y) (plan-cases more xs ys p.1 q.1)
    where
      heads : (x y : ℕ) → (x < y) ⊎ ((x ≡ y) ⊎ (y < x))
      heads x y = grind arith

      joined :
          (x < y) ⊎ ((x ≡ y) ⊎ (y < x)) → (xs ≡ ys) ⊎ (StandsBefore xs ys ⊎ StandsBefore ys xs)
          → ((x ∷ xs) ≡ (y ∷ ys)) ⊎ (StandsBefore (x ∷ xs) (y ∷ ys) ⊎ StandsBefore (y ∷ ys) (x ∷ xs))
      joined (inl l) rest = inr (inl (inl l))
      joined (inr (inr l)) rest = inr (inr (inl l))
      joined (inr (inl e)) (inl t) = inl (rw (e, t) refl)
      joined (inr (inl e)) (inr (inl s)) = inr (inl (inr (e, s)))
      joined (inr (inl e)) (inr (inr s)) = inr (inr (inr (sym e, s)))

  pub best-one : (actors xs ys : List ℕ) → IsBestPlan m actors xs → IsBestPlan m actors ys → xs ≡ ys
  best-one actors xs ys h g =
      ⊎_elim
      (λ e. e)
      (λ apart. absurd (⊎_elim (λ s. g.first xs h.possible same s) (λ s. h.first ys g.possible (sym same) s) apart))
      (plan-cases actors xs ys h.possible g.possible)
    where
      same : plan_cost m actors xs ≡ plan_cost m actors ys
      same = let one = h.least ys g.possible in let two = g.least xs h.possible in omega arith
