-- the first of all plans that cost least is the best plan
use Rattle.std.specs.Prelude.{◌≡◌, ◌⊎◌, ℕ, zero, suc, ◌+◌, ◌<◌, ◌≤◌, nat_le, if◌then◌else◌, Bool, true, false, List, [], ◌∷◌, ◌++◌, map}
use Rattle.std.specs.Prelude.{length, refl}
use Rattle.std.specs.List.{flat_map, range_with_len}
use Rattle.std.proofs.Common.{ap, sym, ◌∙◌, inl, inr, arith, ⊎_elim, subst}
use Rattle.std.proofs.lemmas.Bool.Decides.{nat_tests}
use Rattle.plat_base.specs.Machine.{Machine}
use Rattle.plat_base.specs.Pages.{numbers}
use Rattle.plat_cost.specs.BestPlans.{all_plans, unless_cheaper, first_cheapest, first_cheapest_of, best_plan}
use Rattle.plat_cost.specs.Plans.{plan_cost, IsPlan, StandsBefore, IsBestPlan}

abbrev Plan : Type 0
Plan = List ℕ

-- ---- plans of a list

Has : List Plan → Plan → Type 0
Has [] p = ⊥
Has (x ∷ xs) p = (p ≡ x) ⊎ Has xs p

Has-left : (xs ys : List Plan) (p : Plan) → Has xs p → Has (xs ++ ys) p
unfolding Has
Has-left [] ys p h = absurd h
Has-left (x ∷ xs) ys p (inl e) = inl e
Has-left (x ∷ xs) ys p (inr h) = inr (Has-left xs ys p h)

Has-right : (xs ys : List Plan) (p : Plan) → Has ys p → Has (xs ++ ys) p
unfolding Has
Has-right [] ys p h = h
Has-right (x ∷ xs) ys p h = inr (Has-right xs ys p h)

Has-parts : (xs ys : List Plan) (p : Plan) → Has (xs ++ ys) p → Has xs p ⊎ Has ys p
unfolding Has
Has-parts [] ys p h = inr h
Has-parts (x ∷ xs) ys p (inl e) = inl (inl e)
Has-parts (x ∷ xs) ys p (inr h) = by (Has-parts xs ys p h)
  where
    by : Has xs p ⊎ Has ys p → Has (x ∷ xs) p ⊎ Has ys p
    by (inl k) = inl (inr k)
    by (inr k) = inr k

Has-begun : (x : ℕ) (ps : List Plan) (p : Plan) → Has ps p → Has (map (λ (xs : Plan). x ∷ xs) ps) (x ∷ p)
unfolding Has
Has-begun x [] p h = absurd h
Has-begun x (q ∷ qs) p (inl e) = inl (ap (λ (xs : Plan). x ∷ xs) e)
Has-begun x (q ∷ qs) p (inr h) = inr (Has-begun x qs p h)

begun-parts : (x : ℕ) (ps : List Plan) (p : Plan) → Has (map (λ (xs : Plan). x ∷ xs) ps) p → (q : Plan) × (p ≡ x ∷ q) × Has ps q
unfolding Has
begun-parts x [] p h = absurd h
begun-parts x (q ∷ qs) p (inl e) = (q, e, inl refl)
begun-parts x (q ∷ qs) p (inr h) = let r = begun-parts x qs p h in (r.0, r.1, inr r.2)

-- ---- in order

-- none of these stands before p
NoneBefore : Plan → List Plan → Type 0
NoneBefore p ps = (q : Plan) → Has ps q → StandsBefore q p → ⊥

IsRising : List Plan → Type 0
IsRising [] = Unit {0}
IsRising (p ∷ ps) = NoneBefore p ps × IsRising ps

not_before_itself : (p : Plan) → StandsBefore p p → ⊥
not_before_itself [] h = h
not_before_itself (x ∷ xs) (inl l) = absurd (omega arith)
not_before_itself (x ∷ xs) (inr both) = not_before_itself xs both.1

IsRising-append : (xs ys : List Plan) → IsRising xs → IsRising ys → ((p : Plan) → Has xs p → NoneBefore p ys) → IsRising (xs ++ ys)
unfolding IsRising NoneBefore Has
IsRising-append [] ys h k apart = k
IsRising-append (x ∷ xs) ys h k apart = (
  λ q has before. ⊎_elim (λ own. h.0 q own before) (λ later. apart x (inl refl) q later before) (Has-parts xs ys q has),
  IsRising-append xs ys h.1 k (λ p own. apart p (inr own)),
)

IsRising-begun : (x : ℕ) (ps : List Plan) → IsRising ps → IsRising (map (λ (xs : Plan). x ∷ xs) ps)
unfolding IsRising NoneBefore
IsRising-begun x [] h = tt
IsRising-begun x (p ∷ ps) h = (λ q has before. apart q (begun-parts x ps q has) before, IsRising-begun x ps h.1)
  where
    tails : (r : Plan) → StandsBefore (x ∷ r) (x ∷ p) → StandsBefore r p
    tails r (inl l) = absurd (omega arith)
    tails r (inr both) = both.1

    apart : (q : Plan) → (r : Plan) × (q ≡ x ∷ r) × Has ps r → StandsBefore q (x ∷ p) → ⊥
    apart q (r, e, has) before = h.0 r has (tails r (subst (λ (q : Plan). StandsBefore q (x ∷ p)) e before))

-- ---- all plans

-- the plans that begin with one of k modules from a on
abbrev begun_from : (a k : ℕ) → List Plan → List Plan
begun_from a k ps = flat_map (λ x. map (λ (xs : Plan). x ∷ xs) ps) (range_with_len a k)

begun_from-parts : (a k : ℕ) (ps : List Plan) (p : Plan) → Has (begun_from a k ps) p
    → (x : ℕ) × (q : Plan) × (a ≤ x) × (x < a + k) × (p ≡ x ∷ q) × Has ps q
unfolding Has
begun_from-parts a zero ps p h = absurd h
begun_from-parts a (suc k) ps p h =
    by (Has-parts (map (λ (xs : Plan). a ∷ xs) ps) (begun_from (a + 1) k ps) p h) (begun_from-parts (a + 1) k ps p)
  where
    by : Has (map (λ (xs : Plan). a ∷ xs) ps) p ⊎ Has (begun_from (a + 1) k ps) p
        → (Has (begun_from (a + 1) k ps) p → (x : ℕ) × (q : Plan) × (a + 1 ≤ x) × (x < a + 1 + k) × (p ≡ x ∷ q) × Has ps q)
        → (x : ℕ) × (q : Plan) × (a ≤ x) × (x < a + suc k) × (p ≡ x ∷ q) × Has ps q
    by (inl own) rest = let r = begun-parts a ps p own in (a, r.0, omega arith, omega arith, r.1, r.2)
    by (inr later) rest =
        let r = rest later in
        let low = r.2 in let high = r.3 in (r.0, r.1, omega arith, omega arith, r.4, r.5)

begun_from-has : (a k x : ℕ) (ps : List Plan) (p : Plan) → a ≤ x → x < a + k → Has ps p → Has (begun_from a k ps) (x ∷ p)
begun_from-has a zero x ps p l u h = absurd (omega arith)
begun_from-has a (suc k) x ps p l u h =
    ⊎_elim
    (λ (same : a ≡ x).
    Has-left (map (λ (xs : Plan). a ∷ xs) ps) (begun_from (a + 1) k ps) (x ∷ p)
    (subst (λ (x : ℕ). Has (map (λ (xs : Plan). a ∷ xs) ps) (x ∷ p)) same (Has-begun a ps p h)))
    (λ (later : a + 1 ≤ x).
    Has-right (map (λ (xs : Plan). a ∷ xs) ps) (begun_from (a + 1) k ps) (x ∷ p)
    (begun_from-has (a + 1) k x ps p later (omega arith) h))
    (cases a x l)
  where
    cases : (a x : ℕ) → a ≤ x → (a ≡ x) ⊎ (a + 1 ≤ x)
    cases a x l = grind arith

IsRising-begun_from : (a k : ℕ) (ps : List Plan) → IsRising ps → IsRising (begun_from a k ps)
unfolding IsRising NoneBefore
IsRising-begun_from a zero ps h = tt
IsRising-begun_from a (suc k) ps h =
    IsRising-append (map (λ (xs : Plan). a ∷ xs) ps) (begun_from (a + 1) k ps) (IsRising-begun a ps h)
    (IsRising-begun_from (a + 1) k ps h)
    (λ p own q later before. apart p q (begun-parts a ps p own) (begun_from-parts (a + 1) k ps q later) before)
  where
    later_head : (x : ℕ) (r s : Plan) → a + 1 ≤ x → StandsBefore (x ∷ r) (a ∷ s) → ⊥
    later_head x r s l (inl under) = absurd (omega arith)
    later_head x r s l (inr both) = absurd (let e = both.0 in omega arith)

    apart : (p q : Plan) → (s : Plan) × (p ≡ a ∷ s) × Has ps s
        → (x : ℕ) × (r : Plan) × (a + 1 ≤ x) × (x < a + 1 + k) × (q ≡ x ∷ r) × Has ps r → StandsBefore q p → ⊥
    apart p q (s, e, own) (x, r, l, u, f, has) before =
        later_head x r s l
        (subst (λ (q : Plan). StandsBefore q (a ∷ s)) f (subst (λ (p : Plan). StandsBefore q p) e before))

all_plans-rising : (nodes n : ℕ) → IsRising (all_plans nodes n)
unfolding IsRising NoneBefore Has
all_plans-rising nodes zero = (λ q has before. absurd has, tt)
all_plans-rising nodes (suc n) = IsRising-begun_from 0 nodes (all_plans nodes n) (all_plans-rising nodes n)

module _ (m : Machine) where
  all_plans-plan : (actors : List ℕ) (p : Plan) → Has (all_plans m.nodes (length actors)) p → IsPlan m actors p
  unfolding Has
  all_plans-plan [] p (inl e) = subst (IsPlan m []) (sym e) tt
  all_plans-plan [] p (inr h) = absurd h
  all_plans-plan (a ∷ more) p h =
      let r = begun_from-parts 0 m.nodes (all_plans m.nodes (length more)) p h in
      let high = r.3 in
      let below : r.0 < m.nodes = omega arith
      in subst (IsPlan m (a ∷ more)) (sym r.4) (below, all_plans-plan more r.1 r.5)

  all_plans-has : (actors : List ℕ) (p : Plan) → IsPlan m actors p → Has (all_plans m.nodes (length actors)) p
  unfolding Has
  all_plans-has [] [] h = inl refl
  all_plans-has [] (x ∷ xs) h = absurd h
  all_plans-has (a ∷ more) [] h = absurd h
  all_plans-has (a ∷ more) (x ∷ xs) h =
      begun_from-has 0 m.nodes x (all_plans m.nodes (length more)) xs (omega arith) (let l = h.0 in omega arith)
      (all_plans-has more xs h.1)

  -- there is a plan: the one that stays on module 0
  some_plan : (actors : List ℕ) → 0 < m.nodes → (p : Plan) × IsPlan m actors p
  some_plan [] some = ([], tt)
  some_plan (a ∷ more) some = let r = some_plan more some in (0 ∷ r.0, (some, r.1))

-- ---- the first cheapest

record IsFirstCheapest (cost : Plan → ℕ) (ps : List Plan) (best : Plan) : Type 0 where
  has : Has ps best
  least : (p : Plan) → Has ps p → cost best ≤ cost p
  first : (p : Plan) → Has ps p → cost p ≡ cost best → StandsBefore p best → ⊥

one_cheapest : (cost : Plan → ℕ) (x : Plan) → IsFirstCheapest cost (x ∷ []) x
unfolding Has
one_cheapest cost x = record {
  has = inl refl;
  least = λ p h. ⊎_elim (λ (e : p ≡ x). rw e (omega arith)) (λ none. absurd none) h;
  first = λ p h same before.
      ⊎_elim (λ (e : p ≡ x). not_before_itself x (subst (λ (p : Plan). StandsBefore p x) e before)) (λ none. absurd none) h;
}

more_cheapest : (cost : Plan → ℕ) (x : Plan) (ps : List Plan) (best : Plan) → NoneBefore x ps → IsFirstCheapest cost ps best
    → IsFirstCheapest cost (x ∷ ps) (unless_cheaper cost x best)
unfolding Has NoneBefore
more_cheapest cost x ps best none h = by (nat_le (cost x) (cost best)) refl
  where
    by : (b : Bool) → nat_le (cost x) (cost best) ≡ b → IsFirstCheapest cost (x ∷ ps) (if b then x else best)
    by true e =
        let low : cost x ≤ cost best = grind (arith, nat_tests) in
        record {
          has = inl refl;
          least = λ p has.
              ⊎_elim (λ (same : p ≡ x). rw same (omega arith)) (λ later. let under = h.least p later in omega arith) has;
          first = λ p has same before.
              ⊎_elim (λ (is : p ≡ x). not_before_itself x (subst (λ (p : Plan). StandsBefore p x) is before))
              (λ later. none p later before) has;
        }
    by false e =
        let high : cost best < cost x = grind (arith, nat_tests) in
        record {
          has = inr h.has;
          least = λ p has. ⊎_elim (λ (same : p ≡ x). rw same (omega arith)) (λ later. h.least p later) has;
          first = λ p has same before.
              ⊎_elim (λ (is : p ≡ x). absurd (let cheap = ap cost is in omega arith)) (λ later. h.first p later same before) has;
        }

cheapest : (cost : Plan → ℕ) (x : Plan) (xs : List Plan) → IsRising (x ∷ xs) → IsFirstCheapest cost (x ∷ xs) (first_cheapest cost x xs)
unfolding IsRising
cheapest cost x [] h = one_cheapest cost x
cheapest cost x (y ∷ ys) h = more_cheapest cost x (y ∷ ys) (first_cheapest cost y ys) h.0 (cheapest cost y ys h.1)

cheapest_of : (cost : Plan → ℕ) (ps : List Plan) (p : Plan) → Has ps p → IsRising ps → IsFirstCheapest cost ps (first_cheapest_of cost ps)
unfolding Has
cheapest_of cost [] p has h = absurd has
cheapest_of cost (x ∷ xs) p has h = cheapest cost x xs h

module _ (m : Machine) where
  pub best_plan-best : (actors : List ℕ) → 0 < m.nodes → IsBestPlan m actors (best_plan m actors)
  unfolding best_plan
  best_plan-best actors some =
      let one = some_plan m actors some in
      let all = all_plans m.nodes (length actors) in
      let best = cheapest_of (plan_cost m actors) all one.0 (all_plans-has m actors one.0 one.1) (all_plans-rising m.nodes (length actors))
      in record {
        possible = all_plans-plan m actors (first_cheapest_of (plan_cost m actors) all) best.has;
        least = λ other is. best.least other (all_plans-has m actors other is);
        first = λ other is. best.first other (all_plans-has m actors other is);
      }
