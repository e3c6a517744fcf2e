-- one more item: what each mark becomes
use Rattle.std.specs.Prelude.{◌≡◌, ◌≢◌, ◌⊎◌, ℕ, suc, ◌<◌, nat_lt, ◌&&◌, Bool, true, false, max, List, refl}
use Rattle.std.proofs.Common.{ap, sym, ◌∙◌, inl, inr, arith, ⊎_elim, subst}
use Rattle.std.proofs.lemmas.Bool.{and_parts, true≢false, and_from}
use Rattle.std.proofs.lemmas.Bool.Decides.{nat_tests}
use Rattle.plat_base.specs.declared.items.Access.{Access}
use Rattle.plat_base.specs.declared.items.Item.{Item}
use Rattle.plat_base.specs.declared.items.Item.TheVariants as item
use Rattle.plat_base.specs.Items.{is_access_that}
use Rattle.plat_race.specs.Races.{item_at, of_two, is_add, is_linked, is_directly_before, IsBefore, directly, by_way_of}
use Rattle.plat_race.specs.Marks.{is_by, adds_to, Reaches, IsMark, IsClock, IsLast}
use Rattle.plat_race.proofs.Befores.{directly-below, before-below}

module _ (items : List Item) (test : Item → Bool) (n : ℕ) where
  reaches-more : (i : ℕ) → Reaches items test n i → Reaches items test (suc n) i
  reaches-more i (k, l, t, r) = (k, omega arith, t, r)

  -- ---- an item that does not pass the test

  reaches-less : (i : ℕ) → test (item_at items n) ≡ false → Reaches items test (suc n) i → Reaches items test n i
  reaches-less i none (k, l, t, r) = (
    k,
    ⊎_elim (λ (below : k < n). below) (λ (same : k ≡ n). absurd (true≢false (sym t ∙ ap (λ j. test (item_at items j)) same
        ∙ none))) (below_or_at k l),
    t,
    r,
  )
    where
      below_or_at : (k : ℕ) → k < suc n → (k < n) ⊎ (k ≡ n)
      below_or_at k l = grind arith

  pub mark-kept : (b mark : ℕ) → test (item_at items n) ≡ false → IsMark items test n b mark → IsMark items test (suc n) b mark
  mark-kept b mark none h = record {
    low = let low = h.low in omega arith;
    sound = λ i l by. reaches-more i (h.sound i l by);
    complete = λ i by r. h.complete i by (reaches-less i none r);
  }

  pub last-kept : (mark : ℕ) → test (item_at items n) ≡ false → IsLast items test n mark → IsLast items test (suc n) mark
  last-kept mark none h = record {
    above = λ i l t. h.above i (⊎_elim (λ (below : i < n). below) (λ (same : i ≡ n). absurd (true≢false (sym t
        ∙ ap (λ j. test (item_at items j)) same ∙ none))) (below_or_at i l)) t;
    there = λ i e. let old = h.there i e in (omega (arith, old.0), old.1);
  }
    where
      below_or_at : (k : ℕ) → k < suc n → (k < n) ⊎ (k ≡ n)
      below_or_at k l = grind arith

  -- ---- an item that passes it

  pub last-here : test (item_at items n) ≡ true → IsLast items test (suc n) (suc n)
  last-here passes = record {
    above = λ i l t. l;
    there = λ i e. let same : i ≡ n = omega arith in (omega arith, rw same passes);
  }

  -- what passed the test so far is directly before it
  abbrev pub AllLead : Type 0
  AllLead = (k : ℕ) → k < n → test (item_at items k) ≡ true → is_directly_before items k n ≡ true

  leads : AllLead → (i : ℕ) → Reaches items test n i → IsBefore items i n
  leads all i (k, l, t, inl same) = rw same (directly (all k l t))
  leads all i (k, l, t, inr p) = by_way_of p (all k l t)

  -- the mark of another actor is the clock of the item
  pub mark-clock :
      (b mark : ℕ) → test (item_at items n) ≡ true → AllLead → is_by b (item_at items n) ≡ false → IsClock items n b mark
      → IsMark items test (suc n) b mark
  mark-clock b mark passes all other h = record {
    low = let low = h.low in omega arith;
    sound = λ i l by. (n, omega arith, passes, inr (h.sound i l by));
    complete = λ i by r. h.complete i by (here_or_led i by r);
  }
    where
      here_or_led : (i : ℕ) → is_by b (item_at items i) ≡ true → Reaches items test (suc n) i → IsBefore items i n
      here_or_led i by (k, l, t, r) =
          ⊎_elim
          (λ (below : k < n). leads all i (k, below, t, r))
          (λ (same : k ≡ n).
          ⊎_elim
          (λ (at : i ≡ k). absurd (true≢false (sym by ∙ (ap (λ j. is_by b (item_at items j)) (at ∙ same) ∙ other))))
          (λ (p : IsBefore items i k). subst (λ (j : ℕ). IsBefore items i j) same p)
          r)
          (below_or_at k l)
        where
          below_or_at : (k : ℕ) → k < suc n → (k < n) ⊎ (k ≡ n)
          below_or_at k l = grind arith

  reaches-below : (i : ℕ) → Reaches items test (suc n) i → i < suc n
  reaches-below i (k, l, t, inl same) = omega arith
  reaches-below i (k, l, t, inr p) = let first = before-below items i k p in omega arith

  -- the mark of the item's own actor is past it
  pub mark-own :
      (b : ℕ) → test (item_at items n) ≡ true → ((i : ℕ) → i < n → is_by b (item_at items i) ≡ true → is_directly_before items i n ≡ true)
      → IsMark items test (suc n) b (suc n)
  mark-own b passes own = record {
    low = omega arith;
    sound = λ i l by.
        ⊎_elim
        (λ (below : i < n). (n, omega arith, passes, inr (directly (own i below by))))
        (λ (same : i ≡ n). (n, omega arith, passes, inl same))
        (below_or_at i l);
    complete = λ i by r. reaches-below i r;
  }
    where
      below_or_at : (k : ℕ) → k < suc n → (k < n) ⊎ (k ≡ n)
      below_or_at k l = grind arith

  -- ---- the clock of an item

  -- what is directly before the item passes the test
  abbrev pub AllLed : Type 0
  AllLed = (k : ℕ) → is_directly_before items k n ≡ true → test (item_at items k) ≡ true

  before-reaches : AllLed → (i : ℕ) → IsBefore items i n → Reaches items test n i
  before-reaches all i (directly h) = (i, directly-below items i n h, all i h, inl refl)
  before-reaches all i (by_way_of {k} p h) = (k, directly-below items k n h, all k h, inr p)

  pub clock-alone : (b mark : ℕ) → AllLead → AllLed → IsMark items test n b mark → IsClock items n b mark
  clock-alone b mark lead led h = record {
    low = h.low;
    sound = λ i l by. leads lead i (h.sound i l by);
    complete = λ i by p. h.complete i by (before-reaches led i p);
  }

-- the item is reached by two tests: its mark is the higher one
module _ (items : List Item) (test other : Item → Bool) (n : ℕ) where
  pub clock-joined :
      (b mark more : ℕ)
      → ((k : ℕ) → k < n → test (item_at items k) ≡ true → is_directly_before items k n ≡ true)
      → ((k : ℕ) → k < n → other (item_at items k) ≡ true → is_directly_before items k n ≡ true)
      → ((k : ℕ) → is_directly_before items k n ≡ true → (test (item_at items k) ≡ true) ⊎ (other (item_at items k) ≡ true))
      → IsMark items test n b mark → IsMark items other n b more → IsClock items n b (max mark more)
  clock-joined b mark more lead lead2 led h g = record {
    low = let low = h.low in let low2 = g.low in omega arith;
    sound = λ i l by.
        ⊎_elim
        (λ (below : i < mark). leads items test n lead i (h.sound i below by))
        (λ (below : i < more). leads items other n lead2 i (g.sound i below by))
        (one_or_other i l);
    complete = λ i by p.
        ⊎_elim
        (λ (r : Reaches items test n i). let below : i < mark = h.complete i by r in omega arith)
        (λ (r : Reaches items other n i). let below : i < more = g.complete i by r in omega arith)
        (reached i p);
  }
    where
      one_or_other : (i : ℕ) → i < max mark more → (i < mark) ⊎ (i < more)
      one_or_other i l = grind arith

      reached : (i : ℕ) → IsBefore items i n → Reaches items test n i ⊎ Reaches items other n i
      reached i (directly h) =
          ⊎_elim
          (λ t. inl (i, directly-below items i n h, t, inl refl))
          (λ t. inr (i, directly-below items i n h, t, inl refl))
          (led i h)
      reached i (by_way_of {k} p h) =
          ⊎_elim
          (λ t. inl (k, directly-below items k n h, t, inr p))
          (λ t. inr (k, directly-below items k n h, t, inr p))
          (led k h)

-- ---- what is directly before an access

module _ (items : List Item) (n : ℕ) (a : Access) (here : item_at items n ≡ item.Access a) where
  -- the item is by its actor, and by no other
  pub by-actor : is_by a.actor (item_at items n) ≡ true
  by-actor = rw here (grind (arith, nat_tests))

  pub by-other : (b : ℕ) → b ≢ a.actor → is_by b (item_at items n) ≡ false
  by-other b apart = rw here (grind (arith, nat_tests))

  directly-to : (k : ℕ) → k < n → is_access_that (λ c. is_linked c a) (item_at items k) ≡ true → is_directly_before items k n ≡ true
  directly-to k l h = and_from (nat_lt k n) (of_two is_linked (item_at items k) (item_at items n)) (grind (arith, nat_tests)) (rw here h)

  directly-from : (k : ℕ) → is_directly_before items k n ≡ true → is_access_that (λ c. is_linked c a) (item_at items k) ≡ true
  directly-from k h = rw here at (and_parts (nat_lt k n) (of_two is_linked (item_at items k) (item_at items n)) h).1

  linked-own : (i : Item) → is_by a.actor i ≡ true → is_access_that (λ c. is_linked c a) i ≡ true
  linked-own (item.Access c) h = grind (arith, nat_tests)
  linked-own (item.Change c) h = absurd cc
  linked-own (item.Applied c) h = absurd cc
  linked-own (item.Switch c) h = absurd cc

  linked-adds : is_add a.kind ≡ true → (i : Item) → adds_to a.page a.word i ≡ true → is_access_that (λ c. is_linked c a) i ≡ true
  linked-adds adds (item.Access c) h = grind (arith, nat_tests)
  linked-adds adds (item.Change c) h = absurd cc
  linked-adds adds (item.Applied c) h = absurd cc
  linked-adds adds (item.Switch c) h = absurd cc

  own_linked : is_add a.kind ≡ false → (i : Item) → is_access_that (λ c. is_linked c a) i ≡ true → is_by a.actor i ≡ true
  own_linked alone (item.Access c) h = grind (arith, nat_tests)
  own_linked alone (item.Change c) h = absurd cc
  own_linked alone (item.Applied c) h = absurd cc
  own_linked alone (item.Switch c) h = absurd cc

  own_or_adds : (i : Item) → is_access_that (λ c. is_linked c a) i ≡ true → (is_by a.actor i ≡ true) ⊎ (adds_to a.page a.word i ≡ true)
  own_or_adds (item.Access c) h = grind (arith, nat_tests)
  own_or_adds (item.Change c) h = absurd cc
  own_or_adds (item.Applied c) h = absurd cc
  own_or_adds (item.Switch c) h = absurd cc

  -- ---- of an access alone, and of a fetch-and-add

  pub own-lead : (k : ℕ) → k < n → is_by a.actor (item_at items k) ≡ true → is_directly_before items k n ≡ true
  own-lead k l h = directly-to k l (linked-own (item_at items k) h)

  pub adds-lead : is_add a.kind ≡ true → (k : ℕ) → k < n → adds_to a.page a.word (item_at items k) ≡ true
      → is_directly_before items k n ≡ true
  adds-lead adds k l h = directly-to k l (linked-adds adds (item_at items k) h)

  pub alone-led : is_add a.kind ≡ false → (k : ℕ) → is_directly_before items k n ≡ true → is_by a.actor (item_at items k) ≡ true
  alone-led alone k h = own_linked alone (item_at items k) (directly-from k h)

  pub add-led : (k : ℕ) → is_directly_before items k n ≡ true → (is_by a.actor (item_at items k)
      ≡ true) ⊎ (adds_to a.page a.word (item_at items k) ≡ true)
  add-led k h = own_or_adds (item_at items k) (directly-from k h)
