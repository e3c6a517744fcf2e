-- the races that end at an item, by its clock and by the last accesses of its word
use Rattle.std.specs.Prelude.{◌≡◌, ◌≢◌, ◌⊎◌, ℕ, zero, suc, ◌+◌, ◌<◌, ◌≤◌, ◌==◌, nat_lt, nat_le, ◌&&◌, not, Bool, true, false, List, [], ◌∷◌}
use Rattle.std.specs.Prelude.{length, find, Option, Some, None, is_some, slice_index, refl}
use Rattle.std.specs.Option.{option_map}
use Rattle.std.specs.List.{fold, range_with_len}
use Rattle.std.proofs.Common.{ap, sym, ◌∙◌, inl, inr, arith, ⊎_elim, subst}
use Rattle.std.proofs.lemmas.Bool.{true≢false, cases_Bool}
use Rattle.std.proofs.lemmas.Bool.Decides.{nat_tests}
use Rattle.plat_base.specs.declared.limits.TheConstants.{MODULES}
use Rattle.plat_base.specs.Pages.{numbers}
use Rattle.plat_base.specs.Flat.{is_write}
use Rattle.plat_base.specs.declared.items.Access.{Access}
use Rattle.plat_base.specs.declared.items.Item.{Item}
use Rattle.plat_base.specs.declared.items.Item.TheVariants as item
use Rattle.plat_race.specs.declared.pairs.Pair.{Pair}
use Rattle.plat_base.specs.Items.{is_access_that}
use Rattle.plat_race.specs.Races.{item_at, of_two, is_conflict, is_before, directly, is_race, pair, race_at, or_later}
use Rattle.plat_race.specs.Races.{first_race}
use Rattle.plat_race.specs.Marks.{is_by, uses, writes, IsClock, AreClocks, AreLasts}
use Rattle.plat_laws.proofs.NumberLaws.{find_numbers-none}
use Rattle.plat_race.proofs.Befores.{before-computed, computed-before}
use Rattle.plat_race.proofs.Marking.{own-lead}
use Rattle.plat_base.proofs.ListLemmas.{find-range_none, find-numbers_none, find-range_first}

-- ---- the first number below a bound that passes a test

pub find_numbers-first :
    (test : ℕ → Bool) (n k : ℕ) → k < n → test k ≡ true → ((i : ℕ) → i < k → test i ≡ false) → find test (numbers n) ≡ Some k
find_numbers-first test n k l h none = find-range_first test 0 n k (omega arith) (omega arith) h (λ i low high. none i high)

-- ---- the first race, by the races that end at each place

-- the first of these, and those that the numbers from a on give
abbrev later : (ℕ → Option Pair) → Option Pair → (a n : ℕ) → Option Pair
later f found a n = fold (λ found j. or_later found (f j)) found (range_with_len a n)

later-kept : (f : ℕ → Option Pair) (p : Pair) (xs : List ℕ) → fold (λ found j. or_later found (f j)) (Some p) xs ≡ Some p
later-kept f p [] = refl
later-kept f p (x ∷ xs) = later-kept f p xs

later-none : (f : ℕ → Option Pair) (a n : ℕ) → ((j : ℕ) → a ≤ j → j < a + n → f j ≡ None)
    → fold (λ found j. or_later found (f j)) None (range_with_len a n) ≡ None
later-none f a zero none = refl
later-none f a (suc n) none =
    ap (λ found. later f found (a + 1) n) (none a (omega arith) (omega arith))
    ∙ later-none f (a + 1) n (λ j low high. none j (omega arith) (omega arith))

later-some :
    (f : ℕ → Option Pair) (a n k : ℕ) (p : Pair) → a ≤ k → k < a + n → f k ≡ Some p → ((j : ℕ) → a ≤ j → j < k → f j ≡ None)
    → fold (λ found j. or_later found (f j)) None (range_with_len a n) ≡ Some p
later-some f a zero k p l u h none = absurd (omega arith)
later-some f a (suc n) k p l u h none =
    ⊎_elim
    (λ (here : a ≡ k). let t : f a ≡ Some p = rw here h in ap (λ found. later f found (a + 1) n) t
    ∙ later-kept f p (range_with_len (a + 1) n))
    (λ (above : a < k).
    ap (λ found. later f found (a + 1) n) (none a (omega arith) above)
    ∙ later-some f (a + 1) n k p (omega arith) (omega arith) h (λ j low high. none j (omega arith) high))
    (cases a k l)
  where
    cases : (a k : ℕ) → a ≤ k → (a ≡ k) ⊎ (a < k)
    cases a k l = grind arith

-- no race ends at any place
pub first-none : (items : List Item) → ((j : ℕ) → j < length items → race_at items j ≡ None) → first_race items ≡ None
first-none items none = later-none (race_at items) 0 (length items) (λ j low high. none j (omega arith))

-- none ends below the place where this one does
pub first-some :
    (items : List Item) (k : ℕ) (p : Pair) → k < length items → race_at items k ≡ Some p → ((j : ℕ) → j < k → race_at items j ≡ None)
    → first_race items ≡ Some p
first-some items k p l h none = later-some (race_at items) 0 (length items) k p (omega arith) (omega arith) h (λ j low high. none j high)

later-each : (f : ℕ → Option Pair) (a n j : ℕ) → fold (λ found j. or_later found (f j)) None (range_with_len a n) ≡ None → a ≤ j
    → j < a + n → f j ≡ None
later-each f a zero j h l u = absurd (omega arith)
later-each f a (suc n) j h l u =
    let here : f a ≡ None = first_none (f a) h
    in ⊎_elim
    (λ (same : a ≡ j). rw (← same) here)
    (λ (above : a < j). later-each f (a + 1) n j (ap (λ found. later f found (a + 1) n) (sym here) ∙ h) (omega arith) (omega arith))
    (cases a j l)
  where
    cases : (a k : ℕ) → a ≤ k → (a ≡ k) ⊎ (a < k)
    cases a k l = grind arith

    first_none : (first : Option Pair) → later f first (a + 1) n ≡ None → first ≡ None
    first_none None e = refl
    first_none (Some p) e = absurd (let kept = later-kept f p (range_with_len (a + 1) n) in cc)

-- where there is no first race, none ends at any place
pub first-each : (items : List Item) (j : ℕ) → first_race items ≡ None → j < length items → race_at items j ≡ None
first-each items j h l = later-each (race_at items) 0 (length items) j h (omega arith) (omega arith)

-- ---- no race ends at an item that is no access

pub race_at-other : (items : List Item) (n : ℕ) → ((test : Access → Bool) → is_access_that test (item_at items n) ≡ false)
    → race_at items n ≡ None
race_at-other items n none = ap (option_map (λ i. pair i n)) (find-numbers_none (λ i. is_race items i n) n (λ i l. no_race i))
  where
    no_pair : (i : Item) → of_two is_conflict i (item_at items n) ≡ false
    no_pair (item.Access a) = none (is_conflict a)
    no_pair (item.Change c) = refl
    no_pair (item.Applied x) = refl
    no_pair (item.Switch s) = refl

    and_false : (b c d : Bool) → c ≡ false → (b && c && d) ≡ false
    and_false true true d h = absurd cc
    and_false true false d h = refl
    and_false false c d h = refl

    no_race : (i : ℕ) → is_race items i n ≡ false
    no_race i = and_false (nat_lt i n) (of_two is_conflict (item_at items i) (item_at items n)) (not (is_before items i n)) (no_pair
        (item_at items i))

-- ---- races that end at an access

module _ (items : List Item) (n : ℕ) (a : Access) (here : item_at items n ≡ item.Access a) where
  race-parts :
      (i : ℕ) (c : Access) → item_at items i ≡ item.Access c → i < n
      → is_race items i n ≡ (is_conflict c a && not (is_before items i n))
  race-parts i c there l =
      let below : nat_lt i n ≡ true = grind (arith, nat_tests)
      in rw (below, there, here) refl

  -- not of an access
  pub race-other : (i : ℕ) → ((test : Access → Bool) → is_access_that test (item_at items i) ≡ false) → is_race items i n ≡ false
  race-other i none = rw (none (λ c. is_access_that (is_conflict c) (item_at items n))) (and_false (nat_lt i n) (not (is_before items i n)))
    where
      and_false : (b c : Bool) → (b && false && c) ≡ false
      and_false true c = refl
      and_false false c = refl

  -- a clock tells which accesses are before the item
  before-by_clock :
      (i mark b : ℕ) → is_by b (item_at items i) ≡ true → IsClock items n b mark → not (is_before items i n) ≡ nat_le mark i
  before-by_clock i mark b by clock =
      ⊎_elim
      (λ (t : is_before items i n ≡ true). let l : i < mark = clock.complete i by (before-computed items i n t)
      in rw t (grind (arith, nat_tests)))
      (λ (f : is_before items i n ≡ false).
      ⊎_elim
      (λ (l : i < mark). absurd (true≢false (sym (computed-before items i n (clock.sound i l by)) ∙ f)))
      (λ (l : mark ≤ i). rw f (grind (arith, nat_tests)))
      (cases i mark))
      (cases_Bool (is_before items i n))
    where
      cases : (i mark : ℕ) → (i < mark) ⊎ (mark ≤ i)
      cases i mark = grind arith

  pub race-by_clock :
      (i mark : ℕ) (c : Access) → item_at items i ≡ item.Access c → i < n → IsClock items n c.actor mark
      → is_race items i n ≡ (is_conflict c a && nat_le mark i)
  race-by_clock i mark c there l clock =
      race-parts i c there l ∙ ap (λ apart. is_conflict c a && apart) (before-by_clock i mark c.actor (rw there (grind
      (arith, nat_tests))) clock)

  -- an item is an access, or passes no test of accesses
  access_or : (i : Item) → ((c : Access) × (i ≡ item.Access c)) ⊎ ((test : Access → Bool) → is_access_that test i ≡ false)
  access_or (item.Access c) = inl (c, refl)
  access_or (item.Change c) = inr (λ test. refl)
  access_or (item.Applied c) = inr (λ test. refl)
  access_or (item.Switch c) = inr (λ test. refl)

  -- the accesses that may race with this one pass a test, and those of other actors that pass it race unless they are before it
  pub record Meets (test : ℕ → Item → Bool) : Type 0 where
    pub all : (c : Access) → is_conflict c a ≡ true → test c.actor (item.Access c) ≡ true
    pub only : (c : Access) (b : ℕ) → test b (item.Access c) ≡ true → (c.actor ≡ b) × (b ≢ a.actor → is_conflict c a ≡ true)
    pub accesses : (b : ℕ) (i : Item) → ((t : Access → Bool) → is_access_that t i ≡ false) → test b i ≡ false

  module _ (test : ℕ → Item → Bool) (meets : Meets test) (lasts clock : List ℕ) (last : AreLasts items test n lasts)
      (heard : AreClocks items n clock) where
    -- no last access is above the clock: no race ends here
    quiet :
        ((i : ℕ) (c : Access) → item_at items i ≡ item.Access c → c.actor < MODULES)
        → ((b : ℕ) → b < MODULES → slice_index lasts b ≤ slice_index clock b) → (i : ℕ) → i < n → is_race items i n ≡ false
    quiet few low i l =
        ⊎_elim
        (λ (c, there). quiet_access c there)
        (λ none. race-other i none)
        (access_or (item_at items i))
      where
        no_conflict : (c : Access) → item_at items i ≡ item.Access c → is_conflict c a ≡ true → nat_le (slice_index clock c.actor) i ≡ false
        no_conflict c there conflict =
            let below : i < slice_index lasts c.actor = (last c.actor (few i c there)).above i l (rw there (meets.all c conflict))
            in let under = low c.actor (few i c there)
            in grind (arith, nat_tests)

        neither : (b c : Bool) → (b ≡ true → c ≡ false) → (b && c) ≡ false
        neither true c h = h refl
        neither false c h = refl

        quiet_access : (c : Access) → item_at items i ≡ item.Access c → is_race items i n ≡ false
        quiet_access c there =
            race-by_clock i (slice_index clock c.actor) c there l (heard c.actor (few i c there))
            ∙ neither (is_conflict c a) (nat_le (slice_index clock c.actor) i) (no_conflict c there)

    quiet-none :
        ((i : ℕ) (c : Access) → item_at items i ≡ item.Access c → c.actor < MODULES)
        → ((b : ℕ) → b < MODULES → slice_index lasts b ≤ slice_index clock b) → is_some (race_at items n) ≡ false
    quiet-none few low = rw (find-numbers_none (λ i. is_race items i n) n (quiet few low)) refl

    -- a last access above the clock: a race ends here
    loud : (b : ℕ) → b < MODULES → slice_index clock b < slice_index lasts b → (i : ℕ) × (i < n) × (is_race items i n ≡ true)
    loud b few above = by_place (slice_index lasts b) refl
      where
        both : (x y : Bool) → x ≡ true → y ≡ true → (x && y) ≡ true
        both true y h k = k
        both false y h k = absurd cc

        at_access : (i : ℕ) → suc i ≡ slice_index lasts b → (c : Access) → item_at items i ≡ item.Access c → is_race items i n ≡ true
        at_access i e c there =
            let passes = (last b few).there i e
            in let only = meets.only c b (rw there at passes.1)
            in let by : is_by b (item_at items i) ≡ true = rw (there, only.0) (grind (arith, nat_tests))
            in let apart : b ≢ a.actor = (λ (own : b ≡ a.actor).
            let below : i < slice_index clock b =
            (heard b few).complete i by (directly (own-lead items n a here i passes.0 (rw own at by))) in omega arith)
            in race-by_clock i (slice_index clock b) c there passes.0 (subst (λ (q : ℕ). IsClock items n q (slice_index clock b))
            (sym only.0) (heard b few))
            ∙ both (is_conflict c a) (nat_le (slice_index clock b) i) (only.1 apart) (grind (arith, nat_tests))

        at_place : (i : ℕ) → suc i ≡ slice_index lasts b → (i : ℕ) × (i < n) × (is_race items i n ≡ true)
        at_place i e =
            let passes = (last b few).there i e
            in ⊎_elim
            (λ (c, there). (i, passes.0, at_access i e c there))
            (λ none. absurd (true≢false (sym passes.1 ∙ meets.accesses b (item_at items i) none)))
            (access_or (item_at items i))

        by_place : (mark : ℕ) → mark ≡ slice_index lasts b → (i : ℕ) × (i < n) × (is_race items i n ≡ true)
        by_place zero e = absurd (omega arith)
        by_place (suc i) e = at_place i e

    loud-some : (b : ℕ) → b < MODULES → slice_index clock b < slice_index lasts b → is_some (race_at items n) ≡ true
    loud-some b few above =
        let race = loud b few above
        in found (find (λ i. is_race items i n) (numbers n)) refl race.0 race.1 race.2
      where
        found : (o : Option ℕ) → find (λ i. is_race items i n) (numbers n) ≡ o → (i : ℕ) → i < n → is_race items i n ≡ true
            → is_some (race_at items n) ≡ true
        found None e i l t = absurd (true≢false (sym t ∙ find_numbers-none (λ i. is_race items i n) n i e l))
        found (Some k) e i l t = rw e refl

    -- so a race ends here exactly where a last access is above the clock
    pub racing :
        ((i : ℕ) (c : Access) → item_at items i ≡ item.Access c → c.actor < MODULES)
        → (above : Bool) → (above ≡ true → (b : ℕ) × (b < MODULES) × (slice_index clock b < slice_index lasts b))
        → (above ≡ false → (b : ℕ) → b < MODULES → slice_index lasts b ≤ slice_index clock b) → above ≡ is_some (race_at items n)
    racing few true some none = let t = some refl in sym (loud-some t.0 t.1 t.2)
    racing few false some none = sym (quiet-none few (none refl))

  -- ---- the tables of last accesses

  pub meets-uses : is_write a.kind ≡ true → Meets (uses a.page a.word)
  meets-uses write = record {
    all = λ c h. grind (arith, nat_tests);
    only = λ c b h. (grind (arith, nat_tests), λ apart. grind (arith, nat_tests));
    accesses = λ b i none. none (λ c. c.actor == b && c.page == a.page && c.word == a.word);
  }

  pub meets-writes : is_write a.kind ≡ false → Meets (writes a.page a.word)
  meets-writes load = record {
    all = λ c h. grind (arith, nat_tests);
    only = λ c b h. (grind (arith, nat_tests), λ apart. grind (arith, nat_tests));
    accesses = λ b i none. none (λ c. is_write c.kind && c.actor == b && c.page == a.page && c.word == a.word);
  }
