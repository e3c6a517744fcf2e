-- where no race ends anywhere and memory is legal, it is legal in every order that keeps before
use Rattle.std.specs.Prelude.{◌≡◌, ◌≢◌, ◌⊎◌, ℕ, zero, suc, ◌+◌, ◌<◌, ◌≤◌, ◌==◌, nat_lt, ◌&&◌, ◌||◌, not, if◌then◌else◌, Bool, true, false}
use Rattle.std.specs.Prelude.{List, [], ◌∷◌, ◌++◌, length, map, filter, find, AllPairs, Contains, Option, None, Some, refl, IsTrue}
use Rattle.std.specs.Option.{option_map}
use Rattle.std.specs.List.{fold}
use Rattle.std.proofs.Common.{ap, sym, ◌∙◌, inl, inr, arith, ⊎_elim, subst, take, drop}
use Rattle.std.proofs.lemmas.Bool.{cases_Bool}
use Rattle.std.proofs.lemmas.Bool.Decides.{nat_tests}
use Rattle.std.proofs.lemmas.List.{take-append-drop, map-append, get_or_past}
use Rattle.std.proofs.Math.Seq.{take-suc, drop-cons}
use Rattle.plat_base.specs.Pages.{numbers, initial_value}
use Rattle.plat_base.specs.Machine.{Machine}
use Rattle.plat_base.specs.Flat.{is_write, writes_word, written, flat_value, flat_writes}
use Rattle.plat_base.specs.Rules.{is_legal}
use Rattle.plat_base.specs.declared.items.Access.{Access}
use Rattle.plat_base.specs.declared.items.Item.{Item}
use Rattle.plat_base.specs.declared.items.Item.TheVariants as item
use Rattle.plat_laws.proofs.NumberLaws.{find_numbers-none}
use Rattle.plat_race.specs.Races.{no_item, item_at, same_cell, is_conflict, is_linked, IsBefore, directly, is_before, is_race, pair}
use Rattle.plat_race.specs.Races.{first_race}
use Rattle.plat_race.specs.Orders.{KeepsOrder, EveryOrderIsLegal}
use Rattle.plat_race.proofs.Befores.{numbers-more, before-computed}
use Rattle.plat_race.proofs.Racing.{first-each}
use Rattle.plat_race.proofs.Rising.{Has, EachPair, has-contained, has-filter, filter-has, each-pairs, pairs-front, pair-before, pair-after}
use Rattle.plat_race.proofs.Rising.{rising-filter, same_rising, has-range, range-has, rising-range, has-append}

-- ---- folds over the items at some places

-- a fold sees only the places of the items that change it
fold_step :
    {B : Type 0} (f : B → Item → B) (g : ℕ → Item) (test : ℕ → Bool) (b : B) (k : ℕ) (ks : List ℕ) (t : Bool) → test k ≡ t
    → (test k ≡ false → f b (g k) ≡ b) → ((c : B) → fold f c (map g ks) ≡ fold f c (map g (filter test ks)))
    → fold f (f b (g k)) (map g ks) ≡ fold f b (map g (if t then k ∷ filter test ks else filter test ks))
fold_step f g test b k ks true e leaves rest = rest (f b (g k))
fold_step f g test b k ks false e leaves rest = ap (λ c. fold f c (map g ks)) (leaves e) ∙ rest b

fold-filtered :
    {B : Type 0} (f : B → Item → B) (g : ℕ → Item) (test : ℕ → Bool) → ((b : B) (k : ℕ) → test k ≡ false → f b (g k) ≡ b)
    → (ks : List ℕ) (b : B) → fold f b (map g ks) ≡ fold f b (map g (filter test ks))
fold-filtered f g test leaves [] b = refl
fold-filtered f g test leaves (k ∷ ks) b = fold_step f g test b k ks (test k) refl (leaves b k) (λ c. fold-filtered f g test leaves ks c)

-- the items at the first places
take-items : (items : List Item) (n : ℕ) → n ≤ length items → map (item_at items) (numbers n) ≡ take n items
take-items items zero l = refl
take-items items (suc n) l =
    ap (map (item_at items)) (numbers-more n)
    ∙ (map-append (item_at items) (numbers n) (n ∷ [])
    ∙ (ap (λ before. before ++ item_at items n ∷ []) (take-items items n (omega arith)) ∙ sym (take-suc items n no_item l)))

-- ---- a split of the items at some places

record Split (items : List Item) (places : List ℕ) (before : List Item) (a : Item) : Type 0 where
  front : List ℕ
  back : List ℕ
  at : ℕ
  parts : places ≡ front ++ at ∷ back
  earlier : map (item_at items) front ≡ before
  here : item_at items at ≡ a

-- one more place in front
split-more :
    (items : List Item) (p : ℕ) (ps : List ℕ) (b : Item) (bs : List Item) (a : Item) → item_at items p ≡ b → Split items ps bs a
    → Split items (p ∷ ps) (b ∷ bs) a
split-more items p ps b bs a head s = record {
  front = p ∷ s.front;
  back = s.back;
  at = s.at;
  parts = ap (λ qs. p ∷ qs) s.parts;
  earlier = rw (head, s.earlier) refl;
  here = s.here;
}

map-split : (items : List Item) (places : List ℕ) (before rest : List Item) (a : Item) → map (item_at items) places ≡ before ++ a ∷ rest
    → Split items places before a
map-split items [] [] rest a e = absurd cc
map-split items (p ∷ ps) [] rest a e = record {
  front = [];
  back = ps;
  at = p;
  parts = refl;
  earlier = refl;
  here = cc;
}
map-split items [] (b ∷ bs) rest a e = absurd cc
map-split items (p ∷ ps) (b ∷ bs) rest a e = split-more items p ps b bs a (cc) (map-split items ps bs rest a (cc))

-- ---- a history without a race

none_of : (j : ℕ) (o : Option ℕ) → option_map (λ i. pair i j) o ≡ None → o ≡ None
none_of j None e = refl
none_of j (Some i) e = absurd cc

module _ (items : List Item) (free : first_race items ≡ None) where
  -- no two places race
  unraced : (i j : ℕ) → i < j → j < length items → is_race items i j ≡ false
  unraced i j l k = find_numbers-none (λ i. is_race items i j) j i (none_of j (find (λ i. is_race items i j) (numbers j))
      (first-each items j free k)) l

  -- of two accesses to a word of which one writes, the earlier is before the later
  touching :
      (i j : ℕ) (a c : Access) → i < j → j < length items → item_at items i ≡ item.Access a → item_at items j ≡ item.Access c
      → same_cell a c ≡ true
      → (is_write a.kind || is_write c.kind) ≡ true → IsBefore items i j
  touching i j a c l k e g same write =
      ⊎_elim
      (λ (own : (a.actor == c.actor) ≡ true). directly (rw (e, g) (linked own)))
      (λ (apart : (a.actor == c.actor) ≡ false). before-computed items i j (ordered apart))
      (cases_Bool (a.actor == c.actor))
    where
      linked : (a.actor == c.actor) ≡ true → (nat_lt i j && is_linked a c) ≡ true
      linked own = grind (arith, nat_tests)

      conflict : (a.actor == c.actor) ≡ false → is_conflict a c ≡ true
      conflict apart = rw (apart, same, write) refl

      ordered : (a.actor == c.actor) ≡ false → is_before items i j ≡ true
      ordered apart = passed (nat_lt i j) (is_conflict a c) (is_before items i j) (grind (arith, nat_tests)) (conflict apart) (rw
          (e, g) at (unraced i j l k))
        where
          passed : (x y z : Bool) → x ≡ true → y ≡ true → (x && y && not z) ≡ false → z ≡ true
          passed x y true p q h = refl
          passed x y false p q h = absurd (let k = rw (p, q) at h in cc)

  -- ---- the writes of a word before an access to it

  -- an item that writes the word
  writer :
      (page word : ℕ) (i : Item) → writes_word page word i ≡ true
      → (a : Access) × (i ≡ item.Access a) × (is_write a.kind ≡ true) × (a.page ≡ page) × (a.word ≡ word)
  writer page word (item.Access a) h = (a, refl, grind (arith, nat_tests), grind (arith, nat_tests), grind (arith, nat_tests))
  writer page word (item.Change c) h = absurd cc
  writer page word (item.Applied x) h = absurd cc
  writer page word (item.Switch s) h = absurd cc

  same_cells : (a c : Access) (page word : ℕ) → a.page ≡ page → a.word ≡ word → c.page ≡ page → c.word ≡ word → same_cell a c ≡ true
  same_cells a c page word p w p2 w2 = grind (arith, nat_tests)

  or_left : (x y : Bool) → x ≡ true → (x || y) ≡ true
  or_left true y h = refl
  or_left false y h = absurd cc

  or_right : (x y : Bool) → y ≡ true → (x || y) ≡ true
  or_right true y h = refl
  or_right false y h = h

  -- an access stands at a place of the history
  within : (i : ℕ) (a : Access) → item_at items i ≡ item.Access a → i < length items
  within i a e = ⊎_elim (λ l. l) (λ past. absurd (past_end past)) (cases i (length items))
    where
      cases : (i n : ℕ) → (i < n) ⊎ (n ≤ i)
      cases i n = grind arith

      past_end : length items ≤ i → ⊥
      past_end past = let none = get_or_past items i no_item past in absurd cc

  module _ (places : List ℕ) (keeps : KeepsOrder items places) (front back : List ℕ) (j : ℕ) (parts : places ≡ front ++ j ∷ back)
      (a : Access) (here : item_at items j ≡ item.Access a) where
    kept : EachPair (λ i k. (i ≢ k) × (IsBefore items k i → ⊥)) (front ++ j ∷ back)
    kept = each-pairs (λ i k. (i ≢ k) × (IsBefore items k i → ⊥)) (front ++ j ∷ back)
        (subst (AllPairs (λ i k. (i ≢ k) × (IsBefore items k i → ⊥))) parts keeps.kept)

    -- the test for a write of the word
    abbrev is_writer : ℕ → Bool
    is_writer k = writes_word a.page a.word (item_at items k)

    -- of two writes the one that stands earlier has the lower place
    rises : (i k : ℕ) → (i ≢ k) × (IsBefore items k i → ⊥) → is_writer i ≡ true → is_writer k ≡ true → i < k
    rises i k pair wi wk =
        ⊎_elim (λ l. l) (λ (l : k < i). absurd (pair.1 (later l))) (cases pair.0)
      where
        cases : i ≢ k → (i < k) ⊎ (k < i)
        cases apart = grind arith

        later : k < i → IsBefore items k i
        later l =
            let one = writer a.page a.word (item_at items k) wk
            in let two = writer a.page a.word (item_at items i) wi
            in touching k i one.0 two.0 l (within i two.0 two.1) one.1 two.1 (same_cells one.0 two.0 a.page a.word one.3 one.4 two.3 two.4)
            (or_left (is_write one.0.kind) (is_write two.0.kind) one.2)

    -- a write of the word that stands before the access has a lower place
    below : (k : ℕ) → Has front k → is_writer k ≡ true → k < j
    below k has w =
        let pair = pair-before (λ i k. (i ≢ k) × (IsBefore items k i → ⊥)) front back j k kept has
        in ⊎_elim (λ l. l) (λ (l : j < k). absurd (pair.1 (later l))) (cases pair.0)
      where
        cases : k ≢ j → (k < j) ⊎ (j < k)
        cases apart = grind arith

        later : j < k → IsBefore items j k
        later l =
            let two = writer a.page a.word (item_at items k) w
            in touching j k a two.0 l (within k two.0 two.1) here two.1 (same_cells a two.0 a.page a.word refl refl two.3 two.4)
            (or_right (is_write a.kind) (is_write two.0.kind) two.2)

    -- and a write with a lower place stands before it
    above : (k : ℕ) → k < j → is_writer k ≡ true → Has front k
    above k l w =
        let one = writer a.page a.word (item_at items k) w
        in let order = touching k j one.0 a l (within j a here) one.1 here (same_cells one.0 a a.page a.word one.3 one.4 refl refl)
        (or_left (is_write one.0.kind) (is_write a.kind) one.2)
        in let somewhere = has-contained (front ++ j ∷ back) k (subst (λ (ps : List ℕ). Contains ps k) parts (keeps.all k (rw one.1 refl)))
        in ⊎_elim
        (λ has. has)
        (λ rest. absurd (not_later order rest))
        (has-append front (j ∷ back) k somewhere)
      where
        not_later : IsBefore items k j → Has (j ∷ back) k → ⊥
        not_later order (inl same) = let e : j ≡ k = same in absurd (omega arith)
        not_later order (inr has) = (pair-after (λ i k. (i ≢ k) × (IsBefore items k i → ⊥)) front back j k kept has).1 order

    -- so the same writes stand before it, in one order
    same_writers : filter is_writer front ≡ filter is_writer (numbers j)
    same_writers =
        same_rising (filter is_writer front) (filter is_writer (numbers j))
        (rising-filter (λ i k. (i ≢ k) × (IsBefore items k i → ⊥)) is_writer front rises
        (pairs-front (λ i k. (i ≢ k) × (IsBefore items k i → ⊥)) front (j ∷ back) kept))
        (rising-filter (λ i k. i < k) is_writer (numbers j) (λ i k l wi wk. l) (rising-range 0 j))
        (λ k has. let h = has-filter is_writer front k has in filter-has is_writer (numbers j) k h.1 (range-has 0 j k (omega arith)
        (let l = below k h.0 h.1 in omega arith)))
        (λ k has. let h = has-filter is_writer (numbers j) k has in filter-has is_writer front k h.1 (above k
        (let r = has-range 0 j k h.0 in omega (arith, r.1)) h.1))

    -- a fold that other items leave alone gives the same before it
    same_fold :
        {B : Type 0} (f : B → Item → B) (b : B) → ((c : B) (i : Item) → writes_word a.page a.word i ≡ false → f c i ≡ c)
        → fold f b (map (item_at items) front) ≡ fold f b (take j items)
    same_fold f b leaves =
        fold-filtered f (item_at items) is_writer (λ c k none. leaves c (item_at items k) none) front b
        ∙ (ap (λ ks. fold f b (map (item_at items) ks)) same_writers
        ∙ (sym (fold-filtered f (item_at items) is_writer (λ c k none. leaves c (item_at items k) none) (numbers j) b)
        ∙ ap (fold f b) (take-items items j (let l = within j a here in omega arith))))

    legal-same : (m : Machine) → IsTrue (is_legal m (take j items) a) → IsTrue (is_legal m (map (item_at items) front) a)
    legal-same m h =
        legal-by m (map (item_at items) front) (take j items)
        (same_fold (λ v i. if writes_word a.page a.word i then written i else v) (initial_value m a.page a.word) (λ c i none. rw none refl))
        (same_fold (λ n i. if writes_word a.page a.word i then n + 1 else n) 0 (λ c i none. rw none refl))
        h
      where
        legal-by :
            (m : Machine) (some others : List Item) → flat_value m some a.page a.word ≡ flat_value m others a.page a.word
            → flat_writes some a.page a.word ≡ flat_writes others a.page a.word → IsTrue (is_legal m others a) → IsTrue (is_legal m some a)
        legal-by m some others value writes h = rw (value, writes) h

  -- ---- the law

  pub order-legal : (m : Machine) → EveryOrderIsLegal m items
  order-legal m legal places keeps before rest a e =
      let s = map-split items places before rest (item.Access a) e
      in let l = within s.at a s.here
      in subst (λ (before : List Item). IsTrue (is_legal m before a)) s.earlier
      (legal-same places keeps s.front s.back s.at s.parts a s.here m
      (legal (take s.at items) (drop (suc s.at) items) a (split s.at a s.here l)))
    where
      split : (j : ℕ) (a : Access) → item_at items j ≡ item.Access a → j < length items
          → items ≡ take j items ++ item.Access a ∷ drop (suc j) items
      split j a here l =
          sym (take-append-drop j items) ∙ ap (λ rest. take j items ++ rest) (drop-cons items j no_item l
          ∙ ap (λ i. i ∷ drop (suc j) items) here)
