-- the tables of the journals of a good history say how many items wait for one
use Rattle.std.specs.Prelude.{◌≡◌, ◌⊎◌, ℕ, suc, ◌+◌, ◌-◌, ◌*◌, ◌<◌, ◌≤◌, ◌==◌, nat_lt, ◌&&◌, not, if◌then◌else◌, Bool, true, false}
use Rattle.std.specs.Prelude.{List, [], ◌∷◌, ◌++◌, length, drop, count_by, sum_by, Some, None, slice_index, slice_index_or}
use Rattle.std.proofs.Common.{refl, ap, sym, ◌∙◌, inl, inr, arith, subst}
use Rattle.std.specs.List.{list_all, list_any}
use Rattle.std.specs.Option.{option_map_or}
use Rattle.std.proofs.lemmas.Bool.{cases_Bool, and_parts, eqb-true, eq-eqb, true≢false, lt-ltb, ltb-true, ltb-false}
use Rattle.std.proofs.lemmas.Bool.Decides.{nat_tests}
use Rattle.std.proofs.lemmas.List.Sums.{sum_by-cons, sum_by-set}
use Rattle.std.proofs.lemmas.Nat.{same_from_place, mul-add-lt}
use Rattle.plat_base.specs.Verdicts.{Answer}
use Rattle.plat_base.specs.Machine.{Machine}
use Rattle.plat_base.specs.Accesses.{writes_made}
use Rattle.plat_base.specs.Flat.{is_write, flat_value, writes_word, flat_writes}
use Rattle.plat_base.specs.Directories.{seq_of}
use Rattle.plat_base.specs.Rules.{bad_rule, is_chained}
use Rattle.plat_base.specs.declared.items.Item.{Item}
use Rattle.plat_base.specs.declared.items.Item.TheVariants as item
use Rattle.plat_base.specs.declared.statuses.Rule.TheVariants as rule
use Rattle.plat_events.specs.Shown.{actor_of, items_by}
use Rattle.plat_events.specs.Merges.{Journals, without_next}
use Rattle.plat_laws.proofs.AccessLaws.{access_parts}
use Rattle.plat_laws.proofs.ChangeLaws.{good_change}
use Rattle.plat_merge_laws.specs.Merging.{HasJournals}
use Rattle.plat_merge_laws.proofs.JournalLemmas.{journals-without, journal-within}
use Rattle.plat_merge_laws.proofs.MergeLaws.{AllKept}
use Rattle.plat_merge.specs.declared.keys.Counted.{Counted}
use Rattle.plat_merge.specs.declared.keys.Counted.TheVariants as counted
use Rattle.plat_merge.specs.declared.totals.Table.{Table}
use Rattle.plat_merge.specs.declared.totals.Totals.{Totals}
use Rattle.plat_merge.specs.Standing.{is_load_at, is_use_at, is_write_at, changes_page}
use Rattle.plat_merge.specs.Counts.{cell_of, is_within}
use Rattle.plat_merge.specs.Keys.{key_at, has_key, number_at, total_at, AreStarts, IsFilled, HaveRows, AreFilled}
use Rattle.plat_merge.proofs.StandLemmas.{one_if, none-count}
use Rattle.plat_merge.proofs.StepLemmas.{count-cons, load-past, grant-past}
use Rattle.plat_merge.proofs.KeyLemmas.{starts-more, starts-within, rows-apart}
use Rattle.plat_merge.proofs.PlaceLemmas.{writes-counted, seq-counted}
use Rattle.plat_merge.proofs.UnderWay.{KnowsTotals}
use Rattle.plat_base.proofs.RuleLemmas.{unless-none}

-- ---- the items of a good history are within the machine

within-one : (m : Machine) (answer : Answer) (before : List Item) (i : Item) → bad_rule m answer before i ≡ None →
    is_within m.pages m.words i ≡ true
within-one m answer before (item.Access a) kept =
    let legal = (access_parts m answer before a kept).2 in
    let three = and_parts (nat_lt a.page m.pages && nat_lt a.word m.words && a.old == flat_value m before a.page a.word)
    (a.version == flat_writes before a.page a.word + writes_made a.kind) legal in
    (and_parts (nat_lt a.page m.pages && nat_lt a.word m.words) (a.old == flat_value m before a.page a.word) three.0).0
within-one m answer before (item.Change c) kept =
    lt-ltb c.page m.pages (good_change m answer before c (unless-none (is_chained m answer before c) rule.Chain kept)).page
within-one m answer before (item.Applied x) kept = refl
within-one m answer before (item.Switch s) kept = refl

pub within-all :
    (m : Machine) (answer : Answer) (before xs : List Item) → AllKept m answer before xs → list_all (is_within m.pages m.words) xs ≡ true
within-all m answer before [] kept = refl
within-all m answer before (x ∷ xs) kept = rw (within-one m answer before x kept.0) (within-all m answer (before ++ x ∷ []) xs kept.1)

-- ---- a count over all journals is one over the items

none-left : (f : Item → Bool) (journals : Journals) → ((a : ℕ) → slice_index_or journals a [] ≡ []) →
    sum_by (λ (j : List Item). count_by f j) journals ≡ 0
none-left f [] h = refl
none-left f (x ∷ xs) h =
    let rest = none-left f xs (λ a. h (suc a)) in
    let here : count_by f x ≡ 0 = ap (count_by f) (h 0) in
    omega (arith, rest, here, sum_by-cons (λ (j : List Item). count_by f j) x xs)

journals-counted :
    (f : Item → Bool) (items : List Item) (journals : Journals) → HasJournals items journals
    → sum_by (λ (j : List Item). count_by f j) journals ≡ count_by f items
journals-counted f [] journals has = none-left f journals has
journals-counted f (i ∷ items) journals has =
    let front : slice_index_or journals (actor_of i) [] ≡ i ∷ items_by (actor_of i) items =
    has (actor_of i) ∙ ap (λ (b : Bool). if b then i ∷ items_by (actor_of i) items else items_by (actor_of i) items)
    (eq-eqb (actor_of i) (actor_of i) refl) in
    let inside = journal-within journals (actor_of i) i (items_by (actor_of i) items) front in
    let j : List Item = slice_index_or journals (actor_of i) [] in
    let taken = sum_by-set (λ (j : List Item). count_by f j) journals (actor_of i) (drop 1 j) [] inside in
    let whole : count_by f j ≡ one_if (f i) + count_by f (items_by (actor_of i) items) = ap (count_by f) front
    ∙ count-cons f i (items_by (actor_of i) items) in
    let fewer : count_by f (drop 1 j) ≡ count_by f (items_by (actor_of i) items) = ap (λ ys. count_by f (drop 1 ys)) front in
    let rest = journals-counted f items (without_next journals (actor_of i)) (journals-without i items journals has) in
    omega (arith, taken, whole, fewer, rest, count-cons f i items)

-- ---- where a place of a row stands

same-cell : (W page word p w : ℕ) → word < W → w < W → (cell_of W p w == cell_of W page word) ≡ (p == page && w == word)
same-cell W page word p w l k = by (cases_Bool (cell_of W p w == cell_of W page word)) (cases_Bool (p == page && w == word))
  where
    by :
        ((cell_of W p w == cell_of W page word) ≡ true) ⊎ ((cell_of W p w == cell_of W page word) ≡ false)
        → ((p == page && w == word) ≡ true) ⊎ ((p == page && w == word) ≡ false) → (cell_of W p w == cell_of W page word)
        ≡ (p == page && w == word)
    by (inl x) (inl y) = x ∙ sym y
    by (inr x) (inr y) = x ∙ sym y
    by (inl x) (inr y) =
        let both = same_from_place p w page word W k l (eqb-true (cell_of W p w) (cell_of W page word) x) in
        absurd (true≢false (sym (rw (eq-eqb p page both.0, eq-eqb w word both.1) refl) ∙ y))
    by (inr x) (inl y) =
        let both = and_parts (p == page) (w == word) y in
        let e : cell_of W p w ≡ cell_of W page word = ap (λ z. cell_of W z w) (eqb-true p page both.0)
        ∙ ap (cell_of W page) (eqb-true w word both.1) in
        absurd (true≢false (sym (eq-eqb (cell_of W p w) (cell_of W page word) e) ∙ x))

lower-differs : (a b : ℕ) → a < b → (a == b) ≡ false
lower-differs a b h = grind (arith, nat_tests)

higher-differs : (a b : ℕ) → b < a → (a == b) ≡ false
higher-differs a b h = grind (arith, nat_tests)

higher : (a b : ℕ) → (a == b) ≡ false → nat_lt a b ≡ false → b < a
higher a b h k = grind (arith, nat_tests)

plus-same : (n p q : ℕ) → (n + p == n + q) ≡ (p == q)
plus-same n p q = grind (arith, nat_tests)

-- the place of one row is that of no other
same-key :
    (sizes starts : List ℕ) → AreStarts sizes starts → (row place r p : ℕ) → row + 1 < length sizes → r + 1 < length sizes
    → slice_index starts row + place < slice_index starts (row + 1)
    → option_map_or (λ k. k == slice_index starts row + place) (key_at starts r p) false ≡ (r == row && p == place)
same-key sizes starts are row place r p l k inside = by (cases_Bool (r == row))
  where
    fits : ℕ → Bool
    fits x = nat_lt (slice_index starts x + p) (slice_index starts (x + 1))

    found : Bool → ℕ → Bool
    found b x = option_map_or (λ k. k == slice_index starts row + place) (if b then Some (slice_index starts x + p) else None) false

    own : (b : Bool) → fits row ≡ b → found b row ≡ (p == place)
    own true h = plus-same (slice_index starts row) p place
    own false h =
        let past = ltb-false (slice_index starts row + p) (slice_index starts (row + 1)) h in
        sym (higher-differs p place (omega (arith, past, inside)))

    other : (b : Bool) → fits r ≡ b → (r == row) ≡ false → found b r ≡ false
    other false h apart = refl
    other true h apart = order (nat_lt r row) refl
      where
        here : slice_index starts r + p < slice_index starts (r + 1)
        here = ltb-true (slice_index starts r + p) (slice_index starts (r + 1)) h

        order : (b : Bool) → nat_lt r row ≡ b → (slice_index starts r + p == slice_index starts row + place) ≡ false
        order true e =
            let before = rows-apart sizes starts are r row (ltb-true r row e) (omega (arith, l)) in
            lower-differs (slice_index starts r + p) (slice_index starts row + place) (omega (arith, here, before))
        order false e =
            let after = rows-apart sizes starts are row r (higher r row apart e) (omega (arith, k)) in
            higher-differs (slice_index starts r + p) (slice_index starts row + place) (omega (arith, inside, after))

    by : ((r == row) ≡ true) ⊎ ((r == row) ≡ false) → option_map_or (λ k. k == slice_index starts row + place) (key_at starts r p) false
        ≡ (r == row && p == place)
    by (inl same) =
        let e : r ≡ row = eqb-true r row same in
        ap (λ x. found (fits x) x) e ∙ (own (fits row) refl ∙ ap (λ (b : Bool). b && p == place) (sym same))
    by (inr apart) = other (fits r) refl apart ∙ ap (λ (b : Bool). b && p == place) (sym apart)

-- a count of two tests that agree on all items
count-alike : {A : Type 0} (small f g : A → Bool) → ((x : A) → small x ≡ true → f x ≡ g x) → (xs : List A) → list_all small xs ≡ true →
    count_by f xs ≡ count_by g xs
count-alike small f g each [] h = refl
count-alike small f g each (x ∷ xs) h =
    let parts = and_parts (small x) (list_all small xs) h in
    let rest = count-alike small f g each xs parts.1 in
    let here : one_if (f x) ≡ one_if (g x) = ap one_if (each x parts.0) in
    omega (arith, count-cons f x xs, count-cons g x xs, rest, here)

-- ---- how many items a row has as its own

module _ (m : Machine) (items : List Item) (within : list_all (is_within m.pages m.words) items ≡ true) where
  versions-counted :
      (page word : ℕ) → word < m.words
      → count_by (has_key counted.Versions m.words [] (cell_of m.words page word)) items ≡ flat_writes items page word
  versions-counted page word w =
      let alike = count-alike (is_within m.pages m.words) (has_key counted.Versions m.words [] (cell_of m.words page word))
      (writes_word page word) each items within in
      omega (arith, alike, writes-counted page word 0 items)
    where
      each : (i : Item) → is_within m.pages m.words i ≡ true → has_key counted.Versions m.words [] (cell_of m.words page word) i
          ≡ writes_word page word i
      each (item.Access a) h = by (is_write a.kind)
        where
          inside : a.word < m.words
          inside = ltb-true a.word m.words (and_parts (nat_lt a.page m.pages) (nat_lt a.word m.words) h).1

          by :
              (writes : Bool)
              → option_map_or (λ k. k == cell_of m.words page word) (if writes then Some (cell_of m.words a.page a.word) else None) false
              ≡ (writes && a.page == page && a.word == word)
          by true = same-cell m.words page word a.page a.word w inside
          by false = refl
      each (item.Change c) h = refl
      each (item.Applied x) h = refl
      each (item.Switch s) h = refl

  changes-counted : (page : ℕ) → count_by (has_key counted.Changes m.words [] page) items ≡ seq_of items page
  changes-counted page =
      let alike = count-alike (is_within m.pages m.words) (has_key counted.Changes m.words [] page) (changes_page page) each items within in
      omega (arith, alike, seq-counted page 0 items)
    where
      each : (i : Item) → is_within m.pages m.words i ≡ true → has_key counted.Changes m.words [] page i ≡ changes_page page i
      each (item.Access a) h = refl
      each (item.Change c) h = refl
      each (item.Applied x) h = refl
      each (item.Switch s) h = refl

  -- ---- a table

  module _ (journals : Journals) (has : HasJournals items journals) (of_rows of_places : Counted) (n : ℕ) (t : Table)
      (filled : IsFilled of_rows of_places m.words journals n t) where
    abbrev start : ℕ → ℕ
    start row = slice_index t.starts.items row

    -- what is counted at a place of a row passes a test; none pass it whose place is past the row
    found :
        (row place : ℕ) (test : Item → Bool) → row + 1 < n
        → (start row + place < start (row + 1) → (i : Item) → is_within m.pages m.words i ≡ true →
        has_key of_places m.words t.starts.items (start row + place) i ≡ test i)
        → (1 + count_by (has_key of_rows m.words [] row) items ≤ place → count_by test items ≡ 0)
        → total_at t row place ≡ count_by test items
    found row place test l each past = by (cases_Bool (nat_lt (start row + place) (start (row + 1))))
      where
        within_rows : row + 1 < length filled.sizes
        within_rows = omega (arith, l, filled.all)

        by :
            (nat_lt (start row + place) (start (row + 1)) ≡ true) ⊎ (nat_lt (start row + place) (start (row + 1)) ≡ false)
            → total_at t row place ≡ count_by test items
        by (inl h) =
            let inside = ltb-true (start row + place) (start (row + 1)) h in
            let here = starts-within filled.sizes t.starts.items filled.starts (row + 1) within_rows in
            ap (λ (b : Bool). number_at t.numbers.items (if b then Some (start row + place) else None)) h
            ∙ (filled.numbers (start row + place) (omega (arith, inside, here, filled.room))
            ∙ (journals-counted (has_key of_places m.words t.starts.items (start row + place)) items journals has
            ∙ count-alike (is_within m.pages m.words) (has_key of_places m.words t.starts.items (start row + place)) test (each inside)
            items within))
        by (inr h) =
            let outside = ltb-false (start row + place) (start (row + 1)) h in
            let size = filled.each row (omega (arith, l)) in
            let own = journals-counted (has_key of_rows m.words [] row) items journals has in
            ap (λ (b : Bool). number_at t.numbers.items (if b then Some (start row + place) else None)) h
            ∙ sym (past (omega (arith, outside, starts-more filled.sizes t.starts.items filled.starts row within_rows, size, own)))

    key-same :
        (row place r p : ℕ) → row + 1 < n → r + 1 < n → start row + place < start (row + 1)
        → option_map_or (λ k. k == start row + place) (key_at t.starts.items r p) false ≡ (r == row && p == place)
    key-same row place r p l k inside =
        same-key filled.sizes t.starts.items filled.starts row place r p (omega (arith, l, filled.all)) (omega (arith, k, filled.all))
        inside

  -- ---- the tables of a good history

  module _ (answer : Answer) (kept : AllKept m answer [] items) (journals : Journals) (has : HasJournals items journals) where
    loads-found :
        (t : Table) → IsFilled counted.Versions counted.Loads m.words journals (m.pages * m.words + 1) t → (page word version : ℕ) →
        page < m.pages
        → word < m.words → total_at t (cell_of m.words page word) version ≡ count_by (is_load_at page word version) items
    loads-found t filled page word version p w =
        found journals has counted.Versions counted.Loads (m.pages * m.words + 1) t filled (cell_of m.words page word) version
        (is_load_at page word version)
        (cell-row page word p w) each past
      where
        cell-row : (page word : ℕ) → page < m.pages → word < m.words → cell_of m.words page word + 1 < m.pages * m.words + 1
        cell-row page word p w = let l = mul-add-lt page m.words word m.pages p w in grind (arith)

        each :
            slice_index t.starts.items (cell_of m.words page word) + version < slice_index t.starts.items (cell_of m.words page word + 1)
            → (i : Item) → is_within m.pages m.words i ≡ true
            → has_key counted.Loads m.words t.starts.items (slice_index t.starts.items (cell_of m.words page word) + version) i
            ≡ is_load_at page word version i
        each inside (item.Access a) h = by (is_write a.kind)
          where
            both : (nat_lt a.page m.pages ≡ true) × (nat_lt a.word m.words ≡ true)
            both = and_parts (nat_lt a.page m.pages) (nat_lt a.word m.words) h

            aw : a.word < m.words
            aw = ltb-true a.word m.words both.1

            row : cell_of m.words a.page a.word + 1 < m.pages * m.words + 1
            row = cell-row a.page a.word (ltb-true a.page m.pages both.0) aw

            by :
                (writes : Bool)
                → option_map_or (λ k. k == slice_index t.starts.items (cell_of m.words page word) + version)
                (if writes then None else key_at t.starts.items (cell_of m.words a.page a.word) a.version) false
                ≡ (not writes && (a.page == page && a.word == word) && a.version == version)
            by true = refl
            by false =
                key-same journals has counted.Versions counted.Loads (m.pages * m.words + 1) t filled (cell_of m.words page word) version
                (cell_of m.words a.page a.word) a.version (cell-row page word p w) row inside
                ∙ ap (λ b. b && a.version == version) (same-cell m.words page word a.page a.word w aw)
        each inside (item.Change c) h = refl
        each inside (item.Applied x) h = refl
        each inside (item.Switch s) h = refl

        past : 1 + count_by (has_key counted.Versions m.words [] (cell_of m.words page word)) items ≤ version →
            count_by (is_load_at page word version) items ≡ 0
        past h =
            let e : version - 1 + 1 ≡ version = omega (arith, h) in
            let before : flat_writes items page word ≤ version - 1 = omega (arith, h, versions-counted page word w) in
            none-count (is_load_at page word version) items
            (subst (λ v. list_any (is_load_at page word v) items ≡ false) e
            (load-past m answer page word (version - 1) [] items tt kept before))

    uses-found :
        (t : Table) → IsFilled counted.Changes counted.Uses m.words journals (m.pages + 1) t → (page seq : ℕ) → page < m.pages
        → total_at t page seq ≡ count_by (is_use_at page seq) items
    uses-found t filled page seq p =
        found journals has counted.Changes counted.Uses (m.pages + 1) t filled page seq (is_use_at page seq) (omega (arith, p)) each past
      where
        each :
            slice_index t.starts.items page + seq < slice_index t.starts.items (page + 1) → (i : Item) → is_within m.pages m.words i ≡ true
            → has_key counted.Uses m.words t.starts.items (slice_index t.starts.items page + seq) i ≡ is_use_at page seq i
        each inside (item.Access a) h =
            let here = ltb-true a.page m.pages (and_parts (nat_lt a.page m.pages) (nat_lt a.word m.words) h).0 in
            key-same journals has counted.Changes counted.Uses (m.pages + 1) t filled page seq a.page a.grant (omega (arith, p))
            (omega (arith, here)) inside
        each inside (item.Change c) h = refl
        each inside (item.Applied x) h = refl
        each inside (item.Switch s) h = refl

        past : 1 + count_by (has_key counted.Changes m.words [] page) items ≤ seq → count_by (is_use_at page seq) items ≡ 0
        past h =
            none-count (is_use_at page seq) items
            (grant-past m answer (λ a. a.page == page) page seq (λ a e. eqb-true a.page page e) [] items tt kept
            (omega (arith, h, changes-counted page)))

    writes-found :
        (t : Table) → IsFilled counted.Changes counted.Writes m.words journals (m.pages + 1) t → (page seq : ℕ) → page < m.pages
        → total_at t page seq ≡ count_by (is_write_at page seq) items
    writes-found t filled page seq p =
        found journals has counted.Changes counted.Writes (m.pages + 1) t filled page seq (is_write_at page seq) (omega (arith, p)) each
        past
      where
        each :
            slice_index t.starts.items page + seq < slice_index t.starts.items (page + 1) → (i : Item) → is_within m.pages m.words i ≡ true
            → has_key counted.Writes m.words t.starts.items (slice_index t.starts.items page + seq) i ≡ is_write_at page seq i
        each inside (item.Access a) h = by (is_write a.kind)
          where
            here : a.page < m.pages
            here = ltb-true a.page m.pages (and_parts (nat_lt a.page m.pages) (nat_lt a.word m.words) h).0

            by :
                (writes : Bool)
                → option_map_or (λ k. k == slice_index t.starts.items page + seq) (if writes then key_at t.starts.items a.page a.grant
                else None) false
                ≡ (writes && a.page == page && a.grant == seq)
            by true = key-same journals has counted.Changes counted.Writes (m.pages + 1) t filled page seq a.page a.grant (omega (arith, p))
                (omega (arith, here)) inside
            by false = refl
        each inside (item.Change c) h = refl
        each inside (item.Applied x) h = refl
        each inside (item.Switch s) h = refl

        past : 1 + count_by (has_key counted.Changes m.words [] page) items ≤ seq → count_by (is_write_at page seq) items ≡ 0
        past h =
            none-count (is_write_at page seq) items
            (grant-past m answer (λ a. is_write a.kind && a.page == page) page seq
            (λ a e. eqb-true a.page page (and_parts (is_write a.kind) (a.page == page) e).1) [] items tt kept
            (omega (arith, h, changes-counted page)))

    -- the totals are those of the items
    pub totals-known : (before after : Totals) → HaveRows m.pages m.words before → AreFilled m.words journals before after →
        KnowsTotals m after items
    totals-known before after rows filled = record {
      loads = loads-found after.loads
          (subst (λ n. IsFilled counted.Versions counted.Loads m.words journals n after.loads) rows.of_loads filled.loads);
      uses = uses-found after.uses (subst (λ n. IsFilled counted.Changes counted.Uses m.words journals n after.uses) rows.of_uses
          filled.uses);
      writes = writes-found after.writes
          (subst (λ n. IsFilled counted.Changes counted.Writes m.words journals n after.writes) rows.of_writes filled.writes);
    }
