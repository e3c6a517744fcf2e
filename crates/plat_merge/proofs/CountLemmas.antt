-- what is kept of words and pages says the counts of the items, also once an item is placed
use Rattle.std.specs.Prelude.{◌≡◌, ◌≢◌, ◌⊎◌, ℕ, ◌+◌, ◌-◌, ◌<◌, ◌==◌, nat_lt, ◌&&◌, not, if◌then◌else◌, Bool, true, false, List, [], ◌∷◌}
use Rattle.std.specs.Prelude.{◌++◌, count_by, length, None, slice_set}
use Rattle.std.proofs.Common.{refl, ap, sym, ◌∙◌, inl, inr, arith, subst, get_or-set_same, get_or-set_other, length-set}
use Rattle.std.proofs.lemmas.Bool.{cases_Bool, and_parts, eqb-true, eq-eqb, true≢false, ltb-true, and_right}
use Rattle.std.proofs.lemmas.Nat.{mul-add-lt, same_from_place}
use Rattle.plat_base.specs.Items.{is_access_that}
use Rattle.plat_base.specs.Verdicts.{Answer}
use Rattle.plat_base.specs.Machine.{Machine}
use Rattle.plat_base.specs.Flat.{is_write, writes_word, flat_writes}
use Rattle.plat_base.specs.Directories.{seq_of}
use Rattle.plat_base.specs.Rules.{bad_rule}
use Rattle.plat_base.specs.declared.items.Access.{Access}
use Rattle.plat_base.specs.declared.items.Change.{Change}
use Rattle.plat_base.specs.declared.items.Item.{Item}
use Rattle.plat_base.specs.declared.items.Item.TheVariants as item
use Rattle.plat_merge_laws.proofs.NeighbourLemmas.{version-counts, seq-counts}
use Rattle.plat_merge_laws.proofs.MergeLaws.{AllKept}
use Rattle.plat_merge.specs.declared.counts.WordCount.{WordCount}
use Rattle.plat_merge.specs.declared.counts.PageCount.{PageCount}
use Rattle.plat_merge.specs.declared.totals.Totals.{Totals}
use Rattle.plat_merge.specs.Standing.{is_load_of, is_load_at, is_use_at, is_write_at, changes_page, loads_waiting}
use Rattle.plat_merge.specs.Standing.{uses_waiting, writes_waiting, may_access, may_change, may_stand}
use Rattle.plat_merge.specs.Counts.{cell_of, no_word, no_page, word_at, page_at, is_within, stands_by, word_after, page_after, page_changed}
use Rattle.plat_merge.specs.Counts.{ShowsCounts}
use Rattle.plat_merge.specs.Keys.{total_at}
use Rattle.plat_merge.specs.Placing.{loads_found, words_placed, pages_placed}
use Rattle.plat_merge.proofs.StandLemmas.{one_if}
use Rattle.plat_merge.proofs.StepLemmas.{flat_writes-more, seq_of-more, loads-step, uses-step, writes-step}

-- ---- whether an item may stand next

-- what is kept tells it
pub stands-shown :
    (m : Machine) (placed left : List Item) (page_words : ℕ) (words : List WordCount) (pages : List PageCount) (i : Item)
    → ShowsCounts m placed left page_words words pages → is_within m.pages m.words i ≡ true
    → stands_by page_words words pages i ≡ may_stand placed left i
stands-shown m placed left page_words words pages (item.Access a) shows within =
    let both = and_parts (nat_lt a.page m.pages) (nat_lt a.word m.words) within in
    let p : a.page < m.pages = ltb-true a.page m.pages both.0 in
    let w : a.word < m.words = ltb-true a.word m.words both.1 in
    ap (λ n. stands_by n words pages (item.Access a)) shows.same_words
    ∙ (ap (λ n. may_access n (word_at words (cell_of m.words a.page a.word)).loads (page_at pages a.page).changes a)
    (shows.writes a.page a.word p w)
    ∙ (ap (λ n. may_access (flat_writes placed a.page a.word) n (page_at pages a.page).changes a) (shows.loads a.page a.word p w)
    ∙ ap (λ n. may_access (flat_writes placed a.page a.word) (loads_waiting placed left a.page a.word) n a) (shows.changes a.page p)))
stands-shown m placed left page_words words pages (item.Change c) shows within =
    let p : c.page < m.pages = ltb-true c.page m.pages within in
    ap (λ n. may_change n (page_at pages c.page).uses (page_at pages c.page).writes c) (shows.changes c.page p)
    ∙ (ap (λ n. may_change (seq_of placed c.page) n (page_at pages c.page).writes c) (shows.uses c.page p)
    ∙ ap (λ n. may_change (seq_of placed c.page) (uses_waiting placed left c.page) n c) (shows.writing c.page p))
stands-shown m placed left page_words words pages (item.Applied x) shows within = refl
stands-shown m placed left page_words words pages (item.Switch s) shows within = refl

-- ---- a word or a page that is set

-- a word is the one of the access, or another with another cell
word_cases :
    (W page word p w : ℕ) → word < W → w < W
    → ((page ≡ p) × (word ≡ w)) ⊎ ((cell_of W p w ≢ cell_of W page word) × ((page == p && word == w) ≡ false))
word_cases W page word p w l k = by (cases_Bool (page == p && word == w))
  where
    by :
        ((page == p && word == w) ≡ true) ⊎ ((page == p && word == w) ≡ false)
        → ((page ≡ p) × (word ≡ w)) ⊎ ((cell_of W p w ≢ cell_of W page word) × ((page == p && word == w) ≡ false))
    by (inl same) =
        let both = and_parts (page == p) (word == w) same in
        inl (eqb-true page p both.0, eqb-true word w both.1)
    by (inr other) =
        inr (
          λ e.
              let both = same_from_place p w page word W k l e in
              true≢false (sym (rw (eq-eqb page p (sym both.0), eq-eqb word w (sym both.1)) refl) ∙ other),
          other,
        )

page_cases : (page p : ℕ) → (page ≡ p) ⊎ ((p ≢ page) × ((page == p) ≡ false))
page_cases page p = by (cases_Bool (page == p))
  where
    by : ((page == p) ≡ true) ⊎ ((page == p) ≡ false) → (page ≡ p) ⊎ ((p ≢ page) × ((page == p) ≡ false))
    by (inl same) = inl (eqb-true page p same)
    by (inr other) = inr (λ e. true≢false (sym (eq-eqb page p (sym e)) ∙ other), other)

pub word-set_same : (words : List WordCount) (cell : ℕ) (v : WordCount) → cell < length words → word_at (slice_set words cell v) cell ≡ v
word-set_same words cell v l = get_or-set_same words cell v no_word l

word-set_other : (words : List WordCount) (cell k : ℕ) (v : WordCount) → k ≢ cell → word_at (slice_set words cell v) k ≡ word_at words k
word-set_other words cell k v n = get_or-set_other words cell k v no_word n

pub page-set_same : (pages : List PageCount) (page : ℕ) (v : PageCount) → page < length pages → page_at (slice_set pages page v) page ≡ v
page-set_same pages page v l = get_or-set_same pages page v no_page l

page-set_other : (pages : List PageCount) (page k : ℕ) (v : PageCount) → k ≢ page → page_at (slice_set pages page v) k ≡ page_at pages k
page-set_other pages page k v n = get_or-set_other pages page k v no_page n

-- ---- an item is placed

-- what the totals say of an item: how many loads find what it wrote, how many accesses go by what it granted
abbrev pub FindsTotals : (page_words : ℕ) → Totals → (items : List Item) → Item → Type 0
FindsTotals page_words t items (item.Access a) =
    is_write a.kind ≡ true → total_at t.loads (cell_of page_words a.page a.word) a.version
    ≡ count_by (is_load_at a.page a.word a.version) items
FindsTotals page_words t items (item.Change d) =
    (total_at t.uses d.page d.seq ≡ count_by (is_use_at d.page d.seq) items)
    × (total_at t.writes d.page d.seq ≡ count_by (is_write_at d.page d.seq) items)
FindsTotals page_words t items (item.Applied x) = Unit {0}
FindsTotals page_words t items (item.Switch s) = Unit {0}

zero-more : (n : ℕ) → n ≡ n + 0
zero-more n = omega arith

-- the number is as it was
still : (next now : ℕ) → next + 0 ≡ now + 0 → now ≡ next
still next now h = omega (arith, h)

abbrev word_by : (writes : Bool) → (total : ℕ) → WordCount → WordCount
word_by writes total w =
    if writes then record { writes = w.writes + 1; loads = w.loads + (if writes then total else 0) }
    else record { writes = w.writes; loads = w.loads - 1 }

word-numbers :
    (writes : Bool) (n l next_n next_l total : ℕ) (w : WordCount) → w.writes ≡ n → w.loads ≡ l → next_n ≡ n + one_if writes
    → next_l + one_if (not writes) ≡ l + (if writes then total else 0)
    → ((word_by writes total w).writes ≡ next_n) × ((word_by writes total w).loads ≡ next_l)
word-numbers true n l next_n next_l total w e f g h = (omega (arith, e, g), omega (arith, f, h))
word-numbers false n l next_n next_l total w e f g h = (omega (arith, e, g), omega (arith, f, h))

own-cell : (x : Bool) (p w : ℕ) → (x && p == p && w == w) ≡ x
own-cell x p w = rw (eq-eqb p p refl, eq-eqb w w refl) (by x)
  where
    by : (x : Bool) → (x && true && true) ≡ x
    by true = refl
    by false = refl

own-cell_load : (x : Bool) (p w : ℕ) → (x && (p == p && w == w)) ≡ x
own-cell_load x p w = rw (eq-eqb p p refl, eq-eqb w w refl) (by x)
  where
    by : (x : Bool) → (x && (true && true)) ≡ x
    by true = refl
    by false = refl

other-cell : (x y z : Bool) → (y && z) ≡ false → (x && y && z) ≡ false
other-cell false y z h = refl
other-cell true true z h = h
other-cell true false z h = refl

own-page : (x : Bool) (p : ℕ) → (x && p == p) ≡ x
own-page x p = rw (eq-eqb p p refl) (by x)
  where
    by : (x : Bool) → (x && true) ≡ x
    by true = refl
    by false = refl

module _
    (m : Machine) (answer : Answer) (placed front back : List Item) (words : List WordCount) (pages : List PageCount) (t : Totals)
    (start : AllKept m answer [] placed)
  where
    abbrev Shown : Item → Type 0
    Shown i = ShowsCounts m placed (front ++ i ∷ back) m.words words pages

    -- the word of an access
    module _ (a : Access) (kept : bad_rule m answer placed (item.Access a) ≡ None) (shown : Shown (item.Access a)) (p : a.page < m.pages)
        (w : a.word < m.words) where
      abbrev i : Item
      i = item.Access a

      abbrev cell : ℕ
      cell = cell_of m.words a.page a.word

      abbrev new_words : List WordCount
      new_words = words_placed m.words t words i

      abbrev new_pages : List PageCount
      new_pages = pages_placed t pages i

      inside : cell < length words
      inside = let l = mul-add-lt a.page m.words a.word m.pages p w in let size = shown.all_words in grind (arith)

      own-word :
          (is_write a.kind ≡ true → total_at t.loads cell a.version
          ≡ count_by (is_load_at a.page a.word a.version) (placed ++ (front ++ i ∷ back)))
          → ((word_at new_words cell).writes ≡ flat_writes (placed ++ i ∷ []) a.page a.word)
          × ((word_at new_words cell).loads ≡ loads_waiting (placed ++ i ∷ []) (front ++ back) a.page a.word)
      own-word finds =
          let both = word-numbers (is_write a.kind) (flat_writes placed a.page a.word)
          (loads_waiting placed (front ++ i ∷ back) a.page a.word)
          (flat_writes (placed ++ i ∷ []) a.page a.word) (loads_waiting (placed ++ i ∷ []) (front ++ back) a.page a.word)
          (total_at t.loads cell a.version) (word_at words cell) (shown.writes a.page a.word p w) (shown.loads a.page a.word p w) more
          loads in
          let here = word-set_same words cell (word_after a (loads_found m.words t a) (word_at words cell)) inside in
          (ap (λ (x : WordCount). x.writes) here ∙ both.0, ap (λ (x : WordCount). x.loads) here ∙ both.1)
        where
          more : flat_writes (placed ++ i ∷ []) a.page a.word ≡ flat_writes placed a.page a.word + one_if (is_write a.kind)
          more =
              flat_writes-more placed i a.page a.word
              ∙ ap (λ b. flat_writes placed a.page a.word + one_if b) (own-cell (is_write a.kind) a.page a.word)

          found :
              (b : Bool) → is_write a.kind ≡ b
              → (if b then count_by (is_load_at a.page a.word (flat_writes placed a.page a.word + 1)) (placed ++ (front ++ i ∷ back))
              else 0)
              ≡ (if b then total_at t.loads cell a.version else 0)
          found true e =
              let version : a.version ≡ flat_writes placed a.page a.word + 1 =
              version-counts m answer placed a kept ∙ ap (λ (b : Bool). flat_writes placed a.page a.word + (if b then 1 else 0)) e in
              ap (λ v. count_by (is_load_at a.page a.word v) (placed ++ (front ++ i ∷ back))) (sym version) ∙ sym (finds e)
          found false e = refl

          loads :
              loads_waiting (placed ++ i ∷ []) (front ++ back) a.page a.word + one_if (not (is_write a.kind))
              ≡ loads_waiting placed (front ++ i ∷ back) a.page a.word + (if is_write a.kind then total_at t.loads cell a.version else 0)
          loads =
              ap (λ b. loads_waiting (placed ++ i ∷ []) (front ++ back) a.page a.word + one_if b)
              (sym (own-cell_load (not (is_write a.kind)) a.page a.word))
              ∙ (loads-step m answer placed front back i start kept a.page a.word
              ∙ (ap (λ (b : Bool). loads_waiting placed (front ++ i ∷ back) a.page a.word
              + (if b then count_by (is_load_at a.page a.word (flat_writes placed a.page a.word + 1)) (placed ++ (front ++ i ∷ back))
              else 0)) (own-cell (is_write a.kind) a.page a.word)
              ∙ ap (λ n. loads_waiting placed (front ++ i ∷ back) a.page a.word + n) (found (is_write a.kind) refl)))

      other-word :
          (page word : ℕ) → page < m.pages → word < m.words → cell_of m.words page word ≢ cell → (a.page == page && a.word == word) ≡ false
          → ((word_at new_words (cell_of m.words page word)).writes ≡ flat_writes (placed ++ i ∷ []) page word)
          × ((word_at new_words (cell_of m.words page word)).loads ≡ loads_waiting (placed ++ i ∷ []) (front ++ back) page word)
      other-word page word l k apart other =
          let there = word-set_other words cell (cell_of m.words page word) (word_after a (loads_found m.words t a) (word_at words cell))
          apart in
          let none : writes_word page word i ≡ false = other-cell (is_write a.kind) (a.page == page) (a.word == word) other in
          let none_load : is_access_that (is_load_of page word) i ≡ false =
          and_right (not (is_write a.kind)) (a.page == page && a.word == word) other in
          let more = flat_writes-more placed i page word ∙ ap (λ b. flat_writes placed page word + one_if b) none in
          let loads =
          ap (λ b. loads_waiting (placed ++ i ∷ []) (front ++ back) page word + one_if b) (sym none_load)
          ∙ (loads-step m answer placed front back i start kept page word
          ∙ ap (λ (b : Bool). loads_waiting placed (front ++ i ∷ back) page word
          + (if b then count_by (is_load_at page word (flat_writes placed page word + 1)) (placed ++ (front ++ i ∷ back)) else 0))
          none) in (
            ap (λ (x : WordCount). x.writes) there ∙ (shown.writes page word l k ∙ (zero-more (flat_writes placed page word) ∙ sym more)),
            ap (λ (x : WordCount). x.loads) there
                ∙ (shown.loads page word l k ∙ still (loads_waiting (placed ++ i ∷ []) (front ++ back) page word)
                (loads_waiting placed (front ++ i ∷ back) page word) loads),
          )

      each-word :
          (is_write a.kind ≡ true → total_at t.loads cell a.version
          ≡ count_by (is_load_at a.page a.word a.version) (placed ++ (front ++ i ∷ back)))
          → (page word : ℕ) → page < m.pages → word < m.words
          → ((word_at new_words (cell_of m.words page word)).writes ≡ flat_writes (placed ++ i ∷ []) page word)
          × ((word_at new_words (cell_of m.words page word)).loads ≡ loads_waiting (placed ++ i ∷ []) (front ++ back) page word)
      each-word finds page word l k = by (word_cases m.words a.page a.word page word w k)
        where
          Holds : ℕ → ℕ → Type 0
          Holds x y =
              ((word_at new_words (cell_of m.words x y)).writes ≡ flat_writes (placed ++ i ∷ []) x y)
              × ((word_at new_words (cell_of m.words x y)).loads ≡ loads_waiting (placed ++ i ∷ []) (front ++ back) x y)

          by :
              ((a.page ≡ page) × (a.word ≡ word))
              ⊎ ((cell_of m.words page word ≢ cell_of m.words a.page a.word) × ((a.page == page && a.word == word) ≡ false))
              → Holds page word
          by (inl same) = subst (λ x. Holds x word) same.0 (subst (λ y. Holds a.page y) same.1 (own-word finds))
          by (inr other) = other-word page word l k other.0 other.1

      -- its page
      Counted : ℕ → Type 0
      Counted page =
          ((page_at new_pages page).changes ≡ seq_of (placed ++ i ∷ []) page)
          × ((page_at new_pages page).uses ≡ uses_waiting (placed ++ i ∷ []) (front ++ back) page)
          × ((page_at new_pages page).writes ≡ writes_waiting (placed ++ i ∷ []) (front ++ back) page)

      page-inside : a.page < length pages
      page-inside = omega (arith, p, shown.all_pages)

      same-changes : (page : ℕ) → seq_of placed page ≡ seq_of (placed ++ i ∷ []) page
      same-changes page = zero-more (seq_of placed page) ∙ sym (seq_of-more placed i page)

      own-page_counts : Counted a.page
      unfolding Counted
      own-page_counts =
          let here = page-set_same pages a.page (page_after a (page_at pages a.page)) page-inside in
          let uses : uses_waiting (placed ++ i ∷ []) (front ++ back) a.page + 1 ≡ uses_waiting placed (front ++ i ∷ back) a.page + 0 =
          ap (λ b. uses_waiting (placed ++ i ∷ []) (front ++ back) a.page + one_if b) (sym (eq-eqb a.page a.page refl))
          ∙ uses-step m answer placed front back i start kept a.page in
          let writes : writes_waiting (placed ++ i ∷ []) (front ++ back) a.page + one_if (is_write a.kind)
          ≡ writes_waiting placed (front ++ i ∷ back) a.page + 0 =
          ap (λ b. writes_waiting (placed ++ i ∷ []) (front ++ back) a.page + one_if b) (sym (own-page (is_write a.kind) a.page))
          ∙ writes-step m answer placed front back i start kept a.page in (
            ap (λ (x : PageCount). x.changes) here ∙ (shown.changes a.page p ∙ same-changes a.page),
            ap (λ (x : PageCount). x.uses) here
                ∙ less (page_at pages a.page).uses (uses_waiting placed (front ++ i ∷ back) a.page)
                (uses_waiting (placed ++ i ∷ []) (front ++ back) a.page) (shown.uses a.page p) uses,
            ap (λ (x : PageCount). x.writes) here
                ∙ less_if (is_write a.kind) (page_at pages a.page).writes (writes_waiting placed (front ++ i ∷ back) a.page)
                (writes_waiting (placed ++ i ∷ []) (front ++ back) a.page) (shown.writing a.page p) writes,
          )
        where
          less : (now was next : ℕ) → now ≡ was → next + 1 ≡ was + 0 → now - 1 ≡ next
          less now was next e h = omega (arith, e, h)

          less_if : (b : Bool) (now was next : ℕ) → now ≡ was → next + one_if b ≡ was + 0 → (if b then now - 1 else now) ≡ next
          less_if true now was next e h = omega (arith, e, h)
          less_if false now was next e h = omega (arith, e, h)

      other-page_counts : (page : ℕ) → page < m.pages → page ≢ a.page → (a.page == page) ≡ false → Counted page
      unfolding Counted
      other-page_counts page l apart other =
          let there = page-set_other pages a.page page (page_after a (page_at pages a.page)) apart in
          let uses : uses_waiting (placed ++ i ∷ []) (front ++ back) page + 0 ≡ uses_waiting placed (front ++ i ∷ back) page + 0 =
          ap (λ b. uses_waiting (placed ++ i ∷ []) (front ++ back) page + one_if b) (sym other)
          ∙ uses-step m answer placed front back i start kept page in
          let writes : writes_waiting (placed ++ i ∷ []) (front ++ back) page + 0 ≡ writes_waiting placed (front ++ i ∷ back) page + 0 =
          ap (λ b. writes_waiting (placed ++ i ∷ []) (front ++ back) page + one_if b)
          (sym (and_right (is_write a.kind) (a.page == page) other))
          ∙ writes-step m answer placed front back i start kept page in (
            ap (λ (x : PageCount). x.changes) there ∙ (shown.changes page l ∙ same-changes page),
            ap (λ (x : PageCount). x.uses) there
                ∙ (shown.uses page l ∙ still (uses_waiting (placed ++ i ∷ []) (front ++ back) page)
                (uses_waiting placed (front ++ i ∷ back) page) uses),
            ap (λ (x : PageCount). x.writes) there
                ∙ (shown.writing page l ∙ still (writes_waiting (placed ++ i ∷ []) (front ++ back) page)
                (writes_waiting placed (front ++ i ∷ back) page) writes),
          )

      each-page : (page : ℕ) → page < m.pages → Counted page
      each-page page l = by (page_cases a.page page)
        where
          by : (a.page ≡ page) ⊎ ((page ≢ a.page) × ((a.page == page) ≡ false)) → Counted page
          by (inl same) = subst Counted same own-page_counts
          by (inr other) = other-page_counts page l other.0 other.1

      access-shown :
          (is_write a.kind ≡ true → total_at t.loads cell a.version
          ≡ count_by (is_load_at a.page a.word a.version) (placed ++ (front ++ i ∷ back)))
          → ShowsCounts m (placed ++ i ∷ []) (front ++ back) m.words new_words new_pages
      unfolding Counted
      access-shown finds = record {
        same_words = refl;
        all_words = length-set words cell (word_after a (loads_found m.words t a) (word_at words cell)) ∙ shown.all_words;
        all_pages = length-set pages a.page (page_after a (page_at pages a.page)) ∙ shown.all_pages;
        writes = λ page word l k. (each-word finds page word l k).0;
        loads = λ page word l k. (each-word finds page word l k).1;
        changes = λ page l. (each-page page l).0;
        uses = λ page l. (each-page page l).1;
        writing = λ page l. (each-page page l).2;
      }

    -- words are not concerned
    same-word :
        (i : Item) → bad_rule m answer placed i ≡ None → Shown i
        → ((page word : ℕ) → writes_word page word i ≡ false) → ((page word : ℕ) → is_access_that (is_load_of page word) i ≡ false)
        → (page word : ℕ) → page < m.pages → word < m.words
        → ((word_at words (cell_of m.words page word)).writes ≡ flat_writes (placed ++ i ∷ []) page word)
        × ((word_at words (cell_of m.words page word)).loads ≡ loads_waiting (placed ++ i ∷ []) (front ++ back) page word)
    same-word i kept shown none none_load page word l k =
        let more = flat_writes-more placed i page word ∙ ap (λ b. flat_writes placed page word + one_if b) (none page word) in
        let loads =
        ap (λ b. loads_waiting (placed ++ i ∷ []) (front ++ back) page word + one_if b) (sym (none_load page word))
        ∙ (loads-step m answer placed front back i start kept page word
        ∙ ap (λ (b : Bool). loads_waiting placed (front ++ i ∷ back) page word
        + (if b then count_by (is_load_at page word (flat_writes placed page word + 1)) (placed ++ (front ++ i ∷ back)) else 0))
        (none page word)) in (
          shown.writes page word l k ∙ (zero-more (flat_writes placed page word) ∙ sym more),
          shown.loads page word l k ∙ still (loads_waiting (placed ++ i ∷ []) (front ++ back) page word)
              (loads_waiting placed (front ++ i ∷ back) page word) loads,
        )

    -- nor is a page that is not changed
    same-page :
        (i : Item) → bad_rule m answer placed i ≡ None → Shown i → (page : ℕ) → page < m.pages → changes_page page i ≡ false
        → ((f : Access → Bool) → is_access_that f i ≡ false) → (v : PageCount) → v ≡ page_at pages page
        → (v.changes ≡ seq_of (placed ++ i ∷ []) page)
        × (v.uses ≡ uses_waiting (placed ++ i ∷ []) (front ++ back) page)
        × (v.writes ≡ writes_waiting (placed ++ i ∷ []) (front ++ back) page)
    same-page i kept shown page l none no_access v e =
        let more = seq_of-more placed i page ∙ ap (λ b. seq_of placed page + one_if b) none in
        let uses =
        ap (λ b. uses_waiting (placed ++ i ∷ []) (front ++ back) page + one_if b) (sym (no_access (λ a. a.page == page)))
        ∙ (uses-step m answer placed front back i start kept page
        ∙ ap (λ (b : Bool). uses_waiting placed (front ++ i ∷ back) page
        + (if b then count_by (is_use_at page (seq_of placed page)) (placed ++ (front ++ i ∷ back)) else 0)) none) in
        let writes =
        ap (λ b. writes_waiting (placed ++ i ∷ []) (front ++ back) page + one_if b)
        (sym (no_access (λ a. is_write a.kind && a.page == page)))
        ∙ (writes-step m answer placed front back i start kept page
        ∙ ap (λ (b : Bool). writes_waiting placed (front ++ i ∷ back) page
        + (if b then count_by (is_write_at page (seq_of placed page)) (placed ++ (front ++ i ∷ back)) else 0)) none) in (
          ap (λ (x : PageCount). x.changes) e ∙ (shown.changes page l ∙ (zero-more (seq_of placed page) ∙ sym more)),
          ap (λ (x : PageCount). x.uses) e
              ∙ (shown.uses page l ∙ still (uses_waiting (placed ++ i ∷ []) (front ++ back) page)
              (uses_waiting placed (front ++ i ∷ back) page) uses),
          ap (λ (x : PageCount). x.writes) e
              ∙ (shown.writing page l ∙ still (writes_waiting (placed ++ i ∷ []) (front ++ back) page)
              (writes_waiting placed (front ++ i ∷ back) page) writes),
        )

    -- the page of a change
    module _ (d : Change) (kept : bad_rule m answer placed (item.Change d) ≡ None) (shown : Shown (item.Change d))
        (p : d.page < m.pages) where
      abbrev j : Item
      j = item.Change d

      abbrev changed_pages : List PageCount
      changed_pages = pages_placed t pages j

      Changed : ℕ → Type 0
      Changed page =
          ((page_at changed_pages page).changes ≡ seq_of (placed ++ j ∷ []) page)
          × ((page_at changed_pages page).uses ≡ uses_waiting (placed ++ j ∷ []) (front ++ back) page)
          × ((page_at changed_pages page).writes ≡ writes_waiting (placed ++ j ∷ []) (front ++ back) page)

      changed-inside : d.page < length pages
      changed-inside = omega (arith, p, shown.all_pages)

      own-change :
          total_at t.uses d.page d.seq ≡ count_by (is_use_at d.page d.seq) (placed ++ (front ++ j ∷ back))
          → total_at t.writes d.page d.seq ≡ count_by (is_write_at d.page d.seq) (placed ++ (front ++ j ∷ back)) → Changed d.page
      unfolding Changed
      own-change all_uses all_writes =
          let here = page-set_same pages d.page
          (page_changed (total_at t.uses d.page d.seq) (total_at t.writes d.page d.seq) (page_at pages d.page)) changed-inside in
          let same : (d.page == d.page) ≡ true = eq-eqb d.page d.page refl in
          let seq : d.seq ≡ seq_of placed d.page = seq-counts m answer placed d kept in
          let more = seq_of-more placed j d.page ∙ ap (λ b. seq_of placed d.page + one_if b) same in
          let uses =
          uses-step m answer placed front back j start kept d.page
          ∙ ap (λ (b : Bool). uses_waiting placed (front ++ j ∷ back) d.page
          + (if b then count_by (is_use_at d.page (seq_of placed d.page)) (placed ++ (front ++ j ∷ back)) else 0)) same in
          let uses_found = all_uses ∙ ap (λ n. count_by (is_use_at d.page n) (placed ++ (front ++ j ∷ back))) seq in
          let writes =
          writes-step m answer placed front back j start kept d.page
          ∙ ap (λ (b : Bool). writes_waiting placed (front ++ j ∷ back) d.page
          + (if b then count_by (is_write_at d.page (seq_of placed d.page)) (placed ++ (front ++ j ∷ back)) else 0)) same in
          let writes_found = all_writes ∙ ap (λ n. count_by (is_write_at d.page n) (placed ++ (front ++ j ∷ back))) seq in (
            ap (λ (x : PageCount). x.changes) here ∙ (ap (λ n. n + 1) (shown.changes d.page p) ∙ sym more),
            ap (λ (x : PageCount). x.uses) here
                ∙ sum (page_at pages d.page).uses (uses_waiting placed (front ++ j ∷ back) d.page) (total_at t.uses d.page d.seq)
                (count_by (is_use_at d.page (seq_of placed d.page)) (placed ++ (front ++ j ∷ back)))
                (uses_waiting (placed ++ j ∷ []) (front ++ back) d.page) (shown.uses d.page p) uses_found uses,
            ap (λ (x : PageCount). x.writes) here
                ∙ sum (page_at pages d.page).writes (writes_waiting placed (front ++ j ∷ back) d.page) (total_at t.writes d.page d.seq)
                (count_by (is_write_at d.page (seq_of placed d.page)) (placed ++ (front ++ j ∷ back)))
                (writes_waiting (placed ++ j ∷ []) (front ++ back) d.page) (shown.writing d.page p) writes_found writes,
          )
        where
          sum : (now was total found next : ℕ) → now ≡ was → total ≡ found → next + 0 ≡ was + found → now + total ≡ next
          sum now was total found next e f h = omega (arith, e, f, h)

      change-shown :
          total_at t.uses d.page d.seq ≡ count_by (is_use_at d.page d.seq) (placed ++ (front ++ j ∷ back))
          → total_at t.writes d.page d.seq ≡ count_by (is_write_at d.page d.seq) (placed ++ (front ++ j ∷ back))
          → ShowsCounts m (placed ++ j ∷ []) (front ++ back) m.words words changed_pages
      unfolding Changed
      change-shown all_uses all_writes = record {
        same_words = refl;
        all_words = shown.all_words;
        all_pages =
            length-set pages d.page (page_changed (total_at t.uses d.page d.seq) (total_at t.writes d.page d.seq) (page_at pages d.page))
            ∙ shown.all_pages;
        writes = λ page word l k. (same-word j kept shown (λ x y. refl) (λ x y. refl) page word l k).0;
        loads = λ page word l k. (same-word j kept shown (λ x y. refl) (λ x y. refl) page word l k).1;
        changes = λ page l. (each page l).0;
        uses = λ page l. (each page l).1;
        writing = λ page l. (each page l).2;
      }
        where
          each : (page : ℕ) → page < m.pages → Changed page
          each page l = by (page_cases d.page page)
            where
              by : (d.page ≡ page) ⊎ ((page ≢ d.page) × ((d.page == page) ≡ false)) → Changed page
              by (inl same) = subst Changed same (own-change all_uses all_writes)
              by (inr other) =
                  same-page j kept shown page l other.1 (λ f. refl) (page_at changed_pages page)
                  (page-set_other pages d.page page
                  (page_changed (total_at t.uses d.page d.seq) (total_at t.writes d.page d.seq) (page_at pages d.page)) other.0)

    other-shown :
        (i : Item) → bad_rule m answer placed i ≡ None → Shown i → ((page word : ℕ) → writes_word page word i ≡ false)
        → ((page : ℕ) → changes_page page i ≡ false) → ((f : Access → Bool) → is_access_that f i ≡ false)
        → ShowsCounts m (placed ++ i ∷ []) (front ++ back) m.words words pages
    other-shown i kept shown none same no_access = record {
      same_words = refl;
      all_words = shown.all_words;
      all_pages = shown.all_pages;
      writes = λ page word l k. (same-word i kept shown none (λ x y. no_access (is_load_of x y)) page word l k).0;
      loads = λ page word l k. (same-word i kept shown none (λ x y. no_access (is_load_of x y)) page word l k).1;
      changes = λ page l. (same-page i kept shown page l (same page) no_access (page_at pages page) refl).0;
      uses = λ page l. (same-page i kept shown page l (same page) no_access (page_at pages page) refl).1;
      writing = λ page l. (same-page i kept shown page l (same page) no_access (page_at pages page) refl).2;
    }

    -- what is kept once the item is placed says the counts of then
    pub placed-shown :
        (i : Item) → bad_rule m answer placed i ≡ None → Shown i → is_within m.pages m.words i ≡ true
        → FindsTotals m.words t (placed ++ (front ++ i ∷ back)) i
        → ShowsCounts m (placed ++ i ∷ []) (front ++ back) m.words (words_placed m.words t words i) (pages_placed t pages i)
    placed-shown (item.Access a) kept shown within finds =
        let both = and_parts (nat_lt a.page m.pages) (nat_lt a.word m.words) within in
        access-shown a kept shown (ltb-true a.page m.pages both.0) (ltb-true a.word m.words both.1) finds
    placed-shown (item.Change d) kept shown within finds = change-shown d kept shown (ltb-true d.page m.pages within) finds.0 finds.1
    placed-shown (item.Applied x) kept shown within finds = other-shown (item.Applied x) kept shown (λ p w. refl) (λ p. refl) (λ f. refl)
    placed-shown (item.Switch s) kept shown within finds = other-shown (item.Switch s) kept shown (λ p w. refl) (λ p. refl) (λ f. refl)
