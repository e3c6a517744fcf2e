-- what has to be known before an item of a good history is placed: no count passes its bound
use Rattle.std.specs.Prelude.{◌≡◌, ◌⊎◌, ℕ, ◌+◌, ◌-◌, ◌<◌, ◌≤◌, ◌==◌, nat_lt, if◌then◌else◌, Bool, true, false, List, [], ◌∷◌, ◌++◌, length}
use Rattle.std.specs.Prelude.{count_by, Some, None}
use Rattle.std.proofs.Common.{ap, sym, ◌∙◌, inl, inr, arith, subst}
use Rattle.std.specs.List.{fold}
use Rattle.std.proofs.lemmas.Bool.{cases_Bool, and_parts, ltb-true}
use Rattle.std.proofs.lemmas.List.Sums.{count_by-le-length}
use Rattle.std.proofs.lemmas.Nat.{mul-add-lt}
use Rattle.plat_base.specs.Machine.{Machine}
use Rattle.plat_base.specs.Flat.{is_write, writes_word, flat_writes}
use Rattle.plat_base.specs.Directories.{change_on, seq_after, seq_of}
use Rattle.plat_base.specs.declared.limits.TheConstants.{MOST_ITEMS}
use Rattle.plat_base.specs.declared.items.Access.{Access}
use Rattle.plat_base.specs.declared.items.Change.{Change}
use Rattle.plat_base.specs.declared.items.Item.{Item}
use Rattle.plat_base.specs.declared.items.Item.TheVariants as item
use Rattle.plat_merge.specs.declared.counts.WordCount.{WordCount}
use Rattle.plat_merge.specs.declared.counts.PageCount.{PageCount}
use Rattle.plat_merge.specs.declared.counts.Counts.{Counts}
use Rattle.plat_merge.specs.declared.totals.Totals.{Totals}
use Rattle.plat_merge.specs.Standing.{changes_page, is_load_up_to, is_use_below, is_write_below}
use Rattle.plat_merge.specs.Counts.{cell_of, word_at, page_at, is_within, word_after, page_changed, ShowsCounts}
use Rattle.plat_merge.specs.Keys.{total_at}
use Rattle.plat_merge.specs.Placing.{loads_found, CanAccess, CanChange, CanPlace, words_placed, pages_placed}
use Rattle.plat_merge.proofs.StandLemmas.{one_if}
use Rattle.plat_merge.proofs.StepLemmas.{count-cons}
use Rattle.plat_merge.proofs.CountLemmas.{word-set_same, page-set_same}

-- ---- counts of writes and of changes

pub writes-counted :
    (page word n : ℕ) (xs : List Item) → fold (λ k i. if writes_word page word i then k + 1 else k) n xs
    ≡ n + count_by (writes_word page word) xs
writes-counted page word n [] = omega arith
writes-counted page word n (x ∷ xs) =
    by (writes_word page word x) (writes-counted page word (n + 1) xs) (writes-counted page word n xs)
    ∙ ap (λ k. n + k) (sym (count-cons (writes_word page word) x xs))
  where
    by :
        (b : Bool) → fold (λ k i. if writes_word page word i then k + 1 else k) (n + 1) xs ≡ n + 1 + count_by (writes_word page word) xs
        → fold (λ k i. if writes_word page word i then k + 1 else k) n xs ≡ n + count_by (writes_word page word) xs
        → fold (λ k i. if writes_word page word i then k + 1 else k) (if b then n + 1 else n) xs
        ≡ n + (one_if b + count_by (writes_word page word) xs)
    by true h k = omega (arith, h)
    by false h k = omega (arith, k)

pub seq-counted : (page n : ℕ) (xs : List Item) → fold (λ k i. seq_after k (change_on page i)) n xs ≡ n + count_by (changes_page page) xs
seq-counted page n [] = omega arith
seq-counted page n (x ∷ xs) =
    by x (seq-counted page (n + 1) xs) (seq-counted page n xs)
    ∙ ap (λ k. n + k) (sym (count-cons (changes_page page) x xs))
  where
    by_page :
        (b : Bool) (c : Change) → fold (λ k i. seq_after k (change_on page i)) (n + 1) xs ≡ n + 1 + count_by (changes_page page) xs
        → fold (λ k i. seq_after k (change_on page i)) n xs ≡ n + count_by (changes_page page) xs
        → fold (λ k i. seq_after k (change_on page i)) (seq_after n (if b then Some c else None)) xs
        ≡ n + (one_if b + count_by (changes_page page) xs)
    by_page true c h k = omega (arith, h)
    by_page false c h k = omega (arith, k)

    by :
        (x : Item) → fold (λ k i. seq_after k (change_on page i)) (n + 1) xs ≡ n + 1 + count_by (changes_page page) xs
        → fold (λ k i. seq_after k (change_on page i)) n xs ≡ n + count_by (changes_page page) xs
        → fold (λ k i. seq_after k (change_on page i)) (seq_after n (change_on page x)) xs
        ≡ n + (one_if (changes_page page x) + count_by (changes_page page) xs)
    by (item.Access a) h k = omega (arith, k)
    by (item.Change c) h k = by_page (c.page == page) c h k
    by (item.Applied y) h k = omega (arith, k)
    by (item.Switch s) h k = omega (arith, k)

-- they are at most the number of items
writes-most : (page word : ℕ) (xs : List Item) → flat_writes xs page word ≤ length xs
writes-most page word xs = omega (arith, writes-counted page word 0 xs, count_by-le-length (writes_word page word) xs)

seq-most : (page : ℕ) (xs : List Item) → seq_of xs page ≤ length xs
seq-most page xs = omega (arith, seq-counted page 0 xs, count_by-le-length (changes_page page) xs)

abbrev after_of : Bool → ℕ → WordCount → WordCount
after_of b n x = if b then record { writes = x.writes + 1; loads = x.loads + n } else record { writes = x.writes; loads = x.loads - 1 }

-- ---- an item

module _ (m : Machine) (c : Counts) (t : Totals) (placed left rest : List Item) (same : c.page_words ≡ m.words)
    (shows : ShowsCounts m placed left m.words c.words.items c.pages.items) (few : length placed + 1 + length rest ≤ MOST_ITEMS)
    (size : length left ≡ 1 + length rest) where
  can-access :
      (a : Access) → ShowsCounts m (placed ++ item.Access a ∷ []) rest m.words (words_placed m.words t c.words.items (item.Access a))
      (pages_placed t c.pages.items (item.Access a))
      → a.page < m.pages → a.word < m.words → CanAccess c t a
  can-access a next p w = record {
    page = omega (arith, p, shows.all_pages);
    word = omega (arith, w, same);
    few = subst (λ n. (word_at c.words.items (cell_of n a.page a.word)).writes < MOST_ITEMS) (sym same) writes_few;
    all = subst (λ n. (word_at c.words.items (cell_of n a.page a.word)).loads + loads_found n t a ≤ MOST_ITEMS) (sym same)
        (by (cases_Bool (is_write a.kind)));
  }
    where
      inside : cell_of m.words a.page a.word < length c.words.items
      inside = let l = mul-add-lt a.page m.words a.word m.pages p w in let all = shows.all_words in grind (arith)

      writes_few : (word_at c.words.items (cell_of m.words a.page a.word)).writes < MOST_ITEMS
      writes_few = omega (arith, shows.writes a.page a.word p w, writes-most a.page a.word placed, few)

      then-loads : (word_after a (loads_found m.words t a) (word_at c.words.items (cell_of m.words a.page a.word))).loads ≤ length rest
      then-loads =
          let here = ap (λ (x : WordCount). x.loads)
          (word-set_same c.words.items (cell_of m.words a.page a.word)
          (word_after a (loads_found m.words t a) (word_at c.words.items (cell_of m.words a.page a.word))) inside) in
          omega (
            arith,
            here,
            next.loads a.page a.word p w,
            count_by-le-length (is_load_up_to a.page a.word (flat_writes (placed ++ item.Access a ∷ []) a.page a.word)) rest,
          )

      now-loads : (word_at c.words.items (cell_of m.words a.page a.word)).loads ≤ length left
      now-loads = omega (
        arith,
        shows.loads a.page a.word p w,
        count_by-le-length (is_load_up_to a.page a.word (flat_writes placed a.page a.word)) left,
      )

      by :
          (is_write a.kind ≡ true) ⊎ (is_write a.kind ≡ false)
          → (word_at c.words.items (cell_of m.words a.page a.word)).loads + loads_found m.words t a ≤ MOST_ITEMS
      by (inl writes) =
          let sum : (word_after a (loads_found m.words t a) (word_at c.words.items (cell_of m.words a.page a.word))).loads
          ≡ (word_at c.words.items (cell_of m.words a.page a.word)).loads + loads_found m.words t a =
          ap (λ (b : Bool). (after_of b (loads_found m.words t a) (word_at c.words.items (cell_of m.words a.page a.word))).loads) writes in
          omega (arith, sum, then-loads, few)
      by (inr load) =
          let none : loads_found m.words t a ≡ 0 =
          ap (λ (b : Bool). if b then total_at t.loads (cell_of m.words a.page a.word) a.version else 0) load in
          omega (arith, none, now-loads, few, size)

  can-change :
      (d : Change) → ShowsCounts m (placed ++ item.Change d ∷ []) rest m.words (words_placed m.words t c.words.items (item.Change d))
      (pages_placed t c.pages.items (item.Change d))
      → d.page < m.pages → CanChange c t d
  can-change d next p = record {
    page = inside;
    few = omega (arith, shows.changes d.page p, seq-most d.page placed, few);
    all_uses =
        let here = ap (λ (x : PageCount). x.uses) set in
        omega (
          arith,
          here,
          next.uses d.page p,
          count_by-le-length (is_use_below d.page (seq_of (placed ++ item.Change d ∷ []) d.page)) rest,
          few,
        );
    all_writes =
        let here = ap (λ (x : PageCount). x.writes) set in
        omega (
          arith,
          here,
          next.writing d.page p,
          count_by-le-length (is_write_below d.page (seq_of (placed ++ item.Change d ∷ []) d.page))
              rest,
          few,
        );
  }
    where
      inside : d.page < length c.pages.items
      inside = omega (arith, p, shows.all_pages)

      set :
          page_at (pages_placed t c.pages.items (item.Change d)) d.page
          ≡ page_changed (total_at t.uses d.page d.seq) (total_at t.writes d.page d.seq) (page_at c.pages.items d.page)
      set = page-set_same c.pages.items d.page
          (page_changed (total_at t.uses d.page d.seq) (total_at t.writes d.page d.seq) (page_at c.pages.items d.page)) inside

pub can-place :
    (m : Machine) (c : Counts) (t : Totals) (placed left rest : List Item) (i : Item) → c.page_words ≡ m.words
    → ShowsCounts m placed left m.words c.words.items c.pages.items
    → ShowsCounts m (placed ++ i ∷ []) rest m.words (words_placed m.words t c.words.items i) (pages_placed t c.pages.items i)
    → is_within m.pages m.words i ≡ true → length placed + 1 + length rest ≤ MOST_ITEMS → length left ≡ 1 + length rest → CanPlace c t i
can-place m c t placed left rest (item.Access a) same shows next within few size =
    let both = and_parts (nat_lt a.page m.pages) (nat_lt a.word m.words) within in
    can-access m c t placed left rest same shows few size a next (ltb-true a.page m.pages both.0) (ltb-true a.word m.words both.1)
can-place m c t placed left rest (item.Change d) same shows next within few size =
    can-change m c t placed left rest same shows few size d next (ltb-true d.page m.pages within)
can-place m c t placed left rest (item.Applied x) same shows next within few size = tt
can-place m c t placed left rest (item.Switch s) same shows next within few size = tt
