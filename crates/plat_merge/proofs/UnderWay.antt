-- a merge under way: what is placed and what is left of a good history, and what is kept of them
use Rattle.std.specs.Prelude.{◌≡◌, ◌⊎◌, ℕ, zero, suc, ◌+◌, ◌<◌, ◌≤◌, ◌==◌, nat_lt, not, Bool, true, false, List, [], ◌∷◌, ◌++◌, length}
use Rattle.std.specs.Prelude.{drop, count_by, Option, Some, None, slice_index, slice_index_or, slice_set, slice_get}
use Rattle.std.proofs.Common.{refl, ap, sym, ◌∙◌, inl, inr, arith, subst}
use Rattle.std.specs.List.{list_any, list_all}
use Rattle.std.specs.Option.{option_map_or}
use Rattle.std.proofs.lemmas.Bool.{cases_Bool, and_parts, not-true, or_parts, true≢false}
use Rattle.std.proofs.lemmas.Bool.Decides.{nat_tests}
use Rattle.std.proofs.lemmas.List.{length-append}
use Rattle.std.proofs.lemmas.List.Folds.{list_any-append}
use Rattle.plat_base.specs.Verdicts.{Answer}
use Rattle.plat_base.specs.Machine.{Machine}
use Rattle.plat_base.specs.declared.limits.TheConstants.{MOST_ITEMS}
use Rattle.plat_base.specs.declared.items.Item.{Item}
use Rattle.plat_base.specs.declared.items.Item.TheVariants as item
use Rattle.plat_events.specs.Shown.{actor_of}
use Rattle.plat_events.specs.Merges.{Journals, comes_before, is_ready, has_ready, ready_actor, without_next, placed_first, merge_step}
use Rattle.plat_events.specs.Merges.{merge_from}
use Rattle.plat_merge_laws.specs.Merging.{HasJournals}
use Rattle.plat_merge_laws.proofs.JournalLemmas.{none-journals, journals-none, IsFirst, first_of, journals-moved, journals-without}
use Rattle.plat_merge_laws.proofs.MergeLaws.{AllKept, kept-append, kept-moved}
use Rattle.plat_merge.specs.declared.counts.WordCount.{WordCount}
use Rattle.plat_merge.specs.declared.counts.PageCount.{PageCount}
use Rattle.plat_merge.specs.declared.counts.Counts.{Counts}
use Rattle.plat_merge.specs.declared.totals.Totals.{Totals}
use Rattle.plat_merge.specs.Standing.{is_load_at, is_use_at, is_write_at, may_stand}
use Rattle.plat_merge.specs.Counts.{cell_of, is_within, stands_by, ShowsCounts}
use Rattle.plat_merge.specs.Heads.{left_from, head_passes}
use Rattle.plat_merge.specs.Keys.{total_at}
use Rattle.plat_merge.specs.Placing.{CanPlace, words_placed, pages_placed}
use Rattle.plat_merge.proofs.StandLemmas.{stands-exactly}
use Rattle.plat_merge.proofs.StepLemmas.{count-append, count-cons}
use Rattle.plat_merge.proofs.CountLemmas.{stands-shown, FindsTotals, placed-shown}
use Rattle.plat_merge.proofs.PlaceLemmas.{can-place}
use Rattle.plat_merge.proofs.HeadLemmas.{left-at, left-length, left-next, get-drop, head-of, first-place, no-place}

-- ---- what is known of all items

-- the totals say of these items how many load a version, and how many go by a grant
pub record KnowsTotals (m : Machine) (t : Totals) (items : List Item) : Type 0 where
  pub loads :
      (page word version : ℕ) → page < m.pages → word < m.words
      → total_at t.loads (cell_of m.words page word) version ≡ count_by (is_load_at page word version) items
  pub uses : (page seq : ℕ) → page < m.pages → total_at t.uses page seq ≡ count_by (is_use_at page seq) items
  pub writes : (page seq : ℕ) → page < m.pages → total_at t.writes page seq ≡ count_by (is_write_at page seq) items

-- ---- the state of a merge

pub record IsUnderWay (m : Machine) (answer : Answer) (t : Totals) (left : Journals) (placed : List Item) (words : List WordCount)
    (pages : List PageCount) : Type 0 where
  pub items : List Item
  pub has : HasJournals items left
  pub start : AllKept m answer [] placed
  pub kept : AllKept m answer placed items
  pub shows : ShowsCounts m placed items m.words words pages
  pub within : list_all (is_within m.pages m.words) items ≡ true
  pub totals : KnowsTotals m t (placed ++ items)

-- ---- lists

all-at : {A : Type 0} (f : A → Bool) (front back : List A) (x : A) → list_all f (front ++ x ∷ back) ≡ true →
    (f x ≡ true) × (list_all f (front ++ back) ≡ true)
all-at f [] back x h = and_parts (f x) (list_all f back) h
all-at f (y ∷ front) back x h =
    let parts = and_parts (f y) (list_all f (front ++ x ∷ back)) h in
    let rest = all-at f front back x parts.1 in
    (rest.0, rw (parts.0, rest.1) refl)

count-moved :
    {A : Type 0} (f : A → Bool) (placed front back : List A) (x : A)
    → count_by f (placed ++ (front ++ x ∷ back)) ≡ count_by f ((placed ++ x ∷ []) ++ (front ++ back))
count-moved f placed front back x =
    omega (
      arith,
      count-append f placed (front ++ x ∷ back),
      count-append f front (x ∷ back),
      count-cons f x back,
      count-append f (placed ++ x ∷ []) (front ++ back),
      count-append f placed (x ∷ []),
      count-cons f x [],
      count-append f front back,
    )

-- ---- the next item of an actor

module _ (m : Machine) (answer : Answer) (t : Totals) (journals : Journals) (next : List ℕ) (placed : List Item) (words : List WordCount)
    (pages : List PageCount) (u : IsUnderWay m answer t (left_from journals next) placed words pages) where
  abbrev pub left : Journals
  left = left_from journals next

  abbrev pub head : ℕ → Option Item
  head a = slice_get (slice_index_or journals a []) (slice_index next a)

  abbrev pub passes : ℕ → Bool
  passes a = head_passes (stands_by m.words words pages) journals next a

  left-head : (a : ℕ) → slice_get (slice_index_or left a []) 0 ≡ head a
  left-head a = ap (λ (j : List Item). slice_get j 0) (left-at journals next a)
      ∙ get-drop (slice_index_or journals a []) (slice_index next a)

  left-next_item : (a : ℕ) (i : Item) → head a ≡ Some i → slice_index_or left a [] ≡ i ∷ drop 1 (slice_index_or left a [])
  left-next_item a i h = head-of (slice_index_or left a []) i (left-head a ∙ h)

  pub first : (a : ℕ) (i : Item) → head a ≡ Some i → IsFirst a u.items i (drop 1 (slice_index_or left a []))
  first a i h = first_of a u.items i (drop 1 (slice_index_or left a [])) (sym (u.has a) ∙ left-next_item a i h)

  -- each next item is within the machine
  pub within-head : (a : ℕ) (i : Item) → head a ≡ Some i → is_within m.pages m.words i ≡ true
  within-head a i h =
      let f = first a i h in
      (all-at (is_within m.pages m.words) f.front f.back i (sym (ap (list_all (is_within m.pages m.words)) f.parts) ∙ u.within)).0

  alone : (a : ℕ) (i : Item) (h : head a ≡ Some i) → list_any (λ j. actor_of j == actor_of i) (first a i h).front ≡ false
  alone a i h = let f = first a i h in ap (λ b. list_any (λ j. actor_of j == b) f.front) f.by_actor ∙ f.alone

  waits_of : Item → Bool
  waits_of i = list_any (λ j. comes_before j i) u.items

  -- the item is ready exactly where what is kept says so
  stands-head : (a : ℕ) (i : Item) (h : head a ≡ Some i) → not (waits_of i) ≡ stands_by m.words words pages i
  unfolding waits_of
  stands-head a i h =
      let f = first a i h in
      let exact = stands-exactly m answer placed f.front f.back i u.start (subst (λ zs. AllKept m answer placed zs) f.parts u.kept)
      (alone a i h) in
      ap (λ zs. not (list_any (λ j. comes_before j i) zs)) f.parts
      ∙ (exact
      ∙ (ap (λ zs. may_stand placed zs i) (sym f.parts)
      ∙ sym (stands-shown m placed u.items m.words words pages i u.shows (within-head a i h))))

  ready-waits : (i : Item) → is_ready left i ≡ not (waits_of i)
  unfolding waits_of
  ready-waits i = by (cases_Bool (list_any (λ j. comes_before j i) u.items))
      (cases_Bool (list_any (λ journal. list_any (λ j. comes_before j i) journal) left))
    where
      by :
          (list_any (λ j. comes_before j i) u.items ≡ true) ⊎ (list_any (λ j. comes_before j i) u.items ≡ false)
          → (list_any (λ journal. list_any (λ j. comes_before j i) journal) left ≡ true)
          ⊎ (list_any (λ journal. list_any (λ j. comes_before j i) journal) left ≡ false)
          → is_ready left i ≡ not (list_any (λ j. comes_before j i) u.items)
      by (inl x) (inl y) = ap not (y ∙ sym x)
      by (inr x) (inr y) = ap not (y ∙ sym x)
      by (inl x) (inr y) = absurd (true≢false (sym x ∙ none-journals u.items left u.has (λ j. comes_before j i) y))
      by (inr x) (inl y) = absurd (true≢false (sym y ∙ journals-none u.items left u.has (λ j. comes_before j i) x))

  has_ready-passes : (a : ℕ) → has_ready left (slice_index_or left a []) ≡ passes a
  has_ready-passes a = ap (λ o. option_map_or (is_ready left) o false) (left-head a) ∙ by (head a) refl
    where
      by : (o : Option Item) → head a ≡ o → option_map_or (is_ready left) o false ≡ option_map_or (stands_by m.words words pages) o false
      by None h = refl
      by (Some i) h = ready-waits i ∙ stands-head a i h

  -- ---- no actor is ready: the merge is whole
  pub none-ready :
      (n : ℕ) → length journals ≡ n → ((k : ℕ) → k < n → passes k ≡ false) → (k : ℕ) → merge_from k left ≡ []
  none-ready n size none zero = refl
  none-ready n size none (suc k) =
      ap (merge_step (λ rest. merge_from k rest) left)
      (no-place (has_ready left) [] 0 left (λ j l. has_ready-passes j ∙ none j (omega (arith, l, left-length journals next, size))))

  -- ---- an actor is ready: its next item is placed
  module _ (a : ℕ) (i : Item) (h : head a ≡ Some i) (chosen : passes a ≡ true) (lower : (k : ℕ) → k < a → passes k ≡ false)
      (here : a < length journals) (place : a < length next) where
    abbrev pub f : IsFirst a u.items i (drop 1 (slice_index_or left a []))
    f = first a i h

    abbrev pub left_then : Journals
    left_then = left_from journals (slice_set next a (slice_index next a + 1))

    left-then : left_then ≡ without_next left a
    left-then = left-next journals next a place

    chosen-next : ready_actor left ≡ Some a
    chosen-next =
        let e : 0 + a ≡ a = omega arith in
        first-place (has_ready left) [] 0 left a (omega (arith, here, left-length journals next)) (has_ready-passes a ∙ chosen)
        (λ k l. has_ready-passes k ∙ lower k l)
        ∙ ap Some e

    pub merged-next : (k : ℕ) → merge_from (suc k) left ≡ i ∷ merge_from k left_then
    merged-next k =
        ap (merge_step (λ rest. merge_from k rest) left) chosen-next
        ∙ (ap (λ (j : List Item). placed_first (slice_get j 0) (merge_from k (without_next left a))) (left-next_item a i h)
        ∙ ap (λ js. i ∷ merge_from k js) (sym left-then))

    stands : stands_by m.words words pages i ≡ true
    stands = sym (ap (λ o. option_map_or (stands_by m.words words pages) o false) h) ∙ chosen

    free : list_any (λ j. comes_before j i) u.items ≡ false
    unfolding waits_of
    free = not-true (list_any (λ j. comes_before j i) u.items) (stands-head a i h ∙ stands)

    moved : AllKept m answer placed (i ∷ f.front ++ f.back)
    moved =
        kept-moved m answer placed f.front f.back i
        (or_parts (list_any (λ j. comes_before j i) f.front) (list_any (λ j. comes_before j i) (i ∷ f.back))
        (sym (list_any-append (λ j. comes_before j i) f.front (i ∷ f.back))
        ∙ (ap (list_any (λ j. comes_before j i)) (sym f.parts) ∙ free))).0
        (alone a i h) (subst (λ zs. AllKept m answer placed zs) f.parts u.kept)

    whole-totals : KnowsTotals m t (placed ++ (f.front ++ i ∷ f.back))
    whole-totals = subst (λ zs. KnowsTotals m t (placed ++ zs)) f.parts u.totals

    -- what the totals say of the item
    pub finds-totals : FindsTotals m.words t (placed ++ (f.front ++ i ∷ f.back)) i
    finds-totals = by i (within-head a i h) whole-totals
      where
        by : (i : Item) → is_within m.pages m.words i ≡ true → {items : List Item} → KnowsTotals m t items → FindsTotals m.words t items i
        by (item.Access x) k knows =
            let both = and_parts (nat_lt x.page m.pages) (nat_lt x.word m.words) k in
            let p : x.page < m.pages = let e = both.0 in grind (arith, nat_tests) in
            let w : x.word < m.words = let e = both.1 in grind (arith, nat_tests) in
            λ writes. knows.loads x.page x.word x.version p w
        by (item.Change c) k knows =
            let p : c.page < m.pages = grind (arith, nat_tests) in
            (knows.uses c.page c.seq p, knows.writes c.page c.seq p)
        by (item.Applied x) k knows = tt
        by (item.Switch s) k knows = tt

    pub next-shown :
        ShowsCounts m (placed ++ i ∷ []) (f.front ++ f.back) m.words (words_placed m.words t words i) (pages_placed t pages i)
    next-shown =
        placed-shown m answer placed f.front f.back words pages t u.start i moved.0
        (subst (λ zs. ShowsCounts m placed zs m.words words pages) f.parts u.shows) (within-head a i h) finds-totals

    pub under_way-next :
        IsUnderWay m answer t left_then (placed ++ i ∷ []) (words_placed m.words t words i) (pages_placed t pages i)
    under_way-next = record {
      items = f.front ++ f.back;
      has =
          subst (λ js. HasJournals (f.front ++ f.back) js) (ap (without_next left) f.by_actor ∙ sym left-then)
          (journals-without i (f.front ++ f.back) left
          (journals-moved f.front f.back i left (alone a i h) (subst (λ zs. HasJournals zs left) f.parts u.has)));
      start = kept-append m answer [] placed (i ∷ []) u.start (moved.0, tt);
      kept = moved.1;
      shows = next-shown;
      within = (all-at (is_within m.pages m.words) f.front f.back i (sym (ap (list_all (is_within m.pages m.words)) f.parts) ∙ u.within)).1;
      totals = record {
        loads = λ page word version p w.
            whole-totals.loads page word version p w ∙ count-moved (is_load_at page word version) placed f.front f.back i;
        uses = λ page seq p. whole-totals.uses page seq p ∙ count-moved (is_use_at page seq) placed f.front f.back i;
        writes = λ page seq p. whole-totals.writes page seq p ∙ count-moved (is_write_at page seq) placed f.front f.back i;
      };
    }

    -- one item fewer is left
    pub size-next : length u.items ≡ suc (length under_way-next.items)
    unfolding under_way-next
    size-next =
        let parts : length u.items ≡ length (f.front ++ i ∷ f.back) = ap length f.parts in
        omega (arith, parts, length-append f.front (i ∷ f.back), length-append f.front f.back)

    -- what has to be known before it is placed
    pub can-place-next :
        (c : Counts) → c.page_words ≡ m.words → words ≡ c.words.items → pages ≡ c.pages.items → length placed + length u.items ≤ MOST_ITEMS
        → CanPlace c t i
    can-place-next c same e g few =
        let parts : length u.items ≡ length (f.front ++ i ∷ f.back) = ap length f.parts in
        let size : length u.items ≡ 1 + length (f.front ++ f.back) =
        omega (arith, parts, length-append f.front (i ∷ f.back), length-append f.front f.back) in
        can-place m c t placed u.items (f.front ++ f.back) i same
        (subst (λ ps. ShowsCounts m placed u.items m.words c.words.items ps) g
        (subst (λ ws. ShowsCounts m placed u.items m.words ws pages) e u.shows))
        (subst (λ ps. ShowsCounts m (placed ++ i ∷ []) (f.front ++ f.back) m.words (words_placed m.words t c.words.items i)
        (pages_placed t ps i)) g
        (subst (λ ws. ShowsCounts m (placed ++ i ∷ []) (f.front ++ f.back) m.words (words_placed m.words t ws i) (pages_placed t pages i)) e
        next-shown))
        (within-head a i h) (omega (arith, few, size)) size
