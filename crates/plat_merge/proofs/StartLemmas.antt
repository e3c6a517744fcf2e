-- a merge from its start to its end
use Rattle.std.specs.Prelude.{◌≡◌, ℕ, suc, ◌+◌, ◌*◌, ◌<◌, ◌≤◌, ◌==◌, nat_lt, nat_le, ◌&&◌, not, Bool, true, false, List, [], ◌∷◌, ◌++◌}
use Rattle.std.specs.Prelude.{length, replicate, count_by, Some, slice_index, slice_index_or, slice_set, slice_get, IsTrue}
use Rattle.std.proofs.Common.{refl, ap, sym, ◌∙◌, arith, subst}
use Rattle.std.specs.List.{sum, list_all, list_any}
use lib.Pointwise.{pointwise_long}
use Rattle.std.proofs.lemmas.Bool.{and_parts, or_parts, not-false}
use Rattle.std.proofs.lemmas.Bool.Decides.{nat_tests}
use Rattle.std.proofs.lemmas.List.{append_assoc, append-nil, length-append, length-replicate, get_or-replicate}
use Rattle.std.proofs.lemmas.Nat.{mul-add-lt}
use Rattle.plat_base.specs.Items.{is_access_that}
use Rattle.plat_base.specs.Verdicts.{Answer}
use Rattle.plat_base.specs.Machine.{Machine, is_machine}
use Rattle.plat_base.specs.Rooms.{journal_rooms, fit_rooms}
use Rattle.plat_base.proofs.LimitLemmas.{Limits, limits_of}
use Rattle.plat_base.proofs.RoomLemmas.{journal_rooms-most, lengths-most}
use Rattle.plat_base.specs.declared.limits.TheConstants.{MOST_ITEMS}
use Rattle.plat_base.specs.declared.items.Access.{Access}
use Rattle.plat_base.specs.declared.items.Item.{Item}
use Rattle.plat_base.specs.declared.items.Item.TheVariants as item
use Rattle.plat_events.specs.Merges.{Journals, items_left, merge_from, merged}
use Rattle.plat_merge_laws.specs.Merging.{HasJournals}
use Rattle.plat_merge_laws.proofs.JournalLemmas.{items_left-length, journals-none}
use Rattle.plat_merge_laws.proofs.MergeLaws.{AllKept, kept-from}
use Rattle.plat_merge.specs.declared.counts.WordCount.{WordCount}
use Rattle.plat_merge.specs.declared.counts.PageCount.{PageCount}
use Rattle.plat_merge.specs.declared.counts.Counts.{Counts}
use Rattle.plat_merge.specs.declared.totals.Totals.{Totals}
use Rattle.plat_merge.specs.Standing.{is_load_of, is_load_up_to, is_load_at, is_use_below, is_write_below}
use Rattle.plat_base.specs.Flat.{is_write}
use Rattle.plat_merge.specs.Counts.{cell_of, no_page, word_at, page_at, is_within, stands_by, ShowsCounts}
use Rattle.plat_merge.specs.Keys.{first_count}
use Rattle.plat_merge.specs.Heads.{left_from, head_passes}
use Rattle.plat_merge.specs.Placing.{CanPlace, words_placed, pages_placed}
use Rattle.plat_merge.proofs.StandLemmas.{one_if, none-count}
use Rattle.plat_merge.proofs.StepLemmas.{count-split}
use Rattle.plat_merge.proofs.HeadLemmas.{left-start}
use Rattle.plat_merge.specs.RoomSeen.{HaveGoodHistory}
use Rattle.plat_merge.proofs.TotalLemmas.{within-all}
use Rattle.plat_merge.proofs.UnderWay.{KnowsTotals, IsUnderWay, none-ready, merged-next, size-next, under_way-next, can-place-next}
use Rattle.plat_merge.proofs.UnderWay.{within-head}
use Rattle.plat_laws.proofs.HistoryLaws.{good-items}

-- ---- the start

-- no test of a number below none passes
none-below : (pass : Access → Bool) (items : List Item) → list_any (is_access_that (λ a. pass a && nat_lt a.grant 0)) items ≡ false
none-below pass [] = refl
none-below pass (i ∷ items) = rw (one i) (none-below pass items)
  where
    last_false : (b : Bool) (n : ℕ) → (b && nat_lt n 0) ≡ false
    last_false true n = grind (arith, nat_tests)
    last_false false n = refl

    one : (i : Item) → is_access_that (λ a. pass a && nat_lt a.grant 0) i ≡ false
    one (item.Access a) = last_false (pass a) a.grant
    one (item.Change c) = refl
    one (item.Applied x) = refl
    one (item.Switch s) = refl

first-version : (page word : ℕ) (items : List Item) → count_by (is_load_up_to page word 0) items ≡ count_by (is_load_at page word 0) items
first-version page word items =
    let split = count-split (is_load_up_to page word 0) (is_load_at page word 0) (λ i. false) each items in
    let none = none-count (λ i. false) items (all-false items) in
    omega (arith, split, none)
  where
    all-false : (xs : List Item) → list_any (λ (x : Item). false) xs ≡ false
    all-false [] = refl
    all-false (x ∷ xs) = all-false xs

    number : (b : Bool) (v : ℕ) → one_if (b && nat_le v 0) ≡ one_if (b && v == 0) + one_if false
    number false v = refl
    number true v = grind (arith, nat_tests)

    each : (i : Item) → one_if (is_load_up_to page word 0 i) ≡ one_if (is_load_at page word 0 i) + one_if false
    each (item.Access a) = number (is_load_of page word a) a.version
    each (item.Change c) = refl
    each (item.Applied x) = refl
    each (item.Switch s) = refl

pub start-shown :
    (m : Machine) (t : Totals) (items : List Item) (words : List WordCount) (pages : List PageCount) → KnowsTotals m t items
    → length words ≡ m.pages * m.words → pages ≡ replicate m.pages no_page
    → ((cell : ℕ) → cell < length words → word_at words cell ≡ first_count t.loads cell)
    → ShowsCounts m [] items m.words words pages
start-shown m t items words pages knows size blank noted = record {
  same_words = refl;
  all_words = size;
  all_pages = ap length blank ∙ length-replicate m.pages no_page;
  writes = λ page word p w. ap (λ (x : WordCount). x.writes) (noted (cell_of m.words page word) (inside page word p w));
  loads = λ page word p w.
      ap (λ (x : WordCount). x.loads) (noted (cell_of m.words page word) (inside page word p w))
      ∙ (knows.loads page word 0 p w ∙ sym (first-version page word items));
  changes = λ page p. ap (λ (x : PageCount). x.changes) (empty page p);
  uses = λ page p. ap (λ (x : PageCount). x.uses) (empty page p)
      ∙ sym (none-count (is_use_below page 0) items (none-below (λ a. a.page == page) items));
  writing = λ page p.
      ap (λ (x : PageCount). x.writes) (empty page p)
      ∙ sym (none-count (is_write_below page 0) items (none-below (λ a. is_write a.kind && a.page == page) items));
}
  where
    inside : (page word : ℕ) → page < m.pages → word < m.words → cell_of m.words page word < length words
    inside page word p w = let l = mul-add-lt page m.words word m.pages p w in grind (arith)

    empty : (page : ℕ) → page < m.pages → page_at pages page ≡ no_page
    empty page p = ap (λ ps. page_at ps page) blank ∙ get_or-replicate m.pages page no_page no_page p

-- ---- a merge

pub record IsMerging (m : Machine) (t : Totals) (journals : Journals) (next : List ℕ) (placed : List Item) (words : List WordCount)
    (pages : List PageCount) (most : ℕ) : Type 0 where
  pub answer : Answer
  pub way : IsUnderWay m answer t (left_from journals next) placed words pages
  pub whole : merged journals ≡ placed ++ merge_from (length way.items) (left_from journals next)
  pub all : length placed + length way.items ≤ most

-- all that is left has been placed
pub merging-end :
    (m : Machine) (t : Totals) (journals : Journals) (next : List ℕ) (placed : List Item) (words : List WordCount) (pages : List PageCount)
    (most : ℕ)
    → IsMerging m t journals next placed words pages most → most ≤ length placed → merged journals ≡ placed
merging-end m t journals next placed words pages most u h =
    let none : length u.way.items ≡ 0 = omega (arith, u.all, h) in
    u.whole ∙ (ap (λ k. placed ++ merge_from k (left_from journals next)) none ∙ append-nil placed)

-- nobody is ready, so nothing is left
pub merging-none :
    (m : Machine) (t : Totals) (journals : Journals) (next : List ℕ) (placed : List Item) (words : List WordCount) (pages : List PageCount)
    (most n : ℕ)
    → IsMerging m t journals next placed words pages most → length journals ≡ n
    → ((k : ℕ) → k < n → head_passes (stands_by m.words words pages) journals next k ≡ false) → merged journals ≡ placed
merging-none m t journals next placed words pages most n u size none =
    u.whole
    ∙ (ap (λ xs. placed ++ xs) (none-ready m u.answer t journals next placed words pages u.way n size none (length u.way.items))
    ∙ append-nil placed)

-- the next item is placed
pub merging-next :
    (m : Machine) (t : Totals) (journals : Journals) (next : List ℕ) (placed : List Item) (words : List WordCount) (pages : List PageCount)
    (most : ℕ)
    → IsMerging m t journals next placed words pages most → (a : ℕ) (i : Item)
    → slice_get (slice_index_or journals a []) (slice_index next a) ≡ Some i
    → head_passes (stands_by m.words words pages) journals next a ≡ true
    → ((k : ℕ) → k < a → head_passes (stands_by m.words words pages) journals next k ≡ false) → a < length journals → a < length next
    → IsMerging m t journals (slice_set next a (slice_index next a + 1)) (placed ++ i ∷ []) (words_placed m.words t words i)
    (pages_placed t pages i) most
merging-next m t journals next placed words pages most u a i h chosen lower here place =
    let way = under_way-next m u.answer t journals next placed words pages u.way a i h chosen lower here place in
    let size : length u.way.items ≡ suc (length way.items) =
    size-next m u.answer t journals next placed words pages u.way a i h chosen lower here place in
    record {
      answer = u.answer;
      way = way;
      whole =
          u.whole
          ∙ (ap (λ k. placed ++ merge_from k (left_from journals next)) size
          ∙ (ap (λ xs. placed ++ xs) (merged-next m u.answer t journals next placed words pages u.way a i h chosen lower here place
          (length way.items))
          ∙ sym (append_assoc placed (i ∷ [])
          (merge_from (length way.items) (left_from journals (slice_set next a (slice_index next a + 1)))))));
      all = omega (arith, u.all, size, length-append placed (i ∷ []));
    }

-- a merge begins
pub merging-start :
    (m : Machine) (answer : Answer) (t : Totals) (journals : Journals) (items : List Item) (words : List WordCount) (pages : List PageCount)
    (k most : ℕ)
    → HasJournals items journals → AllKept m answer [] items → list_all (is_within m.pages m.words) items ≡ true → KnowsTotals m t items
    → ShowsCounts m [] items m.words words pages → items_left journals ≤ most
    → IsMerging m t journals (replicate k 0) [] words pages most
unfolding merged
merging-start m answer t journals items words pages k most has kept within knows shows few = record {
  answer = answer;
  way = record {
    items = items;
    has = subst (λ js. HasJournals items js) (sym (left-start journals k)) has;
    start = tt;
    kept = kept;
    shows = shows;
    within = within;
    totals = knows;
  };
  whole = ap (λ n. merge_from n journals) (items_left-length items journals has)
      ∙ ap (merge_from (length items)) (sym (left-start journals k));
  all = omega (arith, few, items_left-length items journals has);
}

-- the next item may be placed
pub merging-place :
    (m : Machine) (t : Totals) (journals : Journals) (next : List ℕ) (placed : List Item) (c : Counts) (most : ℕ)
    → IsMerging m t journals next placed c.words.items c.pages.items most → (a : ℕ) (i : Item)
    → slice_get (slice_index_or journals a []) (slice_index next a) ≡ Some i
    → head_passes (stands_by m.words c.words.items c.pages.items) journals next a ≡ true
    → ((k : ℕ) → k < a → head_passes (stands_by m.words c.words.items c.pages.items) journals next k ≡ false) → a < length journals →
    a < length next
    → c.page_words ≡ m.words → most ≤ MOST_ITEMS → CanPlace c t i
merging-place m t journals next placed c most u a i h chosen lower here place same few =
    can-place-next m u.answer t journals next placed c.words.items c.pages.items u.way a i h chosen lower here place c same refl refl
    (omega (arith, u.all, few))

-- each next item is within the machine
pub merging-within :
    (m : Machine) (t : Totals) (journals : Journals) (next : List ℕ) (placed : List Item) (words : List WordCount) (pages : List PageCount)
    (most : ℕ)
    → IsMerging m t journals next placed words pages most → (a : ℕ) (i : Item)
    → slice_get (slice_index_or journals a []) (slice_index next a) ≡ Some i → is_within m.pages m.words i ≡ true
merging-within m t journals next placed words pages most u a i h = within-head m u.answer t journals next placed words pages u.way a i h

-- ---- journals that may be merged

all-from_none : {A : Type 0} (p : A → Bool) (xs : List A) → list_any (λ x. not (p x)) xs ≡ false → list_all p xs ≡ true
all-from_none p [] h = refl
all-from_none p (x ∷ xs) h =
    let parts = or_parts (not (p x)) (list_any (λ x. not (p x)) xs) h in rw (not-false (p x) parts.0) (all-from_none p xs parts.1)

none-from_all : {A : Type 0} (p q : A → Bool) → ((x : A) → p x ≡ true → q x ≡ true) → (xs : List A) → list_all p xs ≡ true →
    list_any (λ x. not (q x)) xs ≡ false
none-from_all p q each [] h = refl
none-from_all p q each (x ∷ xs) h =
    let parts = and_parts (p x) (list_all p xs) h in rw (each x parts.0) (none-from_all p q each xs parts.1)

all-journals : (p : Item → Bool) (journals : Journals) → list_any (list_any (λ i. not (p i))) journals ≡ false →
    list_all (list_all p) journals ≡ true
all-journals p [] h = refl
all-journals p (j ∷ js) h =
    let parts = or_parts (list_any (λ i. not (p i)) j) (list_any (list_any (λ i. not (p i))) js) h in
    rw (all-from_none p j parts.0) (all-journals p js parts.1)

lt-more : (a b c : ℕ) → nat_lt a b ≡ true → b ≤ c → nat_lt a c ≡ true
lt-more a b c h l = grind (arith, nat_tests)

within-more : (m : Machine) → m.pages ≤ 64 → (i : Item) → is_within m.pages m.words i ≡ true → is_within 64 m.words i ≡ true
within-more m few (item.Access a) h =
    let both = and_parts (nat_lt a.page m.pages) (nat_lt a.word m.words) h in rw (lt-more a.page m.pages 64 both.0 few, both.1) refl
within-more m few (item.Change c) h = lt-more c.page m.pages 64 h few
within-more m few (item.Applied x) h = refl
within-more m few (item.Switch s) h = refl

pub record AreMergeable (m : Machine) (journals : Journals) : Type 0 where
  pub answer : Answer
  pub items : List Item
  pub has : HasJournals items journals
  pub kept : AllKept m answer [] items
  pub items_within : list_all (is_within m.pages m.words) items ≡ true
  pub within : list_all (list_all (is_within 64 m.words)) journals ≡ true
  pub left : items_left journals ≤ sum (journal_rooms m)
  pub few : sum (journal_rooms m) ≤ 2621440
  pub lists : length journals ≡ length (journal_rooms m)

pub mergeable : (m : Machine) (journals : Journals) → IsTrue (is_machine m) → HaveGoodHistory m journals →
    IsTrue (fit_rooms (journal_rooms m) journals) → AreMergeable m journals
mergeable m journals limits good fits =
    let kept = kept-from m good.answer [] 0 good.items (good-items m good.answer good.items good.ends good.good) in
    let left = lengths-most (journal_rooms m) journals fits in
    let few = journal_rooms-most m limits in
    let inside = within-all m good.answer [] good.items kept in
    let l : Limits m = limits_of m limits in
    record {
      answer = good.answer;
      items = good.items;
      has = good.has;
      kept = kept;
      items_within = inside;
      within =
          all-journals (is_within 64 m.words) journals
          (journals-none good.items journals good.has (λ i. not (is_within 64 m.words i))
          (none-from_all (is_within m.pages m.words) (is_within 64 m.words) (within-more m l.pages_most) good.items inside));
      left = left;
      few = few;
      lists = sym (pointwise_long (λ room (l : List Item). nat_le (length l) room) (journal_rooms m) journals fits);
    }
