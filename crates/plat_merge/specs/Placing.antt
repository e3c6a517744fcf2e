-- what has to be known before an item is placed, and what is kept then
use Rattle.std.specs.Prelude.{ℕ, ◌+◌, ◌<◌, ◌≤◌, if◌then◌else◌, List, length}
use Rattle.plat_base.specs.Flat.{is_write}
use Rattle.plat_base.specs.declared.limits.TheConstants.{MOST_ITEMS}
use Rattle.plat_base.specs.declared.items.Access.{Access}
use Rattle.plat_base.specs.declared.items.Change.{Change}
use Rattle.plat_base.specs.declared.items.Item.{Item}
use Rattle.plat_base.specs.declared.items.Item.TheVariants as item
use Rattle.plat_merge.specs.declared.counts.WordCount.{WordCount}
use Rattle.plat_merge.specs.declared.counts.PageCount.{PageCount}
use Rattle.plat_merge.specs.declared.counts.Counts.{Counts}
use Rattle.plat_merge.specs.declared.totals.Totals.{Totals}
use Rattle.plat_merge.specs.Counts.{cell_of, word_at, page_at, words_after, pages_after, pages_changed}
use Rattle.plat_merge.specs.Keys.{total_at}

-- the loads that find what an access wrote
abbrev pub loads_found : (page_words : ℕ) → Totals → Access → ℕ
loads_found page_words t a = if is_write a.kind then total_at t.loads (cell_of page_words a.page a.word) a.version else 0

-- ---- before

pub record CanAccess (c : Counts) (t : Totals) (a : Access) : Type 0 where
  pub page : a.page < length c.pages.items
  pub word : a.word < c.page_words
  pub few : (word_at c.words.items (cell_of c.page_words a.page a.word)).writes < MOST_ITEMS
  pub all : (word_at c.words.items (cell_of c.page_words a.page a.word)).loads + loads_found c.page_words t a ≤ MOST_ITEMS

pub record CanChange (c : Counts) (t : Totals) (d : Change) : Type 0 where
  pub page : d.page < length c.pages.items
  pub few : (page_at c.pages.items d.page).changes < MOST_ITEMS
  pub all_uses : (page_at c.pages.items d.page).uses + total_at t.uses d.page d.seq ≤ MOST_ITEMS
  pub all_writes : (page_at c.pages.items d.page).writes + total_at t.writes d.page d.seq ≤ MOST_ITEMS

abbrev pub CanPlace : Counts → Totals → Item → Type 0
CanPlace c t (item.Access a) = CanAccess c t a
CanPlace c t (item.Change d) = CanChange c t d
CanPlace c t (item.Applied x) = Unit {0}
CanPlace c t (item.Switch s) = Unit {0}

-- ---- after

abbrev pub words_placed : (page_words : ℕ) → Totals → List WordCount → Item → List WordCount
words_placed page_words t words (item.Access a) =
    words_after page_words a (loads_found page_words t a) words
words_placed page_words t words (item.Change d) = words
words_placed page_words t words (item.Applied x) = words
words_placed page_words t words (item.Switch s) = words

abbrev pub pages_placed : Totals → List PageCount → Item → List PageCount
pages_placed t pages (item.Access a) = pages_after a pages
pages_placed t pages (item.Change d) =
    pages_changed d (total_at t.uses d.page d.seq) (total_at t.writes d.page d.seq) pages
pages_placed t pages (item.Applied x) = pages
pages_placed t pages (item.Switch s) = pages

abbrev pub words_then : Counts → Totals → Item → List WordCount
words_then c t i = words_placed c.page_words t c.words.items i
