-- what is kept of each word and of each page while journals are merged
use Rattle.std.specs.Prelude.{◌≡◌, ℕ, ◌+◌, ◌-◌, ◌*◌, ◌<◌, ◌≤◌, nat_lt, ◌&&◌, if◌then◌else◌, Bool, true, List, length, slice_index_or}
use Rattle.std.specs.Prelude.{slice_set}
use Rattle.plat_base.specs.Machine.{Machine}
use Rattle.plat_base.specs.Flat.{is_write, flat_writes}
use Rattle.plat_base.specs.Directories.{seq_of}
use Rattle.plat_base.specs.declared.items.Access.{Access}
use Rattle.plat_base.specs.declared.items.Change.{Change}
use Rattle.plat_base.specs.declared.items.Item.{Item}
use Rattle.plat_base.specs.declared.items.Item.TheVariants as item
use Rattle.plat_base.specs.declared.limits.TheConstants.{PAGES, PAGE_WORDS}
use Rattle.plat_merge.specs.declared.counts.WordCount.{WordCount}
use Rattle.plat_merge.specs.declared.counts.PageCount.{PageCount}
use Rattle.plat_merge.specs.Standing.{loads_waiting, uses_waiting, writes_waiting, may_access, may_change}

-- the place of a word, the words of all pages standing one page after another
abbrev pub cell_of : (page_words page word : ℕ) → ℕ
cell_of page_words page word = page * page_words + word

abbrev pub no_word : WordCount
no_word = record { writes = 0; loads = 0 }

abbrev pub no_page : PageCount
no_page = record { changes = 0; uses = 0; writes = 0 }

abbrev pub word_at : List WordCount → ℕ → WordCount
word_at words cell = slice_index_or words cell no_word

abbrev pub page_at : List PageCount → ℕ → PageCount
page_at pages page = slice_index_or pages page no_page

-- what is kept of the word that an access goes to
abbrev pub word_of : (page_words : ℕ) → List WordCount → Access → WordCount
word_of page_words words a = word_at words (cell_of page_words a.page a.word)

-- how many loads of it are still to come
abbrev pub loads_of : (page_words : ℕ) → List WordCount → Access → ℕ
loads_of page_words words a = (word_of page_words words a).loads

-- there is one for each word of each page, and one for each page
pub record FitCounts (page_words : ℕ) (words : List WordCount) (pages : List PageCount) : Type 0 where
  pub few_pages : length pages ≤ PAGES
  pub few_words : page_words ≤ PAGE_WORDS
  pub all_words : length words ≡ length pages * page_words

-- the item's page and word are among them
abbrev pub is_within : (pages page_words : ℕ) → Item → Bool
is_within pages page_words (item.Access a) = nat_lt a.page pages && nat_lt a.word page_words
is_within pages page_words (item.Change c) = nat_lt c.page pages
is_within pages page_words (item.Applied x) = true
is_within pages page_words (item.Switch s) = true

-- whether the item may stand next, by what is kept
abbrev pub stands_by : (page_words : ℕ) → List WordCount → List PageCount → Item → Bool
stands_by page_words words pages (item.Access a) =
    may_access (word_at words (cell_of page_words a.page a.word)).writes (word_at words (cell_of page_words a.page a.word)).loads
    (page_at pages a.page).changes a
stands_by page_words words pages (item.Change c) =
    may_change (page_at pages c.page).changes (page_at pages c.page).uses (page_at pages c.page).writes c
stands_by page_words words pages (item.Applied x) = true
stands_by page_words words pages (item.Switch s) = true

-- ---- what is kept once an item is placed

-- `loads` is how many loads find what the write made
abbrev pub word_after : Access → (loads : ℕ) → WordCount → WordCount
word_after a loads w =
    if is_write a.kind then record { writes = w.writes + 1; loads = w.loads + loads } else record { writes = w.writes; loads = w.loads - 1 }

abbrev pub page_after : Access → PageCount → PageCount
page_after a p =
    record { changes = p.changes; uses = p.uses - 1; writes = if is_write a.kind then p.writes - 1 else p.writes }

-- `uses` is how many accesses go by what the change granted, and `writes` how many of those write
abbrev pub page_changed : (uses writes : ℕ) → PageCount → PageCount
page_changed uses writes p = record { changes = p.changes + 1; uses = p.uses + uses; writes = p.writes + writes }

-- of all words, and of all pages, once an access or a change of this page is placed
abbrev pub words_after : (page_words : ℕ) → Access → (loads : ℕ) → List WordCount → List WordCount
words_after page_words a loads words =
    slice_set words (cell_of page_words a.page a.word) (word_after a loads (word_of page_words words a))

abbrev pub pages_after : Access → List PageCount → List PageCount
pages_after a pages = slice_set pages a.page (page_after a (page_at pages a.page))

abbrev pub pages_changed : Change → (uses writes : ℕ) → List PageCount → List PageCount
pages_changed c uses writes pages = slice_set pages c.page (page_changed uses writes (page_at pages c.page))

-- the access is noted in what is kept of words
abbrev pub Noted : Access → (loads page_words : ℕ) → (before after : List WordCount) → Type 0
Noted a loads page_words before after = after ≡ words_after page_words a loads before

-- ---- against the items

-- what is kept says what is placed, and what of those left waits for it
pub record ShowsCounts (m : Machine) (placed left : List Item) (page_words : ℕ) (words : List WordCount) (pages : List PageCount) : Type
    0 where
  pub same_words : page_words ≡ m.words
  pub all_words : length words ≡ m.pages * m.words
  pub all_pages : length pages ≡ m.pages
  pub writes :
      (page word : ℕ) → page < m.pages → word < m.words
      → (word_at words (cell_of m.words page word)).writes ≡ flat_writes placed page word
  pub loads :
      (page word : ℕ) → page < m.pages → word < m.words
      → (word_at words (cell_of m.words page word)).loads ≡ loads_waiting placed left page word
  pub changes : (page : ℕ) → page < m.pages → (page_at pages page).changes ≡ seq_of placed page
  pub uses : (page : ℕ) → page < m.pages → (page_at pages page).uses ≡ uses_waiting placed left page
  pub writing : (page : ℕ) → page < m.pages → (page_at pages page).writes ≡ writes_waiting placed left page
