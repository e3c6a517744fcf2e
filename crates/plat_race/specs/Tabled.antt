-- the four tables of a search for races, and what they say after so many items
use Rattle.std.specs.Prelude.{◌≡◌, ℕ, ◌+◌, ◌*◌, ◌<◌, ◌≤◌, List, [], length, slice_index, slice_index_or, slice_set}
use Rattle.plat_base.specs.declared.limits.TheConstants.{MODULES, PAGES, PAGE_WORDS}
use Rattle.plat_base.specs.Machine.{Machine}
use Rattle.plat_base.specs.declared.items.Item.{Item}
use Rattle.plat_race.specs.Marks.{is_by, adds_to, uses, writes, AreMarks, AreLasts}

-- the marks in one row of a table
abbrev pub row_at : List (List ℕ) → ℕ → List ℕ
row_at rows r = slice_index_or rows r []

-- the table with one mark set
abbrev pub with_mark : List (List ℕ) → (r b mark : ℕ) → List (List ℕ)
with_mark rows r b mark = slice_set rows r (slice_set (row_at rows r) b mark)

-- the row of a word, the words of all pages standing one page after another
abbrev pub word_row : (words page word : ℕ) → ℕ
word_row words page word = page * words + word

-- one row for each actor, and in three tables one for each word of each page
pub record FitTables (pages words : ℕ) (clocks adds accesses stores : List (List ℕ)) : Type 0 where
  pub few_pages : pages ≤ PAGES
  pub few_words : words ≤ PAGE_WORDS
  pub clocks_size : length clocks ≡ MODULES
  pub adds_size : length adds ≡ pages * words
  pub accesses_size : length accesses ≡ pages * words
  pub stores_size : length stores ≡ pages * words

-- what the tables say after the first n items: of each actor, what is before its next access by its own; of each word,
-- what is before its fetch-and-adds so far, and each actor's last access and last write
pub record AreAfter (items : List Item) (n pages words : ℕ) (clocks adds accesses stores : List (List ℕ)) : Type 0 where
  pub own : (q : ℕ) → q < MODULES → AreMarks items (is_by q) n (row_at clocks q)
  pub added : (page word : ℕ) → page < pages → word < words → AreMarks items (adds_to page word) n (row_at adds (word_row words page word))
  pub used : (page word : ℕ) → page < pages → word < words → AreLasts items (uses page word) n (row_at accesses (word_row words page word))
  pub written : (page word : ℕ) → page < pages → word < words → AreLasts items (writes page word) n (row_at stores
      (word_row words page word))

-- a search as its contracts see it: the pages, and the words of each, that it has room for
pub record Room : Type 0 where
  pub pages : ℕ
  pub words : ℕ

-- it was made for this machine
pub record IsFor (m : Machine) (room : Room) : Type 0 where
  pub pages : room.pages ≡ m.pages
  pub words : room.words ≡ m.words

-- every mark is 0
abbrev pub IsBlank : List (List ℕ) → Type 0
IsBlank rows = (r b : ℕ) → slice_index (row_at rows r) b ≡ 0

pub record AreBlank (clocks adds accesses stores : List (List ℕ)) : Type 0 where
  pub clocks_blank : IsBlank clocks
  pub adds_blank : IsBlank adds
  pub accesses_blank : IsBlank accesses
  pub stores_blank : IsBlank stores
