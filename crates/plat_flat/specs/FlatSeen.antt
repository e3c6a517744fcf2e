-- flat memory as its contracts see it, against the definition of flat memory
use Rattle.std.specs.Prelude.{◌≡◌, ℕ, ◌+◌, ◌*◌, ◌<◌, ◌≤◌, Bool, true, List, length, slice_index}
use Rattle.plat_base.specs.Machine.{Machine}
use Rattle.plat_base.specs.Flat.{flat_value, flat_writes}
use Rattle.plat_base.specs.Rules.{is_legal}
use Rattle.plat_base.specs.declared.items.Item.{Item}
use Rattle.plat_base.specs.declared.items.Item.TheVariants as item
use Rattle.plat_base.specs.declared.limits.TheConstants.{PAGES, PAGE_WORDS}

-- the words of all pages, one page after another: their values, and how often each was written
pub record FlatSeen : Type 0 where
  pub pages : ℕ
  pub words : ℕ
  pub values : List ℕ
  pub versions : List ℕ

-- where a word stands
abbrev pub place : (words page word : ℕ) → ℕ
place words page word = page * words + word

pub record FitsPages (pages words : ℕ) (vs ws : List ℕ) : Type 0 where
  pub few_pages : pages ≤ PAGES
  pub few_words : words ≤ PAGE_WORDS
  pub values : length vs ≡ pages * words
  pub versions : length ws ≡ pages * words

-- this is the flat memory of these items on a machine
pub record IsFlatOf (m : Machine) (items : List Item) (flat : FlatSeen) : Type 0 where
  pub pages : flat.pages ≡ m.pages
  pub words : flat.words ≡ m.words
  pub value :
      (page word : ℕ) → page < m.pages → word < m.words
      → slice_index flat.values (place m.words page word) ≡ flat_value m items page word
  pub version :
      (page word : ℕ) → page < m.pages → word < m.words
      → slice_index flat.versions (place m.words page word) ≡ flat_writes items page word

-- an access of flat memory; other items are always legal
abbrev pub is_legal_item : Machine → List Item → Item → Bool
is_legal_item m items (item.Access a) = is_legal m items a
is_legal_item m items (item.Change c) = true
is_legal_item m items (item.Applied x) = true
is_legal_item m items (item.Switch s) = true
