-- the removals that are kept of each page, against the history
use Rattle.std.specs.Prelude.{◌≡◌, ℕ, ◌==◌, nat_lt, ◌&&◌, not, Bool, List, length, replicate, slice_index_or}
use Rattle.std.specs.List.{list_any, enumerate_from}
use Rattle.plat_base.specs.Messages.{by_other}
use Rattle.plat_base.specs.Held.{later, removes_all, removes_writes}
use Rattle.plat_base.specs.declared.items.Removed.{Removed}
use Rattle.plat_base.specs.declared.items.Item.{Item}
use Rattle.plat_chronicle.specs.declared.removals.Highest.{Highest}

-- a number above seq of another actor than q
abbrev pub is_other : (q seq : ℕ) → ℕ × ℕ → Bool
is_other q seq x = not (x.0 == q) && nat_lt seq x.1

-- one of these numbers, by actor, is such a one
abbrev pub is_some_other : List ℕ → (q seq : ℕ) → Bool
is_some_other highs q seq = list_any (is_other q seq) (enumerate_from 0 highs)

-- one of these numbers is above seq
abbrev pub is_some_above : List ℕ → ℕ → Bool
is_some_above highs seq = list_any (nat_lt seq) highs

abbrev pub no_removal : Highest
no_removal = record { all = replicate 9 0; writes = replicate 9 0 }

-- these numbers, by actor, tell which changes of the page removed what the test names
pub record ShowsHighest (test : Removed → Bool) (items : List Item) (page : ℕ) (highs : List ℕ) : Type 0 where
  pub size : length highs ≡ 9
  pub others : (q seq : ℕ) → by_other test items q page seq ≡ is_some_other highs q seq
  pub above : (seq : ℕ) → later test items page seq ≡ is_some_above highs seq

-- what is kept of so many pages is so for each; no other page has had a change
pub record ShowsRemovals (pages : ℕ) (items : List Item) (highest : List Highest) : Type 0 where
  pub size : length highest ≡ pages
  pub all : (page : ℕ) → ShowsHighest removes_all items page (slice_index_or highest page no_removal).all
  pub writes : (page : ℕ) → ShowsHighest removes_writes items page (slice_index_or highest page no_removal).writes
