-- what the merge of the journals of a good history is
use Rattle.std.specs.Prelude.{◌≡◌, ℕ, List, [], length, slice_index_or}
use Rattle.plat_base.specs.Verdicts.{Answer}
use Rattle.plat_base.specs.Machine.{Machine}
use Rattle.plat_base.specs.Rules.{Good}
use Rattle.plat_base.specs.declared.endings.Ended.{Ended}
use Rattle.plat_base.specs.declared.items.Item.{Item}
use Rattle.plat_events.specs.Shown.{items_by}
use Rattle.plat_events.specs.Merges.{Journals, merged}

-- the journal of each actor has its items, in order; an actor past the last journal has none
abbrev pub HasJournals : List Item → Journals → Type 0
HasJournals items journals = (a : ℕ) → slice_index_or journals a [] ≡ items_by a items

-- the merge of these journals places every one of these items, each actor's in order, and no item and no end breaks a rule
pub record IsGoodMerge (m : Machine) (answer : Answer) (items : List Item) (journals : Journals) (ends : List Ended) : Type 0 where
  pub all : length (merged journals) ≡ length items
  pub placed : HasJournals (merged journals) journals
  pub good : Good m answer (merged journals) ends

-- where some good history has these journals, their merge is good with the ends of that history
abbrev pub MergesAreGood : Machine → Answer → Type 0
MergesAreGood m answer =
    (items : List Item) (journals : Journals) (ends : List Ended) → HasJournals items journals → Good m answer items ends
    → IsGoodMerge m answer items journals ends
