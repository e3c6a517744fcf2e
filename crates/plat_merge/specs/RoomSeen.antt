-- the room of a merge, and what is asked of journals
use Rattle.std.specs.Prelude.{◌≡◌, ◌≤◌, ℕ, List, [], replicate}
use Rattle.std.specs.List.{sum}
use Rattle.plat_base.specs.Verdicts.{Answer}
use Rattle.plat_base.specs.Machine.{Machine}
use Rattle.plat_base.specs.Rooms.{journal_rooms}
use Rattle.plat_base.specs.Rules.{Good}
use Rattle.plat_base.specs.declared.endings.Ended.{Ended}
use Rattle.plat_base.specs.declared.items.Item.{Item}
use Rattle.plat_events.specs.Merges.{Journals}
use Rattle.plat_merge_laws.specs.Merging.{HasJournals}
use Rattle.plat_merge.specs.declared.counts.Counts.{Counts}
use Rattle.plat_merge.specs.declared.totals.Totals.{Totals}
use Rattle.plat_merge.specs.Counts.{no_page}
use Rattle.plat_merge.specs.Keys.{AreBlank, HaveRows}

-- a room as contracts see it: for so many pages of so many words, and for so many items
pub record RoomSeen : Type 0 where
  pub pages : ℕ
  pub words : ℕ
  pub items : ℕ

-- nothing of it is used: what contracts do not see
pub record IsUnused (pages most : ℕ) (placed : List Item) (spare : ℕ) (counts : Counts) (totals : Totals) : Type 0 where
  pub blank : counts.pages.items ≡ replicate pages no_page
  pub empty : placed ≡ []
  pub room : most ≤ spare
  pub tables : AreBlank most totals
  pub rows : HaveRows pages counts.page_words totals

-- it was made for this machine
pub record IsRoomFor (m : Machine) (room : RoomSeen) : Type 0 where
  pub pages : room.pages ≡ m.pages
  pub words : room.words ≡ m.words
  pub items : room.items ≡ sum (journal_rooms m)

-- some history with these journals is good, with some ends
pub record HaveGoodHistory (m : Machine) (journals : Journals) : Type 0 where
  pub answer : Answer
  pub items : List Item
  pub ends : List Ended
  pub has : HasJournals items journals
  pub good : Good m answer items ends
