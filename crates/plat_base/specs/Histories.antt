-- one history of flat memory: what a good history is, said of its accesses as a whole
use Rattle.std.specs.Prelude.{◌≡◌, ◌⊎◌, ℕ, ◌<◌, ◌/◌, true, List, [], ◌∷◌, ◌++◌, length, Some, IsTrue}
use Rattle.std.specs.List.{Contains}
use Rattle.plat_base.specs.Machine.{Machine}
use Rattle.plat_base.specs.Pages.{entry_at, page_of}
use Rattle.plat_base.specs.Flat.{is_write}
use Rattle.plat_base.specs.Directories.{dir_of}
use Rattle.plat_base.specs.Held.{held, has_right}
use Rattle.plat_base.specs.CopyWords.{copy_value}
use Rattle.plat_base.specs.Rules.{is_legal, is_in_order}
use Rattle.plat_base.specs.declared.frames.Frame.{Frame}
use Rattle.plat_base.specs.declared.frames.Dir.{Dir}
use Rattle.plat_base.specs.declared.frames.State.TheVariants as state
use Rattle.plat_base.specs.declared.endings.Ended.{Ended}
use Rattle.plat_base.specs.declared.items.Access.{Access}
use Rattle.plat_base.specs.declared.items.Change.{Change}
use Rattle.plat_base.specs.declared.items.Item.{Item}
use Rattle.plat_base.specs.declared.items.Item.TheVariants as item
use Rattle.plat_base.specs.declared.items.Removed.TheVariants as removed
use Rattle.plat_base.specs.declared.items.Translation.{Translation}

-- at each access something holds of the items before it and of the access
abbrev pub AtEachAccess : List Item → (List Item → Access → Type 0) → Type 0
AtEachAccess items Holds = (before rest : List Item) (a : Access) → items ≡ before ++ item.Access a ∷ rest → Holds before a

-- ---- flat memory

-- each access finds the value of flat memory after the items before it
abbrev pub IsLegalMemory : Machine → List Item → Type 0
IsLegalMemory m items = AtEachAccess items (λ before a. IsTrue (is_legal m before a))

-- the accesses of each processor are those of its guest, each once, in program order
abbrev pub IsProgramOrder : Machine → List Item → List Ended → Type 0
IsProgramOrder m items ends = (q : ℕ) → q < m.nodes → IsTrue (is_in_order m items ends q)

-- ---- translations

-- the actor holds the translation that the access names, for the entry of its address, with enough right
pub record IsByGrant (m : Machine) (before : List Item) (a : Access) : Type 0 where
  pub entry : ℕ
  pub translation : Translation
  pub found : entry_at m a.space (a.addr / m.words) ≡ Some entry
  pub of_page : page_of m entry ≡ a.page
  pub holds : held m before a.actor entry ≡ Some translation
  pub leads : translation.grant.frame ≡ a.frame
  pub numbered : translation.seq ≡ a.grant
  pub right : has_right a.kind (Some translation) ≡ true

-- the change took away what the access goes by: all translations of the page that are older, or their right to write
abbrev pub TookAway : Change → Access → Type 0
TookAway c a = (c.removed ≡ removed.All) ⊎ ((c.removed ≡ removed.Writes) × (is_write a.kind ≡ true))

-- no access goes by a translation that an earlier change of its page took away
abbrev pub UsesNothingRemoved : List Item → Type 0
UsesNothingRemoved items =
    (before between rest : List Item) (c : Change) (a : Access)
    → items ≡ before ++ item.Change c ∷ between ++ item.Access a ∷ rest → c.page ≡ a.page → a.grant < c.seq → TookAway c a → ⊥

-- ---- copies

abbrev pub IsCopy : Dir → Frame → Type 0
IsCopy dir f = Contains dir.copies f

-- the page is modified, and this frame is its one copy
abbrev pub IsOnlyCopy : Dir → Frame → Type 0
IsOnlyCopy dir f = (dir.state ≡ state.Modified) × (dir.copies ≡ f ∷ [])

-- the frame of the access is then a copy of its page
abbrev pub GoesToCopy : List Item → Access → Type 0
GoesToCopy before a = IsCopy (dir_of before a.page) a.frame

-- a write goes to the only copy
abbrev pub WritesOnlyCopy : List Item → Access → Type 0
WritesOnlyCopy before a = is_write a.kind ≡ true → IsOnlyCopy (dir_of before a.page) a.frame

-- the value that the access finds is the word of the copy that it goes to
abbrev pub FindsCopyWord : Machine → List Item → Access → Type 0
FindsCopyWord m before a = a.old ≡ copy_value m before a.page a.word a.frame

-- ---- the whole

-- one legal history of flat memory that holds each processor's accesses, each once, in program order, each by a translation
-- that its actor holds and that no earlier shootdown removed; and each access finds its value in the copy that it goes to
pub record IsOneHistory (m : Machine) (items : List Item) (ends : List Ended) : Type 0 where
  pub legal : IsLegalMemory m items
  pub in_order : IsProgramOrder m items ends
  pub all_end : length ends ≡ m.nodes
  pub granted : AtEachAccess items (IsByGrant m)
  pub current : UsesNothingRemoved items
  pub at_copy : AtEachAccess items GoesToCopy
  pub alone : AtEachAccess items WritesOnlyCopy
  pub words : AtEachAccess items (FindsCopyWord m)
