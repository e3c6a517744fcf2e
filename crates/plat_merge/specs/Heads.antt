-- the journals from some places on, and which of their next items stands next
use Rattle.std.specs.Prelude.{◌≡◌, ℕ, ◌<◌, List, [], ◌∷◌, Bool, false, length, drop, slice_index, slice_index_or, slice_get, Option, Some}
use Rattle.std.specs.Prelude.{IsTrue}
use Rattle.std.specs.Option.{option_map_or}
use Rattle.plat_base.specs.declared.items.Item.{Item}
use Rattle.plat_events.specs.Merges.{Journals}
use Rattle.plat_merge.specs.declared.counts.Counts.{Counts}
use Rattle.plat_merge.specs.Counts.{is_within, stands_by}

-- of each journal what stands from its place on
abbrev pub left_from : Journals → List ℕ → Journals
left_from [] next = []
left_from (journal ∷ journals) [] = journal ∷ journals
left_from (journal ∷ journals) (n ∷ next) = drop n journal ∷ left_from journals next

abbrev pub next_item : Journals → List ℕ → (actor : ℕ) → Option Item
next_item journals next actor = slice_get (slice_index_or journals actor []) (slice_index next actor)

-- whether an actor has a next item, and it passes
abbrev pub head_passes : (Item → Bool) → Journals → List ℕ → ℕ → Bool
head_passes test journals next actor = option_map_or test (next_item journals next actor) false

-- ---- by what is kept

-- the actor's next item, if it has one, goes to a page and a word of which something is kept
abbrev pub IsNextWithin : Counts → Journals → List ℕ → (actor : ℕ) → Type 0
IsNextWithin c journals next actor =
    (i : Item) → next_item journals next actor ≡ Some i → IsTrue (is_within (length c.pages.items) c.page_words i)

abbrev pub AreNextWithin : Counts → Journals → List ℕ → Type 0
AreNextWithin c journals next = (actor : ℕ) → IsNextWithin c journals next actor

-- whether the actor has a next item, and it may stand next
abbrev pub may_give : Counts → Journals → List ℕ → (actor : ℕ) → Bool
may_give c journals next actor = head_passes (stands_by c.page_words c.words.items c.pages.items) journals next actor

-- none of the first so many actors has one
abbrev pub NoneGives : Counts → Journals → List ℕ → (actors : ℕ) → Type 0
NoneGives c journals next actors = (k : ℕ) → k < actors → may_give c journals next k ≡ false
