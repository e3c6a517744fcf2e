-- the places of a cache of translations, and the places that the count of its hits and misses sees
use Rattle.std.specs.Prelude.{◌≡◌, ℕ, ◌+◌, ◌%◌, ◌==◌, if◌then◌else◌, Bool, true, IsTrue, List, length, map, replicate, Option, Some, None}
use Rattle.std.specs.Prelude.{slice_index_or, slice_set}
use Rattle.std.specs.List.{list_all}
use Rattle.plat_base.specs.Cache.{Place, Cache, serves_access}
use Rattle.plat_base.specs.Held.{serves}
use Rattle.plat_base.specs.declared.items.Kind.TheVariants.{Load, Store}
use Rattle.plat_base.specs.declared.items.Translation.{Translation}
use Rattle.plat_pmap.specs.Translations.{translation_of}
use Rattle.plat_pmap.specs.declared.atcs.Slot.{Slot}

-- eight empty places
abbrev pub no_slots : List (Option Slot)
no_slots = replicate 8 None

-- the place of a virtual page
abbrev pub slot_of : List (Option Slot) → ℕ → Option Slot
slot_of slots vpage = slice_index_or slots (vpage % 8) None

-- the translation that a place keeps
abbrev pub kept : Option Slot → Option Translation
kept None = None
kept (Some s) = Some s.translation

-- a place without its translation
abbrev pub place_of : Option Slot → Option Place
place_of None = None
place_of (Some s) = Some (record { entry = s.entry; written = s.written })

abbrev pub places : List (Option Slot) → List (Option Place)
places slots = map place_of slots

-- where the page's place would serve the access, it keeps the translation that the physical map has of the entry
abbrev pub Agrees : List (Option Slot) → List (Option Translation) → (entry vpage : ℕ) → (writes : Bool) → Type 0
Agrees slots pmap entry vpage writes =
    IsTrue (serves_access entry writes (place_of (slot_of slots vpage))) → kept (slot_of slots vpage) ≡ translation_of pmap entry

-- the places after an access that found this translation: a hit leaves them, a miss fills the page's place
abbrev pub filled : (entry vpage : ℕ) → (writes : Bool) → Option Translation → List (Option Slot) → List (Option Slot)
filled entry vpage writes None slots = slots
filled entry vpage writes (Some t) slots =
    if serves_access entry writes (place_of (slot_of slots vpage)) then slots
    else slice_set slots (vpage % 8) (Some (record { entry = entry; translation = t; written = writes }))

-- the count of hits and misses after an access, and the places that it left
abbrev pub counted : (hit : Bool) → List (Option Place) → Cache → Cache
counted hit places c =
    record { places = places; hits = if hit then c.hits + 1 else c.hits; misses = if hit then c.misses else c.misses + 1 }

abbrev pub without_slot : ℕ → Option Slot → Option Slot
without_slot entry None = None
without_slot entry (Some s) = if s.entry == entry then None else Some s

-- the translation that a place keeps has the right of the access that filled it
abbrev pub is_usable : Option Slot → Bool
is_usable None = true
is_usable (Some s) = serves (if s.written then Store else Load) s.translation.grant.right

pub record AreSlots (slots : List (Option Slot)) : Type 0 where
  pub eight : length slots ≡ 8
  pub usable : IsTrue (list_all is_usable slots)
