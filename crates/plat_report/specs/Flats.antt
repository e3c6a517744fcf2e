-- what flat memory needs of a history, and the lines of the words of a flat memory
use Rattle.std.specs.Prelude.{ℕ, IsTrue, IfSome, List, take, slice_get, slice_index}
use Rattle.std.specs.List.{flat_map}
use Rattle.plat_base.specs.Machine.{Machine}
use Rattle.plat_base.specs.Canon.{Words}
use Rattle.plat_base.specs.Pages.{numbers}
use Rattle.plat_base.specs.Report.{word_lines_of}
use Rattle.plat_base.specs.declared.items.Item.{Item}
use Rattle.plat_flat.specs.FlatSeen.{FlatSeen, place, is_legal_item}

-- each item is legal behind those before it
abbrev pub AreLegal : Machine → List Item → Type 0
AreLegal m items = (i : ℕ) → IfSome (slice_get items i) (λ item. IsTrue (is_legal_item m (take i items) item))

-- the lines of the words of a page that are not 0
abbrev pub flat_page_lines : FlatSeen → ℕ → List Words
flat_page_lines flat page = flat_map (λ word. word_lines_of page word (slice_index flat.values (place flat.words page word)))
    (numbers flat.words)

abbrev pub flat_lines : FlatSeen → List Words
flat_lines flat = flat_map (flat_page_lines flat) (numbers flat.pages)
