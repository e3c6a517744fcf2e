-- the present value of all that is asked of a history, as contracts see it, against the history
use Rattle.std.specs.Prelude.{◌≡◌, ℕ, ◌<◌, Bool, List, [], length, Option, slice_index, slice_index_or}
use Rattle.plat_base.specs.Machine.{Machine}
use Rattle.plat_base.specs.declared.frames.Dir.{Dir}
use Rattle.plat_base.specs.declared.items.Item.{Item}
use Rattle.plat_base.specs.declared.items.Translation.{Translation}
use Rattle.plat_flat.specs.FlatSeen.{FlatSeen, IsFlatOf, place}
use Rattle.plat_chronicle.specs.declared.pages.PageState.{PageState}
use Rattle.plat_chronicle.specs.declared.removals.Highest.{Highest}
use Rattle.plat_chronicle.specs.Pages.{ShowsPages, no_page, changes_at}
use Rattle.plat_chronicle.specs.Spaces.{ShowsSpaces}
use Rattle.plat_chronicle.specs.Removals.{ShowsRemovals, is_some_other, is_some_above, no_removal}
use Rattle.plat_chronicle.specs.Translations.{ShowsTranslations, kept}

-- what is kept of each page, the active space and the translations of each processor, the removals of each page, and
-- flat memory
pub record PresentSeen : Type 0 where
  pub pages : List PageState
  pub active : List ℕ
  pub removals : List Highest
  pub held : List (List (Option Translation))
  pub flat : FlatSeen

-- this is the present of these items on a machine: each part is what the items say
pub record Shows (m : Machine) (items : List Item) (present : PresentSeen) : Type 0 where
  pub pages : ShowsPages m.pages items present.pages
  pub spaces : ShowsSpaces m items present.active
  pub removals : ShowsRemovals m.pages items present.removals
  pub translations : ShowsTranslations m items present.held
  pub flat : IsFlatOf m items present.flat

-- it has a place for each page, processor and entry of the machine, as the present of any items has
pub record Fits (m : Machine) (present : PresentSeen) : Type 0 where
  pub pages : length present.pages ≡ m.pages
  pub removals : length present.removals ≡ m.pages
  pub active : length present.active ≡ length m.guests
  pub processors : length present.held ≡ m.nodes
  pub entries : (q : ℕ) → q < m.nodes → length (slice_index_or present.held q []) ≡ length m.entries

-- ---- what is read from it

abbrev pub dir_at : PresentSeen → ℕ → Dir
dir_at present page = (slice_index_or present.pages page no_page).dir

abbrev pub seq_at : PresentSeen → ℕ → ℕ
seq_at present page = changes_at present.pages page

abbrev pub last_at : PresentSeen → ℕ → Option ℕ
last_at present page = (slice_index_or present.pages page no_page).last

abbrev pub value_at : PresentSeen → (page word : ℕ) → ℕ
value_at present page word = slice_index present.flat.values (place present.flat.words page word)

abbrev pub version_at : PresentSeen → (page word : ℕ) → ℕ
version_at present page word = slice_index present.flat.versions (place present.flat.words page word)

abbrev pub held_at : PresentSeen → (q entry : ℕ) → Option Translation
held_at present q entry = kept present.held q entry

abbrev pub active_at : PresentSeen → ℕ → ℕ
active_at present q = slice_index present.active q

-- the greatest numbers of a page's changes that removed all, or the right to write, by actor
abbrev pub all_of : Highest → List ℕ
all_of h = h.all

abbrev pub writes_of : Highest → List ℕ
writes_of h = h.writes

abbrev pub is_removed_by_other : (Highest → List ℕ) → PresentSeen → (q page seq : ℕ) → Bool
is_removed_by_other part present q page seq = is_some_other (part (slice_index_or present.removals page no_removal)) q seq

abbrev pub is_removed_later : (Highest → List ℕ) → PresentSeen → (page seq : ℕ) → Bool
is_removed_later part present page seq = is_some_above (part (slice_index_or present.removals page no_removal)) seq
