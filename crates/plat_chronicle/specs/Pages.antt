-- what the engine keeps of each page, against the history
use Rattle.std.specs.Prelude.{◌≡◌, ℕ, ◌<◌, List, length, None, slice_index_or}
use Rattle.plat_base.specs.Directories.{dir_of, seq_of, last_of, empty_dir}
use Rattle.plat_base.specs.declared.items.Item.{Item}
use Rattle.plat_chronicle.specs.declared.pages.PageState.{PageState}

abbrev pub page_state : List Item → ℕ → PageState
page_state items page = record { dir = dir_of items page; seq = seq_of items page; last = last_of items page }

abbrev pub no_page : PageState
no_page = record { dir = empty_dir; seq = 0; last = None }

abbrev pub changes_at : List PageState → ℕ → ℕ
changes_at states page = (slice_index_or states page no_page).seq

-- the states of so many pages are those that the history gives
pub record ShowsPages (pages : ℕ) (items : List Item) (states : List PageState) : Type 0 where
  pub size : length states ≡ pages
  pub at : (page : ℕ) → page < pages → slice_index_or states page no_page ≡ page_state items page
