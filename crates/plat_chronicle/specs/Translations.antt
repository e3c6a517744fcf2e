-- the translations that the engine keeps, against the history
use Rattle.std.specs.Prelude.{◌≡◌, ℕ, ◌<◌, List, [], length, Option, None, slice_index_or}
use Rattle.plat_base.specs.Machine.{Machine}
use Rattle.plat_base.specs.Held.{held}
use Rattle.plat_base.specs.declared.items.Translation.{Translation}
use Rattle.plat_base.specs.declared.items.Item.{Item}

-- what is kept of processor q for an entry
abbrev pub kept : List (List (Option Translation)) → (q entry : ℕ) → Option Translation
kept pmaps q entry = slice_index_or (slice_index_or pmaps q []) entry None

pub record ShowsTranslations (m : Machine) (items : List Item) (pmaps : List (List (Option Translation))) : Type 0 where
  pub size : length pmaps ≡ m.nodes
  pub wide : (q : ℕ) → q < m.nodes → length (slice_index_or pmaps q []) ≡ length m.entries
  pub at : (q entry : ℕ) → q < m.nodes → entry < length m.entries → kept pmaps q entry ≡ held m items q entry
