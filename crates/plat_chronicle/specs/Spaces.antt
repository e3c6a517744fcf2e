-- the active spaces that the engine keeps, against the history
use Rattle.std.specs.Prelude.{◌≡◌, ℕ, ◌<◌, List, length, slice_index}
use Rattle.plat_base.specs.Machine.{Machine}
use Rattle.plat_base.specs.Held.{active}
use Rattle.plat_base.specs.declared.items.Item.{Item}

pub record ShowsSpaces (m : Machine) (items : List Item) (spaces : List ℕ) : Type 0 where
  pub size : length spaces ≡ length m.guests
  pub at : (q : ℕ) → q < length m.guests → slice_index spaces q ≡ active m items q
