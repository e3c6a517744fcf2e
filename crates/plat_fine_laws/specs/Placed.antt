-- a view where the processor goes on in a scan, and stands otherwise to the entry
use Rattle.std.specs.Prelude.{◌≡◌, ℕ, true, false}
use Rattle.plat_events.specs.Words.{has_invalidate, has_restrict}
use Rattle.plat_events.specs.Views.{View, PlaceView}

abbrev pub placed : PlaceView → View → View
placed x v = record v { active = x.active; usable = x.usable; restricting = x.restricting; invalidating = x.invalidating }

-- from x to y an entry becomes usable only where its mask has no message for the processor, and a message is about to be
-- applied only where it waits
pub record Scans (mask q : ℕ) (x y : PlaceView) : Type 0 where
  pub active : y.active ≡ x.active
  pub passes : y.usable ≡ true → x.usable ≡ false → (has_invalidate mask q ≡ false) × (has_restrict mask q ≡ false)
  pub restricts : y.restricting ≡ true → x.restricting ≡ false → (has_restrict mask q ≡ true) × (has_invalidate mask q ≡ false)
  pub invalidates : y.invalidating ≡ true → x.invalidating ≡ false → has_invalidate mask q ≡ true
