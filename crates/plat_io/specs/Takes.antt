-- what a reading does to its source
use Rattle.std.specs.Prelude.{◌≡◌, ℕ, ◌+◌, ◌≤◌, ◌↔◌, List, length, drop, Option, None, Some, Result, IsErrOf}
use Rattle.plat_io.specs.declared.faults.ReadStop.{ReadStop}
use Rattle.plat_io.specs.declared.faults.ReadStop.TheVariants as stop

-- n bytes are taken from the front of what a source tells; whether it tells stays the same
abbrev pub TakesCount : ℕ → Option (List ℕ) → Option (List ℕ) → Type 0
TakesCount n None None = Unit {0}
TakesCount n None (Some rest) = ⊥
TakesCount n (Some left) None = ⊥
TakesCount n (Some left) (Some rest) = (n ≤ length left) × (rest ≡ drop n left)

-- a reading takes at most one byte above the limit, and they are too many exactly where it takes that byte
abbrev pub TakesWithin : {T : Type 0} → ℕ → Option (List ℕ) → Option (List ℕ) → Result T ReadStop → Type 0
TakesWithin limit old new result =
    (n : ℕ) × TakesCount n old new × (n ≤ limit + 1) × (IsErrOf result stop.TooLong ↔ (n ≡ limit + 1))
