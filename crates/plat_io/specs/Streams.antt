-- what sources and sinks tell: their counts of faults, and how their bytes change
use Rattle.std.specs.Prelude.{◌≡◌, ℕ, ◌+◌, ◌-◌, ◌^◌, ◌<◌, ◌⊎◌, min, List, [], ◌++◌, Option, None, Some}

-- ---- counts

-- a u64 that is raised by one, and stands still at its last value
abbrev pub raised : ℕ → ℕ
raised count = min (count + 1) (2 ^ 64 - 1)

-- a count is greater than it was, or stands at the last value of a u64
abbrev pub HasRisen : ℕ → ℕ → Type 0
HasRisen before after = (before < after) ⊎ (after ≡ 2 ^ 64 - 1)

-- ---- bytes, where they are told

-- the bytes that a sink tells, once more are added at their end
unfoldable pub added : Option (List ℕ) → List ℕ → Option (List ℕ)
added None bytes = None
added (Some held) bytes = Some (held ++ bytes)

-- the bytes that a source tells, before some were taken from their front
unfoldable pub preceded : List ℕ → Option (List ℕ) → Option (List ℕ)
preceded bytes None = None
preceded bytes (Some rest) = Some (bytes ++ rest)

-- nothing is left
abbrev pub IsAtEnd : Option (List ℕ) → Type 0
IsAtEnd None = Unit {0}
IsAtEnd (Some rest) = rest ≡ []
