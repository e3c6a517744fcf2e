-- a port that keeps the operations that it made
use Rattle.std.specs.Prelude.{◌≡◌, ℕ, ◌-◌, ◌==◌, if◌then◌else◌, List, [], ◌∷◌, ◌++◌}
use Rattle.plat_ports.specs.declared.record_ports.Made.{Made}

-- the words, the operations so far, and how many more are kept
pub record RecordSeen : Type 0 where
  pub words : List ℕ
  pub made : List Made
  pub spare : ℕ

-- one operation was made, and it is kept where there was room
abbrev pub IsKept : RecordSeen → RecordSeen → Type 0
IsKept before now =
    (made : Made) × (now.made ≡ (if before.spare == 0 then before.made else before.made ++ made ∷ [])) × (now.spare ≡ before.spare - 1)
