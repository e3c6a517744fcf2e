-- distances in a table, one row for each node
use Rattle.std.specs.Prelude.{◌≡◌, ℕ, ◌<◌, List, [], slice_index, slice_index_or}
use Rattle.plat_base.specs.declared.limits.TheConstants.{MODULES}
use Rattle.plat_base.specs.Machine.{Machine}
use Rattle.plat_base.specs.Pages.{distance}

-- the row has the distances from a node
abbrev pub IsRowFrom : Machine → ℕ → List ℕ → Type 0
IsRowFrom m a row = (b : ℕ) → b < MODULES → slice_index row b ≡ distance m a b

-- the table has the distances of the machine
abbrev pub AreDistances : Machine → List (List ℕ) → Type 0
AreDistances m rows = (a : ℕ) → a < MODULES → IsRowFrom m a (slice_index_or rows a [])
