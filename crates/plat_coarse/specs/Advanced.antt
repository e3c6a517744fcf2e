-- the guests after a turn
use Rattle.std.specs.Prelude.{ℕ, List, [], slice_index_or, slice_set, if◌then◌else◌}
use Rattle.plat_base.specs.Machine.{Machine}
use Rattle.plat_base.specs.Alike.{same_end}
use Rattle.plat_base.specs.declared.endings.End.TheVariants as end
use Rattle.plat_guest.specs.GuestSeen.{GuestSeen, stepped}
use Rattle.plat_coarse.specs.declared.acts.Acted.{Acted}

abbrev pub no_guest : GuestSeen
no_guest = record { node = 0; state = record { registers = []; at = 0; space = 0 } }

-- guest q has executed its instruction, if it goes on
abbrev pub guests_after : Machine → List GuestSeen → ℕ → Acted → List GuestSeen
guests_after m guests q acted =
    if same_end acted.end end.Cut then slice_set guests q (stepped m (slice_index_or guests q no_guest) acted.value) else guests
