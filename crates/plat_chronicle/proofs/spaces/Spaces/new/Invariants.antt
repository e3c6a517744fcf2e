use Rattle.std.proofs.Common.{◌≡◌, ℕ, ◌<◌, length}
use Rattle.plat_base.specs.Machine.{programs_seen}
use Rattle.plat_base.specs.Pages.{no_program}
use Rattle.std.specs.Prelude.{slice_index, slice_index_or}
use Rattle.plat_chronicle.proofs.spaces.Spaces.new.Given as goal

abbrev pub invariant-loop-guest : goal.invariant-loop-guest
invariant-loop-guest l =
    (length l.active.items ≡ l.guest-index)
    × ((q : ℕ) → q < l.guest-index
    → slice_index l.active.items q ≡ (slice_index_or (programs_seen l.cfg.guests.items) q no_program).space)
