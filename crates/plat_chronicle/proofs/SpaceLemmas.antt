-- the start spaces of a machine's guests
use Rattle.std.proofs.Common.{◌≡◌, ℕ, zero, suc, ◌<◌, List, [], ◌∷◌, length, refl, arith}
use Rattle.std.specs.Prelude.{slice_index_or}
use Rattle.plat_base.specs.Machine.{programs_seen}
use Rattle.plat_base.specs.Pages.{no_program}
use Rattle.plat_base.specs.declared.guests.GuestText.{GuestText}
use Rattle.plat_base.proofs.LimitLemmas.{length-programs_seen}

pub space_programs_seen : (gs : List GuestText) (d : GuestText) (i : ℕ) → i < length gs
    → (slice_index_or (programs_seen gs) i no_program).space ≡ (slice_index_or gs i d).space
space_programs_seen [] d i h = grind arith
space_programs_seen (g ∷ gs) d zero h = refl
space_programs_seen (g ∷ gs) d (suc i) h = grind (arith, space_programs_seen gs d i)

pub ruleset programs = (space_programs_seen, length-programs_seen)
