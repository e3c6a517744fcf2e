-- what a refused writing tells of a sink
use Rattle.std.proofs.Common.{◌≡◌, ℕ, ◌+◌, ◌<◌, ◌≤◌, true, List, ◌++◌, length, take, Option, Some, None, Result, Ok, Err, IsOk, refl, sym}
use Rattle.std.proofs.Common.{ap, ◌∙◌, arith, length-append}
use Rattle.std.proofs.lemmas.List.{take_at}
use Rattle.std.proofs.lemmas.Bool.Decides.{nat_tests}
use Rattle.plat_io.specs.Streams.{HasRisen, added}
use Rattle.plat_io.specs.contracts.quiet.QuietSinkSink.TheImpl as quiet
use Rattle.plat_io.specs.Adds.{Adds, is_part}
use Rattle.plat_io.specs.Memory.{QuietState, quiet_faults}
use Rattle.plat_io.proofs.Pieces.{is_part-split}

-- what was added is the first n bytes of the piece
pub is_part-added : (held : Option (List ℕ)) (piece : List ℕ) (now : Option (List ℕ)) → is_part held piece now ≡ true →
    (n : ℕ) × (n ≤ length piece) × (now ≡ added held (take n piece))
unfolding is_part added
is_part-added None piece None h = (0, omega arith, refl)
is_part-added None piece (Some ys) h = absurd cc
is_part-added (Some xs) piece None h = absurd cc
is_part-added (Some xs) piece (Some ys) h =
    let parts = is_part-split xs piece ys h in
    let n : ℕ = length parts.0 in
    let first : take n piece ≡ parts.0 = ap (take n) parts.3 ∙ take_at parts.0 parts.1 n refl in (
      n,
      omega (arith, ap length parts.3, length-append parts.0 parts.1),
      ap (λ (zs : List ℕ). Some zs) (parts.2 ∙ ap (λ (zs : List ℕ). xs ++ zs) (sym first)),
    )

full : (sink : QuietState) → 0 < quiet_faults sink → length sink.bytes ≡ sink.size
full sink h = grind (arith, nat_tests)

-- over a quiet sink with more room than the piece has bytes no writing is refused
pub quiet_has_room : (old new : QuietState) (piece : List ℕ) → is_part (Some old.bytes) piece (Some new.bytes) ≡ true →
    HasRisen (quiet_faults old) (quiet_faults new) → new.size ≡ old.size → length old.bytes + length piece < old.size → ⊥
quiet_has_room old new piece part risen size room =
    let parts = is_part-split old.bytes piece new.bytes part in
    let shorter : length new.bytes ≤ length old.bytes + length piece =
    omega (arith, ap length parts.2, ap length parts.3, length-append old.bytes parts.0, length-append parts.0 parts.1) in
    let some : 0 < quiet_faults new = grind arith in
    omega (arith, full new some)

pub quiet_is_ok : {E : Type 0} (old new : QuietState) (result : Result (Unit {0}) E) (piece : List ℕ) →
    Adds quiet.ghosts old new result piece → length old.bytes + length piece < old.size → IsOk result
quiet_is_ok old new (Ok x) piece adds room = refl
quiet_is_ok old new (Err e) piece adds room = absurd (quiet_has_room old new piece adds.part adds.risen (cc) room)
