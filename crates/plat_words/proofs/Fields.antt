-- fields beside each other, and what is read of them
use Rattle.std.proofs.Common.{◌≡◌, ℕ, zero, suc, ◌+◌, ◌*◌, ◌/◌, ◌%◌, ◌^◌, ◌<◌, List, [], ◌∷◌, length, ap, sym, ◌∙◌, arith}
use Rattle.std.proofs.lemmas.Nat.{one_shl, shr-shr, shr_high, mod_low}
use Rattle.plat_events.specs.Words.{Field, packed, bits_from}

-- a one at a place
pub one_shifted : (k : ℕ) → k < 64 → 1 * 2 ^ k % 2 ^ 64 ≡ 2 ^ k
one_shifted k h = one_shl k 64 h

-- each value fits its width
abbrev pub are_fields : List Field → Type 0
are_fields [] = Unit {0}
are_fields (f ∷ fs) = (f.0 < 2 ^ f.1) × are_fields fs

-- the place, the width and the value of the field with a number
abbrev pub place_at : List Field → ℕ → ℕ
place_at [] i = 0
place_at (f ∷ fs) zero = 0
place_at (f ∷ fs) (suc i) = f.1 + place_at fs i

abbrev pub width_at : List Field → ℕ → ℕ
width_at [] i = 0
width_at (f ∷ fs) zero = f.1
width_at (f ∷ fs) (suc i) = width_at fs i

abbrev pub value_at : List Field → ℕ → ℕ
value_at [] i = 0
value_at (f ∷ fs) zero = f.0
value_at (f ∷ fs) (suc i) = value_at fs i

by_one : (n : ℕ) → n / 1 ≡ n
by_one n = omega arith

-- behind the first field the others stand as in a word of their own
pub packed_behind : (v w rest k l : ℕ) → v < 2 ^ w → bits_from (v + 2 ^ w * rest) (w + k) l ≡ bits_from rest k l
packed_behind v w rest k l h =
    let turned : v + 2 ^ w * rest ≡ rest * 2 ^ w + v = omega arith in
    let behind : (v + 2 ^ w * rest) / 2 ^ w ≡ rest = rw turned (shr_high rest w v h) in
    ap (λ n. n % 2 ^ l) (sym (shr-shr (v + 2 ^ w * rest) w k) ∙ ap (λ n. n / 2 ^ k) behind)

pub packed_first : (v w rest : ℕ) → v < 2 ^ w → bits_from (v + 2 ^ w * rest) 0 w ≡ v
packed_first v w rest h =
    let turned : v + 2 ^ w * rest ≡ rest * 2 ^ w + v = omega arith in
    let first : (v + 2 ^ w * rest) % 2 ^ w ≡ v = rw turned (mod_low rest w v h) in
    ap (λ n. n % 2 ^ w) (by_one (v + 2 ^ w * rest)) ∙ first

-- a field is read as its value
pub packed_at :
    (fs : List Field) (i : ℕ) → are_fields fs → i < length fs → bits_from (packed fs) (place_at fs i) (width_at fs i) ≡ value_at fs i
packed_at [] i h k = absurd (omega arith)
packed_at (f ∷ fs) zero h k = packed_first f.0 f.1 (packed fs) h.0
packed_at (f ∷ fs) (suc i) h k =
    packed_behind f.0 f.1 (packed fs) (place_at fs i) (width_at fs i) h.0 ∙ packed_at fs i h.1 (omega arith)
