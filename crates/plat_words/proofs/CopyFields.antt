-- the copies of a page in its directory's word: as they are written, module by module from the last, and as they are read
use Rattle.std.proofs.Common.{◌≡◌, ℕ, zero, suc, ◌+◌, ◌*◌, ◌-◌, ◌^◌, ◌<◌, ◌≤◌, if◌then◌else◌, Bool, true, false, List, [], ◌∷◌, map, Option}
use Rattle.std.proofs.Common.{Some, None, refl, ap, sym, ◌∙◌, add-one, subst, arith}
use Rattle.std.specs.Prelude.{IsTrue, is_some}
use Rattle.std.specs.List.{filter_map, range_with_len, cons_option}
use Rattle.std.proofs.lemmas.Bool.Decides.{nat_tests}
use Rattle.std.proofs.Math.Nat.{pow-suc, pow-le-pow_right}
use Rattle.std.proofs.lemmas.Nat.{mod_below}
use Rattle.plat_base.specs.Copies.{copy_on, with_frame, are_copies_from, AreCopies}
use Rattle.plat_base.specs.Frames.{frame_at}
use Rattle.plat_base.specs.declared.frames.Frame.{Frame}
use Rattle.plat_base.proofs.CopiesLemmas.{are_copies-lower}
use Rattle.plat_events.specs.Words.{Field, packed, has_bit, bits_from, bit_if, number_of, copy_read, copy_fields}

-- ---- written: the fields of so many modules, from module m on

abbrev pub module_fields : List Frame → ℕ → ℕ → List Field
module_fields copies m k = map (λ mo. (bit_if (is_some (copy_on mo copies)), 1)) (range_with_len m k)

abbrev pub frame_fields : List Frame → ℕ → ℕ → List Field
frame_fields copies m k = map (λ mo. (number_of (copy_on mo copies), 6)) (range_with_len m k)

-- the number of a copy's frame is below 64
pub number_of-below : (low m : ℕ) (copies : List Frame) → IsTrue (are_copies_from low copies) → number_of (copy_on m copies) < 64
number_of-below low m [] h = omega arith
number_of-below low m (f ∷ fs) h = grind (arith, nat_tests, number_of-below (f.module + 1) m fs)

bit_if-below : (b : Bool) → bit_if b < 2
bit_if-below true = omega arith
bit_if-below false = omega arith

module_fields-below : (copies : List Frame) (m k : ℕ) → packed (module_fields copies m k) < 2 ^ k
module_fields-below copies m zero = omega arith
module_fields-below copies m (suc k) =
    omega (arith, pow-suc 2 k, bit_if-below (is_some (copy_on m copies)), module_fields-below copies (m + 1) k)

frame_fields-below : (copies : List Frame) (m k : ℕ) → AreCopies copies → packed (frame_fields copies m k) < 64 ^ k
frame_fields-below copies m zero h = omega arith
frame_fields-below copies m (suc k) h = omega (arith, pow-suc 64 k, number_of-below 0 m copies h, frame_fields-below copies (m + 1) k h)

-- the modules from m on, of eight
pub record AreWritten (copies : List Frame) (m modules frames : ℕ) : Type 0 where
  pub above : (k : ℕ) → k + m ≡ 8 → modules ≡ packed (module_fields copies m k)
  pub numbers : (k : ℕ) → k + m ≡ 8 → frames ≡ packed (frame_fields copies m k)

pub written_below :
    (copies : List Frame) (m modules frames : ℕ) → m ≤ 8 → AreCopies copies → AreWritten copies m modules frames →
    (modules < 256) × (frames < 281474976710656)
written_below copies m modules frames h c r =
    let k : ℕ = 8 - m in let e : k + m ≡ 8 = omega arith in let least : k ≤ 8 = omega arith in (
      omega (arith, r.above k e, module_fields-below copies m k, pow-le-pow_right {n = 2} (omega arith) {i = k} {j = 8} least),
      omega (arith, r.numbers k e, frame_fields-below copies m k c, pow-le-pow_right {n = 64} (omega arith) {i = k} {j = 8} least),
    )

written_eight :
    (copies : List Frame) (modules frames : ℕ) → AreWritten copies 0 modules frames → modules + 256 * frames ≡ packed (copy_fields copies)
written_eight copies modules frames r = let a = r.above 8 refl in let b = r.numbers 8 refl in omega arith

pub written_all :
    (copies : List Frame) (m modules frames : ℕ) → m ≤ 0 → AreWritten copies m modules frames →
    modules + 256 * frames ≡ packed (copy_fields copies)
written_all copies m modules frames h r =
    let none : m ≡ 0 = omega arith in written_eight copies modules frames (subst (λ k. AreWritten copies k modules frames) none r)

-- ---- read: the copies on so many modules, from module m on

abbrev pub copies_from : (n m k : ℕ) → List Frame
copies_from n m k = filter_map (copy_read n) (range_with_len m k)

copies_from-copies : (n m k : ℕ) → m + k ≤ 8 → IsTrue (are_copies_from m (copies_from n m k))
copies_from-copies n m zero h = refl
copies_from-copies n m (suc k) h =
    grind (arith, nat_tests, copies_from-copies n (m + 1) k, are_copies-lower m (m + 1) (copies_from n (m + 1) k), mod_below)

pub are_read : (n : ℕ) (copies : List Frame) (k : ℕ) → k ≤ 8 → copies ≡ copies_from n 0 k → AreCopies copies
are_read n copies k h e = rw e (copies_from-copies n 0 k (omega arith))

abbrev put_read : Option Frame → List Frame → List Frame
put_read None fs = fs
put_read (Some f) fs = with_frame f fs

-- a frame of a higher module goes behind
put_behind :
    (b c : Bool) (low m x y : ℕ) (fs : List Frame) → low < m →
    cons_option (if b then Some (frame_at low x) else None) (put_read (if c then Some (frame_at m y) else None) fs)
    ≡ put_read (if c then Some (frame_at m y) else None) (cons_option (if b then Some (frame_at low x) else None) fs)
put_behind true true low m x y fs h = grind (arith, nat_tests)
put_behind true false low m x y fs h = refl
put_behind false true low m x y fs h = refl
put_behind false false low m x y fs h = refl

put_first : (o : Option Frame) → cons_option o [] ≡ put_read o []
put_first None = refl
put_first (Some f) = refl

-- one module more, behind
copies_from-more : (n low k m : ℕ) → m ≡ low + k → copies_from n low (suc k) ≡ put_read (copy_read n m) (copies_from n low k)
copies_from-more n low zero m e = let same : m ≡ low = omega arith in rw same (put_first (copy_read n low))
copies_from-more n low (suc k) m e =
    ap (λ fs. cons_option (copy_read n low) fs) (copies_from-more n (low + 1) k m (omega arith))
    ∙ put_behind (has_bit n (8 + low)) (has_bit n (8 + m)) low m (bits_from n (16 + 6 * low) 6) (bits_from n (16 + 6 * m) 6)
    (copies_from n (low + 1) k) (omega arith)

read_more : (n m : ℕ) → copies_from n 0 (m + 1) ≡ put_read (copy_read n m) (copies_from n 0 m)
read_more n m = rw add-one (copies_from-more n 0 m m (omega arith))

pub read_with :
    (n m : ℕ) → has_bit n (8 + m) ≡ true →
    with_frame (frame_at m (bits_from n (16 + 6 * m) 6)) (copies_from n 0 m) ≡ copies_from n 0 (m + 1)
read_with n m h =
    let frame : Frame = frame_at m (bits_from n (16 + 6 * m) 6) in
    let here : copy_read n m ≡ Some frame = ap (λ b. if b then Some frame else None) h in
    sym (read_more n m ∙ ap (λ o. put_read o (copies_from n 0 m)) here)

pub read_without : (n m : ℕ) → has_bit n (8 + m) ≡ false → copies_from n 0 m ≡ copies_from n 0 (m + 1)
read_without n m h =
    let none : copy_read n m ≡ None = ap (λ b. if b then Some (frame_at m (bits_from n (16 + 6 * m) 6)) else None) h in
    sym (read_more n m ∙ ap (λ o. put_read o (copies_from n 0 m)) none)
