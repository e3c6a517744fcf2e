-- what the functions of `Copies` do to the slots, as the frames that the slots name
use Rattle.std.proofs.Common.{◌≡◌, ℕ, ◌+◌, ◌<◌, ◌≤◌, nat_lt, if◌then◌else◌, false, nat_eq, List, [], ◌∷◌, length, set, get_or, Some, None}
use Rattle.std.proofs.Common.{filter, zero, suc, refl, arith}
use Rattle.std.specs.Prelude.{IsTrue, nat_le}
use Rattle.std.specs.List.{list_all}
use Rattle.std.proofs.lemmas.Bool.Decides.{nat_tests}
use Rattle.std.proofs.lemmas.List.{length-set}
use Rattle.plat_base.specs.declared.frames.Frame.{Frame}
use Rattle.plat_base.specs.Copies.{copy_on, with_frame, without_module, same_frames, are_copies_from, AreCopies}
use lib.Pointwise.{pointwise}
use Rattle.plat_base.specs.Slots.{frames_from, AreSlots}

-- ---- a module below those of the slots

with_frame-below : (m n k : ℕ) (ss : List ℕ) → m < n → with_frame (record { «module» = m; number = k }) (frames_from n ss)
    ≡ record { «module» = m; number = k } ∷ frames_from n ss
with_frame-below m n k [] h = refl
with_frame-below m n k (s ∷ ss) h = grind (arith, nat_tests, with_frame-below m (n + 1) k ss)

without_module-below : (m n : ℕ) (ss : List ℕ) → m < n → without_module m (frames_from n ss) ≡ frames_from n ss
without_module-below m n [] h = refl
without_module-below m n (s ∷ ss) h = grind (arith, nat_tests, without_module-below m (n + 1) ss)

copy_on-below : (m n : ℕ) (ss : List ℕ) → m < n → copy_on m (frames_from n ss) ≡ None
copy_on-below m n [] h = refl
copy_on-below m n (s ∷ ss) h = grind (arith, nat_tests, copy_on-below m (n + 1) ss)

-- ---- one slot, at index i, which is that of module k

pub frames_from-set : (m k n i : ℕ) (ss : List ℕ) → k ≡ m + i → i < length ss → n < 64 →
    frames_from m (set ss i n) ≡ with_frame (record { «module» = k; number = n }) (frames_from m ss)
frames_from-set m k n i [] e h l = absurd (omega arith)
frames_from-set m k n zero (s ∷ ss) e h l = grind (arith, nat_tests, with_frame-below k (m + 1) n ss)
frames_from-set m k n (suc i) (s ∷ ss) e h l = grind (arith, nat_tests, frames_from-set (m + 1) k n i ss)

pub frames_from-clear : (m k i : ℕ) (ss : List ℕ) → k ≡ m + i → i < length ss →
    frames_from m (set ss i 64) ≡ without_module k (frames_from m ss)
frames_from-clear m k i [] e h = absurd (omega arith)
frames_from-clear m k zero (s ∷ ss) e h = grind (arith, nat_tests, without_module-below k (m + 1) ss)
frames_from-clear m k (suc i) (s ∷ ss) e h = grind (arith, nat_tests, frames_from-clear (m + 1) k i ss)

pub copy_on-slot : (m k i : ℕ) (ss : List ℕ) → k ≡ m + i → i < length ss →
    copy_on k (frames_from m ss) ≡ if nat_lt (get_or ss i 0) 64 then Some (record { «module» = k; number = get_or ss i 0 }) else None
copy_on-slot m k i [] e h = absurd (omega arith)
copy_on-slot m k zero (s ∷ ss) e h = grind (arith, nat_tests, copy_on-below k (m + 1) ss)
copy_on-slot m k (suc i) (s ∷ ss) e h = grind (arith, nat_tests, copy_on-slot (m + 1) k i ss)

within-set : (ss : List ℕ) (i n : ℕ) → n ≤ 64 → IsTrue (list_all (λ s. nat_le s 64) ss) → IsTrue (list_all (λ s. nat_le s 64) (set ss i n))
within-set [] i n l h = h
within-set (s ∷ ss) zero n l h = grind (arith, nat_tests)
within-set (s ∷ ss) (suc i) n l h = grind (arith, nat_tests, within-set ss i n)

pub AreSlots-set : (ss : List ℕ) (i n : ℕ) → n ≤ 64 → AreSlots ss → AreSlots (set ss i n)
AreSlots-set ss i n l h = record { eight = simp length-set h.eight; within = within-set ss i n l h.within }

-- ---- all slots

pub are_copies-slots : (low m : ℕ) (ss : List ℕ) → low ≤ m → m + length ss ≤ 8 → IsTrue (are_copies_from low (frames_from m ss))
are_copies-slots low m [] h l = refl
are_copies-slots low m (s ∷ ss) h l = grind (arith, nat_tests, are_copies-slots (m + 1) (m + 1) ss, are_copies-slots low (m + 1) ss)

pub AreCopies-slots : (ss : List ℕ) → AreSlots ss → AreCopies (frames_from 0 ss)
AreCopies-slots ss h = are_copies-slots 0 0 ss (omega arith) (omega (arith, h.eight))

pub length-frames_from : (m : ℕ) (ss : List ℕ) → length (frames_from m ss) ≡ length (filter (λ s. nat_lt s 64) ss)
length-frames_from m [] = refl
length-frames_from m (s ∷ ss) = grind (arith, nat_tests, length-frames_from (m + 1) ss)

-- ---- the same slots

same_frames-below : (m n k : ℕ) (fs : List Frame) (ss : List ℕ) → m < n →
    same_frames (record { «module» = m; number = k } ∷ fs) (frames_from n ss) ≡ false
same_frames-below m n k fs [] h = refl
same_frames-below m n k fs (s ∷ ss) h = grind (arith, nat_tests, same_frames-below m (n + 1) k fs ss)

same_frames-above : (m n k : ℕ) (fs : List Frame) (ss : List ℕ) → m < n →
    same_frames (frames_from n ss) (record { «module» = m; number = k } ∷ fs) ≡ false
same_frames-above m n k fs [] h = refl
same_frames-above m n k fs (s ∷ ss) h = grind (arith, nat_tests, same_frames-above m (n + 1) k fs ss)

pub same_slots : (m : ℕ) (ss ts : List ℕ) → length ss ≡ length ts → IsTrue (list_all (λ s. nat_le s 64) ss) →
    IsTrue (list_all (λ s. nat_le s 64) ts) → pointwise nat_eq ss ts ≡ same_frames (frames_from m ss) (frames_from m ts)
same_slots m [] [] e h k = refl
same_slots m [] (t ∷ ts) e h k = absurd (omega (arith, e))
same_slots m (s ∷ ss) [] e h k = absurd (omega (arith, e))
same_slots m (s ∷ ss) (t ∷ ts) e h k =
    grind (
      arith,
      nat_tests,
      same_frames-below m (m + 1) s (frames_from (m + 1) ss) ts,
      same_frames-above m (m + 1) t (frames_from (m + 1) ts) ss,
      same_slots (m + 1) ss ts,
    )
