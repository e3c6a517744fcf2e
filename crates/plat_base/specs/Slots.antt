-- the fixed array behind the copies of a page: for each module a frame's number, or FRAMES for none
use Rattle.std.specs.Prelude.{◌≡◌, ℕ, ◌+◌, ◌==◌, nat_lt, if◌then◌else◌, List, [], ◌∷◌, length}
use Rattle.std.specs.List.{list_all}
use Rattle.std.specs.Prelude.{nat_le, IsTrue, zero, suc, ◌<◌, refl}
use Rattle.std.proofs.Common.{arith, subst}
use Rattle.std.proofs.lemmas.Bool.Decides.{nat_tests}
use Rattle.std.specs.Cmp.{IsEquivalence, and_equiv, on_equiv, nat_eq_equiv}
use Rattle.std.specs.Cmp.Lexicographic.{lists_equiv}
use Rattle.plat_base.specs.Copies.{same_frames}
use Rattle.plat_base.specs.declared.frames.Frame.{Frame}
use Rattle.plat_base.specs.declared.limits.TheConstants.{MODULES, FRAMES}

-- the frames that the slots name, the first slot being that of module m
abbrev pub frames_from : ℕ → List ℕ → List Frame
frames_from m [] = []
frames_from m (s ∷ ss) =
    if nat_lt s FRAMES then record { «module» = m; number = s } ∷ frames_from (m + 1) ss else frames_from (m + 1) ss

-- the slots, from module m on, of frames whose modules rise
abbrev pub slots_from : ℕ → ℕ → List Frame → List ℕ
slots_from m zero fs = []
slots_from m (suc k) [] = FRAMES ∷ slots_from (m + 1) k []
slots_from m (suc k) (f ∷ fs) = if f.module == m then f.number ∷ slots_from (m + 1) k fs else FRAMES ∷ slots_from (m + 1) k (f ∷ fs)

-- a slot for each module, each a frame's number or FRAMES
pub record AreSlots (slots : List ℕ) : Type 0 where
  pub eight : length slots ≡ MODULES
  pub within : IsTrue (list_all (λ s. nat_le s FRAMES) slots)

-- a module below those of the frames has no slot
slots_from-below : (m n k : ℕ) (ss : List ℕ) → m < n → slots_from m (suc k) (frames_from n ss)
    ≡ 64 ∷ slots_from (m + 1) k (frames_from n ss)
slots_from-below m n k [] h = refl
slots_from-below m n k (s ∷ ss) h = grind (arith, nat_tests, slots_from-below m (n + 1) k ss)

-- the slots give back what the frames were made of
pub slots_from-frames_from : (m : ℕ) (ss : List ℕ) → IsTrue (list_all (λ s. nat_le s 64) ss) → slots_from m (length ss) (frames_from m ss)
    ≡ ss
slots_from-frames_from m [] h = refl
slots_from-frames_from m (s ∷ ss) h = grind (arith, nat_tests, slots_from-below m (m + 1) (length ss) ss, slots_from-frames_from (m + 1) ss)

pub slots_back : (ss : List ℕ) → AreSlots ss → slots_from 0 8 (frames_from 0 ss) ≡ ss
slots_back ss h = subst (λ (k : ℕ). slots_from 0 k (frames_from 0 ss) ≡ ss) h.eight (slots_from-frames_from 0 ss h.within)

-- the same frames is an equivalence
pub same_frames_equiv : IsEquivalence same_frames
same_frames_equiv = lists_equiv
    (and_equiv (on_equiv (λ (f : Frame). f.module) nat_eq_equiv) (on_equiv (λ (f : Frame). f.number) nat_eq_equiv))
