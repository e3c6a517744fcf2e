-- walks over the copies of a page, module by module
use Rattle.std.proofs.Common.{◌≡◌, ℕ, ◌+◌, ◌<◌, ◌≤◌, nat_lt, List, [], ◌∷◌, length, filter, Some, None, refl, arith, ap}
use Rattle.std.specs.Prelude.{IsTrue, not, ◌&&◌, Bool, true, false}
use Rattle.std.specs.List.{list_all}
use Rattle.std.proofs.lemmas.Bool.Decides.{nat_tests}
use Rattle.plat_base.specs.declared.frames.Frame.{Frame}
use Rattle.plat_base.specs.Machine.{Machine}
use Rattle.plat_base.specs.Copies.{copy_on, are_copies_from, AreCopies}
use Rattle.plat_base.specs.Decide.{nearest, nearer, first_frame, modules_rise}

-- the frames on module k and above
abbrev pub copies_from : ℕ → List Frame → List Frame
copies_from k fs = filter (λ f. not (nat_lt f.module k)) fs

all-from : (k low : ℕ) (fs : List Frame) → k ≤ low → IsTrue (are_copies_from low fs) → copies_from k fs ≡ fs
all-from k low [] h r = refl
all-from k low (f ∷ fs) h r = grind (arith, nat_tests, all-from k (f.module + 1) fs)

none-from : (k low : ℕ) (fs : List Frame) → 8 ≤ k → IsTrue (are_copies_from low fs) → copies_from k fs ≡ []
none-from k low [] h r = refl
none-from k low (f ∷ fs) h r = grind (arith, nat_tests, none-from k (f.module + 1) fs)

copy-from : (k low : ℕ) (f : Frame) (fs : List Frame) → copy_on k fs ≡ Some f → IsTrue (are_copies_from low fs) →
    copies_from k fs ≡ f ∷ copies_from (k + 1) fs
copy-from k low f [] h r = absurd cc
copy-from k low f (g ∷ gs) h r =
    grind (arith, nat_tests, copy-from k (g.module + 1) f gs, all-from k (g.module + 1) gs, all-from (k + 1) (g.module + 1) gs)

-- at the start of a walk all copies are left
pub copies_from-start : (fs : List Frame) → AreCopies fs → copies_from 0 fs ≡ fs
copies_from-start fs r = all-from 0 0 fs (omega arith) r

-- past a module without a copy the same are left
pub copies_from-next : (k : ℕ) (fs : List Frame) → copy_on k fs ≡ None → copies_from k fs ≡ copies_from (k + 1) fs
copies_from-next k [] h = refl
copies_from-next k (f ∷ fs) h = grind (arith, nat_tests, copies_from-next k fs)

-- past a module with a copy one less is left
pub copies_from-copy : (k : ℕ) (f : Frame) (fs : List Frame) → copy_on k fs ≡ Some f → AreCopies fs →
    copies_from k fs ≡ f ∷ copies_from (k + 1) fs
copies_from-copy k f fs h r = copy-from k 0 f fs h r

-- at the end none is left
pub copies_from-end : (k : ℕ) (fs : List Frame) → 8 ≤ k → AreCopies fs → copies_from k fs ≡ []
copies_from-end k fs h r = none-from k 0 fs h r

-- past the first copy the rest are left
pub copies_from-first : (f : Frame) (fs : List Frame) → first_frame fs ≡ f → 0 < length fs → AreCopies fs →
    f ∷ copies_from (f.module + 1) fs ≡ fs
copies_from-first f [] e h r = absurd (omega arith)
copies_from-first f (g ∷ gs) e h r = grind (arith, nat_tests, all-from (g.module + 1) (g.module + 1) gs)

-- a walk that keeps the nearest copy so far
pub nearest-next : (m : Machine) (node k : ℕ) (best : Frame) (fs : List Frame) → copy_on k fs ≡ None →
    nearest m node (best ∷ copies_from k fs) ≡ nearest m node (best ∷ copies_from (k + 1) fs)
nearest-next m node k best fs h = ap (λ (gs : List Frame). nearest m node (best ∷ gs)) (copies_from-next k fs h)

pub nearest-copy : (m : Machine) (node k : ℕ) (best f : Frame) (fs : List Frame) → copy_on k fs ≡ Some f → AreCopies fs →
    nearest m node (best ∷ copies_from k fs) ≡ nearest m node (nearer m node best f ∷ copies_from (k + 1) fs)
nearest-copy m node k best f fs h r = ap (λ (gs : List Frame). nearest m node (best ∷ gs)) (copies_from-copy k f fs h r)

-- a walk that tests each copy
pub list_all-next : (p : Frame → Bool) (k : ℕ) (fs : List Frame) → copy_on k fs ≡ None →
    list_all p (copies_from k fs) ≡ list_all p (copies_from (k + 1) fs)
list_all-next p k fs h = ap (λ (gs : List Frame). list_all p gs) (copies_from-next k fs h)

list_all-copy : (p : Frame → Bool) (k : ℕ) (f : Frame) (fs : List Frame) → copy_on k fs ≡ Some f → AreCopies fs →
    list_all p (copies_from k fs) ≡ p f && list_all p (copies_from (k + 1) fs)
list_all-copy p k f fs h r = ap (λ (gs : List Frame). list_all p gs) (copies_from-copy k f fs h r)

pub list_all-passed : (p : Frame → Bool) (k : ℕ) (f : Frame) (fs : List Frame) → copy_on k fs ≡ Some f → AreCopies fs → p f ≡ true →
    list_all p (copies_from k fs) ≡ list_all p (copies_from (k + 1) fs)
list_all-passed p k f fs h r e = rw e at (list_all-copy p k f fs h r)

pub list_all-refused : (p : Frame → Bool) (k : ℕ) (f : Frame) (fs : List Frame) → copy_on k fs ≡ Some f → AreCopies fs → p f ≡ false →
    list_all p (copies_from k fs) ≡ false
list_all-refused p k f fs h r e = rw e at (list_all-copy p k f fs h r)

rise-from : (low : ℕ) (fs : List Frame) → IsTrue (are_copies_from low fs) → modules_rise low fs ≡ true
rise-from low [] r = refl
rise-from low (f ∷ fs) r = grind (arith, nat_tests, rise-from (f.module + 1) fs)

pub modules_rise-copies : (fs : List Frame) → AreCopies fs → modules_rise 0 fs ≡ true
modules_rise-copies fs r = rise-from 0 fs r

pub ruleset rising = (modules_rise-copies)

pub ruleset walks = (copies_from-start, copies_from-next, copies_from-copy, copies_from-end, copies_from-first)
