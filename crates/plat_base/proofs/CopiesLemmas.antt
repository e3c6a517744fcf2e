-- the copies of a page, as a list of frames of rising module
use Rattle.std.proofs.Common.{◌≡◌, ℕ, ◌+◌, ◌<◌, ◌≤◌, if◌then◌else◌, Bool, true, false, List, [], ◌∷◌, length, Option, Some, None, refl}
use Rattle.std.proofs.Common.{arith}
use Rattle.std.specs.Prelude.{IsTrue, ◌==◌}
use Rattle.std.specs.List.{Contains}
use Rattle.std.proofs.lemmas.Bool.Decides.{nat_tests}
use Rattle.std.proofs.lemmas.List.Elements.{Contains-append_right}
use Rattle.plat_base.specs.declared.frames.Frame.{Frame}
use Rattle.plat_base.specs.Copies.{copy_on, with_frame, without_module, same_frame, same_frames, are_copies_from, AreCopies}
use Rattle.plat_base.specs.Slots.{same_frames_equiv}

-- ---- modules that rise

pub are_copies-lower : (low high : ℕ) (fs : List Frame) → low ≤ high → IsTrue (are_copies_from high fs) → IsTrue (are_copies_from low fs)
are_copies-lower low high [] h k = refl
are_copies-lower low high (f ∷ fs) h k = grind (arith, nat_tests)

pub are_copies-with_frame : (low : ℕ) (f : Frame) (fs : List Frame) → low ≤ f.module → f.module < 8 → f.number < 64 →
    IsTrue (are_copies_from low fs) → IsTrue (are_copies_from low (with_frame f fs))
are_copies-with_frame low f [] h m n k = grind (arith, nat_tests)
are_copies-with_frame low f (g ∷ gs) h m n k = grind (arith, nat_tests, are_copies-with_frame (g.module + 1) f gs)

pub are_copies-without_module : (low m : ℕ) (fs : List Frame) → IsTrue (are_copies_from low fs) →
    IsTrue (are_copies_from low (without_module m fs))
are_copies-without_module low m [] h = refl
are_copies-without_module low m (f ∷ fs) h =
    grind (arith, nat_tests, are_copies-without_module (f.module + 1) m fs, are_copies-lower low (f.module + 1) (without_module m fs))

pub AreCopies-with_frame : (f : Frame) (fs : List Frame) → f.module < 8 → f.number < 64 → AreCopies fs → AreCopies (with_frame f fs)
AreCopies-with_frame f fs m n h = are_copies-with_frame 0 f fs (omega arith) m n h

pub AreCopies-without_module : (m : ℕ) (fs : List Frame) → AreCopies fs → AreCopies (without_module m fs)
AreCopies-without_module m fs h = are_copies-without_module 0 m fs h

-- ---- the copy on a module

pub length-with_frame : (f : Frame) (fs : List Frame) → copy_on f.module fs ≡ None → length (with_frame f fs) ≡ length fs + 1
length-with_frame f [] h = refl
length-with_frame f (g ∷ gs) h = grind (arith, nat_tests, length-with_frame f gs)

pub copy_on-module : (m : ℕ) (f : Frame) (fs : List Frame) → copy_on m fs ≡ Some f → f.module ≡ m
copy_on-module m f [] h = absurd cc
copy_on-module m f (g ∷ gs) h = grind (arith, nat_tests, copy_on-module m f gs)

Contains-by_head : (g f : Frame) (gs : List Frame) (here : Bool) (later : Option Frame) → (if here then Some g else later) ≡ Some f →
    (later ≡ Some f → Contains gs f) → Contains (g ∷ gs) f
Contains-by_head g f gs true later h k = (0, omega arith, cc)
Contains-by_head g f gs false later h k = Contains-append_right (g ∷ []) gs f (k h)

pub copy_on-Contains : (m : ℕ) (f : Frame) (fs : List Frame) → copy_on m fs ≡ Some f → Contains fs f
copy_on-Contains m f [] h = absurd cc
copy_on-Contains m f (g ∷ gs) h = Contains-by_head g f gs (g.module == m) (copy_on m gs) h (copy_on-Contains m f gs)

-- ---- equality

pub same_frame-itself : (f : Frame) → same_frame f f ≡ true
same_frame-itself f = grind (arith, nat_tests)

pub same_frames-itself : (fs : List Frame) → same_frames fs fs ≡ true
same_frames-itself = same_frames_equiv.refl
