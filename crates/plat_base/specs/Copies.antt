-- the copies of a page, as a list of frames of rising module
use Rattle.std.specs.Prelude.{ℕ, ◌+◌, ◌==◌, nat_lt, if◌then◌else◌, not, List, [], ◌∷◌, find, filter, Option, Bool, true, ◌&&◌, IsTrue}
use lib.Pointwise.{pointwise}
use Rattle.plat_base.specs.declared.frames.Frame.{Frame}
use Rattle.plat_base.specs.declared.limits.TheConstants.{MODULES, FRAMES}

-- the copy on a module
abbrev pub copy_on : ℕ → List Frame → Option Frame
copy_on m fs = find (λ f. f.module == m) fs

-- the copies with this frame as its module's copy
abbrev pub with_frame : Frame → List Frame → List Frame
with_frame f [] = f ∷ []
with_frame f (g ∷ gs) =
    if nat_lt f.module g.module then f ∷ g ∷ gs else if f.module == g.module then f ∷ gs else g ∷ with_frame f gs

-- the copies with that module's copy taken away
abbrev pub without_module : ℕ → List Frame → List Frame
without_module m fs = filter (λ f. not (f.module == m)) fs

abbrev pub same_frame : Frame → Frame → Bool
same_frame f g = f.module == g.module && f.number == g.number

abbrev pub same_frames : List Frame → List Frame → Bool
same_frames = pointwise same_frame

-- the modules rise, from low on, and modules and numbers are within the limits
abbrev pub are_copies_from : ℕ → List Frame → Bool
are_copies_from low [] = true
are_copies_from low (f ∷ fs) =
    (not (nat_lt f.module low) && nat_lt f.module MODULES && nat_lt f.number FRAMES) && are_copies_from (f.module + 1) fs

abbrev pub AreCopies : List Frame → Type 0
AreCopies fs = IsTrue (are_copies_from 0 fs)
