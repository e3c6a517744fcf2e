-- the frames that a row of the table leads to are frames of the machine
use Rattle.std.proofs.Common.{◌≡◌, ℕ, ◌<◌, List, [], ◌∷◌, length, Some, arith}
use Rattle.std.specs.Prelude.{IsTrue}
use Rattle.std.specs.List.{list_all, fold}
use Rattle.std.proofs.lemmas.Bool.Decides.{nat_tests}
use Rattle.plat_base.specs.declared.frames.Frame.{Frame}
use Rattle.plat_base.specs.declared.frames.Dir.{Dir}
use Rattle.plat_base.specs.Machine.{Machine, is_machine}
use Rattle.plat_base.specs.Copies.{copy_on}
use Rattle.plat_base.specs.Decide.{nearest, nearer, is_dir, is_frame}

-- a test that all frames pass is passed by the copy on a module
all-copy_on : (m : Machine) (k : ℕ) (f : Frame) (fs : List Frame) → IsTrue (list_all (is_frame m) fs) → copy_on k fs ≡ Some f →
    IsTrue (is_frame m f)
all-copy_on m k f [] h e = absurd cc
all-copy_on m k f (g ∷ gs) h e = grind (arith, nat_tests, all-copy_on m k f gs)

all-nearer : (m : Machine) (node : ℕ) (best : Frame) (fs : List Frame) → IsTrue (is_frame m best) → IsTrue (list_all (is_frame m) fs) →
    IsTrue (is_frame m (fold (nearer m node) best fs))
all-nearer m node best [] b h = b
all-nearer m node best (f ∷ fs) b h = grind (arith, nat_tests, all-nearer m node (nearer m node best f) fs)

all-nearest : (m : Machine) (node : ℕ) (fs : List Frame) → 0 < length fs → IsTrue (list_all (is_frame m) fs) →
    IsTrue (is_frame m (nearest m node fs))
all-nearest m node [] l h = absurd (omega arith)
all-nearest m node (f ∷ fs) l h = grind (arith, nat_tests, all-nearer m node f fs)

is_frame-copy_on : (m : Machine) (dir : Dir) (node : ℕ) (f : Frame) → IsTrue (is_dir m dir) → copy_on node dir.copies ≡ Some f →
    IsTrue (is_frame m f)
is_frame-copy_on m dir node f h e = grind (arith, nat_tests, all-copy_on m node f dir.copies)

is_frame-nearest : (m : Machine) (dir : Dir) (node : ℕ) → IsTrue (is_dir m dir) → 0 < length dir.copies →
    IsTrue (is_frame m (nearest m node dir.copies))
is_frame-nearest m dir node h l = grind (arith, nat_tests, all-nearest m node dir.copies)

-- a frame of a machine is one that copies can keep
is_frame-module : (m : Machine) (f : Frame) → IsTrue (is_machine m) → IsTrue (is_frame m f) → f.module < 8
is_frame-module m f h k = grind (arith, nat_tests)

is_frame-number : (m : Machine) (f : Frame) → IsTrue (is_machine m) → IsTrue (is_frame m f) → f.number < 64
is_frame-number m f h k = grind (arith, nat_tests)

pub copy_on-module_fits : (m : Machine) (dir : Dir) (node : ℕ) (f : Frame) → IsTrue (is_machine m) → IsTrue (is_dir m dir) →
    copy_on node dir.copies ≡ Some f → f.module < 8
copy_on-module_fits m dir node f h d e = is_frame-module m f h (is_frame-copy_on m dir node f d e)

pub copy_on-number_fits : (m : Machine) (dir : Dir) (node : ℕ) (f : Frame) → IsTrue (is_machine m) → IsTrue (is_dir m dir) →
    copy_on node dir.copies ≡ Some f → f.number < 64
copy_on-number_fits m dir node f h d e = is_frame-number m f h (is_frame-copy_on m dir node f d e)

pub nearest-module_fits : (m : Machine) (dir : Dir) (node : ℕ) → IsTrue (is_machine m) → IsTrue (is_dir m dir) → 0 < length dir.copies →
    (nearest m node dir.copies).module < 8
nearest-module_fits m dir node h d l = is_frame-module m (nearest m node dir.copies) h (is_frame-nearest m dir node d l)

pub nearest-number_fits : (m : Machine) (dir : Dir) (node : ℕ) → IsTrue (is_machine m) → IsTrue (is_dir m dir) → 0 < length dir.copies →
    (nearest m node dir.copies).number < 64
nearest-number_fits m dir node h d l = is_frame-number m (nearest m node dir.copies) h (is_frame-nearest m dir node d l)

pub ruleset frames_fit = (copy_on-module_fits, copy_on-number_fits, nearest-module_fits, nearest-number_fits)
