-- what a page is locked for, and what is decided: each frame that is named is one of the machine
use Rattle.std.proofs.Common.{◌≡◌, ◌≢◌, ℕ, zero, suc, ◌<◌, ◌≤◌, Bool, true, false, List, [], ◌∷◌, length, filter, Option, Some, None, refl}
use Rattle.std.proofs.Common.{sym, ap, ◌∙◌, arith}
use Rattle.std.specs.Prelude.{IsTrue, nat_lt, ◌&&◌, if◌then◌else◌, is_none, slice_get, unwrap_or}
use Rattle.std.specs.List.{list_all}
use Rattle.std.proofs.lemmas.Bool.Decides.{nat_tests}
use Rattle.std.proofs.lemmas.Option.{same_Some}
use Rattle.plat_base.specs.Verdicts.{Answer}
use Rattle.plat_base.specs.Machine.{Machine}
use Rattle.plat_base.specs.Decide.{decide, is_frame, is_dir, is_empty, fits_cause, nearest, nearer, first_frame}
use Rattle.plat_base.specs.Rules.{names_got}
use Rattle.plat_base.specs.declared.frames.Frame.{Frame}
use Rattle.plat_base.specs.declared.frames.Dir.{Dir}
use Rattle.plat_base.specs.declared.items.Cause.{Cause}
use Rattle.plat_base.specs.declared.items.Cause.TheVariants as cause
use Rattle.plat_laws.proofs.TableLaws.{DecideFacts, decide_facts, has_some, dir_parts}
use Rattle.plat_events.specs.Sessions.{Fault}
use Rattle.plat_handler.specs.Fits.{is_fault, is_caused, is_entry_for}

-- ---- the fault

entry_actor : (m : Machine) (a page : ℕ) (entry : Option ℕ) → IsTrue (is_entry_for m a page entry) → a < m.nodes
entry_actor m a page None h = absurd cc
entry_actor m a page (Some e) h = grind (arith, nat_tests)

caused_actor : (m : Machine) (a page : ℕ) (entry : Option ℕ) (c : Cause) → IsTrue (is_caused m a page entry c) → c ≢ cause.Thaw →
    a < m.nodes
caused_actor m a page entry cause.Read h t = entry_actor m a page entry h
caused_actor m a page entry cause.Write h t = entry_actor m a page entry h
caused_actor m a page entry cause.Thaw h t = absurd (t refl)

pub and_left : (b c : Bool) → IsTrue (b && c) → IsTrue b
and_left true c h = refl
and_left false c h = absurd cc

pub and_right : (b c : Bool) → IsTrue (b && c) → IsTrue c
and_right true c h = h
and_right false c h = absurd cc

and_both : (b c : Bool) → IsTrue b → IsTrue c → (b && c) ≡ true
and_both true c h k = k
and_both false c h k = absurd cc

-- a fault or thaw is of a page of the machine, and a fault is of a processor
pub fault-page : (m : Machine) (a : ℕ) (f : Fault) → IsTrue (is_fault m a f) → f.page < m.pages
fault-page m a f h =
    let t = and_left (nat_lt f.page m.pages) (is_caused m a f.page f.entry f.cause) h in grind (arith, nat_tests)

pub fault-actor : (m : Machine) (a : ℕ) (f : Fault) → IsTrue (is_fault m a f) → f.cause ≢ cause.Thaw → a < m.nodes
fault-actor m a f h t =
    caused_actor m a f.page f.entry f.cause (and_right (nat_lt f.page m.pages) (is_caused m a f.page f.entry f.cause) h) t

pub fault-caused : (m : Machine) (a : ℕ) (f : Fault) → IsTrue (is_fault m a f) → IsTrue (is_caused m a f.page f.entry f.cause)
fault-caused m a f h = and_right (nat_lt f.page m.pages) (is_caused m a f.page f.entry f.cause) h

caused_most : (m : Machine) (a page : ℕ) (entry : Option ℕ) (c : Cause) → IsTrue (is_caused m a page entry c) → a ≤ m.nodes
caused_most m a page entry cause.Read h = let l = entry_actor m a page entry h in omega arith
caused_most m a page entry cause.Write h = let l = entry_actor m a page entry h in omega arith
caused_most m a page entry cause.Thaw h = grind (arith, nat_tests)

pub fault-most : (m : Machine) (a : ℕ) (f : Fault) → IsTrue (is_fault m a f) → a ≤ m.nodes
fault-most m a f h = caused_most m a f.page f.entry f.cause (and_right (nat_lt f.page m.pages) (is_caused m a f.page f.entry f.cause) h)

-- a processor's fault has an entry
pub record HasEntry (m : Machine) (entry : Option ℕ) (n : ℕ) : Type 0 where
  pub is : entry ≡ Some n
  pub within : n < length m.entries

entry_within : (m : Machine) (a page : ℕ) (entry : Option ℕ) → IsTrue (is_entry_for m a page entry) →
    HasEntry m entry (unwrap_or entry (length m.entries))
entry_within m a page None h = absurd cc
entry_within m a page (Some e) h = record { is = refl; within = grind (arith, nat_tests) }

caused_entry :
    (m : Machine) (a page : ℕ) (entry : Option ℕ) (c : Cause) → IsTrue (is_caused m a page entry c) → a < m.nodes →
    HasEntry m entry (unwrap_or entry (length m.entries))
caused_entry m a page entry cause.Read h l = entry_within m a page entry h
caused_entry m a page entry cause.Write h l = entry_within m a page entry h
caused_entry m a page entry cause.Thaw h l = absurd (let same : a ≡ m.nodes = grind (arith, nat_tests) in omega arith)

pub fault-entry :
    (m : Machine) (a : ℕ) (f : Fault) → IsTrue (is_fault m a f) → a < m.nodes → HasEntry m f.entry (unwrap_or f.entry (length m.entries))
fault-entry m a f h l =
    caused_entry m a f.page f.entry f.cause (and_right (nat_lt f.page m.pages) (is_caused m a f.page f.entry f.cause) h) l

-- ---- the decision

first-frame : (m : Machine) (fs : List Frame) → 0 < length fs → list_all (is_frame m) fs ≡ true → IsTrue (is_frame m (first_frame fs))
first-frame m [] l h = absurd (omega arith)
first-frame m (f ∷ fs) l h = grind arith

pub frozen-some : (m : Machine) (dir : Dir) → IsTrue (is_dir m dir) → IsTrue dir.frozen → is_empty dir.state ≡ false
frozen-some m dir d f = grind (arith, nat_tests)

pub facts-decide :
    (m : Machine) (answer : Answer) (dir : Dir) (last : Option ℕ) (now n : ℕ) (c : Cause) (got : Option Frame) →
    IsTrue (is_dir m dir) → IsTrue (fits_cause m answer dir last now n c got) → c ≢ cause.Thaw →
    DecideFacts m dir got c (decide m answer dir last now n c got)
facts-decide m answer dir last now n c got d f t =
    decide_facts m answer dir last now n c got t (and_both (is_dir m dir) (fits_cause m answer dir last now n c got) d f)

not_read : cause.Read ≢ cause.Thaw
not_read e = cc

not_write : cause.Write ≢ cause.Thaw
not_write e = cc

pub frame-decide :
    (m : Machine) (answer : Answer) (dir : Dir) (last : Option ℕ) (now n : ℕ) (c : Cause) (got : Option Frame) →
    IsTrue (is_dir m dir) → IsTrue (fits_cause m answer dir last now n c got) →
    IsTrue (is_frame m (decide m answer dir last now n c got).frame)
frame-decide m answer dir last now n cause.Read got d f = (facts-decide m answer dir last now n cause.Read got d f not_read).frame
frame-decide m answer dir last now n cause.Write got d f = (facts-decide m answer dir last now n cause.Write got d f not_write).frame
frame-decide m answer dir last now n cause.Thaw got d f =
    first-frame m dir.copies
    (has_some m dir d (frozen-some m dir d (and_left dir.frozen (is_none got) f))) (dir_parts m dir d).0

named : (b : Bool) (g f : Frame) (got : Option Frame) → (if b then Some g else None) ≡ got → got ≡ Some f → g ≡ f
named true g f got h e = same_Some g f (h ∙ e)
named false g f got h e = absurd (cc (h ∙ e))

-- a frame that was got is the one that the translation leads to
pub got-decide :
    (m : Machine) (answer : Answer) (dir : Dir) (last : Option ℕ) (now n : ℕ) (c : Cause) (got : Option Frame) (f : Frame) →
    IsTrue (is_dir m dir) → IsTrue (fits_cause m answer dir last now n c got) → got ≡ Some f →
    (decide m answer dir last now n c got).frame ≡ f
got-decide m answer dir last now n cause.Read got f d k e =
    let decided = decide m answer dir last now n cause.Read got in
    named (names_got decided.action) decided.frame f got (facts-decide m answer dir last now n cause.Read got d k not_read).got_back e
got-decide m answer dir last now n cause.Write got f d k e =
    let decided = decide m answer dir last now n cause.Write got in
    named (names_got decided.action) decided.frame f got (facts-decide m answer dir last now n cause.Write got d k not_write).got_back e
got-decide m answer dir last now n cause.Thaw got f d k e =
    let none : is_none got ≡ true = and_right dir.frozen (is_none got) k in absurd (cc (sym none ∙ ap is_none e))

-- ---- frames among the copies

all_get : {T : Type 0} (p : T → Bool) (xs : List T) (i : ℕ) (x : T) → list_all p xs ≡ true → slice_get xs i ≡ Some x → p x ≡ true
all_get p [] i x h e = absurd cc
all_get p (y ∷ ys) zero x h e = grind arith
all_get p (y ∷ ys) (suc i) x h e = grind (arith, all_get p ys i x)

all_filter : (p q : Frame → Bool) (xs : List Frame) → list_all p xs ≡ true → list_all p (filter q xs) ≡ true
all_filter p q [] h = refl
all_filter p q (x ∷ xs) h = grind (arith, all_filter p q xs)

-- a copy that goes is a frame of the machine
pub frame-filter :
    (m : Machine) (dir : Dir) (q : Frame → Bool) (i : ℕ) (f : Frame) → IsTrue (is_dir m dir) → slice_get (filter q dir.copies) i ≡ Some f →
    IsTrue (is_frame m f)
frame-filter m dir q i f d e =
    all_get (is_frame m) (filter q dir.copies) i f (all_filter (is_frame m) q dir.copies (dir_parts m dir d).0) e

nearer-frame :
    (m : Machine) (node : ℕ) (best : Frame) (fs : List Frame) → IsTrue (is_frame m best) → list_all (is_frame m) fs ≡ true →
    IsTrue (is_frame m (nearest m node (best ∷ fs)))
nearer-frame m node best [] b h = b
nearer-frame m node best (f ∷ fs) b h = grind (arith, nat_tests, nearer-frame m node (nearer m node best f) fs)

nearest-some :
    (m : Machine) (node : ℕ) (fs : List Frame) → 0 < length fs → list_all (is_frame m) fs ≡ true → IsTrue (is_frame m (nearest m node fs))
nearest-some m node [] l h = absurd (omega arith)
nearest-some m node (f ∷ fs) l h = nearer-frame m node f fs (grind arith) (grind arith)

-- and so is the nearest copy
pub frame-nearest :
    (m : Machine) (dir : Dir) (node : ℕ) → IsTrue (is_dir m dir) → is_empty dir.state ≡ false →
    IsTrue (is_frame m (nearest m node dir.copies))
frame-nearest m dir node d e = nearest-some m node dir.copies (has_some m dir d e) (dir_parts m dir d).0
