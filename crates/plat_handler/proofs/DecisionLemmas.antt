-- the frames that are given back, and what is decided without a frame or with one
use Rattle.std.proofs.Common.{◌≡◌, ℕ, ◌<◌, ◌≤◌, Bool, true, false, List, [], ◌∷◌, length, filter, Some, None, inl, inr, refl, sym, arith}
use Rattle.std.specs.Prelude.{IsTrue, nat_lt, not, slice_get}
use Rattle.std.specs.List.{list_any}
use Rattle.std.proofs.lemmas.Bool.{cases_lt}
use Rattle.std.proofs.lemmas.Bool.Decides.{nat_tests}
use Rattle.std.proofs.lemmas.Option.{slice_get_within, slice_get-get_or, get_or_from_slice_get}
use Rattle.plat_base.specs.Machine.{Machine}
use Rattle.plat_base.specs.Copies.{same_frame}
use Rattle.plat_base.specs.Decide.{is_frame, is_dir, is_empty, no_frame}
use Rattle.plat_base.specs.declared.frames.Dir.{Dir}
use Rattle.plat_base.specs.declared.frames.Frame.{Frame}
use Rattle.plat_base.specs.declared.policies.Decision.{Decision}
use Rattle.plat_events.specs.Sessions.{Course, Giving, Storing, Session, decision_of, going, frame_going, give_from}
use Rattle.plat_handler.specs.Decided.{Begins, Decides, going_to}
use Rattle.plat_handler.specs.Phases.{answer_of}
use Rattle.plat_handler.specs.declared.phases.Lock.{Lock}
use Rattle.plat_handler.specs.declared.phases.Course.{Course as RustCourse}
use Rattle.plat_handler.proofs.CourseLemmas.{none-fits}
use Rattle.plat_handler.proofs.FaultLemmas.{frame-filter}

module _ (m : Machine) (a now : ℕ) (s : Session) (c : Course) (k : ℕ) where
  abbrev all : List Frame
  all = going s.dir (decision_of m (answer_of m) a now s c)

  pub give_from-some : (f : Frame) → slice_get all k ≡ Some f → give_from m (answer_of m) a now s c k ≡ Giving c k
  give_from-some f h =
      let within : k < length all = slice_get_within all k f h in
      let is : nat_lt k (length all) ≡ true = grind (arith, nat_tests) in rw is refl

  pub give_from-none : slice_get all k ≡ None → give_from m (answer_of m) a now s c k ≡ Storing c
  give_from-none h =
      elim (cases_lt k (length all)) [
        | inl within ↦ absurd (cc (slice_get-get_or all k no_frame within))
        | inr past ↦ (let is : nat_lt k (length all) ≡ false = grind (arith, nat_tests) in rw is refl)
      ]

-- the frame at a place among those that go
pub going-none : (dir : Dir) (d : Decision) (k : ℕ) → k < length (going dir d) → None ≡ slice_get (going_to dir d.after) k → ⊥
going-none dir d k l h = cc (slice_get-get_or (going dir d) k no_frame l)

pub going-some : (dir : Dir) (d : Decision) (k : ℕ) (f : Frame) → Some f ≡ slice_get (going_to dir d.after) k → f ≡ frame_going dir d k
going-some dir d k f h = sym (get_or_from_slice_get (going dir d) k f no_frame (sym h))

pub going-frame :
    (m : Machine) (dir after : Dir) (k : ℕ) (f : Frame) → IsTrue (is_dir m dir) → Some f ≡ slice_get (going_to dir after) k →
    IsTrue (is_frame m f)
going-frame m dir after k f d h = frame-filter m dir (λ g. not (list_any (same_frame g) after.copies)) k f d (sym h)

length-filter_le : (p : Frame → Bool) (xs : List Frame) → length (filter p xs) ≤ length xs
length-filter_le p [] = omega arith
length-filter_le p (x ∷ xs) = grind (arith, length-filter_le p xs)

pub going-few : (dir : Dir) (d : Decision) → length (going dir d) ≤ length dir.copies
going-few dir d = length-filter_le (λ f. not (list_any (same_frame f) d.after.copies)) dir.copies

-- a page with copies may go without a frame
pub Decides-none :
    (m : Machine) (lock : Lock) (c : RustCourse) → Begins m lock → is_empty lock.dir.state ≡ false → c.got ≡ None → Decides m lock c
Decides-none m lock c h e g = record {
  dir = h.dir;
  node = h.node;
  fits = rw g (none-fits m (answer_of m) lock.dir c.stamp.last lock.tick lock.actor lock.fault.cause e h.begins);
}
