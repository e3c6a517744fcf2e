-- the frames that a change gives back, as a loop over the modules finds them
use Rattle.std.proofs.Common.{◌≡◌, ℕ, ◌+◌, ◌<◌, ◌≤◌, Bool, true, false, List, [], ◌∷◌, filter, Some, None, refl, ap, sym}
use Rattle.std.proofs.Common.{arith}
use Rattle.std.specs.Prelude.{IsTrue, ◌==◌}
use Rattle.std.specs.List.{list_any}
use Rattle.std.proofs.lemmas.Bool.Decides.{nat_tests}
use Rattle.plat_base.specs.Copies.{copy_on, same_frame, AreCopies, are_copies_from}
use Rattle.plat_base.specs.declared.frames.Frame.{Frame}
use Rattle.plat_policy.proofs.Walks.{copies_from, copies_from-start, copies_from-next, copies_from-copy, copies_from-end}
use Rattle.plat_base.proofs.CopiesLemmas.{copy_on-module}

-- ---- whether a frame is a copy

other-copies : (low : ℕ) (f : Frame) (fs : List Frame) → IsTrue (are_copies_from low fs) → f.module < low →
    list_any (same_frame f) fs ≡ false
other-copies low f [] h l = refl
other-copies low f (g ∷ gs) h l = grind (arith, nat_tests, other-copies (g.module + 1) f gs)

some-copies :
    (low : ℕ) (f g : Frame) (fs : List Frame) → IsTrue (are_copies_from low fs) → copy_on f.module fs ≡ Some g →
    list_any (same_frame f) fs ≡ (f.number == g.number)
some-copies low f g [] h e = absurd cc
some-copies low f g (x ∷ xs) h e = grind (arith, nat_tests, some-copies (x.module + 1) f g xs, other-copies (x.module + 1) f xs)

no-copies : (f : Frame) (fs : List Frame) → copy_on f.module fs ≡ None → list_any (same_frame f) fs ≡ false
no-copies f [] e = refl
no-copies f (x ∷ xs) e = grind (arith, nat_tests, no-copies f xs)

pub same-copy : (f g : Frame) (fs : List Frame) → AreCopies fs → copy_on f.module fs ≡ Some g →
    (f.number == g.number) ≡ list_any (same_frame f) fs
same-copy f g fs h e = sym (some-copies 0 f g fs h e)

pub same-none : (f : Frame) (fs : List Frame) → copy_on f.module fs ≡ None → false ≡ list_any (same_frame f) fs
same-none f fs e = sym (no-copies f fs e)

pub ruleset copy_tests = (same-copy, same-none)

-- ---- the copies that do not pass a test of the directory after, from a module on

abbrev pub left_from : (Frame → Bool) → List Frame → ℕ → List Frame
left_from q copies k = filter q (copies_from k copies)

module _ (q : Frame → Bool) (copies : List Frame) (k : ℕ) where
  pub left_from-none : copy_on k copies ≡ None → left_from q copies k ≡ left_from q copies (k + 1)
  left_from-none e = ap (λ (fs : List Frame). filter q fs) (copies_from-next k copies e)

  pub left_from-kept : (f : Frame) → copy_on k copies ≡ Some f → AreCopies copies → q f ≡ false →
      left_from q copies k ≡ left_from q copies (k + 1)
  left_from-kept f e r t = rw (copies_from-copy k f copies e r, t) refl

  pub left_from-goes :
      (f : Frame) → copy_on k copies ≡ Some f → AreCopies copies → q f ≡ true → left_from q copies k ≡ f ∷ left_from q copies (k + 1)
  left_from-goes f e r t = rw (copies_from-copy k f copies e r, t) refl

  pub left_from-end : 8 ≤ k → AreCopies copies → left_from q copies k ≡ []
  left_from-end l r = rw (copies_from-end k copies l r) refl

pub left_from-start : (q : Frame → Bool) (copies : List Frame) → AreCopies copies → left_from q copies 0 ≡ filter q copies
left_from-start q copies r = ap (λ (fs : List Frame). filter q fs) (copies_from-start copies r)

pub ruleset copy_modules = (copy_on-module)
