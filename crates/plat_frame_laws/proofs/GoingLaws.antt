-- the frames that a session gives back: one more of them, each of which is another
use Rattle.std.specs.Prelude.{◌≡◌, ℕ, zero, suc, ◌+◌, ◌<◌, ◌≤◌, ◌==◌, ◌&&◌, ◌||◌, not, nat_lt, Bool, true, false, List, [], ◌∷◌, length}
use Rattle.std.specs.Prelude.{take, filter, cond, slice_index_or}
use Rattle.std.proofs.Common.{refl, ap, ◌∙◌, arith}
use Rattle.std.specs.List.{list_any}
use Rattle.std.proofs.lemmas.Bool.{ne_eqb}
use Rattle.std.proofs.lemmas.Bool.Decides.{nat_tests}
use Rattle.std.proofs.lemmas.List.{take_more}
use Rattle.plat_base.specs.Copies.{same_frame}
use Rattle.plat_base.specs.Decide.{modules_rise}
use Rattle.plat_base.specs.declared.frames.Frame.{Frame}
use Rattle.plat_base.proofs.CopiesLemmas.{same_frame-itself}
use Rattle.plat_local_laws.proofs.CourseLaws.{rises}
use Rattle.plat_base.proofs.ListLemmas.{list_any-push}

-- among the first k frames and one more
pub any-more :
    (g d : Frame) (k : ℕ) (fs : List Frame) → k < length fs →
    list_any (same_frame g) (take (k + 1) fs) ≡ (list_any (same_frame g) (take k fs) || same_frame g (slice_index_or fs k d))
any-more g d k fs inside =
    ap (list_any (same_frame g)) (take_more fs k d inside) ∙ list_any-push (same_frame g) (take k fs) (slice_index_or fs k d)

pub any-taken :
    (g : Frame) (k : ℕ) (fs : List Frame) → list_any (same_frame g) (take k fs) ≡ true → list_any (same_frame g) fs ≡ true
any-taken g zero fs h = absurd cc
any-taken g (suc k) [] h = h
any-taken g (suc k) (f ∷ fs) h = by (same_frame g f) h (λ there. any-taken g k fs there)
  where
    by : (b : Bool) → (b || list_any (same_frame g) (take k fs)) ≡ true →
        (list_any (same_frame g) (take k fs) ≡ true → list_any (same_frame g) fs ≡ true) → (b || list_any (same_frame g) fs) ≡ true
    by true h more = refl
    by false h more = more h

pub any-at : (d : Frame) (k : ℕ) (fs : List Frame) → k < length fs → list_any (same_frame (slice_index_or fs k d)) fs ≡ true
any-at d k [] inside = absurd (omega arith)
any-at d zero (f ∷ fs) inside = ap (λ b. b || list_any (same_frame f) fs) (same_frame-itself f)
any-at d (suc k) (f ∷ fs) inside = by (same_frame (slice_index_or fs k d) f) (any-at d k fs (omega arith))
  where
    by : (b : Bool) → list_any (same_frame (slice_index_or fs k d)) fs ≡ true →
        (b || list_any (same_frame (slice_index_or fs k d)) fs) ≡ true
    by true h = refl
    by false h = h

pub any-filtered :
    (g : Frame) (test : Frame → Bool) (fs : List Frame) → list_any (same_frame g) (filter test fs) ≡ true →
    list_any (same_frame g) fs ≡ true
any-filtered g test [] h = h
any-filtered g test (f ∷ fs) h = by (test f) h (λ there. any-filtered g test fs there)
  where
    more : (b : Bool) → list_any (same_frame g) fs ≡ true → (b || list_any (same_frame g) fs) ≡ true
    more true there = refl
    more false there = there

    first : (b : Bool) → (b || list_any (same_frame g) (filter test fs)) ≡ true →
        (list_any (same_frame g) (filter test fs) ≡ true → list_any (same_frame g) fs ≡ true) → (b || list_any (same_frame g) fs) ≡ true
    first true h rest = refl
    first false h rest = rest h

    by : (b : Bool) → list_any (same_frame g) (cond b (f ∷ filter test fs) (filter test fs)) ≡ true →
        (list_any (same_frame g) (filter test fs) ≡ true → list_any (same_frame g) fs ≡ true) →
        (same_frame g f || list_any (same_frame g) fs) ≡ true
    by true h rest = first (same_frame g f) h rest
    by false h rest = more (same_frame g f) (rest h)

-- ---- frames of rising modules

rise-from : (low : ℕ) (f : Frame) (fs : List Frame) → low ≤ f.module → modules_rise (f.module + 1) fs ≡ true →
    modules_rise low (f ∷ fs) ≡ true
rise-from low f fs least rise = let first : not (nat_lt f.module low) ≡ true = grind (arith, nat_tests) in rw (first, rise) refl

rise-lower : (low least : ℕ) (fs : List Frame) → least ≤ low → modules_rise low fs ≡ true → modules_rise least fs ≡ true
rise-lower low least [] order rise = refl
rise-lower low least (f ∷ fs) order rise =
    let parts = rises low f fs rise in rise-from least f fs (let first = parts.0 in omega arith) parts.1

pub rise-filtered : (low : ℕ) (test : Frame → Bool) (fs : List Frame) → modules_rise low fs ≡ true →
    modules_rise low (filter test fs) ≡ true
rise-filtered low test [] rise = refl
rise-filtered low test (f ∷ fs) rise =
    let parts = rises low f fs rise in by (test f) parts.0 (rise-filtered (f.module + 1) test fs parts.1)
  where
    by : (b : Bool) → low ≤ f.module → modules_rise (f.module + 1) (filter test fs) ≡ true →
        modules_rise low (cond b (f ∷ filter test fs) (filter test fs)) ≡ true
    by true least rest = rise-from low f (filter test fs) least rest
    by false least rest = rise-lower (f.module + 1) low (filter test fs) (omega arith) rest

rise-at : (d : Frame) (low k : ℕ) (fs : List Frame) → modules_rise low fs ≡ true → k < length fs → low ≤ (slice_index_or fs k d).module
rise-at d low k [] rise inside = absurd (omega arith)
rise-at d low zero (f ∷ fs) rise inside = (rises low f fs rise).0
rise-at d low (suc k) (f ∷ fs) rise inside =
    let parts = rises low f fs rise in let first = parts.0 in
    let later = rise-at d (f.module + 1) k fs parts.1 (omega arith) in omega (arith, first, later)

other-module : (g f : Frame) → f.module < g.module → same_frame g f ≡ false
other-module g f apart = ap (λ b. b && g.number == f.number) (ne_eqb g.module f.module (omega arith))

-- a frame is none of those before it
pub none-before :
    (d : Frame) (low k : ℕ) (fs : List Frame) → modules_rise low fs ≡ true → k < length fs →
    list_any (same_frame (slice_index_or fs k d)) (take k fs) ≡ false
none-before d low k [] rise inside = absurd (omega arith)
none-before d low zero (f ∷ fs) rise inside = refl
none-before d low (suc k) (f ∷ fs) rise inside =
    let parts = rises low f fs rise in
    let later = rise-at d (f.module + 1) k fs parts.1 (omega arith) in
    let apart : same_frame (slice_index_or fs k d) f ≡ false = other-module (slice_index_or fs k d) f (omega arith) in
    ap (λ b. b || list_any (same_frame (slice_index_or fs k d)) (take k fs)) apart
    ∙ none-before d (f.module + 1) k fs parts.1 (omega arith)
