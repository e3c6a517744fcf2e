-- the copies of a directory, written module by module
use Rattle.std.proofs.Common.{◌≡◌, ℕ, ◌+◌, ◌<◌, ◌≤◌, Bool, true, false, cond, ltb, List, [], ◌∷◌, ◌++◌, map, Some, None, refl, ap, sym, ◌∙◌}
use Rattle.std.proofs.Common.{arith, append_assoc, append-nil}
use Rattle.std.specs.Prelude.{IsTrue}
use Rattle.std.specs.List.{filter, join_with_byte}
use Rattle.std.proofs.lemmas.Bool.Decides.{nat_tests}
use Rattle.plat_base.specs.Copies.{copy_on, are_copies_from, AreCopies}
use Rattle.plat_base.specs.declared.frames.Frame.{Frame}
use Rattle.plat_grammar.specs.HistoryCanon.{colon, comma, frame_word, copies_part}

-- the copies on modules below this one
abbrev pub below : ℕ → List Frame → List Frame
below n fs = filter (λ f. ltb f.module n) fs

-- the mark before the next copy
abbrev pub mark_after : List Frame → ℕ
mark_after [] = colon
mark_after (f ∷ fs) = comma

join-push : (byte : ℕ) (w : List ℕ) (ws : List (List ℕ)) (x : List ℕ) → join_with_byte byte ((w ∷ ws) ++ x ∷ [])
    ≡ join_with_byte byte (w ∷ ws) ++ byte ∷ x
join-push byte w [] x = refl
join-push byte w (v ∷ vs) x = ap (λ k. w ++ byte ∷ k) (join-push byte v vs x)
    ∙ sym (append_assoc w (byte ∷ join_with_byte byte (v ∷ vs)) (byte ∷ x))

map-push : (fs : List Frame) (f : Frame) → map frame_word (fs ++ f ∷ []) ≡ map frame_word fs ++ frame_word f ∷ []
map-push [] f = refl
map-push (g ∷ gs) f = ap (λ k. frame_word g ∷ k) (map-push gs f)

pub copies_part-push : (fs : List Frame) (f : Frame) → copies_part (fs ++ f ∷ []) ≡ copies_part fs ++ mark_after fs ∷ frame_word f
copies_part-push [] f = refl
copies_part-push (g ∷ gs) f =
    ap (λ k. colon ∷ join_with_byte comma (frame_word g ∷ k)) (map-push gs f)
    ∙ ap (λ k. colon ∷ k) (join-push comma (frame_word g) (map frame_word gs) (frame_word f))

pub mark_after-push : (fs : List Frame) (f : Frame) → mark_after (fs ++ f ∷ []) ≡ comma
mark_after-push [] f = refl
mark_after-push (g ∷ gs) f = refl

-- ---- one module more

none_below : (n low : ℕ) (fs : List Frame) → n ≤ low → IsTrue (are_copies_from low fs) → below n fs ≡ []
none_below n low [] k h = refl
none_below n low (f ∷ fs) k h = grind (arith, nat_tests, none_below n (f.module + 1) fs)

none_on : (n low : ℕ) (fs : List Frame) → n < low → IsTrue (are_copies_from low fs) → copy_on n fs ≡ None
none_on n low [] k h = refl
none_on n low (f ∷ fs) k h = grind (arith, nat_tests, none_on n (f.module + 1) fs)

below-some_from : (n low : ℕ) (f : Frame) (fs : List Frame) → IsTrue (are_copies_from low fs) → copy_on n fs ≡ Some f →
    below (n + 1) fs ≡ below n fs ++ f ∷ []
below-some_from n low f [] h e = absurd cc
below-some_from n low f (g ∷ gs) h e =
    grind (
      arith,
      nat_tests,
      below-some_from n (g.module + 1) f gs,
      none_below (n + 1) (g.module + 1) gs,
      none_below n (g.module + 1) gs,
      none_on n (g.module + 1) gs,
    )

pub below-some : (n : ℕ) (f : Frame) (fs : List Frame) → AreCopies fs → copy_on n fs ≡ Some f → below (n + 1) fs ≡ below n fs ++ f ∷ []
below-some n f fs h e = below-some_from n 0 f fs h e

pub below-none : (n : ℕ) (fs : List Frame) → copy_on n fs ≡ None → below (n + 1) fs ≡ below n fs
below-none n [] e = refl
below-none n (f ∷ fs) e = grind (arith, nat_tests, below-none n fs)

all_below : (low : ℕ) (fs : List Frame) → IsTrue (are_copies_from low fs) → below 8 fs ≡ fs
all_below low [] h = refl
all_below low (f ∷ fs) h = grind (arith, nat_tests, all_below (f.module + 1) fs)

pub below-all : (fs : List Frame) → AreCopies fs → below 8 fs ≡ fs
below-all fs h = all_below 0 fs h

pub below-first : (fs : List Frame) → below 0 fs ≡ []
below-first [] = refl
below-first (f ∷ fs) = grind (arith, nat_tests, below-first fs)

-- ---- the text of a module more

-- what stands after the copies on modules below this one
pub copies-some : (n : ℕ) (f : Frame) (fs : List Frame) → AreCopies fs → copy_on n fs ≡ Some f
    → (copies_part (below (n + 1) fs) ≡ copies_part (below n fs) ++ mark_after (below n fs) ∷ frame_word f)
    × (mark_after (below (n + 1) fs) ≡ comma)
copies-some n f fs h e = rw (below-some n f fs h e) (copies_part-push (below n fs) f, mark_after-push (below n fs) f)

-- the bytes of some copies begin those of these and more
begins : (fs gs : List Frame) → (rest : List ℕ) × (copies_part (fs ++ gs) ≡ copies_part fs ++ rest)
begins fs [] = ([], ap copies_part (append-nil fs) ∙ sym (append-nil (copies_part fs)))
begins fs (g ∷ gs) =
    let t = begins (fs ++ g ∷ []) gs in (
      (mark_after fs ∷ frame_word g) ++ t.0,
      ap copies_part (sym (append_assoc fs (g ∷ []) gs)) ∙ t.1 ∙ ap (λ k. k ++ t.0) (copies_part-push fs g)
          ∙ append_assoc (copies_part fs) (mark_after fs ∷ frame_word g) t.0,
    )

prefix-next : (n : ℕ) (f : Frame) (fs : List Frame) (v : Bool) → ltb f.module n ≡ v → IsTrue (are_copies_from (f.module + 1) fs) →
    (gs : List Frame) × (fs ≡ below n fs ++ gs)
    → (gs : List Frame) × (f ∷ fs ≡ cond v (f ∷ below n fs) (below n fs) ++ gs)
prefix-next n f fs true t h u = (u.0, ap (λ k. f ∷ k) u.1)
prefix-next n f fs false t h u =
    let past : n ≤ f.module = grind (arith, nat_tests) in
    (f ∷ fs, ap (λ k. k ++ f ∷ fs) (sym (none_below n (f.module + 1) fs (omega (arith, past)) h)))

rising : (low : ℕ) (f : Frame) (fs : List Frame) → IsTrue (are_copies_from low (f ∷ fs)) → IsTrue (are_copies_from (f.module + 1) fs)
rising low f fs h = grind (arith, nat_tests)

below-prefix : (n low : ℕ) (fs : List Frame) → IsTrue (are_copies_from low fs) → (gs : List Frame) × (fs ≡ below n fs ++ gs)
below-prefix n low [] h = ([], refl)
below-prefix n low (f ∷ fs) h = let more = rising low f fs h in
    prefix-next n f fs (ltb f.module n) refl more (below-prefix n (f.module + 1) fs more)

-- the bytes of the copies on modules below this one begin those of all
pub copies-begin : (n : ℕ) (fs : List Frame) → AreCopies fs → (rest : List ℕ) × (copies_part fs ≡ copies_part (below n fs) ++ rest)
copies-begin n fs h =
    let t = below-prefix n 0 fs h in
    let u = begins (below n fs) t.0 in
    (u.0, ap copies_part t.1 ∙ u.1)

module _ (n mark : ℕ) (f : Frame) (fs : List Frame) (h : AreCopies fs) (here : copy_on n fs ≡ Some f)
    (is : mark ≡ mark_after (below n fs)) where
  -- one copy more
  pub copies-more : copies_part (below (n + 1) fs) ≡ copies_part (below n fs) ++ (mark ∷ frame_word f)
  copies-more = (copies-some n f fs h here).0 ∙ ap (λ k. copies_part (below n fs) ++ k ∷ frame_word f) (sym is)

  -- and those after it
  pub copies-all : (rest : List ℕ) × (copies_part fs ≡ copies_part (below n fs) ++ ((mark ∷ frame_word f) ++ rest))
  copies-all =
      let t = copies-begin (n + 1) fs h in
      (t.0, t.1 ∙ ap (λ k. k ++ t.0) copies-more ∙ append_assoc (copies_part (below n fs)) (mark ∷ frame_word f) t.0)
