-- one step of the reading of a list of frames
use Rattle.std.proofs.Common.{◌≡◌, ℕ, ◌+◌, ◌<◌, ◌≤◌, Bool, true, false, ltb, eqb, List, [], ◌∷◌, ◌++◌, length, take, drop, Option, Some}
use Rattle.std.proofs.Common.{None, Ok, Err, refl, ap, sym, ◌∙◌, arith}
use Rattle.std.specs.List.{list_all, slice_split, position, position_or_len, before_first, after_first}
use Rattle.std.proofs.lemmas.Bool.Decides.{nat_tests}
use Rattle.std.proofs.lemmas.List.Splits.{slice_split_first}
use Rattle.plat_base.specs.Copies.{with_frame}
use Rattle.plat_base.specs.declared.faults.Why.{Why}
use Rattle.plat_base.specs.declared.faults.Why.TheVariants.{Expected}
use Rattle.plat_base.specs.declared.frames.Frame.{Frame}
use Rattle.plat_text.proofs.LineLemmas.{position_some, position_none, split_whole}
use Rattle.plat_grammar.specs.HistoryCanon.{comma}
use Rattle.plat_grammar.specs.HistoryForms.{cut, cut_at, frame_of, copies_from}

-- ---- a word that is cut

-- the byte that a word is cut at
abbrev pub is_byte : ℕ → ℕ → Bool
is_byte byte = λ b. eqb b byte

pub record IsCut (byte : ℕ) (word before after : List ℕ) : Type 0 where
  pub inside : position_or_len (is_byte byte) word < length word
  pub first : before ≡ before_first (is_byte byte) word
  pub rest : after ≡ after_first (is_byte byte) word

pub cut-some : (byte : ℕ) (word before after : List ℕ) → cut byte word ≡ Some (before, after) → IsCut byte word before after
unfolding cut
cut-some byte word before after e = by_place (position (is_byte byte) word) refl e where
  by_place : (o : Option ℕ) → position (is_byte byte) word ≡ o → cut_at word o ≡ Some (before, after) → IsCut byte word before after
  by_place None p e = cc
  by_place (Some i) p e =
      let at = position_some (is_byte byte) word i p in
      let both : ◌≡◌ {A = List ℕ × List ℕ} (take i word, drop (i + 1) word) (before, after) = cc in
      let first : take i word ≡ before = ap (λ k. k.0) both in
      let rest : drop (i + 1) word ≡ after = ap (λ k. k.1) both in
      record {
        inside = omega (arith, at.0, at.1);
        first = sym first ∙ ap (λ k. take k word) (sym at.0);
        rest = sym rest ∙ ap (λ k. drop (k + 1) word) (sym at.0);
      }

pub cut-none : (byte : ℕ) (word : List ℕ) → cut byte word ≡ None → length word ≤ position_or_len (is_byte byte) word
unfolding cut
cut-none byte word e = by_place (position (is_byte byte) word) refl e where
  by_place : (o : Option ℕ) → position (is_byte byte) word ≡ o → cut_at word o ≡ None → length word ≤ position_or_len (is_byte byte) word
  by_place None p e = position_none (is_byte byte) word p
  by_place (Some i) p e = cc

-- ---- the parts of a list

pub parts-more : (list before after : List ℕ) → Some (before, after) ≡ cut comma list →
    slice_split (is_byte comma) list ≡ before ∷ slice_split (is_byte comma) after
parts-more list before after e =
    let t = cut-some comma list before after (sym e) in
    rw (t.first, t.rest) (slice_split_first (is_byte comma) list 0 t.inside)

pub parts-end : (list : List ℕ) → None ≡ cut comma list → slice_split (is_byte comma) list ≡ list ∷ []
parts-end list e = split_whole (is_byte comma) list (cut-none comma list (sym e))

pub ruleset list_parts = (parts-more, parts-end)

-- ---- frames on modules that rise

-- all modules are below this one
abbrev pub are_below : ℕ → List Frame → Bool
are_below low fs = list_all (λ f. ltb f.module low) fs

pub with_frame-last : (f : Frame) (fs : List Frame) → are_below f.module fs ≡ true → with_frame f fs ≡ fs ++ f ∷ []
with_frame-last f [] h = refl
with_frame-last f (g ∷ gs) h = grind (arith, nat_tests, with_frame-last f gs)

pub are_below-higher : (low high : ℕ) (fs : List Frame) → low ≤ high → are_below low fs ≡ true → are_below high fs ≡ true
are_below-higher low high [] k h = refl
are_below-higher low high (f ∷ fs) k h = grind (arith, nat_tests, are_below-higher low high fs)

are_below-push : (low : ℕ) (f : Frame) (fs : List Frame) → f.module < low → are_below low fs ≡ true → are_below low (fs ++ f ∷ []) ≡ true
are_below-push low f [] k h = grind (arith, nat_tests)
are_below-push low f (g ∷ gs) k h = grind (arith, nat_tests, are_below-push low f gs)

pub are_below-more : (low : ℕ) (f : Frame) (fs : List Frame) → low ≤ f.module → are_below low fs ≡ true →
    are_below (f.module + 1) (fs ++ f ∷ []) ≡ true
are_below-more low f fs k h = are_below-push (f.module + 1) f fs (omega arith) (are_below-higher low (f.module + 1) fs (omega (arith, k)) h)

-- a frame above all others comes last
pub with_frame-above : (low : ℕ) (f : Frame) (fs : List Frame) → low ≤ f.module → are_below low fs ≡ true → with_frame f fs ≡ fs ++ f ∷ []
with_frame-above low f fs k h = with_frame-last f fs (are_below-higher low f.module fs k h)

module _ (nodes frames low : ℕ) (seen : List Frame) where
  pub copies-end : copies_from nodes frames low seen [] ≡ Ok seen
  unfolding copies_from
  copies-end = refl

  module _ (list : List (List ℕ)) (part : List ℕ) (rest : List (List ℕ)) (is : list ≡ part ∷ rest) where
    pub copies-wrong : (why : Why) → Err why ≡ frame_of nodes frames part → copies_from nodes frames low seen list ≡ Err why
    unfolding copies_from
    copies-wrong why e = rw (is, ← e) refl

    pub copies-low : (f : Frame) → Ok f ≡ frame_of nodes frames part → f.module < low → copies_from nodes frames low seen list
        ≡ Err Expected
    unfolding copies_from
    copies-low f e k = let t : ltb f.module low ≡ true = grind (arith, nat_tests) in rw (is, ← e, t) refl

    pub copies-more : (f : Frame) → Ok f ≡ frame_of nodes frames part → low ≤ f.module
        → copies_from nodes frames low seen list ≡ copies_from nodes frames (f.module + 1) (seen ++ f ∷ []) rest
    unfolding copies_from
    copies-more f e k = let t : ltb f.module low ≡ false = grind (arith, nat_tests) in rw (is, ← e, t) refl

pub ruleset copies_steps = (copies-end, copies-wrong, copies-low, copies-more, with_frame-above, are_below-more)
