-- a guest's lines as one list of instructions and labels
use Rattle.std.proofs.Common.{◌≡◌, ℕ, suc, ◌+◌, ◌-◌, ◌≤◌, true, List, [], ◌∷◌, ◌++◌, length, map, take}
use Rattle.std.proofs.Common.{drop, refl, ap, sym, ◌∙◌, subst, arith, length-take, length-drop}
use Rattle.std.proofs.lemmas.Bool.{and_parts, and_from}
use Rattle.std.proofs.lemmas.List.{take-append-drop}
use Rattle.plat_base.specs.Machine.{is_within, labels_rise}
use Rattle.plat_base.specs.Canon.{Words, label_words, with_labels}
use Rattle.plat_base.specs.declared.guests.Label.{Label}
use Rattle.plat_text.proofs.WordLaws.{is_within-true, is_within-from}

-- a line of a guest: an instruction, or a label
pub data Mark (C : Type 0) : Type 0 where
  does : (c : C) → Mark C
  place : (l : Label) → Mark C

-- the first label does not stand before this position
abbrev BeginsFrom : ℕ → List Label → Type 0
BeginsFrom i [] = Unit {0}
BeginsFrom i (l ∷ ls) = i ≤ l.at

begins_sooner : (i : ℕ) (ls : List Label) → BeginsFrom (i + 1) ls → BeginsFrom i ls
begins_sooner i [] h = tt
begins_sooner i (l ∷ ls) h = omega (arith, h)

with_labels-code : (i : ℕ) (x : Words) (code : List Words) (ls : List Label) → BeginsFrom (i + 1) ls →
    with_labels i (x ∷ code) ls ≡ x ∷ with_labels (i + 1) code ls
with_labels-code i x code [] h = refl
with_labels-code i x code (l ∷ ls) h =
    let gap : l.at - i ≡ suc (l.at - (i + 1)) = omega (arith, h) in
    rw gap refl

with_labels-place : (i : ℕ) (code : List Words) (l : Label) (ls : List Label) → l.at ≡ i →
    with_labels i code (l ∷ ls) ≡ label_words l ∷ with_labels i code ls
with_labels-place i code l ls h =
    let gap : l.at - i ≡ 0 = omega (arith, h) in
    rw gap (ap (λ k. label_words l ∷ with_labels k code ls) h)

module _ {C : Type 0} where
  abbrev pub codes_of : List (Mark C) → List C
  codes_of [] = []
  codes_of (does c ∷ ms) = c ∷ codes_of ms
  codes_of (place l ∷ ms) = codes_of ms

  abbrev pub places_of : List (Mark C) → List Label
  places_of [] = []
  places_of (does c ∷ ms) = places_of ms
  places_of (place l ∷ ms) = l ∷ places_of ms

  abbrev pub mark_words : (C → Words) → Mark C → Words
  mark_words words (does c) = words c
  mark_words words (place l) = label_words l

  -- each label has the number of the instructions before it, of which there were so many at the start
  abbrev pub AreInOrder : ℕ → List (Mark C) → Type 0
  AreInOrder i [] = Unit {0}
  AreInOrder i (does c ∷ ms) = AreInOrder (i + 1) ms
  AreInOrder i (place l ∷ ms) = (l.at ≡ i) × AreInOrder i ms

  places-begin : (i : ℕ) (ms : List (Mark C)) → AreInOrder i ms → BeginsFrom i (places_of ms)
  places-begin i [] h = tt
  places-begin i (does c ∷ ms) h = begins_sooner i (places_of ms) (places-begin (i + 1) ms h)
  places-begin i (place l ∷ ms) h = omega (arith, h.0)

  -- the canonical lines of instructions and labels
  pub with_labels-marks : (words : C → Words) (i : ℕ) (ms : List (Mark C)) → AreInOrder i ms →
      with_labels i (map words (codes_of ms)) (places_of ms) ≡ map (mark_words words) ms
  with_labels-marks words i [] h = refl
  with_labels-marks words i (does c ∷ ms) h =
      with_labels-code i (words c) (map words (codes_of ms)) (places_of ms) (places-begin (i + 1) ms h)
      ∙ ap (λ k. words c ∷ k) (with_labels-marks words (i + 1) ms h)
  with_labels-marks words i (place l ∷ ms) h =
      with_labels-place i (map words (codes_of ms)) l (places_of ms) h.0 ∙ ap (λ k. label_words l ∷ k) (with_labels-marks words i ms h.1)

  pub rise-marks : (low i high : ℕ) (ms : List (Mark C)) → AreInOrder i ms → low ≤ i → i + length (codes_of ms) ≤ high →
      labels_rise low high (places_of ms) ≡ true
  rise-marks low i high [] h a b = refl
  rise-marks low i high (does c ∷ ms) h a b = rise-marks low (i + 1) high ms h (omega (arith, a)) (omega (arith, b))
  rise-marks low i high (place l ∷ ms) h a b =
      and_from (is_within low high l.at) (labels_rise l.at high (places_of ms))
      (is_within-from low high l.at (omega (arith, h.0, a)) (omega (arith, h.0, b)))
      (rise-marks l.at i high ms h.1 (omega (arith, h.0)) b)

  -- ---- the lines of instructions and labels

  abbrev pub marks_of : ℕ → List C → List Label → List (Mark C)
  marks_of i code [] = map does code
  marks_of i code (l ∷ ls) = map does (take (l.at - i) code) ++ place l ∷ marks_of l.at (drop (l.at - i) code) ls

  codes-does : (xs : List C) (ms : List (Mark C)) → codes_of (map does xs ++ ms) ≡ xs ++ codes_of ms
  codes-does [] ms = refl
  codes-does (x ∷ xs) ms = ap (λ k. x ∷ k) (codes-does xs ms)

  places-does : (xs : List C) (ms : List (Mark C)) → places_of (map does xs ++ ms) ≡ places_of ms
  places-does [] ms = refl
  places-does (x ∷ xs) ms = places-does xs ms

  codes-all : (xs : List C) → codes_of (map does xs) ≡ xs
  codes-all [] = refl
  codes-all (x ∷ xs) = ap (λ k. x ∷ k) (codes-all xs)

  places-all : (xs : List C) → places_of (map does xs) ≡ []
  places-all [] = refl
  places-all (x ∷ xs) = places-all xs

  in_order-does : (i : ℕ) (xs : List C) (ms : List (Mark C)) → AreInOrder (i + length xs) ms → AreInOrder i (map does xs ++ ms)
  in_order-does i [] ms h = let e : i + 0 ≡ i = omega arith in subst (λ k. AreInOrder k ms) e h
  in_order-does i (x ∷ xs) ms h = let e : i + suc (length xs) ≡ i + 1 + length xs = omega arith in
      in_order-does (i + 1) xs ms (subst (λ k. AreInOrder k ms) e h)

  in_order-all : (i : ℕ) (xs : List C) → AreInOrder i (map does xs)
  in_order-all i [] = tt
  in_order-all i (x ∷ xs) = in_order-all (i + 1) xs

  pub codes-marks : (i : ℕ) (code : List C) (ls : List Label) → codes_of (marks_of i code ls) ≡ code
  codes-marks i code [] = codes-all code
  codes-marks i code (l ∷ ls) =
      codes-does (take (l.at - i) code) (place l ∷ marks_of l.at (drop (l.at - i) code) ls)
      ∙ ap (λ k. take (l.at - i) code ++ k) (codes-marks l.at (drop (l.at - i) code) ls) ∙ take-append-drop (l.at - i) code

  pub places-marks : (i : ℕ) (code : List C) (ls : List Label) → places_of (marks_of i code ls) ≡ ls
  places-marks i code [] = places-all code
  places-marks i code (l ∷ ls) =
      places-does (take (l.at - i) code) (place l ∷ marks_of l.at (drop (l.at - i) code) ls)
      ∙ ap (λ k. l ∷ k) (places-marks l.at (drop (l.at - i) code) ls)

  pub in_order-marks : (i : ℕ) (code : List C) (ls : List Label) → labels_rise i (i + length code) ls ≡ true →
      AreInOrder i (marks_of i code ls)
  in_order-marks i code [] h = in_order-all i code
  in_order-marks i code (l ∷ ls) h =
      let parts = and_parts (is_within i (i + length code) l.at) (labels_rise l.at (i + length code) ls) h in
      let within = is_within-true i (i + length code) l.at parts.0 in
      let taken : i + length (take (l.at - i) code) ≡ l.at = omega (arith, length-take (l.at - i) code, within) in
      let left : l.at + length (drop (l.at - i) code) ≡ i + length code = omega (arith, length-drop (l.at - i) code, within) in
      in_order-does i (take (l.at - i) code) (place l ∷ marks_of l.at (drop (l.at - i) code) ls) (
        sym taken,
        subst (λ k. AreInOrder k (marks_of l.at (drop (l.at - i) code) ls)) (sym taken)
            (in_order-marks l.at (drop (l.at - i) code) ls (subst (λ k. labels_rise l.at k ls ≡ true) (sym left) parts.1)),
      )
