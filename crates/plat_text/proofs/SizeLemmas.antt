-- how many bytes the words of a line have, one more after each
use Rattle.std.proofs.Common.{◌≡◌, ℕ, suc, ◌+◌, ◌<◌, ◌≤◌, Bool, true, false, cond, List, [], ◌∷◌, length, refl, ap, arith, length-take}
use Rattle.std.specs.List.{slice_split, onto_first, filter, position_or_len}
use Rattle.std.proofs.lemmas.List.Splits.{length-slice_split}
use Rattle.plat_grammar.specs.Lines.{Word, is_space, is_hash, placed, has_bytes, words_at, words_of, uncommented, texts}

-- the bytes of parts, each with one more
abbrev pub parts_size : List (List ℕ) → ℕ
parts_size [] = 0
parts_size (p ∷ ps) = length p + 1 + parts_size ps

onto_first-size : (x : ℕ) (parts : List (List ℕ)) → 0 < length parts → parts_size (onto_first x parts) ≡ parts_size parts + 1
onto_first-size x [] h = absurd (omega arith)
onto_first-size x (p ∷ ps) h = omega arith

pub split-size : (p : ℕ → Bool) (xs : List ℕ) → parts_size (slice_split p xs) ≡ length xs + 1
split-size p [] = refl
split-size p (x ∷ xs) = elim (p x) as (λ v. parts_size (cond v ([] ∷ slice_split p xs) (onto_first x (slice_split p xs)))
    ≡ suc (length xs) + 1) [
      | true ↦ omega (arith, split-size p xs)
      | false ↦ omega (arith, onto_first-size x (slice_split p xs) (omega (arith, length-slice_split p xs)), split-size p xs)
    ]

placed-size : (c : ℕ) (ps : List (List ℕ)) → parts_size (texts (placed c ps)) ≡ parts_size ps
placed-size c [] = refl
placed-size c (p ∷ ps) = ap (λ k. length p + 1 + k) (placed-size (c + length p + 1) ps)

filter-size : (ws : List Word) → parts_size (texts (filter has_bytes ws)) ≤ parts_size (texts ws)
filter-size [] = omega arith
filter-size (w ∷ ws) = elim (has_bytes w) as
    (λ v. parts_size (texts (cond v (w ∷ filter has_bytes ws) (filter has_bytes ws))) ≤ parts_size (texts (w ∷ ws))) [
      | true ↦ omega (arith, filter-size ws)
      | false ↦ omega (arith, filter-size ws)
    ]

words_at-size : (c : ℕ) (bytes : List ℕ) → parts_size (texts (words_at c bytes)) ≤ length bytes + 1
unfolding words_at
words_at-size c bytes = omega (
  arith,
  filter-size (placed c (slice_split is_space bytes)),
  placed-size c (slice_split is_space bytes),
  split-size is_space bytes,
)

pub words_of-size : (line : List ℕ) → parts_size (texts (words_of line)) ≤ length line + 1
words_of-size line = omega (arith, words_at-size 1 (uncommented line), length-take (position_or_len is_hash line) line)
