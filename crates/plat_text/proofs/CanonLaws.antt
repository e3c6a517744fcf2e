-- a canonical text is not longer than a text with its word lists
use Rattle.std.proofs.Common.{◌≡◌, ℕ, ◌+◌, ◌<◌, ◌≤◌, Bool, true, false, cond, List, [], ◌∷◌, ◌++◌, length, refl}
use Rattle.std.proofs.Common.{arith, length-append}
use Rattle.std.specs.List.{AllByRecursion, slice_split, flat_map}
use Rattle.std.proofs.lemmas.Bool.{eqb-true}
use Rattle.std.proofs.lemmas.List.Splits.{length-slice_split}
use Rattle.plat_grammar.specs.Lines.{LineText, is_feed, is_empty, numbered, lines_of}
use Rattle.plat_base.specs.Text.{line_bytes, text_bytes}
use Rattle.plat_grammar.specs.Grammar.{IsClean, line_words, has_words, word_lists}
use Rattle.plat_text.proofs.SizeLemmas.{words_of-size, parts_size, split-size}

-- ---- the bytes of a canonical text

-- the bytes of lists of words, one more after each word
abbrev lists_size : List (List (List ℕ)) → ℕ
lists_size [] = 0
lists_size (l ∷ ls) = parts_size l + lists_size ls

abbrev AreLines : List (List (List ℕ)) → Type 0
AreLines lines = AllByRecursion (λ l. has_words l ≡ true) lines

others-size : (ws : List (List ℕ)) → length (flat_map (λ v. 32 ∷ v) ws) ≡ parts_size ws
others-size [] = refl
others-size (w ∷ ws) = omega (arith, length-append w (flat_map (λ v. 32 ∷ v) ws), others-size ws)

line-size : (l : List (List ℕ)) → has_words l ≡ true → length (line_bytes l) ≡ parts_size l
line-size [] h = cc
line-size (w ∷ ws) h = omega (
  arith,
  length-append w (flat_map (λ v. 32 ∷ v) ws ++ 10 ∷ []),
  length-append (flat_map (λ v. 32 ∷ v) ws) (10 ∷ []),
  others-size ws,
)

text_bytes-size : (lines : List (List (List ℕ))) → AreLines lines → length (text_bytes lines) ≡ lists_size lines
text_bytes-size [] h = refl
text_bytes-size (l ∷ ls) h = omega (arith, length-append (line_bytes l) (text_bytes ls), line-size l h.0, text_bytes-size ls h.1)

word_lists-are_lines : (ls : List LineText) → AreLines (word_lists ls)
word_lists-are_lines [] = tt
word_lists-are_lines (l ∷ ls) = by_test (has_words (line_words l)) refl (word_lists-are_lines ls) where
  by_test : (v : Bool) → has_words (line_words l) ≡ v → AreLines (word_lists ls) →
      AreLines (cond v (line_words l ∷ word_lists ls) (word_lists ls))
  by_test true t h = (t, h)
  by_test false t h = h

-- ---- and those of the text

-- the bytes of lines, one more after each
abbrev lines_size : List LineText → ℕ
lines_size [] = 0
lines_size (l ∷ ls) = length l.bytes + 1 + lines_size ls

lists-size-le : (ls : List LineText) → lists_size (word_lists ls) ≤ lines_size ls
lists-size-le [] = omega arith
lists-size-le (l ∷ ls) = by_test (has_words (line_words l)) (lists-size-le ls) where
  by_test : (v : Bool) → lists_size (word_lists ls) ≤ lines_size ls →
      lists_size (cond v (line_words l ∷ word_lists ls) (word_lists ls)) ≤ length l.bytes + 1 + lines_size ls
  by_test true h = omega (arith, h, words_of-size l.bytes)
  by_test false h = omega (arith, h)

ended-size : (n : ℕ) (ps : List (List ℕ)) → 0 < length ps → AllByRecursion IsClean (numbered n ps) →
    lines_size (numbered n ps) + 1 ≡ parts_size ps
ended-size n [] some h = absurd (omega arith)
ended-size n (p ∷ []) some h = by_test (is_empty p) refl h where
  by_test : (v : Bool) → is_empty p ≡ v → AllByRecursion IsClean (cond v [] (record { number = n; bytes = p; ended = false } ∷ []))
      → lines_size (cond v [] (record { number = n; bytes = p; ended = false } ∷ [])) + 1 ≡ length p + 1 + 0
  by_test true t h = omega (arith, eqb-true (length p) 0 t)
  by_test false t h = absurd (let e : false ≡ true = h.0.ended in cc)
ended-size n (p ∷ q ∷ ps) some h = omega (arith, ended-size (n + 1) (q ∷ ps) (omega arith) h.1)

pub canonical-le : (n : ℕ) (bytes : List ℕ) → AllByRecursion IsClean (lines_of n bytes) →
    length (text_bytes (word_lists (lines_of n bytes))) ≤ length bytes
unfolding lines_of
canonical-le n bytes h =
    let parts = slice_split is_feed bytes in
    omega (
      arith,
      text_bytes-size (word_lists (lines_of n bytes)) (word_lists-are_lines (lines_of n bytes)),
      lists-size-le (lines_of n bytes),
      ended-size n (slice_split is_feed bytes) (omega (arith, length-slice_split is_feed bytes)) h,
      split-size is_feed bytes,
    )
