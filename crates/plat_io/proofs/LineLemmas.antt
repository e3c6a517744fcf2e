-- lines of words that are written one after another
use Rattle.std.proofs.Common.{◌≡◌, ℕ, ◌+◌, ◌<◌, ◌≤◌, ◌||◌, Bool, List, [], ◌∷◌, ◌++◌, map, length, take, drop, get_or, Option, zero-add}
use Rattle.std.proofs.Common.{arith, refl, sym, ap, ◌∙◌}
use Rattle.std.specs.List.{flat_map, range_with_len}
use Rattle.std.specs.Fmt.{decimal}
use Rattle.std.proofs.lemmas.List.{append_assoc, append-nil, take-append-drop, take_all, take_more, drop_more, map-append}
use Rattle.std.proofs.lemmas.List.FromFn.{length-range_with_len, get_or-range_with_len}
use Rattle.std.proofs.lemmas.Grind.{flat_map-append, take_at_read}
use Rattle.plat_base.specs.Text.{line_bytes, text_bytes}
use Rattle.plat_io.specs.declared.lines.Word.{Word}
use Rattle.plat_io.specs.Streams.{added}
use Rattle.plat_io.specs.Adds.{is_part}
use Rattle.plat_io.specs.Lines.{spelling, text}
use Rattle.plat_io.proofs.Pieces.{pieces, added_append, added_none, is_part_append, drop_at_read}

-- ---- the words of one line

pub words_spelled : (words : List Word) → flat_map (λ v. 32 ∷ v) (map spelling words) ≡ flat_map (λ word. 32 ∷ spelling word) words
words_spelled [] = refl
words_spelled (w ∷ ws) = ap (λ (bytes : List ℕ). 32 ∷ (spelling w ++ bytes)) (words_spelled ws)

pub numbers_spelled : (numbers : List ℕ) → flat_map (λ v. 32 ∷ v) (map decimal numbers) ≡ flat_map (λ n. 32 ∷ decimal n) numbers
numbers_spelled [] = refl
numbers_spelled (n ∷ ns) = ap (λ (bytes : List ℕ). 32 ∷ (decimal n ++ bytes)) (numbers_spelled ns)

pub ruleset words_of_a_line = (pieces, words_spelled, numbers_spelled, flat_map-append, append_assoc)

-- ---- the lines of a text

abbrev Words : Type 0
Words = List (List ℕ)

pub text_is : (lines : List Words) → text lines ≡ text_bytes lines
unfolding text
text_is lines = refl

pub text_line : (l : Words) → text (l ∷ []) ≡ line_bytes l
unfolding text
text_line l = append-nil (line_bytes l)

pub ruleset written_lines = (text_line, append-nil)

text-append : (ls ms : List Words) → text (ls ++ ms) ≡ text ls ++ text ms
unfolding text
text-append ls ms = flat_map-append line_bytes ls ms

pub added_lines : (held : Option (List ℕ)) (ls ms : List Words) → added held (text (ls ++ ms)) ≡ added (added held (text ls)) (text ms)
added_lines held ls ms = ap (added held) (text-append ls ms) ∙ added_append held (text ls) (text ms)

pub added_line : (held : Option (List ℕ)) (l : Words) (ls : List Words) →
    added held (text (l ∷ ls)) ≡ added (added held (text (l ∷ []))) (text ls)
added_line held l ls = added_lines held (l ∷ []) ls

pub added_no_line : (held : Option (List ℕ)) → added held (text []) ≡ held
unfolding text
added_no_line held = added_none held

pub is_part_lines : (held : Option (List ℕ)) (ls ms : List Words) (now : Option (List ℕ)) → is_part held (text (ls ++ ms)) now
    ≡ (is_part held (text ls) now || is_part (added held (text ls)) (text ms) now)
is_part_lines held ls ms now = rw text-append (is_part_append held (text ls) (text ms) now)

pub is_part_line : (held : Option (List ℕ)) (l : Words) (ls : List Words) (now : Option (List ℕ)) →
    is_part held (text (l ∷ ls)) now ≡ (is_part held (text (l ∷ [])) now || is_part (added held (text (l ∷ []))) (text ls) now)
is_part_line held l ls now = is_part_lines held (l ∷ []) ls now

pub ruleset lines = (added_lines, added_line, added_no_line, is_part_lines, is_part_line)

-- ---- lines that are written in a loop

pub flat_map_cut : {X : Type 0} (f : X → List Words) (xs : List X) (i : ℕ) → (flat_map f (take i xs) ≡ flat_map f (take i xs))
    × (flat_map f xs ≡ flat_map f (take i xs) ++ flat_map f (drop i xs))
flat_map_cut {X} f xs i = (refl, ap (flat_map f) (sym (take-append-drop i xs)) ∙ flat_map-append f (take i xs) (drop i xs))

pub map_cut : {X : Type 0} (f : X → Words) (xs : List X) (i : ℕ) → (map f (take i xs) ≡ map f (take i xs))
    × (map f xs ≡ map f (take i xs) ++ map f (drop i xs))
map_cut {X} f xs i = (refl, ap (map f) (sym (take-append-drop i xs)) ∙ map-append f (take i xs) (drop i xs))

pub ruleset looped_lines = (lines, flat_map_cut, map_cut, flat_map-append, map-append, append-nil, take_at_read, drop_at_read, take_all)

-- ---- lines that are written in a loop that counts up from 0

pub range_at : (n q : ℕ) → q < n → (take q (range_with_len 0 n) ≡ take q (range_with_len 0 n))
    × (take (q + 1) (range_with_len 0 n) ≡ take q (range_with_len 0 n) ++ q ∷ [])
    × (drop q (range_with_len 0 n) ≡ q ∷ drop (q + 1) (range_with_len 0 n))
range_at n q h =
    let here : get_or (range_with_len 0 n) q 0 ≡ q = get_or-range_with_len 0 n q 0 h ∙ zero-add q in
    let within : q < length (range_with_len 0 n) = omega (arith, length-range_with_len 0 n) in (
      refl,
      take_more (range_with_len 0 n) q 0 within ∙ ap (λ (x : ℕ). take q (range_with_len 0 n) ++ x ∷ []) here,
      drop_more (range_with_len 0 n) q 0 within ∙ ap (λ (x : ℕ). x ∷ drop (q + 1) (range_with_len 0 n)) here,
    )

pub take_range : (n q : ℕ) → n ≤ q → take q (range_with_len 0 n) ≡ range_with_len 0 n
take_range n q h = take_all q (range_with_len 0 n) (omega (arith, length-range_with_len 0 n))

pub ruleset counted_lines = (lines, flat_map_cut, map_cut, flat_map-append, map-append, append-nil, range_at, take_range)
