-- lines, words and numbers of a text, with their places
use Rattle.std.specs.Prelude.{ℕ, ◌+◌, ◌^◌, ◌==◌, nat_lt, Bool, true, false, not, ◌&&◌, ◌||◌, if◌then◌else◌, List, [], ◌∷◌, length, filter}
use Rattle.std.specs.Prelude.{map, slice_index, Result, Ok, Err}
use Rattle.std.specs.List.{slice_split, before_first, list_all}
use Rattle.std.specs.Char.{is_ascii_digit}
use Rattle.std.specs.Str.Parse.{digits_value}
use Rattle.plat_base.specs.declared.faults.Why.{Why}
use Rattle.plat_base.specs.declared.faults.Why.TheVariants.{NotNumber, TooLarge}

-- a line: its number, its bytes without the line feed, and whether a line feed ends it
pub record LineText : Type 0 where
  pub number : ℕ
  pub bytes : List ℕ
  pub ended : Bool

-- a word: the column of its first byte, counted from 1, and its bytes
pub record Word : Type 0 where
  pub column : ℕ
  pub bytes : List ℕ

abbrev pub is_feed : ℕ → Bool
is_feed b = b == 10

abbrev pub is_hash : ℕ → Bool
is_hash b = b == 35

abbrev pub is_space : ℕ → Bool
is_space b = b == 32

abbrev pub is_empty : List ℕ → Bool
is_empty bytes = length bytes == 0

-- the parts between line feeds as lines, counted from n; what stands after the last line feed is an unended line
abbrev pub numbered : ℕ → List (List ℕ) → List LineText
numbered n [] = []
numbered n (p ∷ []) = if is_empty p then [] else record { number = n; bytes = p; ended = false } ∷ []
numbered n (p ∷ q ∷ ps) = record { number = n; bytes = p; ended = true } ∷ numbered (n + 1) (q ∷ ps)

-- the lines of a text whose first line has number n
unfoldable pub lines_of : ℕ → List ℕ → List LineText
lines_of n bytes = numbered n (slice_split is_feed bytes)

-- a line before its comment
abbrev pub uncommented : List ℕ → List ℕ
uncommented line = before_first is_hash line

-- the parts between spaces with their columns, from column c on
abbrev pub placed : ℕ → List (List ℕ) → List Word
placed c [] = []
placed c (p ∷ ps) = record { column = c; bytes = p } ∷ placed (c + length p + 1) ps

abbrev pub has_bytes : Word → Bool
has_bytes w = not (is_empty w.bytes)

-- the words of bytes that stand from column c on
unfoldable pub words_at : ℕ → List ℕ → List Word
words_at c bytes = filter has_bytes (placed c (slice_split is_space bytes))

-- the words of a line
abbrev pub words_of : List ℕ → List Word
words_of line = words_at 1 (uncommented line)

-- words without their places
abbrev pub texts : List Word → List (List ℕ)
texts words = map (λ w. w.bytes) words

-- a number's spelling: 0, or a digit 1 to 9 followed by digits
abbrev pub is_spelling : List ℕ → Bool
is_spelling word = not (is_empty word) && list_all is_ascii_digit word && (length word == 1 || not (slice_index word 0 == 48))

-- the number of 32 bits that a word spells
unfoldable pub number_of : List ℕ → Result ℕ Why
number_of word =
    if is_spelling word
    then (if nat_lt (digits_value 10 word) (2 ^ 32) then Ok (digits_value 10 word) else Err TooLarge)
    else Err NotNumber
