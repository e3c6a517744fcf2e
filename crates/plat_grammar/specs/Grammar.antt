-- machine texts: the relation between bytes and the machine that they describe
use Rattle.std.specs.Prelude.{◌≡◌, ℕ, ◌+◌, ◌≤◌, ◌==◌, Bool, true, not, List, [], ◌∷◌, ◌++◌, length, map, filter, IsTrue}
use Rattle.std.specs.List.{AllByRecursion}
use Rattle.plat_grammar.specs.Lines.{LineText, lines_of, uncommented, words_of, texts}
use Rattle.plat_base.specs.Machine.{Machine, is_machine}
use Rattle.plat_base.specs.Canon.{canon, most_bytes}

-- a machine within the limits of a machine text, whose labels' names are spelled as names
abbrev pub IsMachine : Machine → Type 0
IsMachine m = IsTrue (is_machine m)

-- a line is ended, and has no byte outside comments but 0x20 to 0x7E
pub record IsClean (l : LineText) : Type 0 where
  pub ended : l.ended ≡ true
  pub bytes : AllByRecursion (λ b. (32 ≤ b) × (b ≤ 126)) (uncommented l.bytes)

-- the words of a line
abbrev pub line_words : LineText → List (List ℕ)
line_words l = texts (words_of l.bytes)

abbrev pub has_words : List (List ℕ) → Bool
has_words words = not (length words == 0)

-- the word lists of lines, without the empty ones
abbrev pub word_lists : List LineText → List (List (List ℕ))
word_lists lines = filter has_words (map line_words lines)

-- the bytes are a text of the machine
pub record IsTextOf (bytes : List ℕ) (m : Machine) : Type 0 where
  pub size : length bytes ≤ most_bytes
  pub clean : AllByRecursion IsClean (lines_of 1 bytes)
  pub words : word_lists (lines_of 1 bytes) ≡ canon m

-- the first lines of a longer text, whose first line has this number, are a text of the machine, its size aside; the
-- last of them has words, and the line after it has the number next
pub record IsFrontOf (first : ℕ) (bytes : List ℕ) (m : Machine) (next : ℕ) : Type 0 where
  pub before : List LineText
  pub last : LineText
  pub after : List LineText
  pub parts : lines_of first bytes ≡ before ++ last ∷ after
  pub clean : AllByRecursion IsClean (before ++ last ∷ [])
  pub words : word_lists before ++ line_words last ∷ [] ≡ canon m
  pub number : next ≡ last.number + 1
