-- texts as lists of lines, a line being a list of words
use Rattle.std.specs.Prelude.{ℕ, List, [], ◌∷◌, ◌++◌}
use Rattle.std.specs.List.{flat_map}

-- the bytes of a line: its words with single spaces between them, and a line feed
abbrev pub line_bytes : List (List ℕ) → List ℕ
line_bytes [] = 10 ∷ []
line_bytes (w ∷ ws) = w ++ (flat_map (λ v. 32 ∷ v) ws ++ 10 ∷ [])

abbrev pub text_bytes : List (List (List ℕ)) → List ℕ
text_bytes lines = flat_map line_bytes lines
