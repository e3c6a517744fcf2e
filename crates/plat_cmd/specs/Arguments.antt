-- words that no reader of a command line takes for options
use Rattle.std.specs.Prelude.{ℕ, Bool, false, not, ◌&&◌, ◌==◌, nat_le, List, [], ◌∷◌, map, length}
use Rattle.std.specs.List.{list_all}
use Rattle.std.specs.Borrow.{Bor}

-- the bytes of each word
abbrev pub texts_of : List (Bor (List ℕ)) → List (List ℕ)
texts_of words = map (λ (w : Bor (List ℕ)). w.now) words

-- a word that is not empty and does not begin with a hyphen
abbrev pub is_plain : List ℕ → Bool
is_plain [] = false
is_plain (b ∷ bs) = not (b == 45)

-- one to three plain words
abbrev pub are_plain : List (List ℕ) → Bool
are_plain words = nat_le 1 (length words) && nat_le (length words) 3 && list_all is_plain words
