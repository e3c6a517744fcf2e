-- the spelling of a label's name
use Rattle.std.specs.Prelude.{ℕ, Bool, false, ◌&&◌, ◌||◌, ◌==◌, nat_le, List, [], ◌∷◌, length}
use Rattle.std.specs.List.{list_all}

abbrev pub is_small_letter : ℕ → Bool
is_small_letter b = nat_le 97 b && nat_le b 122

abbrev pub is_label_byte : ℕ → Bool
is_label_byte b = is_small_letter b || (nat_le 48 b && nat_le b 57) || b == 95

-- a letter a to z, then letters, digits and underscores, 32 bytes at most
abbrev pub is_label_name : List ℕ → Bool
is_label_name [] = false
is_label_name (b ∷ bs) = is_small_letter b && list_all is_label_byte bs && nat_le (length bs) 31
