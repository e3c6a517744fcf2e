use Rattle.std.proofs.Common.{◌≡◌, ◌<◌, ◌^◌, true, drop}
use Rattle.std.specs.List.{list_all}
use Rattle.std.specs.Char.{is_ascii_digit}
use Rattle.std.specs.Str.Parse.{digits_value, digits_value_after}
use Rattle.plat_grammar.specs.Lines.{is_spelling}
use Rattle.plat_text.proofs.numbers.read_u32.Given as goal

-- the digits that are left go on from the value so far
abbrev pub invariant-loop-digit : goal.invariant-loop-digit
invariant-loop-digit l =
    (l.value < 2 ^ 32)
    × (is_spelling l.word ≡ true)
    × (list_all is_ascii_digit (drop l.digit-index l.word) ≡ true)
    × (digits_value_after 10 l.value (drop l.digit-index l.word) ≡ digits_value 10 l.word)
