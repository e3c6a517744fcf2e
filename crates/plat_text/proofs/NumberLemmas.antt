-- numbers and their one spelling
use Rattle.std.proofs.Common.{◌≡◌, ℕ, suc, zero, ◌+◌, ◌*◌, ◌^◌, ◌<◌, ◌≤◌, Bool, true, false, not, ◌&&◌, ◌||◌, cond, eqb, ltb, List, [], ◌∷◌}
use Rattle.std.proofs.Common.{length, drop, get_or, Ok, Err, ◌⊎◌, inl, inr, ⊎_elim, refl, ap, sym, ◌∙◌, arith, rules}
use Rattle.std.specs.List.{list_all}
use Rattle.std.specs.Char.{is_ascii_digit, digit_value}
use Rattle.std.specs.Str.Parse.{digits_value, digits_value_after}
use Rattle.std.specs.Fmt.{decimal}
use Rattle.std.proofs.lemmas.Str.Parse.{IsNumeralModel, numerals_by_value}
use Rattle.std.proofs.lemmas.Fmt.{decimal-digits_value, digits_decimal, digits_value-decimal, first_decimal, decimal_nonempty}
use Rattle.std.proofs.lemmas.Fmt.{decimal_digit}
use Rattle.std.proofs.lemmas.Bool.{and_parts, and_from, ltb-true}
use Rattle.plat_text.proofs.Results.{ok_is}
use Rattle.std.proofs.lemmas.Bool.Decides.{nat_tests}
use Rattle.std.proofs.lemmas.List.{at_drop_more, at_drop_all}
use Rattle.plat_grammar.specs.Lines.{is_spelling, number_of}
use Rattle.plat_base.specs.declared.faults.Why.TheVariants.{NotNumber, TooLarge}

-- ---- reading digit by digit

value_grows : (n : ℕ) (ds : List ℕ) → n ≤ digits_value_after 10 n ds
value_grows n [] = omega arith
value_grows n (c ∷ cs) = omega (arith, value_grows (n * 10 + digit_value c) cs)

number_of-small : (w : List ℕ) (n : ℕ) → is_spelling w ≡ true → digits_value 10 w ≡ n → n < 2 ^ 32 → number_of w ≡ Ok n
unfolding number_of
number_of-small w n e v small = let t : ltb n (2 ^ 32) ≡ true = grind (arith, nat_tests) in rw (e, v, t) refl

number_of-large : (w : List ℕ) → is_spelling w ≡ true → 2 ^ 32 ≤ digits_value 10 w → number_of w ≡ Err TooLarge
unfolding number_of
number_of-large w e large = let t : ltb (digits_value 10 w) (2 ^ 32) ≡ false = grind (arith, nat_tests) in rw (e, t) refl

-- the value after all digits
pub number_at_end : (w : List ℕ) (i n : ℕ) → is_spelling w ≡ true → length w ≤ i → digits_value_after 10 n (drop i w) ≡ digits_value 10 w →
    n < 2 ^ 32 → Ok n ≡ number_of w
number_at_end w i n e past v small = sym (number_of-small w n e (sym v ∙ at_drop_all (digits_value_after 10 n) w i past) small)

-- one digit more makes it too large
pub number_too_large : (w : List ℕ) (i n : ℕ) → is_spelling w ≡ true → i < length w → digits_value_after 10 n (drop i w)
    ≡ digits_value 10 w → 2 ^ 32 ≤ n * 10 + digit_value (get_or w i 0) → Err TooLarge ≡ number_of w
number_too_large w i n e inside v large =
    let step : digits_value_after 10 n (drop i w) ≡ digits_value_after 10 (n * 10 + digit_value (get_or w i 0)) (drop (i + 1) w) =
    at_drop_more (digits_value_after 10 n) w i 0 inside in
    sym (number_of-large w e (omega (arith, value_grows (n * 10 + digit_value (get_or w i 0)) (drop (i + 1) w), v, step, large)))

-- ---- the one spelling of a number

abbrev are_digits : List ℕ → Type 0
are_digits w = list_all is_ascii_digit w ≡ true

own : IsNumeralModel are_digits (digits_value 10)
own = numerals_by_value are_digits (search rules)

spelling_parts : (w : List ℕ) → is_spelling w ≡ true → (0 < length w) × are_digits w × (get_or w 0 0 ≡ 48 → length w ≡ 1)
spelling_parts w e =
    let last = and_parts (not (eqb (length w) 0) && list_all is_ascii_digit w) _ e in
    let first = and_parts (not (eqb (length w) 0)) _ last.0 in
    let e1 = first.0 in
    let e2 = last.1 in
    (grind (arith, nat_tests, e1), first.1, λ h. grind (arith, nat_tests, e2, h))

is_spelling-from : (w : List ℕ) → 0 < length w → are_digits w → (get_or w 0 0 ≡ 48 → length w ≡ 1) → is_spelling w ≡ true
is_spelling-from w some digits one =
    and_from _ _ (and_from _ _ (grind (arith, nat_tests, some)) digits) (first (length w) (get_or w 0 0) one) where
      first : (n b : ℕ) → (b ≡ 48 → n ≡ 1) → (eqb n 1 || not (eqb b 48)) ≡ true
      first n b h = grind (arith, nat_tests)

both_passed : (b c : Bool) (v n : ℕ) → cond b (cond c (Ok v) (Err TooLarge)) (Err NotNumber) ≡ Ok n → (b ≡ true) × (c ≡ true) × (v ≡ n)
both_passed true true v n e = (refl, refl, ok_is _ _ e)
both_passed true false v n e = cc
both_passed false c v n e = cc

pub number_of-takes : (w : List ℕ) (n : ℕ) → number_of w ≡ Ok n → (w ≡ decimal n) × (n < 2 ^ 32)
unfolding number_of
number_of-takes w n e =
    let both = both_passed (is_spelling w) (ltb (digits_value 10 w) (2 ^ 32)) (digits_value 10 w) n e in
    let parts = spelling_parts w both.0 in
    let bound : digits_value 10 w < 2 ^ 32 = ltb-true _ _ both.1 in
    (sym (decimal-digits_value own w parts.1 parts.0 parts.2 (omega (arith, bound))) ∙ ap decimal both.2, rw (← both.2) bound)

decimal_first : (n : ℕ) → n < 2 ^ 64 → get_or (decimal n) 0 0 ≡ 48 → length (decimal n) ≡ 1
decimal_first n h e =
    ⊎_elim (λ z. ap length (decimal_digit n (omega (arith, z))))
    (λ z. absurd (omega (arith, first_decimal n z h, e)))
    (zero_or n) where
      zero_or : (n : ℕ) → (n ≡ 0) ⊎ (0 < n)
      zero_or zero = inl refl
      zero_or (suc n) = inr (omega arith)

pub decimal-spelling : (n : ℕ) → n < 2 ^ 32 → is_spelling (decimal n) ≡ true
decimal-spelling n small =
    let h : n < 2 ^ 64 = omega (arith, small) in
    is_spelling-from (decimal n) (decimal_nonempty n h) (digits_decimal own n h) (decimal_first n h)

pub number_of-again : (n : ℕ) → n < 2 ^ 32 → number_of (decimal n) ≡ Ok n
number_of-again n small =
    let h : n < 2 ^ 64 = omega (arith, small) in
    number_of-small (decimal n) n (decimal-spelling n small) (digits_value-decimal own n h) small
