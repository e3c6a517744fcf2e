-- the bytes of lines of plain words are read as these lines again
use Rattle.std.proofs.Common.{◌≡◌, ℕ, zero, suc, ◌+◌, ◌^◌, ◌<◌, ◌≤◌, Bool, true, false, not, ◌&&◌, eqb, leb, List, [], ◌∷◌, ◌++◌, length}
use Rattle.std.proofs.Common.{take, drop, refl, ap, ◌∙◌, arith, append_assoc, append-nil, take_all}
use Rattle.std.specs.List.{AllByRecursion, list_all, slice_split, onto_first, flat_map, filter, position_or_len}
use Rattle.std.specs.Char.{is_ascii_digit}
use Rattle.std.specs.Fmt.{decimal}
use Rattle.std.proofs.Math.Dec.{eqb-suc-zero}
use Rattle.std.proofs.lemmas.Bool.{and_parts, and_from, not-true, not_from_false}
use Rattle.std.proofs.lemmas.Bool.Decides.{nat_tests}
use Rattle.std.proofs.lemmas.List.Splits.{slice_split-cons_yes, slice_split-cons_no, length-slice_split}
use Rattle.plat_grammar.specs.Lines.{LineText, is_feed, is_space, is_hash, is_empty, lines_of, numbered, uncommented, placed, has_bytes}
use Rattle.plat_grammar.specs.Lines.{words_at, texts}
use Rattle.plat_base.specs.Text.{text_bytes}
use Rattle.plat_base.specs.Labels.{is_label_byte, is_small_letter, is_label_name}
use Rattle.plat_grammar.specs.Grammar.{IsClean, line_words, has_words, word_lists}
use Rattle.plat_text.proofs.LineLemmas.{numbered-more, lines_of-nil}
use Rattle.plat_text.proofs.NumberLemmas.{decimal-spelling}
use Rattle.plat_base.proofs.ListLemmas.{all-passed}

-- ---- all elements of a list

pub all-append : {A : Type 0} (P : A → Type 0) (xs ys : List A) → AllByRecursion P xs → AllByRecursion P ys → AllByRecursion P (xs ++ ys)
all-append P [] ys h g = g
all-append P (x ∷ xs) ys h g = (h.0, all-append P xs ys h.1 g)

pub all-take : {A : Type 0} (P : A → Type 0) (n : ℕ) (xs : List A) → AllByRecursion P xs → AllByRecursion P (take n xs)
all-take P zero xs h = tt
all-take P (suc n) [] h = tt
all-take P (suc n) (x ∷ xs) h = (h.0, all-take P n xs h.1)

pub all-drop : {A : Type 0} (P : A → Type 0) (n : ℕ) (xs : List A) → AllByRecursion P xs → AllByRecursion P (drop n xs)
all-drop P zero xs h = h
all-drop P (suc n) [] h = tt
all-drop P (suc n) (x ∷ xs) h = all-drop P n xs h.1

pub all-each : {A : Type 0} {P Q : A → Type 0} → ((x : A) → P x → Q x) → (xs : List A) → AllByRecursion P xs → AllByRecursion Q xs
all-each f [] h = tt
all-each f (x ∷ xs) h = (f x h.0, all-each f xs h.1)

tests-follow : {A : Type 0} (p q : A → Bool) → ((x : A) → p x ≡ true → q x ≡ true) → (xs : List A) → list_all p xs ≡ true →
    list_all q xs ≡ true
tests-follow p q f [] h = refl
tests-follow p q f (x ∷ xs) h = let parts = and_parts (p x) (list_all p xs) h in
    and_from (q x) (list_all q xs) (f x parts.0) (tests-follow p q f xs parts.1)

-- ---- plain words: they have bytes, and each is printable and neither a space nor a #

abbrev pub is_plain : ℕ → Bool
is_plain b = leb 33 b && leb b 126 && not (eqb b 35)

abbrev pub is_plain_word : List ℕ → Bool
is_plain_word w = not (is_empty w) && list_all is_plain w

abbrev pub IsPlain : List ℕ → Type 0
IsPlain w = is_plain_word w ≡ true

-- a line that has words, all of them plain
abbrev pub IsPlainLine : List (List ℕ) → Type 0
IsPlainLine l = (has_words l ≡ true) × AllByRecursion IsPlain l

some_bytes : (b : ℕ) (bs : List ℕ) → not (is_empty (b ∷ bs)) ≡ true
some_bytes b bs = not_from_false _ (eqb-suc-zero (length bs))

pub plain-cons : (b : ℕ) (bs : List ℕ) → is_plain b ≡ true → list_all is_plain bs ≡ true → IsPlain (b ∷ bs)
plain-cons b bs h g = and_from _ _ (some_bytes b bs) (and_from _ _ h g)

plain-digit : (b : ℕ) → is_ascii_digit b ≡ true → is_plain b ≡ true
plain-digit b e = grind (arith, nat_tests, e)

plain-label_byte : (b : ℕ) → is_label_byte b ≡ true → is_plain b ≡ true
plain-label_byte b e = grind (arith, nat_tests, e)

plain-letter : (b : ℕ) → is_small_letter b ≡ true → is_plain b ≡ true
plain-letter b e = grind (arith, nat_tests, e)

pub decimal-digits : (n : ℕ) → n < 2 ^ 32 → list_all is_plain (decimal n) ≡ true
decimal-digits n h =
    let first = and_parts _ _ (decimal-spelling n h) in
    tests-follow is_ascii_digit is_plain plain-digit (decimal n) (and_parts _ _ first.0).1

pub decimal-plain : (n : ℕ) → n < 2 ^ 32 → IsPlain (decimal n)
decimal-plain n h =
    let first = and_parts _ _ (decimal-spelling n h) in
    and_from _ _ (and_parts _ _ first.0).0 (decimal-digits n h)

pub label_name-plain : (w : List ℕ) → is_label_name w ≡ true → IsPlain w
label_name-plain [] e = cc
label_name-plain (b ∷ bs) e =
    let first = and_parts _ _ e in
    let parts = and_parts _ _ first.0 in
    plain-cons b bs (plain-letter b parts.0) (tests-follow is_label_byte is_plain plain-label_byte bs parts.1)

-- ---- the bytes of a line of plain words

-- a byte of such a line, the line feed aside
abbrev InLine : ℕ → Type 0
InLine b = (32 ≤ b) × (b ≤ 126) × (eqb b 35 ≡ false)

plain-in_line : (b : ℕ) → is_plain b ≡ true → InLine b
plain-in_line b e = (grind (arith, nat_tests, e), grind (arith, nat_tests, e), grind (arith, nat_tests, e))

plain-no_space : (b : ℕ) → is_plain b ≡ true → is_space b ≡ false
plain-no_space b e = grind (arith, nat_tests, e)

in_line-no_feed : (b : ℕ) → InLine b → is_feed b ≡ false
in_line-no_feed b h = let low = h.0 in grind (arith, nat_tests, low)

bytes_of : (w : List ℕ) → IsPlain w → list_all is_plain w ≡ true
bytes_of w h = (and_parts (not (is_empty w)) (list_all is_plain w) h).1

nonempty : (w : List ℕ) → IsPlain w → is_empty w ≡ false
nonempty w h = not-true (is_empty w) (and_parts (not (is_empty w)) (list_all is_plain w) h).0

-- the words after the first, each with a space before it
abbrev more_words : List (List ℕ) → List ℕ
more_words ws = flat_map (λ v. 32 ∷ v) ws

more-in_line : (ws : List (List ℕ)) → AllByRecursion IsPlain ws → AllByRecursion InLine (more_words ws)
more-in_line [] h = tt
more-in_line (w ∷ ws) h = (
  (omega arith, omega arith, refl),
  all-append InLine w (more_words ws) (all-passed is_plain plain-in_line w (bytes_of w h.0)) (more-in_line ws h.1),
)

words-in_line : (w : List ℕ) (ws : List (List ℕ)) → IsPlain w → AllByRecursion IsPlain ws → AllByRecursion InLine (w ++ more_words ws)
words-in_line w ws h hs = all-append InLine w (more_words ws) (all-passed is_plain plain-in_line w (bytes_of w h)) (more-in_line ws hs)

-- ---- cutting at a byte

split_front : (p : ℕ → Bool) (xs : List ℕ) (y : ℕ) (ys : List ℕ) → AllByRecursion (λ x. p x ≡ false) xs → p y ≡ true →
    slice_split p (xs ++ y ∷ ys) ≡ xs ∷ slice_split p ys
split_front p [] y ys h e = slice_split-cons_yes p y ys e
split_front p (x ∷ xs) y ys h e = slice_split-cons_no p x (xs ++ y ∷ ys) h.0 ∙ ap (onto_first x) (split_front p xs y ys h.1 e)

split_none : (p : ℕ → Bool) (xs : List ℕ) → AllByRecursion (λ x. p x ≡ false) xs → slice_split p xs ≡ xs ∷ []
split_none p [] h = refl
split_none p (x ∷ xs) h = slice_split-cons_no p x xs h.0 ∙ ap (onto_first x) (split_none p xs h.1)

-- ---- words

no_spaces : (w : List ℕ) → IsPlain w → AllByRecursion (λ b. is_space b ≡ false) w
no_spaces w h = all-passed is_plain plain-no_space w (bytes_of w h)

first_kept : (c : ℕ) (w : List ℕ) (parts : List (List ℕ)) → IsPlain w → texts (filter has_bytes (placed c (w ∷ parts)))
    ≡ w ∷ texts (filter has_bytes (placed (c + length w + 1) parts))
first_kept c w parts h = rw (nonempty w h) refl

words-again : (c : ℕ) (w : List ℕ) (ws : List (List ℕ)) → IsPlain w → AllByRecursion IsPlain ws → texts (words_at c (w ++ more_words ws))
    ≡ w ∷ ws
unfolding words_at
words-again c w [] h hs =
    ap (λ k. texts (filter has_bytes (placed c (slice_split is_space k)))) (append-nil w)
    ∙ ap (λ k. texts (filter has_bytes (placed c k))) (split_none is_space w (no_spaces w h))
    ∙ first_kept c w [] h
words-again c w (v ∷ vs) h hs =
    ap (λ k. texts (filter has_bytes (placed c k))) (split_front is_space w 32 (v ++ more_words vs) (no_spaces w h) refl)
    ∙ first_kept c w (slice_split is_space (v ++ more_words vs)) h
    ∙ ap (λ k. w ∷ k) (words-again (c + length w + 1) v vs hs.0 hs.1)

-- ---- comments

no_hash : (line : List ℕ) → AllByRecursion InLine line → length line ≤ position_or_len is_hash line
no_hash [] h = omega arith
no_hash (b ∷ bs) h = rw h.0.2 (omega (arith, no_hash bs h.1))

uncommented-whole : (line : List ℕ) → AllByRecursion InLine line → uncommented line ≡ line
uncommented-whole line h = take_all (position_or_len is_hash line) line (no_hash line h)

-- ---- lines

line-front : (n : ℕ) (line rest : List ℕ) → AllByRecursion InLine line →
    lines_of n (line ++ 10 ∷ rest) ≡ record { number = n; bytes = line; ended = true } ∷ lines_of (n + 1) rest
unfolding lines_of
line-front n line rest h =
    ap (numbered n) (split_front is_feed line 10 rest (all-each in_line-no_feed line h) refl)
    ∙ numbered-more n line (slice_split is_feed rest) (omega (arith, length-slice_split is_feed rest))

first_line : (w : List ℕ) (ws : List (List ℕ)) (ls : List (List (List ℕ))) →
    text_bytes ((w ∷ ws) ∷ ls) ≡ (w ++ more_words ws) ++ 10 ∷ text_bytes ls
first_line w ws ls = joined w (more_words ws) (text_bytes ls) where
  joined : (a b c : List ℕ) → (a ++ (b ++ 10 ∷ [])) ++ c ≡ (a ++ b) ++ 10 ∷ c
  joined a b c = simp append_assoc

abbrev full_line : ℕ → List ℕ → LineText
full_line n line = record { number = n; bytes = line; ended = true }

printed : (b : ℕ) → InLine b → (32 ≤ b) × (b ≤ 126)
printed b h = (h.0, h.1)

clean_line : (n : ℕ) (line : List ℕ) → AllByRecursion InLine line → IsClean (full_line n line)
clean_line n line h = record { ended = refl; bytes = rw (uncommented-whole line h) (all-each printed line h) }

full_line-words : (n : ℕ) (w : List ℕ) (ws : List (List ℕ)) → IsPlain w → AllByRecursion IsPlain ws →
    line_words (full_line n (w ++ more_words ws)) ≡ w ∷ ws
full_line-words n w ws h hs = ap (λ k. texts (words_at 1 k)) (uncommented-whole (w ++ more_words ws) (words-in_line w ws h hs))
    ∙ words-again 1 w ws h hs

pub record AreAgain (read : List LineText) (lines : List (List (List ℕ))) : Type 0 where
  pub clean : AllByRecursion IsClean read
  pub words : word_lists read ≡ lines

pub lines-again : (n : ℕ) (ls : List (List (List ℕ))) → AllByRecursion IsPlainLine ls → AreAgain (lines_of n (text_bytes ls)) ls
lines-again n [] h = rw (lines_of-nil n) (record { clean = tt; words = refl })
lines-again n ([] ∷ ls) h = absurd (let e : false ≡ true = h.0.0 in cc)
lines-again n ((w ∷ ws) ∷ ls) h =
    let plain = h.0.1 in
    let line : List ℕ = w ++ more_words ws in
    let whole : AllByRecursion InLine line = words-in_line w ws plain.0 plain.1 in
    let cut : lines_of n (text_bytes ((w ∷ ws) ∷ ls)) ≡ full_line n line ∷ lines_of (n + 1) (text_bytes ls) =
    ap (lines_of n) (first_line w ws ls) ∙ line-front n line (text_bytes ls) whole in
    let others = lines-again (n + 1) ls h.1 in
    rw cut (record {
      clean = (clean_line n line whole, others.clean);
      words = rw (full_line-words n w ws plain.0 plain.1, h.0.0) (ap (λ k. (w ∷ ws) ∷ k) others.words);
    })
