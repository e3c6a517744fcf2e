-- how lines and words come off the front of bytes
use Rattle.std.proofs.Common.{eqb, ◌-◌, length-drop, get_or-drop, add-zero, one-add, length-take-le, ◌≡◌, ℕ, suc}
use Rattle.std.proofs.Common.{zero, ◌+◌, ◌<◌, ◌≤◌, Bool, true, false, not, cond, List, [], ◌∷◌, length, take, drop, Some, None}
use Rattle.std.proofs.Common.{get_or, refl, ap, sym, ◌∙◌, arith}
use Rattle.std.specs.List.{slice_split, onto_first, position, position_or_len, filter}
use Rattle.std.proofs.lemmas.Bool.Decides.{nat_tests}
use Rattle.std.proofs.Math.Dec.{eqb-suc-zero}
use Rattle.std.proofs.Math.Nat.{le_refl}
use Rattle.std.proofs.lemmas.Bool.{false≢true, not-true}
use Rattle.std.proofs.lemmas.List.{drop_all, take_rest}
use Rattle.std.proofs.lemmas.List.Quantifiers.{position-Some}
use Rattle.std.proofs.lemmas.List.Splits.{slice_split_first, length-slice_split}
use Rattle.plat_grammar.specs.Lines.{is_feed, is_space, numbered, lines_of, placed, has_bytes, words_at}

-- ---- the place of the first element that passes

pub position_some : {X : Type 0} (p : X → Bool) (xs : List X) (i : ℕ) → position p xs ≡ Some i → (position_or_len p xs ≡ i)
    × (i < length xs)
position_some p xs i e = grind (arith, nat_tests)

pub position_none : {X : Type 0} (p : X → Bool) (xs : List X) → position p xs ≡ None → length xs ≤ position_or_len p xs
position_none p xs e = grind (arith, nat_tests)

pub split_whole : {X : Type 0} (p : X → Bool) (xs : List X) → length xs ≤ position_or_len p xs → slice_split p xs ≡ xs ∷ []
split_whole p [] h = refl
split_whole p (x ∷ xs) h = elim (p x) as (λ v. suc (length xs) ≤ cond (not v) (1 + position_or_len p xs) 0 →
    cond v ([] ∷ slice_split p xs) (onto_first x (slice_split p xs)) ≡ (x ∷ xs) ∷ []) [
      | true ↦ λ k. absurd (omega arith)
      | false ↦ λ k. ap (onto_first x) (split_whole p xs (omega arith))
    ] h

not_zero : (n : ℕ) → 0 < n → eqb n 0 ≡ false
not_zero n h = grind (arith, nat_tests)

-- ---- lines

pub numbered-more : (n : ℕ) (p : List ℕ) (ps : List (List ℕ)) → 0 < length ps →
    numbered n (p ∷ ps) ≡ record { number = n; bytes = p; ended = true } ∷ numbered (n + 1) ps
numbered-more n p [] h = absurd (omega arith)
numbered-more n p (q ∷ ps) h = refl

pub lines_of-nil : (n : ℕ) → lines_of n [] ≡ []
unfolding lines_of
lines_of-nil n = refl

pub lines_of-empty : (n : ℕ) (bytes : List ℕ) → length bytes ≡ 0 → lines_of n bytes ≡ []
lines_of-empty n [] h = lines_of-nil n
lines_of-empty n (b ∷ bs) h = absurd (omega arith)

pub lines_of-feed : (n : ℕ) (bytes : List ℕ) (i : ℕ) → position is_feed bytes ≡ Some i →
    lines_of n bytes ≡ record { number = n; bytes = take i bytes; ended = true } ∷ lines_of (n + 1) (drop (i + 1) bytes)
unfolding lines_of
lines_of-feed n bytes i e =
    let at = position_some is_feed bytes i e in
    let inside : position_or_len is_feed bytes < length bytes = omega (arith, at.0, at.1) in
    let cut : take (position_or_len is_feed bytes) bytes ≡ take i bytes = ap (λ k. take k bytes) at.0 in
    let left : drop (position_or_len is_feed bytes + 1) bytes ≡ drop (i + 1) bytes = ap (λ k. drop (k + 1) bytes) at.0 in
    rw (slice_split_first is_feed bytes 0 inside, cut, left)
    (numbered-more n (take i bytes) (slice_split is_feed (drop (i + 1) bytes))
    (omega (arith, length-slice_split is_feed (drop (i + 1) bytes))))

pub lines_of-last : (n : ℕ) (bytes : List ℕ) → 0 < length bytes → position is_feed bytes ≡ None →
    lines_of n bytes ≡ record { number = n; bytes = bytes; ended = false } ∷ []
unfolding lines_of
lines_of-last n bytes h e = rw (split_whole is_feed bytes (position_none is_feed bytes e)) (whole n bytes h) where
  whole : (n : ℕ) (bytes : List ℕ) → 0 < length bytes → numbered n (bytes ∷ []) ≡ record { number = n; bytes = bytes; ended = false } ∷ []
  whole n [] h = absurd (omega arith)
  whole n (b ∷ bs) h = rw (eqb-suc-zero (length bs)) refl

-- ---- words

abbrev is_other : ℕ → Bool
is_other b = not (is_space b)

words_at-space : (c b : ℕ) (bs : List ℕ) → is_space b ≡ true → words_at c (b ∷ bs) ≡ words_at (c + 1) bs
unfolding words_at
words_at-space c b bs e = rw (e, add-zero) refl

pub words_at-nil : (c : ℕ) → words_at c [] ≡ []
unfolding words_at
words_at-nil c = refl

one_more : (c : ℕ) (bs : List ℕ) (b k : ℕ) → words_at (c + 1 + k) (drop k bs) ≡ words_at (c + (1 + k)) (drop (1 + k) (b ∷ bs))
one_more c bs b k = let next : c + 1 + k ≡ c + suc k = omega arith in rw (one-add, next) refl

skip_spaces : (c : ℕ) (bytes : List ℕ) →
    words_at c bytes ≡ words_at (c + position_or_len is_other bytes) (drop (position_or_len is_other bytes) bytes)
skip_spaces c [] = ap (λ k. words_at k []) (sym (add-zero c))
skip_spaces c (b ∷ bs) = elim (is_space b) as (λ v. is_space b ≡ v →
    words_at c (b ∷ bs) ≡ words_at (c + cond (not (not v)) (1 + position_or_len is_other bs) 0)
    (drop (cond (not (not v)) (1 + position_or_len is_other bs) 0) (b ∷ bs))) [
      | true ↦ λ e. words_at-space c b bs e ∙ skip_spaces (c + 1) bs ∙ one_more c bs b (position_or_len is_other bs)
      | false ↦ λ e. ap (λ k. words_at k (b ∷ bs)) (sym (add-zero c))
    ] refl

pub words_at-none : (c : ℕ) (bytes : List ℕ) → position is_other bytes ≡ None → words_at c bytes ≡ []
words_at-none c bytes e =
    skip_spaces c bytes ∙ ap (λ bs. words_at (c + position_or_len is_other bytes) bs) (drop_all _ bytes (position_none is_other bytes e))
    ∙ words_at-nil _

-- spaces before the next word
pub words_at-skip : (c : ℕ) (bytes : List ℕ) (i : ℕ) → position is_other bytes ≡ Some i → words_at c bytes ≡ words_at (c + i) (drop i bytes)
words_at-skip c bytes i e = skip_spaces c bytes ∙ ap (λ k. words_at (c + k) (drop k bytes)) (position_some is_other bytes i e).0

pub words_at-word : (c : ℕ) (bytes : List ℕ) (i : ℕ) → position is_space bytes ≡ Some i → 0 < i →
    words_at c bytes ≡ record { column = c; bytes = take i bytes } ∷ words_at (c + i + 1) (drop (i + 1) bytes)
unfolding words_at
words_at-word c bytes i e h =
    let at = position_some is_space bytes i e in
    let inside : position_or_len is_space bytes < length bytes = omega (arith, at.0, at.1) in
    let cut : take (position_or_len is_space bytes) bytes ≡ take i bytes = ap (λ k. take k bytes) at.0 in
    let left : drop (position_or_len is_space bytes + 1) bytes ≡ drop (i + 1) bytes = ap (λ k. drop (k + 1) bytes) at.0 in
    let len : length (take i bytes) ≡ i = length-take-le i bytes (omega (arith, at.1)) in
    rw (slice_split_first is_space bytes 0 inside, cut, left, len, not_zero i h) refl

pub words_at-last : (c : ℕ) (bytes : List ℕ) → 0 < length bytes → position is_space bytes ≡ None →
    words_at c bytes ≡ record { column = c; bytes = bytes } ∷ []
unfolding words_at
words_at-last c bytes h e = rw (split_whole is_space bytes (position_none is_space bytes e)) (whole c bytes h) where
  whole : (c : ℕ) (bytes : List ℕ) → 0 < length bytes → filter has_bytes (placed c (bytes ∷ [])) ≡ record { column = c; bytes = bytes } ∷ []
  whole c [] h = absurd (omega arith)
  whole c (b ∷ bs) h = rw (eqb-suc-zero (length bs)) refl

-- the same, as slices of the code are written
pub lines_of-feed_slices : (n : ℕ) (bytes : List ℕ) (i : ℕ) → position is_feed bytes ≡ Some i →
    lines_of n bytes ≡ record { number = n; bytes = take i bytes; ended = true }
    ∷ lines_of (n + 1) (take (length bytes - (i + 1)) (drop (i + 1) bytes))
lines_of-feed_slices n bytes i e = rw (take_rest bytes (i + 1)) (lines_of-feed n bytes i e)

pub ruleset line_steps = (lines_of-empty, lines_of-feed_slices, lines_of-last)

-- the bytes from the next word on, as the code cuts them
abbrev from_word : List ℕ → ℕ → List ℕ
from_word bytes at = take (length bytes - at) (drop at bytes)

-- what begins with a word does not begin with a space
word_first : (bytes : List ℕ) (at : ℕ) → position is_other bytes ≡ Some at → (0 < length (drop at bytes))
    × (is_space (get_or (drop at bytes) 0 0) ≡ false)
word_first bytes at e =
    let first = position-Some is_other bytes at 0 e in
    (omega (arith, length-drop at bytes, first.0), rw (get_or-drop, add-zero) (not-true _ first.1))

word_nonempty : (w : List ℕ) (end : ℕ) → is_space (get_or w 0 0) ≡ false → position is_space w ≡ Some end → 0 < end
word_nonempty w zero h f = absurd (false≢true (sym h ∙ (position-Some is_space w 0 0 f).1))
word_nonempty w (suc end) h f = omega arith

found : (c : ℕ) (bytes : List ℕ) (at end : ℕ) (w : List ℕ) → w ≡ drop at bytes → position is_other bytes ≡ Some at →
    position is_space w ≡ Some end
    → words_at c bytes ≡ record { column = c + at; bytes = take end w }
    ∷ words_at (c + at + end + 1) (take (length w - (end + 1)) (drop (end + 1) w))
found c bytes at end w v e f =
    let h = word_nonempty w end (rw v (word_first bytes at e).1) f in
    words_at-skip c bytes at e ∙ ap (λ k. words_at (c + at) k) (sym v) ∙ (rw (take_rest w (end + 1)) (words_at-word (c + at) w end f h))

pub words_at-found : (c : ℕ) (bytes : List ℕ) (at end : ℕ) → position is_other bytes ≡ Some at → position is_space (from_word bytes at)
    ≡ Some end
    → words_at c bytes ≡ record { column = c + at; bytes = take end (from_word bytes at) }
    ∷ words_at (c + at + end + 1) (take (length (from_word bytes at) - (end + 1)) (drop (end + 1) (from_word bytes at)))
words_at-found c bytes at end e f = found c bytes at end (from_word bytes at) (take_rest bytes at) e f

found_last : (c : ℕ) (bytes : List ℕ) (at : ℕ) (w : List ℕ) → w ≡ drop at bytes → position is_other bytes ≡ Some at →
    position is_space w ≡ None
    → words_at c bytes ≡ record { column = c + at; bytes = w } ∷ []
found_last c bytes at w v e f =
    words_at-skip c bytes at e ∙ ap (λ k. words_at (c + at) k) (sym v) ∙ words_at-last (c + at) w (rw v (word_first bytes at e).0) f

pub words_at-found_last : (c : ℕ) (bytes : List ℕ) (at : ℕ) → position is_other bytes ≡ Some at → position is_space (from_word bytes at)
    ≡ None
    → words_at c bytes ≡ record { column = c + at; bytes = from_word bytes at } ∷ []
words_at-found_last c bytes at e f = found_last c bytes at (from_word bytes at) (take_rest bytes at) e f

-- no words after the last
pub words_at-past : (c : ℕ) (bytes : List ℕ) → words_at c (take (length bytes - length bytes) (drop (length bytes) bytes)) ≡ []
words_at-past c bytes = rw (take_rest bytes (length bytes), drop_all (length bytes) bytes (le_refl (length bytes))) (words_at-nil c)

pub ruleset word_steps = (words_at-none, words_at-found, words_at-found_last, words_at-past)
