-- no line of a text is refused as too long: that is said of the bytes of a whole text alone
use Rattle.std.proofs.Common.{◌≢◌, ℕ, ◌==◌, ◌+◌, Bool, true, false, List, [], ◌∷◌, ◌++◌, length}
use Rattle.std.proofs.Common.{if◌then◌else◌}
use Rattle.std.specs.Prelude.{◌^◌, Option, Some, None, Result, Ok, Err, nat_lt, nat_le, bytes_eq, position}
use Rattle.std.specs.Str.Parse.{digits_value}
use Rattle.std.specs.List.{list_any}
use Rattle.plat_grammar.specs.Lines.{LineText, Word, lines_of, uncommented, is_spelling, number_of}
use Rattle.plat_grammar.specs.Forms.{◌>>=◌, Row, Rest, Stop, finished, broken, is_bad, no_bad_byte, row_of, with_line, rest_of}
use Rattle.plat_grammar.specs.Forms.{rows_of, missing, row_from, row_at, word_from, word_at, first_word, read_as}
use Rattle.plat_grammar.specs.Forms.{one, exactly, within, number_in, under, number_below, key, nothing_from}
use Rattle.plat_grammar.specs.Forms.{nothing, ◌·◌, made, maybe, each, listed, chosen, choice, once, opened, line_at, repeated, all_with}
use Rattle.plat_grammar.specs.Forms.{over_from, over}
use Rattle.plat_base.specs.Machine.{is_within}
use Rattle.plat_base.specs.declared.faults.Refused.{Refused}
use Rattle.plat_base.specs.declared.faults.Why.{Why}
use Rattle.plat_base.specs.declared.faults.Why.TheVariants as why

-- ---- what a word reads as

abbrev pub FineWord : {A : Type 0} → Result A Why → Type 0
FineWord (Ok x) = Unit {0}
FineWord (Err w) = w ≢ why.TooLong

module _ {A B : Type 0} where
  pub word_then : (r : Result A Why) (f : A → Result B Why) → FineWord r → ((x : A) → FineWord (f x)) → FineWord (r >>= f)
  word_then (Ok x) f h k = k x
  word_then (Err w) f h k = h

pub word_if : {A : Type 0} (b : Bool) (x y : Result A Why) → FineWord x → FineWord y → FineWord (if b then x else y)
word_if true x y h k = h
word_if false x y h k = k

pub fine-number_of : (w : List ℕ) → FineWord (number_of w)
unfolding number_of
fine-number_of w = word_if (is_spelling w) _ _ (word_if (nat_lt (digits_value 10 w) (2 ^ 32)) _ _ tt (λ is. cc)) (λ is. cc)

pub fine-exactly : (k w : List ℕ) → FineWord (exactly k w)
fine-exactly k w = word_if (bytes_eq w k) _ _ tt (λ is. cc)

pub fine-number_in : (low high : ℕ) (w : List ℕ) → FineWord (number_in low high w)
fine-number_in low high w = word_then (number_of w) (within low high) (fine-number_of w) (λ n. word_if (is_within low high n) _ _ tt
    (λ is. cc))

pub fine-number_below : (limit : ℕ) (w : List ℕ) → FineWord (number_below limit w)
fine-number_below limit w = word_then (number_of w) (under limit) (fine-number_of w) (λ n. word_if (nat_lt n limit) _ _ tt (λ is. cc))

-- ---- what a row reads as

abbrev pub Fine : {A : Type 0} → Result A Refused → Type 0
Fine (Ok x) = Unit {0}
Fine (Err r) = r.why ≢ why.TooLong

pub fine_then : {A B : Type 0} (r : Result A Refused) (f : A → Result B Refused) → Fine r → ((x : A) → Fine (f x)) → Fine (r >>= f)
fine_then (Ok x) f h k = k x
fine_then (Err e) f h k = h

pub fine_if : {A : Type 0} (b : Bool) (x y : Result A Refused) → Fine x → Fine y → Fine (if b then x else y)
fine_if true x y h k = h
fine_if false x y h k = k

abbrev pub FineLine : {A : Type 0} → (Row → Result A Refused) → Type 0
FineLine f = (row : Row) → Fine (f row)

pub fine-word_at : FineLine word_at
fine-word_at row = by row.words
  where
    by : (ws : List Word) → Fine (word_from row ws)
    by [] = λ is. cc
    by (w ∷ ws) = tt

pub fine-read_as : {A : Type 0} (line : ℕ) (w : Word) (r : Result A Why) → FineWord r → Fine (read_as line w r)
fine-read_as line w (Ok x) h = tt
fine-read_as line w (Err why) h = h

pub fine-one : {A : Type 0} (of : List ℕ → Result A Why) → ((w : List ℕ) → FineWord (of w)) → FineLine (one of)
fine-one of h row = fine_then (word_at row) _ (fine-word_at row) (λ w. fine_then (read_as row.line w.0 (of w.0.bytes)) _
    (fine-read_as row.line w.0 (of w.0.bytes) (h w.0.bytes)) (λ x. tt))

pub fine-nothing : FineLine nothing
fine-nothing row = by row.words
  where
    by : (ws : List Word) → Fine (nothing_from row ws)
    by [] = tt
    by (w ∷ ws) = λ is. cc

pub fine-both : {A B : Type 0} (f : Row → Result (A × Row) Refused) (g : Row → Result B Refused) → FineLine f → FineLine g → FineLine
    (f · g)
fine-both f g h k row = fine_then (f row) _ (h row) (λ x. fine_then (g x.1) _ (k x.1) (λ y. tt))

pub fine-made : {A B : Type 0} (f : A → B) (read : Row → Result A Refused) → FineLine read → FineLine (made f read)
fine-made f read h row = fine_then (read row) _ (h row) (λ x. tt)

pub fine-maybe : {A : Type 0} (f : Row → Result (A × Row) Refused) → FineLine f → FineLine (maybe f)
fine-maybe f h row = fine_if (length row.words == 0) _ _ tt (fine-made _ (f · nothing) (fine-both f nothing h fine-nothing) row)

pub fine-listed : {A : Type 0} (of : List ℕ → Result A Why) (limit : ℕ) → ((w : List ℕ) → FineWord (of w)) → FineLine (listed of limit)
fine-listed {A} of limit h row = fine_then (first_word row) _ (fine_then (word_at row) _ (fine-word_at row) (λ w. tt))
    (λ w. by row.line [] row.words)
  where
    by : (line : ℕ) (seen : List A) (ws : List Word) → Fine (each of limit line seen ws)
    by line seen [] = tt
    by line seen (w ∷ ws) =
        fine_if (nat_le limit (length seen)) _ _ (λ is. cc)
        (fine_then (read_as line w (of w.bytes)) _ (fine-read_as line w (of w.bytes) (h w.bytes)) (λ x. by line (seen ++ x ∷ []) ws))

-- each kind of line
abbrev pub FineKinds : {A : Type 0} → List (List ℕ × (Row → Result A Refused)) → Type 0
FineKinds [] = Unit {0}
FineKinds (kind ∷ kinds) = FineLine kind.1 × FineKinds kinds

pub fine-chosen : {A : Type 0} (kinds : List (List ℕ × (Row → Result A Refused))) (fault : Refused) (word : List ℕ) (row : Row)
    → FineKinds kinds → fault.why ≢ why.TooLong → Fine (chosen kinds fault word row)
fine-chosen [] fault word row h other = other
fine-chosen (kind ∷ kinds) fault word row h other =
    fine_if (bytes_eq word kind.0) _ _ (h.0 row) (fine-chosen kinds fault word row h.1 other)

pub fine-choice : {A : Type 0} (kinds : List (List ℕ × (Row → Result A Refused))) (w : Why) → FineKinds kinds → w ≢ why.TooLong → FineLine
    (choice kinds w)
fine-choice kinds w h other row = fine_then (word_at row) _ (fine-word_at row) (λ x. fine-chosen kinds _ x.0.bytes x.1 h other)

pub fine-once : {A : Type 0} (same : A → A → Bool) (seen : List A) (read : Row → Result A Refused) → FineLine read → FineLine
    (once same seen read)
fine-once same seen read h row =
    fine_then (first_word row) _ (fine_then (word_at row) _ (fine-word_at row) (λ w. tt))
    (λ w. fine_then (read row) _ (h row) (λ x. fine_if (list_any (same x) seen) _ _ (λ is. cc) tt))

-- ---- rows of a text

abbrev pub FineStop : Stop → Type 0
FineStop (finished line) = Unit {0}
FineStop (broken fault) = fault.why ≢ why.TooLong

-- what is read of a text, and what is left of it
abbrev pub Keeps : {A : Type 0} → Result (A × Rest) Refused → Type 0
Keeps (Ok x) = FineStop x.1.stop
Keeps (Err r) = r.why ≢ why.TooLong

pub keeps_then : {A B : Type 0} (r : Result (A × Rest) Refused) (f : A × Rest → Result (B × Rest) Refused) → Keeps r
    → ((x : A × Rest) → FineStop x.1.stop → Keeps (f x)) → Keeps (r >>= f)
keeps_then (Ok x) f h k = k x h
keeps_then (Err e) f h k = h

pub line_then : {A B : Type 0} (r : Result A Refused) (f : A → Result (B × Rest) Refused) → Fine r → ((x : A) → Keeps (f x)) → Keeps
    (r >>= f)
line_then (Ok x) f h k = k x
line_then (Err e) f h k = h

pub last_then : {A B : Type 0} (r : Result (A × Rest) Refused) (f : A × Rest → Result B Refused) → Keeps r
    → ((x : A × Rest) → FineStop x.1.stop → Fine (f x)) → Fine (r >>= f)
last_then (Ok x) f h k = k x h
last_then (Err e) f h k = h

pub keeps_if : {A : Type 0} (b : Bool) (x y : Result (A × Rest) Refused) → Keeps x → Keeps y → Keeps (if b then x else y)
keeps_if true x y h k = h
keeps_if false x y h k = k

pub missing-other : (stop : Stop) → FineStop stop → (missing stop).why ≢ why.TooLong
missing-other (finished line) h = λ is. cc
missing-other (broken fault) h = h

pub keeps-row_at : (rest : Rest) → FineStop rest.stop → Keeps (row_at rest)
keeps-row_at rest h = by rest.rows
  where
    by : (rows : List Row) → Keeps (row_from rest rows)
    by [] = missing-other rest.stop h
    by (row ∷ rows) = h

pub keeps-line_at : {A : Type 0} (word : List ℕ) (read : Row → Result A Refused) → FineLine read → (rest : Rest) → FineStop rest.stop
    → Keeps (line_at word read rest)
keeps-line_at word read h rest fine =
    keeps_then (opened word rest) _
    (keeps_then (row_at rest) _ (keeps-row_at rest fine) (λ r f. line_then (key word r.0) _ (fine-one (exactly word)
    (fine-exactly word) r.0) (λ o. f)))
    (λ r f. line_then (read r.0) _ (h r.0) (λ x. f))

pub keeps-all_with : {A : Type 0} (word : List ℕ) (same : A → A → Bool) (read : Row → Result A Refused) → FineLine read → (rest : Rest)
    → FineStop rest.stop
    → Keeps (all_with word same read rest)
keeps-all_with {A} word same read h rest fine = by [] rest.rows
  where
    by : (seen : List A) (rows : List Row) → Keeps (repeated word same read rest.stop seen rows)
    by seen [] = missing-other rest.stop fine
    by seen (row ∷ rows) =
        line_then (word_at row) _ (fine-word_at row)
        (λ w. keeps_if (bytes_eq w.0.bytes word) _ _
        (line_then (once same seen read w.1) _ (fine-once same seen read h w.1) (λ x. by (seen ++ x ∷ []) rows)) fine)

pub fine-over : (rest : Rest) → FineStop rest.stop → Fine (over rest)
fine-over rest h = by rest.stop rest.rows h
  where
    by : (stop : Stop) (rows : List Row) → FineStop stop → Fine (over_from stop rows)
    by (finished line) [] k = tt
    by (broken fault) [] k = k
    by (finished line) (row ∷ rows) k = fine_then (word_at row) _ (fine-word_at row) (λ w. λ is. cc)
    by (broken fault) (row ∷ rows) k = fine_then (word_at row) _ (fine-word_at row) (λ w. λ is. cc)

pub fine-row_of : (l : LineText) → Fine (row_of l)
fine-row_of l = fine_if l.ended _ _ (by (position is_bad (uncommented l.bytes))) (λ is. cc)
  where
    by : (at : Option ℕ) → Fine (no_bad_byte l at)
    by None = tt
    by (Some i) = λ is. cc

pub fine-rows_of : (first : ℕ) (bytes : List ℕ) → FineStop (rows_of first bytes).stop
fine-rows_of first bytes = by first (lines_of first bytes)
  where
    with : (r : Result Row Refused) (rest : Rest) → Fine r → FineStop rest.stop → FineStop (with_line r rest).stop
    with (Ok row) rest h k = either (length row.words == 0)
      where
        either : (b : Bool) → FineStop (if b then rest else record rest { rows = row ∷ rest.rows }).stop
        either true = k
        either false = k
    with (Err fault) rest h k = h

    by : (n : ℕ) (ls : List LineText) → FineStop (rest_of n ls).stop
    by n [] = tt
    by n (l ∷ ls) = with (row_of l) (rest_of (l.number + 1) ls) (fine-row_of l) (by (l.number + 1) ls)
