-- rows, which are the lines that have words, and the forms of what stands in them
use Rattle.std.specs.Prelude.{◌≡◌, ℕ, ◌+◌, ◌==◌, nat_lt, nat_le, Bool, ◌||◌, if◌then◌else◌, List, [], ◌∷◌, ◌++◌, length, position, Option}
use Rattle.std.specs.Prelude.{Some, None, Result, Ok, Err, bytes_eq}
use Rattle.std.specs.List.{list_any}
use Rattle.plat_grammar.specs.Lines.{LineText, Word, lines_of, uncommented, words_of, number_of}
use Rattle.plat_base.specs.Machine.{is_within}
use Rattle.plat_base.specs.declared.faults.Refused.{Refused}
use Rattle.plat_base.specs.declared.faults.TextFault.{TextFault}
use Rattle.plat_base.specs.declared.faults.TextFault.TheVariants as fault
use Rattle.plat_base.specs.declared.faults.Why.{Why}
use Rattle.plat_base.specs.declared.faults.Why.TheVariants.{Unended, BadByte, Missing, Expected, Extra, OutOfRange, Duplicate, TooMany}

infixl 10 ◌>>=◌
-- first one, then what follows from its value; the first fault stands
abbrev pub ◌>>=◌ : {A B E : Type 0} → Result A E → (A → Result B E) → Result B E
(Ok x) >>= f = f x
(Err e) >>= f = Err e

-- what code answered, seen by view, is what reading gives
abbrev pub Reads : {X Y E : Type 0} → (X → Y) → Result X E → Result Y E → Type 0
Reads view (Ok x) read = read ≡ Ok (view x)
Reads view (Err e) read = read ≡ Err e

abbrev pub Fails : {Y : Type 0} → TextFault → Result Y Refused → Type 0
Fails (fault.Refused r) read = read ≡ Err r
Fails fault.OutOfMemory read = Unit {0}

-- the same, where want of memory claims nothing
abbrev pub Gives : {X Y : Type 0} → (X → Y) → Result X TextFault → Result Y Refused → Type 0
Gives view (Ok x) read = read ≡ Ok (view x)
Gives view (Err e) read = Fails e read

-- ---- rows

-- a line with words: its number, the column after its last byte, and the words that are still to read
pub record Row : Type 0 where
  pub line : ℕ
  pub end : ℕ
  pub words : List Word

-- why there is no further row: the text is over, and the next line would have this number; or a line is broken
pub data Stop : Type 0 where
  finished : (line : ℕ) → Stop
  broken : (fault : Refused) → Stop

-- what is still to read of a text: the rows up to the end or the first broken line, and which of them it is
pub record Rest : Type 0 where
  pub rows : List Row
  pub stop : Stop

abbrev pub refused : ℕ → ℕ → Why → Refused
refused line column why = record { line = line; column = column; why = why }

-- outside comments a line has bytes 0x20 to 0x7E alone
abbrev pub is_bad : ℕ → Bool
is_bad b = nat_lt b 32 || nat_lt 126 b

-- a line is ended, then its bytes are looked at from left to right
abbrev pub no_bad_byte : LineText → Option ℕ → Result Row Refused
no_bad_byte l None = Ok (record { line = l.number; end = length l.bytes + 1; words = words_of l.bytes })
no_bad_byte l (Some i) = Err (refused l.number (i + 1) BadByte)

abbrev pub row_of : LineText → Result Row Refused
row_of l = if l.ended then no_bad_byte l (position is_bad (uncommented l.bytes)) else Err (refused l.number (length l.bytes + 1) Unended)

-- lines without words are passed over
abbrev pub with_line : Result Row Refused → Rest → Rest
with_line (Ok row) rest = if length row.words == 0 then rest else record rest { rows = row ∷ rest.rows }
with_line (Err fault) rest = record rest { rows = []; stop = broken fault }

-- the rows of lines, where n is the number of the line after the last
abbrev pub rest_of : ℕ → List LineText → Rest
rest_of n [] = record { rows = []; stop = finished n }
rest_of n (l ∷ ls) = with_line (row_of l) (rest_of (l.number + 1) ls)

-- the rows of bytes whose first line has this number
abbrev pub rows_of : ℕ → List ℕ → Rest
rows_of first bytes = rest_of first (lines_of first bytes)

-- a row is wanted where there is none
abbrev pub missing : Stop → Refused
missing (finished line) = refused line 1 Missing
missing (broken fault) = fault

abbrev pub row_from : Rest → List Row → Result (Row × Rest) Refused
row_from rest [] = Err (missing rest.stop)
row_from rest (row ∷ rows) = Ok (row, record rest { rows = rows })

-- the next row
abbrev pub row_at : Rest → Result (Row × Rest) Refused
row_at rest = row_from rest rest.rows

-- the next row, which stays to be read
abbrev pub first_row : Rest → Result Row Refused
first_row rest = row_at rest >>= λ r. Ok r.0

-- ---- words of a row: a form gives a value and the row that is left, a tail reads all that is left

abbrev pub word_from : Row → List Word → Result (Word × Row) Refused
word_from row [] = Err (refused row.line row.end Missing)
word_from row (w ∷ ws) = Ok (w, record row { words = ws })

-- the next word
abbrev pub word_at : Row → Result (Word × Row) Refused
word_at row = word_from row row.words

-- the next word, which stays to be read
abbrev pub first_word : Row → Result Word Refused
first_word row = word_at row >>= λ w. Ok w.0

-- the first word of the next row
abbrev pub word_ahead : Rest → Result Word Refused
word_ahead rest = first_row rest >>= first_word

-- what a word reads as, or why it is refused at its place
abbrev pub read_as : {A : Type 0} → ℕ → Word → Result A Why → Result A Refused
read_as line w (Ok x) = Ok x
read_as line w (Err why) = Err (refused line w.column why)

-- one word that is read by this function
abbrev pub one : {A : Type 0} → (List ℕ → Result A Why) → Row → Result (A × Row) Refused
one of row = word_at row >>= λ w. read_as row.line w.0 (of w.0.bytes) >>= λ x. Ok (x, w.1)

-- the word that stands in each text of this kind
abbrev pub exactly : List ℕ → List ℕ → Result (Unit {0}) Why
exactly key word = if bytes_eq word key then Ok (tt {0}) else Err Expected

abbrev pub within : ℕ → ℕ → ℕ → Result ℕ Why
within low high n = if is_within low high n then Ok n else Err OutOfRange

-- a number from low to high
abbrev pub number_in : ℕ → ℕ → List ℕ → Result ℕ Why
number_in low high word = number_of word >>= within low high

abbrev pub under : ℕ → ℕ → Result ℕ Why
under limit n = if nat_lt n limit then Ok n else Err OutOfRange

-- a number below the limit
abbrev pub number_below : ℕ → List ℕ → Result ℕ Why
number_below limit word = number_of word >>= under limit

abbrev pub key : List ℕ → Row → Result (Unit {0} × Row) Refused
key word = one (exactly word)

abbrev pub any_number : Row → Result (ℕ × Row) Refused
any_number = one number_of

abbrev pub number : ℕ → ℕ → Row → Result (ℕ × Row) Refused
number low high = one (number_in low high)

abbrev pub below : ℕ → Row → Result (ℕ × Row) Refused
below limit = one (number_below limit)

-- no further word
abbrev pub nothing_from : Row → List Word → Result (Unit {0}) Refused
nothing_from row [] = Ok (tt {0})
nothing_from row (w ∷ ws) = Err (refused row.line w.column Extra)

abbrev pub nothing : Row → Result (Unit {0}) Refused
nothing row = nothing_from row row.words

infixr 12 ◌·◌
-- one form, and then what is left
abbrev pub ◌·◌ : {A B : Type 0} → (Row → Result (A × Row) Refused) → (Row → Result B Refused) → Row → Result (A × B) Refused
(f · g) row = f row >>= λ x. g x.1 >>= λ y. Ok (x.0, y)

-- what is read, made into something else
abbrev pub made : {A B : Type 0} → (A → B) → (Row → Result A Refused) → Row → Result B Refused
made f read row = read row >>= λ x. Ok (f x)

-- a last word that may be left out
abbrev pub maybe : {A : Type 0} → (Row → Result (A × Row) Refused) → Row → Result (Option A) Refused
maybe f row = if length row.words == 0 then Ok None else made (λ x. Some x.0) (f · nothing) row

-- words up to the end of the line, at most so many; what stands before them was seen
abbrev pub each : {A : Type 0} → (List ℕ → Result A Why) → ℕ → ℕ → List A → List Word → Result (List A) Refused
each of limit line seen [] = Ok seen
each of limit line seen (w ∷ ws) =
    if nat_le limit (length seen)
    then Err (refused line w.column TooMany)
    else (read_as line w (of w.bytes) >>= λ x. each of limit line (seen ++ x ∷ []) ws)

-- one to so many words
abbrev pub listed : {A : Type 0} → (List ℕ → Result A Why) → ℕ → Row → Result (List A) Refused
listed of limit row = first_word row >>= λ w. each of limit row.line [] row.words

-- kinds of line, each named by a word
abbrev pub chosen : {A : Type 0} → List (List ℕ × (Row → Result A Refused)) → Refused → List ℕ → Row → Result A Refused
chosen [] fault word row = Err fault
chosen (kind ∷ kinds) fault word row = if bytes_eq word kind.0 then kind.1 row else chosen kinds fault word row

abbrev pub choice : {A : Type 0} → List (List ℕ × (Row → Result A Refused)) → Why → Row → Result A Refused
choice kinds why row = word_at row >>= λ w. chosen kinds (refused row.line w.0.column why) w.0.bytes w.1

-- a line that is like none before it, which is looked at after all its words; its first word is named
abbrev pub once : {A : Type 0} → (A → A → Bool) → List A → (Row → Result A Refused) → Row → Result A Refused
once same seen read row = first_word row >>= λ w. read row >>= λ x.
    (if list_any (same x) seen then Err (refused row.line w.column Duplicate) else Ok x)

-- ---- rows of a text

-- the row with this first word
abbrev pub opened : List ℕ → Rest → Result (Row × Rest) Refused
opened word rest = row_at rest >>= λ r. key word r.0 >>= λ o. Ok (o.1, r.1)

-- the row with this first word, if it comes next
abbrev pub if_opened : List ℕ → Rest → Result (Option Row × Rest) Refused
if_opened word rest = word_ahead rest >>= λ w.
    (if bytes_eq w.bytes word then (opened word rest >>= λ r. Ok (Some r.0, r.1)) else Ok (None, rest))

-- the line with this first word
abbrev pub line_at : {A : Type 0} → List ℕ → (Row → Result A Refused) → Rest → Result (A × Rest) Refused
line_at word read rest = opened word rest >>= λ r. read r.0 >>= λ x. Ok (x, r.1)

-- the lines with this first word, as many as come, no two of them the same; what stands before them was seen
abbrev pub repeated : {A : Type 0} → List ℕ → (A → A → Bool) → (Row → Result A Refused) → Stop → List A → List Row →
    Result (List A × Rest) Refused
repeated word same read stop seen [] = Err (missing stop)
repeated word same read stop seen (row ∷ rows) = word_at row >>= λ w.
    (if bytes_eq w.0.bytes word
    then (once same seen read w.1 >>= λ x. repeated word same read stop (seen ++ x ∷ []) rows)
    else Ok (seen, record { rows = row ∷ rows; stop = stop }))

abbrev pub all_with : {A : Type 0} → List ℕ → (A → A → Bool) → (Row → Result A Refused) → Rest → Result (List A × Rest) Refused
all_with word same read rest = repeated word same read rest.stop [] rest.rows

abbrev pub over_from : Stop → List Row → Result (Unit {0}) Refused
over_from (finished line) [] = Ok (tt {0})
over_from (broken fault) [] = Err fault
over_from stop (row ∷ rows) = word_at row >>= λ w. Err (refused row.line w.0.column Extra)

-- no further row
abbrev pub over : Rest → Result (Unit {0}) Refused
over rest = over_from rest.stop rest.rows
