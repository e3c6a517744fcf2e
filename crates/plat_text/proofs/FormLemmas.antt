-- one step of each reading: what is left after a word and after a row
use Rattle.std.proofs.Common.{◌≡◌, ℕ, ◌<◌, ◌≤◌, Bool, true, false, eqb, leb, List, [], ◌∷◌, ◌++◌, length, Option}
use Rattle.std.proofs.Common.{Some, None, Result, Ok, Err, bytes_eq, refl, ap, sym, ◌∙◌, ⊎_elim, arith}
use Rattle.std.proofs.lemmas.Bool.{cases_Bool}
use Rattle.std.proofs.lemmas.Bool.Decides.{nat_tests}
use Rattle.plat_grammar.specs.Lines.{Word}
use Rattle.plat_grammar.specs.Forms.{◌>>=◌, Row, Rest, word_at, word_from, row_at, row_from, read_as, refused, each}
use Rattle.plat_grammar.specs.Forms.{opened, if_opened, once, repeated, key, word_ahead}
use Rattle.plat_text.proofs.Results.{taking, ok_first, ok_second}
use Rattle.plat_base.specs.declared.faults.Refused.{Refused}
use Rattle.plat_base.specs.declared.faults.Why.{Why}
use Rattle.plat_base.specs.declared.faults.Why.TheVariants.{TooMany}

-- ---- a word is taken

pub record TakesWord (row : Row) (w : Word) (after : Row) : Type 0 where
  pub words : row.words ≡ w ∷ after.words
  pub line : after.line ≡ row.line
  pub end : after.end ≡ row.end

word_from-takes : (row : Row) (ws : List Word) (w : Word) (after : Row) → word_from row ws ≡ Ok (w, after) →
    TakesWord (record row { words = ws }) w after
word_from-takes row [] w after e = cc
word_from-takes row (v ∷ vs) w after e =
    let same : ◌≡◌ {A = Word × Row} (v, record row { words = vs }) (w, after) = cc in
    let first : v ≡ w = ap (λ p. p.0) same in
    let left : record row { words = vs } ≡ after = ap (λ p. p.1) same in
    record { words = rw first (ap (λ r. w ∷ r.words) left); line = sym (ap (λ r. r.line) left); end = sym (ap (λ r. r.end) left) }

pub word_taken : (row : Row) (w : Word) (after : Row) → word_at row ≡ Ok (w, after) → TakesWord row w after
word_taken row w after e = word_from-takes row row.words w after e

-- ---- words up to the end of a line

module _ {A : Type 0} (of : List ℕ → Result A Why) (limit line : ℕ) (seen : List A) where
  pub each-more : (row : Row) (w : Word) (after : Row) (x : A) → word_at row ≡ Ok (w, after) → length seen < limit →
      read_as line w (of w.bytes) ≡ Ok x
      → each of limit line seen row.words ≡ each of limit line (seen ++ x ∷ []) after.words
  each-more row w after x e few is =
      let t : leb limit (length seen) ≡ false = grind (arith, nat_tests) in
      rw ((word_taken row w after e).words, t, is) refl

  pub each-many : (row : Row) (w : Word) (after : Row) → word_at row ≡ Ok (w, after) → limit ≤ length seen →
      each of limit line seen row.words ≡ Err (refused line w.column TooMany)
  each-many row w after e many =
      let t : leb limit (length seen) ≡ true = grind (arith, nat_tests) in
      rw ((word_taken row w after e).words, t) refl

  pub each-wrong : (row : Row) (w : Word) (after : Row) (fault : Refused) → word_at row ≡ Ok (w, after) → length seen < limit →
      read_as line w (of w.bytes) ≡ Err fault
      → each of limit line seen row.words ≡ Err fault
  each-wrong row w after fault e few is =
      let t : leb limit (length seen) ≡ false = grind (arith, nat_tests) in
      rw ((word_taken row w after e).words, t, is) refl

  pub each-end : (ws : List Word) → eqb (length ws) 0 ≡ true → each of limit line seen ws ≡ Ok seen
  each-end [] e = refl
  each-end (w ∷ ws) e = grind (arith, nat_tests)

pub word_fewer : (row : Row) (w : Word) (after : Row) → word_at row ≡ Ok (w, after) → length after.words < length row.words
word_fewer row w after e = omega (arith, ap length (word_taken row w after e).words)

pub ruleset each_steps = (each-more, each-many, each-wrong, each-end, word_fewer)

-- ---- rows with one first word

-- what follows where the next row has the word or does not
abbrev pub goes_on : {A : Type 0} → List ℕ → (A → A → Bool) → (Row → Result A Refused) → List A → Option Row × Rest →
    Result (List A × Rest) Refused
goes_on word same read seen (None, rest) = Ok (seen, rest)
goes_on word same read seen (Some row, after) =
    once same seen read row >>= λ x. repeated word same read after.stop (seen ++ x ∷ []) after.rows

module _ {A : Type 0} (word : List ℕ) (same : A → A → Bool) (read : Row → Result A Refused) (seen : List A) where
  one_row : (rest : Rest) (row : Row) (rows : List Row) (ws : List Word)
      → repeated word same read rest.stop seen (record row { words = ws } ∷ rows)
      ≡ (if_opened word (record rest { rows = record row { words = ws } ∷ rows }) >>= goes_on word same read seen)
  one_row rest row rows [] = refl
  one_row rest row rows (w ∷ ws) = ⊎_elim (λ e. rw e refl) (λ e. rw e refl) (cases_Bool (bytes_eq w.bytes word))

  pub repeated-step : (rest : Rest) → repeated word same read rest.stop seen rest.rows
      ≡ (if_opened word rest >>= goes_on word same read seen)
  repeated-step rest = by_rows rest.rows where
    by_rows : (rows : List Row) → repeated word same read rest.stop seen rows
        ≡ (if_opened word (record rest { rows = rows }) >>= goes_on word same read seen)
    by_rows [] = refl
    by_rows (row ∷ rows) = one_row rest row rows row.words

  pub repeated-more : (rest : Rest) (row : Row) (after : Rest) (x : A) → if_opened word rest ≡ Ok (Some row, after) →
      once same seen read row ≡ Ok x
      → repeated word same read rest.stop seen rest.rows
      ≡ repeated word same read after.stop (seen ++ x ∷ []) after.rows
  repeated-more rest row after x o e = repeated-step rest ∙ (rw (o, e) refl)

  pub repeated-wrong : (rest : Rest) (row : Row) (after : Rest) (fault : Refused) → if_opened word rest ≡ Ok (Some row, after) →
      once same seen read row ≡ Err fault
      → repeated word same read rest.stop seen rest.rows ≡ Err fault
  repeated-wrong rest row after fault o e = repeated-step rest ∙ (rw (o, e) refl)

  pub repeated-end : (rest after : Rest) → if_opened word rest ≡ Ok (None, after) →
      repeated word same read rest.stop seen rest.rows ≡ Ok (seen, after)
  repeated-end rest after o = repeated-step rest ∙ (rw o refl)

  pub repeated-none : (rest : Rest) (fault : Refused) → if_opened word rest ≡ Err fault →
      repeated word same read rest.stop seen rest.rows ≡ Err fault
  repeated-none rest fault o = repeated-step rest ∙ (rw o refl)

-- ---- a row is taken

pub record TakesRow (rest : Rest) (row : Row) (after : Rest) : Type 0 where
  pub rows : rest.rows ≡ row ∷ after.rows
  pub stop : after.stop ≡ rest.stop

pub row_taken : (rest : Rest) (row : Row) (after : Rest) → row_at rest ≡ Ok (row, after) → TakesRow rest row after
row_taken rest row after e = by_rows rest.rows e where
  by_rows : (rows : List Row) → row_from (record rest { rows = rows }) rows ≡ Ok (row, after) →
      TakesRow (record rest { rows = rows }) row after
  by_rows [] e = cc
  by_rows (r ∷ rows) e =
      let same : ◌≡◌ {A = Row × Rest} (r, record rest { rows = rows }) (row, after) = cc in
      let first : r ≡ row = ap (λ p. p.0) same in
      let left : record rest { rows = rows } ≡ after = ap (λ p. p.1) same in
      record {
        rows = rw first (ap (λ a. row ∷ a.rows) left);
        stop = sym (ap (λ a. a.stop) left);
      }

pub opened_fewer : (word : List ℕ) (rest : Rest) (row : Row) (after : Rest) → opened word rest ≡ Ok (row, after) →
    length after.rows < length rest.rows
opened_fewer word rest row after e =
    taking (row_at rest) _ _ e (λ r r-is e1. taking (key word r.0) _ _ e1 (λ o o-is e2.
    let row_is : r.1 ≡ after = ok_second _ _ e2 in
    rw (← row_is) (omega (arith, ap length (row_taken rest r.0 r.1 r-is).rows))))

pub row_fewer : (word : List ℕ) (rest : Rest) (row : Row) (after : Rest) → if_opened word rest ≡ Ok (Some row, after) →
    length after.rows < length rest.rows
row_fewer word rest row after e =
    taking (word_ahead rest) _ _ e (λ w w-is e1.
    ⊎_elim
    (λ t. taking (opened word rest) _ _ (rw t at e1) (λ r r-is e2. let row_is : r.1 ≡ after = ok_second _ _ e2 in
    rw (← row_is) (opened_fewer word rest r.0 r.1 r-is)))
    (λ t. let apart : ◌≡◌ {A = Option Row} None (Some row) = ok_first (None, rest) (Some row, after) (rw t at e1) in cc)
    (cases_Bool (bytes_eq w.bytes word)))

pub ruleset repeated_steps = (repeated-more, repeated-wrong, repeated-end, repeated-none, row_fewer)
