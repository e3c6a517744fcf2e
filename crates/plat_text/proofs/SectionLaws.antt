-- sections of a text: what is read of rows is spelled so, and what is spelled so is read
use Rattle.std.proofs.Common.{◌≡◌, ℕ, List, [], ◌∷◌, ◌++◌, map}
use Rattle.std.proofs.Common.{Result, Ok, refl, ap, sym, ◌∙◌, append_assoc}
use Rattle.plat_grammar.specs.Forms.{Row, Rest, row_at, key, opened, line_at}
use Rattle.plat_base.specs.declared.faults.Refused.{Refused}
use Rattle.plat_text.proofs.Results.{taking, then_ok, ok_first, ok_second}
use Rattle.plat_text.proofs.FormLemmas.{TakesRow, row_taken}
use Rattle.plat_text.proofs.WordLaws.{exactly-law}
use Rattle.plat_text.proofs.FormLaws.{row_texts, IsTail, one-law}

-- the word lists of rows
abbrev pub row_lists : List Row → List (List (List ℕ))
row_lists rows = map row_texts rows

abbrev pub rest_lists : Rest → List (List (List ℕ))
rest_lists rest = row_lists rest.rows

-- rows with these word lists were taken
pub record Took (rest after : Rest) (lines : List (List (List ℕ))) : Type 0 where
  pub taken : List Row
  pub rows : rest.rows ≡ taken ++ after.rows
  pub stop : after.stop ≡ rest.stop
  pub lists : row_lists taken ≡ lines

pub row_lists-append : (rs ss : List Row) → row_lists (rs ++ ss) ≡ row_lists rs ++ row_lists ss
row_lists-append [] ss = refl
row_lists-append (r ∷ rs) ss = ap (λ k. row_texts r ∷ k) (row_lists-append rs ss)

pub took_none : (rest : Rest) → Took rest rest []
took_none rest = record { taken = []; rows = refl; stop = refl; lists = refl }

pub took_then : (a b c : Rest) (ls ms : List (List (List ℕ))) → Took a b ls → Took b c ms → Took a c (ls ++ ms)
took_then a b c ls ms t u = record {
  taken = t.taken ++ u.taken;
  rows = t.rows ∙ ap (λ k. t.taken ++ k) u.rows ∙ sym (append_assoc t.taken u.taken c.rows);
  stop = u.stop ∙ t.stop;
  lists = row_lists-append t.taken u.taken ∙ rw (t.lists, u.lists) refl;
}

pub took_lists : (a b : Rest) (ls : List (List (List ℕ))) → Took a b ls → rest_lists a ≡ ls ++ rest_lists b
took_lists a b ls t = ap row_lists t.rows ∙ row_lists-append t.taken b.rows ∙ ap (λ k. k ++ rest_lists b) t.lists

-- a section: as a form, over rows; what follows it may have to begin in some way
pub record IsSection {A B : Type 0} (read : Rest → Result (A × Rest) Refused) (sees : A → B) (spell : B → List (List (List ℕ))) (fits : B →
    Type 0) (stops : List (List (List ℕ)) → Type 0) : Type 0 where
  pub takes : (rest : Rest) (x : A) (after : Rest) → read rest ≡ Ok (x, after) → Took rest after (spell (sees x)) × fits (sees x)
  pub again : (rest : Rest) (y : B) (more : List (List (List ℕ))) → fits y → stops more → rest_lists rest ≡ spell y ++ more
      → (x : A) × (after : Rest) × (read rest ≡ Ok (x, after)) × (sees x ≡ y) × (rest_lists after ≡ more)

-- ---- one row

pub took_row : (rest : Rest) (row : Row) (after : Rest) → TakesRow rest row after → Took rest after (row_texts row ∷ [])
took_row rest row after t = record {
  taken = row ∷ [];
  rows = t.rows;
  stop = t.stop;
  lists = refl;
}

pub row_there : (rest : Rest) (line : List (List ℕ)) (more : List (List (List ℕ))) → rest_lists rest ≡ line ∷ more
    → (row : Row) × (after : Rest) × (row_at rest ≡ Ok (row, after)) × (row_texts row ≡ line) × (rest_lists after ≡ more)
row_there rest line more e = by_rows rest.rows e where
  by_rows : (rows : List Row) → row_lists rows ≡ line ∷ more
      → (row : Row) × (after : Rest) × (row_at (record rest { rows = rows }) ≡ Ok (row, after)) × (row_texts row ≡ line)
      × (rest_lists after ≡ more)
  by_rows [] e = absurd cc
  by_rows (row ∷ rows) e = (row, record rest { rows = rows }, refl, cc, cc)

module _ (word : List ℕ) where
  key-takes : (row : Row) (after : Row) (u : Unit {0}) → key word row ≡ Ok (u, after) → row_texts row ≡ word ∷ row_texts after
  key-takes row after u e = ((one-law (exactly-law word)).takes row u after e).0

  pub opened-takes : (rest : Rest) (row : Row) (after : Rest) → opened word rest ≡ Ok (row, after) →
      Took rest after ((word ∷ row_texts row) ∷ [])
  opened-takes rest row after e =
      taking (row_at rest) _ _ e (λ r r-is e1. taking (key word r.0) _ _ e1 (λ o o-is e2.
      let row_is : o.1 ≡ row = ok_first (o.1, r.1) (row, after) e2 in
      let after_is : r.1 ≡ after = ok_second (o.1, r.1) (row, after) e2 in
      rw (← row_is, ← after_is, ← key-takes r.0 o.1 o.0 o-is) (took_row rest r.0 r.1 (row_taken rest r.0 r.1 r-is))))

  pub opened-again : (rest : Rest) (words : List (List ℕ)) (more : List (List (List ℕ))) → rest_lists rest ≡ (word ∷ words) ∷ more
      → (row : Row) × (after : Rest) × (opened word rest ≡ Ok (row, after)) × (row_texts row ≡ words) × (rest_lists after ≡ more)
  opened-again rest words more e =
      let t = row_there rest (word ∷ words) more e in
      let u = (one-law (exactly-law word)).again t.0 (tt {0}) words (tt {0}) t.3 in
      (u.1, t.1, then_ok (row_at rest) _ (t.0, t.1) _ t.2 (then_ok (key word t.0) _ (u.0, u.1) _ u.2 refl), u.4, t.4)

  -- a line with this first word
  pub line-law : {A B : Type 0} {read : Row → Result A Refused} {sees : A → B} {spell : B → List (List ℕ)} {fits : B → Type 0} →
      IsTail read sees spell fits
      → IsSection (line_at word read) sees (λ y. (word ∷ spell y) ∷ []) fits (λ _. Unit {0})
  line-law {read = read} {sees = sees} {spell = spell} {fits = fits} law = record {
    takes = λ rest x after e. taking (opened word rest) _ _ e (λ r r-is e1. taking (read r.0) _ _ e1 (λ v v-is e2.
        let value : v ≡ x = ok_first (v, r.1) (x, after) e2 in
        let after_is : r.1 ≡ after = ok_second (v, r.1) (x, after) e2 in
        let t = law.takes r.0 v v-is in
        rw (← value, ← after_is, ← t.0) (opened-takes rest r.0 r.1 r-is, t.1)));
    again = λ rest y more h s e.
        let t = opened-again rest (spell y) more e in
        let u = law.again t.0 y h t.3 in
        (u.0, t.1, then_ok (opened word rest) _ (t.0, t.1) _ t.2 (then_ok (read t.0) _ u.0 _ u.1 refl), u.2, t.4);
  }

-- a section without places gives just its value
pub again_exactly : {B : Type 0} {read : Rest → Result (B × Rest) Refused} {spell : B → List (List (List ℕ))} {fits : B → Type 0}
    {stops : List (List (List ℕ)) → Type 0}
    → IsSection read (λ x. x) spell fits stops → (rest : Rest) (y : B) (more : List (List (List ℕ))) → fits y → stops more →
    rest_lists rest ≡ spell y ++ more
    → (after : Rest) × (read rest ≡ Ok (y, after)) × (rest_lists after ≡ more)
again_exactly law rest y more h s e = let t = law.again rest y more h s e in (t.1, t.2 ∙ ap (λ k. Ok (k, t.1)) t.3, t.4)
