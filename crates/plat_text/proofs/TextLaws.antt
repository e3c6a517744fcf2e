-- the rows of clean lines are their word lists, and there are no others
use Rattle.std.proofs.Common.{◌≡◌, ℕ, suc, ◌+◌, ◌≤◌, Bool, true, false, not, cond, eqb, ltb, List, [], ◌∷◌, ◌++◌, length}
use Rattle.std.proofs.Common.{Option, Some, None, Result, Ok, Err, refl, ap, sym, ◌∙◌, subst, arith}
use Rattle.std.specs.List.{AllByRecursion, position, position_or_len}
use Rattle.std.proofs.lemmas.Bool.{not-true, or_parts, or_from, ltb-false, le-ltb}
use Rattle.std.proofs.lemmas.Bool.Decides.{nat_tests}
use Rattle.plat_grammar.specs.Lines.{LineText, Word, uncommented, words_of, texts}
use Rattle.plat_grammar.specs.Forms.{◌>>=◌, Row, Rest, Stop, finished, broken, refused, is_bad, row_of, no_bad_byte, with_line, rest_of}
use Rattle.plat_grammar.specs.Forms.{word_at, over, over_from}
use Rattle.plat_grammar.specs.Grammar.{IsClean, line_words, has_words, word_lists}
use Rattle.plat_base.specs.declared.faults.Refused.{Refused}
use Rattle.plat_base.specs.declared.faults.Why.TheVariants.{Unended, Extra}
use Rattle.plat_text.proofs.Results.{taking, ok_is}
use Rattle.plat_text.proofs.LineLemmas.{position_none}
use Rattle.plat_text.proofs.FormLaws.{row_texts}
use Rattle.plat_text.proofs.SectionLaws.{row_lists, rest_lists}

-- ---- clean lines

abbrev Printable : ℕ → Type 0
Printable b = (32 ≤ b) × (b ≤ 126)

not_bad : (b : ℕ) → Printable b → is_bad b ≡ false
not_bad b h = or_from _ _ (le-ltb b 32 h.0) (le-ltb 126 b h.1)

printable : (b : ℕ) → is_bad b ≡ false → Printable b
printable b e = let parts = or_parts (ltb b 32) (ltb 126 b) e in (ltb-false b 32 parts.0, ltb-false 126 b parts.1)

clean_passed : (bs : List ℕ) → AllByRecursion Printable bs → position_or_len is_bad bs ≡ length bs
clean_passed [] h = refl
clean_passed (b ∷ bs) h = rw (not_bad b h.0, clean_passed bs h.1) (omega arith)

clean_none : (bs : List ℕ) → AllByRecursion Printable bs → position is_bad bs ≡ None
clean_none bs h = rw (clean_passed bs h, le-ltb (length bs) (length bs) (omega arith)) refl

passed_clean : (bs : List ℕ) → length bs ≤ position_or_len is_bad bs → AllByRecursion Printable bs
passed_clean [] h = tt
passed_clean (b ∷ bs) h = by_test (is_bad b) refl h (passed_clean bs) where
  by_test : (v : Bool) → is_bad b ≡ v → suc (length bs) ≤ cond (not v) (1 + position_or_len is_bad bs) 0 →
      (length bs ≤ position_or_len is_bad bs → AllByRecursion Printable bs)
      → Printable b × AllByRecursion Printable bs
  by_test true e k others = absurd (omega (arith, k))
  by_test false e k others = (printable b e, others (omega (arith, k)))

abbrev pub line_row : LineText → Row
line_row l = record { line = l.number; end = length l.bytes + 1; words = words_of l.bytes }

pub row_of-clean : (l : LineText) → IsClean l → row_of l ≡ Ok (line_row l)
row_of-clean l h = rw (h.ended, clean_none (uncommented l.bytes) h.bytes) refl

pub row_of-ok : (l : LineText) (row : Row) → row_of l ≡ Ok row → IsClean l × (line_row l ≡ row)
row_of-ok l row e = by_ended l.ended refl e where
  by_bad : (o : Option ℕ) → position is_bad (uncommented l.bytes) ≡ o → no_bad_byte l o ≡ Ok row →
      AllByRecursion Printable (uncommented l.bytes) × (line_row l ≡ row)
  by_bad None p e = (passed_clean (uncommented l.bytes) (position_none is_bad (uncommented l.bytes) p), ok_is (line_row l) row e)
  by_bad (Some i) p e = cc

  by_ended : (v : Bool) → l.ended ≡ v →
      cond v (no_bad_byte l (position is_bad (uncommented l.bytes))) (Err (refused l.number (length l.bytes + 1) Unended)) ≡ Ok row →
      IsClean l × (line_row l ≡ row)
  by_ended true t e = let u = by_bad (position is_bad (uncommented l.bytes)) refl e in (record { ended = t; bytes = u.0 }, u.1)
  by_ended false t e = cc

-- ---- all lines

no_words : (ws : List Word) → eqb (length ws) 0 ≡ true → texts ws ≡ []
no_words [] e = refl
no_words (w ∷ ws) e = grind (arith, nat_tests)

some_words : (ws : List Word) → eqb (length (texts ws)) 0 ≡ eqb (length ws) 0
some_words [] = refl
some_words (w ∷ ws) = ap (λ n. eqb (suc n) 0) (length-texts ws) where
  length-texts : (ws : List Word) → length (texts ws) ≡ length ws
  length-texts [] = refl
  length-texts (w ∷ ws) = ap suc (length-texts ws)

-- a line with words is kept, and one without is passed over
kept : (l : LineText) (rest : Rest) →
    row_lists (cond (eqb (length (words_of l.bytes)) 0) rest (record rest { rows = line_row l ∷ rest.rows })).rows
    ≡ cond (has_words (line_words l)) (line_words l ∷ rest_lists rest) (rest_lists rest)
kept l rest = rw (some_words (words_of l.bytes)) (by_test (eqb (length (words_of l.bytes)) 0)) where
  by_test : (v : Bool) → row_lists (cond v rest (record rest { rows = line_row l ∷ rest.rows })).rows
      ≡ cond (not v) (line_words l ∷ rest_lists rest) (rest_lists rest)
  by_test true = refl
  by_test false = refl

kept_stop : (v : Bool) (row : Row) (rest : Rest) → (cond v rest (record rest { rows = row ∷ rest.rows })).stop ≡ rest.stop
kept_stop true row rest = refl
kept_stop false row rest = refl

pub rows-clean : (n : ℕ) (ls : List LineText) → AllByRecursion IsClean ls → (rest_lists (rest_of n ls) ≡ word_lists ls)
    × ((last : ℕ) × ((rest_of n ls).stop ≡ finished last))
rows-clean n [] h = (refl, (n, refl))
rows-clean n (l ∷ ls) h =
    let u = rows-clean (l.number + 1) ls h.1 in
    let line : with_line (row_of l) (rest_of (l.number + 1) ls) ≡ with_line (Ok (line_row l)) (rest_of (l.number + 1) ls) =
    ap (λ r. with_line r (rest_of (l.number + 1) ls)) (row_of-clean l h.0) in (
      ap rest_lists line ∙ kept l (rest_of (l.number + 1) ls) ∙ ap (λ k. cond (has_words (line_words l)) (line_words l ∷ k) k) u.0,
      (u.1.0, ap (λ r. r.stop) line ∙ kept_stop (eqb (length (words_of l.bytes)) 0) (line_row l) (rest_of (l.number + 1) ls) ∙ u.1.1),
    )

pub finished-clean : (n last : ℕ) (ls : List LineText) → (rest_of n ls).stop ≡ finished last → AllByRecursion IsClean ls
finished-clean n last [] e = tt
finished-clean n last (l ∷ ls) e = by_row (row_of l) refl e (finished-clean (l.number + 1) last ls) where
  by_row : (r : Result Row Refused) → row_of l ≡ r → (with_line r (rest_of (l.number + 1) ls)).stop ≡ finished last →
      ((rest_of (l.number + 1) ls).stop ≡ finished last → AllByRecursion IsClean ls)
      → IsClean l × AllByRecursion IsClean ls
  by_row (Ok row) t e others = (
    (row_of-ok l row t).0,
    others (sym (kept_stop (eqb (length row.words) 0) row (rest_of (l.number + 1) ls)) ∙ e),
  )
  by_row (Err fault) t e others = cc

-- ---- the end of a text

not_over : (row : Row) (u : Unit {0}) → (word_at row >>= λ w. Err (refused row.line w.0.column Extra)) ≡ Ok u → ⊥
not_over row u e = taking (word_at row) _ _ e (λ w w-is e1. wrong w.0 e1) where
  wrong : (w : Word) → ◌≡◌ {A = Result (Unit {0}) Refused} (Err (refused row.line w.column Extra)) (Ok u) → ⊥
  wrong w e = cc

pub over-takes : (rest : Rest) (u : Unit {0}) → over rest ≡ Ok u → (rest.rows ≡ []) × ((last : ℕ) × (rest.stop ≡ finished last))
over-takes rest u e = by_rest rest.stop rest.rows e where
  by_rest : (stop : Stop) (rows : List Row) → over_from stop rows ≡ Ok u → (rows ≡ []) × ((last : ℕ) × (stop ≡ finished last))
  by_rest (finished last) [] e = (refl, (last, refl))
  by_rest (broken fault) [] e = cc
  by_rest (finished last) (row ∷ rows) e = absurd (not_over row u e)
  by_rest (broken fault) (row ∷ rows) e = absurd (not_over row u e)

pub over-again : (rest : Rest) (last : ℕ) → rest_lists rest ≡ [] → rest.stop ≡ finished last → over rest ≡ Ok (tt {0})
over-again rest last e f = rw f (by_rows rest.rows e) where
  by_rows : (rows : List Row) → row_lists rows ≡ [] → over_from (finished last) rows ≡ Ok (tt {0})
  by_rows [] e = refl
  by_rows (row ∷ rows) e = cc

-- ---- a front of the lines

-- a row comes from a line, and the rows before it from the lines before that
pub record IsRowOf (ls : List LineText) (rs : List Row) (row : Row) : Type 0 where
  pub before : List LineText
  pub last : LineText
  pub after : List LineText
  pub parts : ls ≡ before ++ last ∷ after
  pub clean : AllByRecursion IsClean (before ++ last ∷ [])
  pub lists : word_lists before ≡ row_lists rs
  pub words : line_words last ≡ row_texts row
  pub number : last.number ≡ row.line

-- one line more before it, which has words or has none
with_words : (l : LineText) → eqb (length (words_of l.bytes)) 0 ≡ false → has_words (line_words l) ≡ true
with_words l t = rw (some_words (words_of l.bytes), t) refl

without_words : (l : LineText) → eqb (length (words_of l.bytes)) 0 ≡ true → has_words (line_words l) ≡ false
without_words l t = rw (some_words (words_of l.bytes), t) refl

passed_over : (l : LineText) (ls : List LineText) (rs : List Row) (row : Row) → IsClean l → has_words (line_words l) ≡ false →
    IsRowOf ls rs row → IsRowOf (l ∷ ls) rs row
passed_over l ls rs row h none u = record {
  before = l ∷ u.before;
  last = u.last;
  after = u.after;
  parts = ap (λ k. l ∷ k) u.parts;
  clean = (h, u.clean);
  lists = rw none u.lists;
  words = u.words;
  number = u.number;
}

kept_before : (l : LineText) (ls : List LineText) (rs : List Row) (row : Row) → IsClean l → has_words (line_words l) ≡ true →
    IsRowOf ls rs row → IsRowOf (l ∷ ls) (line_row l ∷ rs) row
kept_before l ls rs row h some u = record {
  before = l ∷ u.before;
  last = u.last;
  after = u.after;
  parts = ap (λ k. l ∷ k) u.parts;
  clean = (h, u.clean);
  lists = rw some (ap (λ k. line_words l ∷ k) u.lists);
  words = u.words;
  number = u.number;
}

pub front-takes : (n : ℕ) (ls : List LineText) (rs : List Row) (row : Row) (more : List Row) → (rest_of n ls).rows ≡ rs ++ row ∷ more →
    IsRowOf ls rs row
front-takes n [] [] row more e = cc
front-takes n [] (r ∷ rs) row more e = cc
front-takes n (l ∷ ls) rs row more e = by_row (row_of l) refl e (λ rs. front-takes (l.number + 1) ls rs row more) where
  here : IsClean l → (rs : List Row) → line_row l ∷ (rest_of (l.number + 1) ls).rows ≡ rs ++ row ∷ more → has_words (line_words l) ≡ true
      → ((rs : List Row) → (rest_of (l.number + 1) ls).rows ≡ rs ++ row ∷ more → IsRowOf ls rs row) → IsRowOf (l ∷ ls) rs row
  here h [] e some others = let first : line_row l ≡ row = cc in record {
    before = [];
    last = l;
    after = ls;
    parts = refl;
    clean = (h, tt);
    lists = refl;
    words = ap row_texts first;
    number = ap (λ r. r.line) first;
  }
  here h (r ∷ rs) e some others =
      let first : line_row l ≡ r = cc in
      let left : (rest_of (l.number + 1) ls).rows ≡ rs ++ row ∷ more = cc in
      subst (λ k. IsRowOf (l ∷ ls) (k ∷ rs) row) first (kept_before l ls rs row h some (others rs left))

  by_test : (v : Bool) → eqb (length (words_of l.bytes)) 0 ≡ v → IsClean l
      → (cond v (rest_of (l.number + 1) ls)
      (record (rest_of (l.number + 1) ls) { rows = line_row l ∷ (rest_of (l.number + 1) ls).rows })).rows ≡ rs ++ row ∷ more
      → ((rs : List Row) → (rest_of (l.number + 1) ls).rows ≡ rs ++ row ∷ more → IsRowOf ls rs row) → IsRowOf (l ∷ ls) rs row
  by_test true t h e others = passed_over l ls rs row h (without_words l t) (others rs e)
  by_test false t h e others = here h rs e (with_words l t) others

  by_row : (r : Result Row Refused) → row_of l ≡ r → (with_line r (rest_of (l.number + 1) ls)).rows ≡ rs ++ row ∷ more
      → ((rs : List Row) → (rest_of (l.number + 1) ls).rows ≡ rs ++ row ∷ more → IsRowOf ls rs row) → IsRowOf (l ∷ ls) rs row
  by_row (Ok row0) t e others =
      let u = row_of-ok l row0 t in
      by_test (eqb (length (words_of l.bytes)) 0) refl u.0 (ap (λ r. (with_line (Ok r) (rest_of (l.number + 1) ls)).rows) u.1 ∙ e) others
  by_row (Err fault) t e others = absurd (not_nothing rs e) where
    not_nothing : (rs : List Row) → [] ≡ rs ++ row ∷ more → ⊥
    not_nothing [] e = cc
    not_nothing (r ∷ rs) e = cc

-- clean lines up to one with words give its row after their own
pub record HasRow (rows rs : List Row) (row : Row) : Type 0 where
  pub more : List Row
  pub parts : rows ≡ rs ++ row ∷ more

pub front-again : (n : ℕ) (before : List LineText) (last : LineText) (after : List LineText) →
    AllByRecursion IsClean (before ++ last ∷ []) → has_words (line_words last) ≡ true
    → (rs : List Row) × HasRow (rest_of n (before ++ last ∷ after)).rows rs (line_row last) × (row_lists rs ≡ word_lists before)
front-again n [] last after h some =
    let none : eqb (length (words_of last.bytes)) 0 ≡ false = sym (some_words (words_of last.bytes)) ∙ not-true _ some in
    ([], rw (row_of-clean last h.0, none) (record { more = (rest_of (last.number + 1) after).rows; parts = refl }), refl)
front-again n (l ∷ ls) last after h some =
    let u = front-again (l.number + 1) ls last after h.1 some in
    rw (row_of-clean l h.0) (by_test (eqb (length (words_of l.bytes)) 0) refl u.0 u.1 u.2) where
      by_test : (v : Bool) → eqb (length (words_of l.bytes)) 0 ≡ v → (rs : List Row) →
          HasRow (rest_of (l.number + 1) (ls ++ last ∷ after)).rows rs (line_row last) → row_lists rs ≡ word_lists ls
          → (rs : List Row) × HasRow (cond v (rest_of (l.number + 1) (ls ++ last ∷ after))
          (record (rest_of (l.number + 1) (ls ++ last ∷ after)) {
            rows =
                line_row l ∷ (rest_of (l.number + 1) (ls ++ last ∷ after)).rows;
          })).rows rs (line_row last)
          × (row_lists rs ≡ word_lists (l ∷ ls))
      by_test true t rs u e = (rs, u, rw (without_words l t) e)
      by_test false t rs u e = (
        line_row l ∷ rs,
        record { more = u.more; parts = ap (λ k. line_row l ∷ k) u.parts },
        rw (with_words l t) (ap (λ k. line_words l ∷ k) e),
      )
