-- forms and tails: what is read is spelled so, and what is spelled so is read
use Rattle.std.proofs.Common.{◌≡◌, ℕ, suc, ◌+◌, ◌≤◌, false, eqb, leb, List, [], ◌∷◌, ◌++◌, length, map}
use Rattle.std.proofs.Common.{Option, Some, None, Result, Ok, Err, bytes_eq, refl, ap, sym, ◌∙◌, subst, arith, append_assoc, append-nil}
use Rattle.std.proofs.Common.{⊎_elim}
use Rattle.std.specs.List.{AllByRecursion}
use Rattle.std.proofs.Math.Dec.{eqb-suc-zero}
use Rattle.std.proofs.lemmas.Bool.{cases_Bool, leb-false, lt-leb}
use Rattle.std.proofs.lemmas.Bool.Decides.{nat_tests}
use Rattle.std.proofs.lemmas.List.{length_push}
use Rattle.std.proofs.lemmas.Slice.Eq.{bytes_eq-Decides}
use Rattle.plat_grammar.specs.Lines.{Word, texts}
use Rattle.plat_grammar.specs.Forms.{Row, word_at, word_from, first_word, refused, read_as, one, nothing, nothing_from, ◌·◌, made}
use Rattle.plat_grammar.specs.Forms.{maybe, each, listed, chosen, choice}
use Rattle.plat_base.specs.declared.faults.Refused.{Refused}
use Rattle.plat_base.specs.declared.faults.Why.{Why}
use Rattle.plat_base.specs.declared.faults.Why.TheVariants.{TooMany}
use Rattle.plat_text.proofs.Results.{taking, then_ok, ok_is, ok_first, ok_second}
use Rattle.plat_text.proofs.FormLemmas.{TakesWord, word_taken}
use Rattle.plat_text.proofs.WordLaws.{IsWordForm}

-- the words of a row that are still to read, without places
abbrev pub row_texts : Row → List (List ℕ)
row_texts row = texts row.words

-- what a form reads, seen without places by sees, is spelled so and fits; and what fits and is spelled so is read
pub record IsForm {A B : Type 0} (read : Row → Result (A × Row) Refused) (sees : A → B) (spell : B → List (List ℕ)) (fits : B →
    Type 0) : Type 0 where
  pub takes : (row : Row) (x : A) (after : Row) → read row ≡ Ok (x, after) → (row_texts row ≡ spell (sees x) ++ row_texts after)
      × fits (sees x)
  pub again : (row : Row) (y : B) (more : List (List ℕ)) → fits y → row_texts row ≡ spell y ++ more → (x : A) × (after : Row)
      × (read row ≡ Ok (x, after)) × (sees x ≡ y) × (row_texts after ≡ more)

-- the same of what reads all that is left
pub record IsTail {A B : Type 0} (read : Row → Result A Refused) (sees : A → B) (spell : B → List (List ℕ)) (fits : B → Type 0) : Type
    0 where
  pub takes : (row : Row) (x : A) → read row ≡ Ok x → (row_texts row ≡ spell (sees x)) × fits (sees x)
  pub again : (row : Row) (y : B) → fits y → row_texts row ≡ spell y → (x : A) × (read row ≡ Ok x) × (sees x ≡ y)

-- ---- one word

pub read_as-ok : {A : Type 0} (line : ℕ) (w : Word) (r : Result A Why) (x : A) → read_as line w r ≡ Ok x → r ≡ Ok x
read_as-ok line w (Ok y) x e = ap Ok (ok_is y x e)
read_as-ok line w (Err why) x e = cc

pub texts_taken : (row : Row) (w : Word) (after : Row) → TakesWord row w after → row_texts row ≡ w.bytes ∷ row_texts after
texts_taken row w after t = ap texts t.words

-- a word is there where its text is
pub word_there : (row : Row) (b : List ℕ) (more : List (List ℕ)) → row_texts row ≡ b ∷ more → (w : Word) × (after : Row)
    × (word_at row ≡ Ok (w, after)) × (w.bytes ≡ b) × (row_texts after ≡ more)
word_there row b more e = by_words row.words e where
  by_words : (ws : List Word) → texts ws ≡ b ∷ more → (w : Word) × (after : Row) × (word_from row ws ≡ Ok (w, after)) × (w.bytes ≡ b)
      × (row_texts after ≡ more)
  by_words [] e = absurd cc
  by_words (w ∷ ws) e = (w, record row { words = ws }, refl, cc, cc)

module _ {A : Type 0} {of : List ℕ → Result A Why} {spell : A → List ℕ} {fits : A → Type 0} (law : IsWordForm of spell fits) where
  one-takes : (row : Row) (x : A) (after : Row) → one of row ≡ Ok (x, after) → (row_texts row ≡ spell x ∷ row_texts after) × fits x
  one-takes row x after e =
      taking (word_at row) _ _ e (λ w w-is e1. taking (read_as row.line w.0 (of w.0.bytes)) _ _ e1 (λ v v-is e2.
      let value : v ≡ x = ok_first (v, w.1) (x, after) e2 in
      let left : w.1 ≡ after = ok_second (v, w.1) (x, after) e2 in
      let t = law.takes w.0.bytes v (read_as-ok row.line w.0 (of w.0.bytes) v v-is) in
      (texts_taken row w.0 w.1 (word_taken row w.0 w.1 w-is) ∙ rw (t.0, value, left) refl, subst fits value t.1)))

  one-again : (row : Row) (y : A) (more : List (List ℕ)) → fits y → row_texts row ≡ spell y ∷ more → (x : A) × (after : Row)
      × (one of row ≡ Ok (x, after)) × (x ≡ y) × (row_texts after ≡ more)
  one-again row y more h e =
      let t = word_there row (spell y) more e in
      (y, t.1, rw (t.2, t.3, law.again y h) refl, refl, t.4)

  pub one-law : IsForm (one of) (λ x. x) (λ x. spell x ∷ []) fits
  one-law = record { takes = one-takes; again = one-again }

-- ---- the end of a line

pub nothing-law : IsTail nothing (λ x. x) (λ _. []) (λ _. Unit {0})
nothing-law = record {
  takes = λ row x e. (by_words row row.words x e, tt);
  again = λ row y h e. (y, is_over row row.words y e, refl);
} where
  by_words : (row : Row) (ws : List Word) (x : Unit {0}) → nothing_from row ws ≡ Ok x → texts ws ≡ []
  by_words row [] x e = refl
  by_words row (w ∷ ws) x e = cc

  is_over : (row : Row) (ws : List Word) (y : Unit {0}) → texts ws ≡ [] → nothing_from row ws ≡ Ok y
  is_over row [] y e = refl
  is_over row (w ∷ ws) y e = cc

-- ---- one after the other

module _ {A B A' B' : Type 0} {f : Row → Result (A × Row) Refused} {g : Row → Result A' Refused} {sees : A → B} {sees' : A' → B'}
    {spell : B → List (List ℕ)} {spell' : B' → List (List ℕ)} {fits : B → Type 0} {fits' : B' → Type 0} (first : IsForm f sees spell fits)
    (then : IsTail g sees' spell' fits') where
  pub before-law : IsTail {B = B × B'} (f · g) (λ x. (sees x.0, sees' x.1)) (λ y. spell y.0 ++ spell' y.1) (λ y. fits y.0 × fits' y.1)
  before-law = record {
    takes = λ row x e. taking (f row) _ _ e (λ a a-is e1. taking (g a.1) _ _ e1 (λ b b-is e2.
        let value : (a.0, b) ≡ x = ok_is (a.0, b) x e2 in
        let t = first.takes row a.0 a.1 a-is in
        let u = then.takes a.1 b b-is in
        rw (← value) (t.0 ∙ ap (λ k. spell (sees a.0) ++ k) u.0, (t.1, u.1))));
    again = λ row y h e.
        let t = first.again row y.0 (spell' y.1) h.0 e in
        let u = then.again t.1 y.1 h.1 t.4 in
        ((t.0, u.0), then_ok (f row) _ (t.0, t.1) _ t.2 (then_ok (g t.1) _ u.0 _ u.1 refl), rw (t.3, u.2) refl);
  }

-- ---- made into something else

module _ {A B C D : Type 0} {read : Row → Result A Refused} {sees : A → B} {spell : B → List (List ℕ)} {fits : B → Type 0}
    (law : IsTail read sees spell fits)
    (make : A → C) (sees' : C → D) (parts : D → B) where
  pub made-law : ((a : A) → parts (sees' (make a)) ≡ sees a) → ((a : A) (d : D) → sees a ≡ parts d → sees' (make a) ≡ d)
      → IsTail (made make read) sees' (λ d. spell (parts d)) (λ d. fits (parts d))
  made-law there back = record {
    takes = λ row x e. taking (read row) _ _ e (λ a a-is e1.
        let value : make a ≡ x = ok_is (make a) x e1 in
        let t = law.takes row a a-is in
        rw (← value) (t.0 ∙ ap spell (sym (there a)), subst fits (sym (there a)) t.1));
    again = λ row d h e.
        let t = law.again row (parts d) h e in
        (make t.0, then_ok (read row) _ t.0 _ t.1 refl, back t.0 d t.2);
  }

-- the same spelling and limits in other words
module _ {A B : Type 0} {read : Row → Result A Refused} {sees : A → B} {spell : B → List (List ℕ)} {fits : B → Type 0}
    (law : IsTail read sees spell fits)
    {spell' : B → List (List ℕ)} {fits' : B → Type 0} where
  pub same-law : ((y : B) → fits y → (spell y ≡ spell' y) × fits' y) → ((y : B) → fits' y → (spell' y ≡ spell y) × fits y) →
      IsTail read sees spell' fits'
  same-law to from = record {
    takes = λ row x e. let t = law.takes row x e in let u = to (sees x) t.1 in (t.0 ∙ u.0, u.1);
    again = λ row y h e. let u = from y h in law.again row y u.1 (e ∙ u.0);
  }

-- ---- a last word that may be left out

abbrev pub maybe_words : {A : Type 0} → (A → List ℕ) → Option A → List (List ℕ)
maybe_words spell None = []
maybe_words spell (Some x) = spell x ∷ []

abbrev pub maybe_fits : {A : Type 0} → (A → Type 0) → Option A → Type 0
maybe_fits fits None = Unit {0}
maybe_fits fits (Some x) = fits x

module _ {A : Type 0} {of : List ℕ → Result A Why} {spell : A → List ℕ} {fits : A → Type 0} (law : IsWordForm of spell fits) where
  last-law : IsTail {B = A × Unit {0}} (one of · nothing) (λ x. (x.0, x.1)) (λ y. (spell y.0 ∷ []) ++ []) (λ y. fits y.0 × Unit {0})
  last-law = before-law (one-law law) nothing-law

  pub maybe-law : IsTail (maybe (one of)) (λ x. x) (maybe_words spell) (maybe_fits fits)
  maybe-law = record {
    takes = λ row x e. maybe_takes row row.words x e;
    again = λ row y h e. (y, maybe_again row row.words y h e, refl);
  } where
    maybe_takes : (row : Row) (ws : List Word) (x : Option A) → maybe (one of) (record row { words = ws }) ≡ Ok x →
        (texts ws ≡ maybe_words spell x) × maybe_fits fits x
    maybe_takes row [] x e = let none : None ≡ x = ok_is None x e in rw (← none) (refl, tt)
    maybe_takes row (w ∷ ws) x e =
        taking ((one of · nothing) (record row { words = w ∷ ws })) _ _ (rw (eqb-suc-zero (length ws)) at e) (λ a a-is e1.
        let value : Some a.0 ≡ x = ok_is (Some a.0) x e1 in
        let t = last-law.takes (record row { words = w ∷ ws }) a a-is in
        rw (← value) (t.0, t.1.0))

    maybe_again : (row : Row) (ws : List Word) (y : Option A) → maybe_fits fits y → texts ws ≡ maybe_words spell y →
        maybe (one of) (record row { words = ws }) ≡ Ok y
    maybe_again row [] None h e = refl
    maybe_again row (w ∷ ws) None h e = cc
    maybe_again row [] (Some x) h e = cc
    maybe_again row (w ∷ ws) (Some x) h e =
        let t = last-law.again (record row { words = w ∷ ws }) (x, tt) (h, tt) e in
        rw (eqb-suc-zero (length ws)) (then_ok ((one of · nothing) (record row { words = w ∷ ws })) _ t.0 _ t.1 (rw t.2 refl))

-- ---- words up to the end of a line

module _ {A : Type 0} {of : List ℕ → Result A Why} {spell : A → List ℕ} {fits : A → Type 0} (law : IsWordForm of spell fits)
    (limit : ℕ) where
  each-takes : (line : ℕ) (seen : List A) (ws : List Word) (xs : List A) → each of limit line seen ws ≡ Ok xs
      → (new : List A) × (xs ≡ seen ++ new) × (texts ws ≡ map spell new) × AllByRecursion fits new
      × (length seen ≤ limit → length xs ≤ limit)
  each-takes line seen [] xs e = let all : seen ≡ xs = ok_is seen xs e in ([], sym all ∙ sym (append-nil seen), refl, tt, λ h. rw (← all) h)
  each-takes line seen (w ∷ ws) xs e = ⊎_elim
      (λ t. absurd (many (rw t at e)))
      (λ t. taking (read_as line w (of w.bytes)) _ _ (rw t at e) (λ x x-is e1.
      let one = law.takes w.bytes x (read_as-ok line w (of w.bytes) x x-is) in
      let u = each-takes line (seen ++ x ∷ []) ws xs e1 in (
        x ∷ u.0,
        u.1 ∙ append_assoc seen (x ∷ []) u.0,
        rw (one.0, u.2) refl,
        (one.1, u.3),
        λ h. u.4 (rw length_push (omega (arith, leb-false limit (length seen) t))),
      )))
      (cases_Bool (leb limit (length seen))) where
        many : ◌≡◌ {A = Result (List A) Refused} (Err (refused line w.column TooMany)) (Ok xs) → ⊥
        many e = cc

  each-again : (line : ℕ) (seen : List A) (ws : List Word) (new : List A) → AllByRecursion fits new → length seen + length new ≤ limit →
      texts ws ≡ map spell new → each of limit line seen ws ≡ Ok (seen ++ new)
  each-again line seen [] [] h few e = ap Ok (sym (append-nil seen))
  each-again line seen (w ∷ ws) [] h few e = cc
  each-again line seen [] (x ∷ xs) h few e = cc
  each-again line seen (w ∷ ws) (x ∷ xs) h few e =
      let first : w.bytes ≡ spell x = cc in
      let others : texts ws ≡ map spell xs = cc in
      let room : leb limit (length seen) ≡ false = lt-leb limit (length seen) (omega (arith, few)) in
      let next = each-again line (seen ++ x ∷ []) ws xs h.1 (rw length_push (omega (arith, few))) others in
      rw (room, first, law.again x h.0) (next ∙ ap Ok (append_assoc seen (x ∷ []) xs))

  pub listed-law : IsTail (listed of limit) (λ xs. xs) (λ xs. map spell xs) (λ xs. (1 ≤ length xs) × (length xs ≤ limit)
      × AllByRecursion fits xs)
  listed-law = record {
    takes = λ row xs e. taking (first_word row) _ _ e (λ w w-is e1.
        let t = each-takes row.line [] row.words xs e1 in
        let spelled : row_texts row ≡ map spell xs = t.2 ∙ ap (λ k. map spell k) (sym t.1) in
        taking (word_at row) _ _ w-is (λ v v-is e2. (
          spelled,
          (
            some xs row _ _ (texts_taken row v.0 v.1 (word_taken row v.0 v.1 v-is)) spelled,
            t.4 (omega arith),
            subst (λ k. AllByRecursion fits k) (sym t.1) t.3,
          ),
        )));
    again = λ row xs h e. (xs, again row xs h e, refl);
  } where
    some : (xs : List A) (row : Row) (b : List ℕ) (more : List (List ℕ)) → row_texts row ≡ b ∷ more → row_texts row ≡ map spell xs →
        1 ≤ length xs
    some [] row b more e f = absurd cc
    some (x ∷ xs) row b more e f = omega arith

    again : (row : Row) (xs : List A) → (1 ≤ length xs) × (length xs ≤ limit) × AllByRecursion fits xs → row_texts row ≡ map spell xs →
        listed of limit row ≡ Ok xs
    again row [] h e = absurd (omega (arith, h.0))
    again row (x ∷ xs) h e =
        let t = word_there row (spell x) (map spell xs) e in
        then_ok (first_word row) _ t.0 _ (then_ok (word_at row) _ (t.0, t.1) _ t.2 refl)
        (each-again row.line [] row.words (x ∷ xs) h.2 (omega (arith, h.1)) e)

-- ---- kinds of line

pub record IsKind {A B : Type 0} (sees : A → B) (spell : B → List (List ℕ)) (fits : B → Type 0)
    (kind : List ℕ × (Row → Result A Refused)) : Type 0 where
  pub takes : (row : Row) (x : A) → kind.1 row ≡ Ok x → (kind.0 ∷ row_texts row ≡ spell (sees x)) × fits (sees x)

module _ {A B : Type 0} (sees : A → B) (spell : B → List (List ℕ)) (fits : B → Type 0) where
  pub kind-law : {read : Row → Result A Refused} {spell' : B → List (List ℕ)} {fits' : B → Type 0} (word : List ℕ) →
      IsTail read sees spell' fits'
      → ((y : B) → fits' y → (word ∷ spell' y ≡ spell y) × fits y) → IsKind sees spell fits (word, read)
  kind-law word law same = record {
    takes = λ row x e. let t = law.takes row x e in let u = same (sees x) t.1 in (ap (λ ws. word ∷ ws) t.0 ∙ u.0, u.1);
  }

  pub chosen-takes : (kinds : List (List ℕ × (Row → Result A Refused))) (fault : Refused) (word : List ℕ) (row : Row) (x : A)
      → AllByRecursion (IsKind sees spell fits) kinds → chosen kinds fault word row ≡ Ok x → (word ∷ row_texts row ≡ spell (sees x))
      × fits (sees x)
  chosen-takes [] fault word row x h e = cc
  chosen-takes (kind ∷ kinds) fault word row x h e = ⊎_elim
      (λ t. let u = h.0.takes row x (rw t at e) in (ap (λ w. w ∷ row_texts row) ((bytes_eq-Decides word kind.0).0 t) ∙ u.0, u.1))
      (λ t. chosen-takes kinds fault word row x h.1 (rw t at e))
      (cases_Bool (bytes_eq word kind.0))

-- ---- kinds of line that make something of what they read

module _ {A B C D : Type 0} {read : Row → Result A Refused} {sees : A → B} {spell : B → List (List ℕ)} {fits : B → Type 0}
    (law : IsTail read sees spell fits)
    (make : A → C) (sees' : C → D) (view : B → D) (made_is : (a : A) → sees' (make a) ≡ view (sees a)) where
  pub made-kind : (spell' : D → List (List ℕ)) (fits' : D → Type 0) (word : List ℕ) →
      ((b : B) → fits b → (word ∷ spell b ≡ spell' (view b)) × fits' (view b)) → IsKind sees' spell' fits' (word, made make read)
  made-kind spell' fits' word same = record {
    takes = λ row x e. taking (read row) _ _ e (λ a a-is e1.
        let value : make a ≡ x = ok_is (make a) x e1 in
        let seen : view (sees a) ≡ sees' x = sym (made_is a) ∙ ap sees' value in
        let t = law.takes row a a-is in
        let u = same (sees a) t.1 in
        (ap (λ ws. word ∷ ws) t.0 ∙ u.0 ∙ ap spell' seen, subst fits' seen u.1));
  }

  pub made-again : (row : Row) (b : B) → fits b → row_texts row ≡ spell b → (x : C) × (made make read row ≡ Ok x) × (sees' x ≡ view b)
  made-again row b h e = let t = law.again row b h e in (make t.0, then_ok (read row) _ t.0 _ t.1 refl, made_is t.0 ∙ ap view t.2)

module _ {A B : Type 0} (sees : A → B) (spell : B → List (List ℕ)) (fits : B → Type 0) (kinds : List (List ℕ × (Row → Result A Refused)))
    (why : Why) where
  pub choice-takes : (row : Row) (x : A) → AllByRecursion (IsKind sees spell fits) kinds → choice kinds why row ≡ Ok x →
      (row_texts row ≡ spell (sees x)) × fits (sees x)
  choice-takes row x h e = taking (word_at row) _ _ e (λ w w-is e1.
      let t = chosen-takes sees spell fits kinds (refused row.line w.0.column why) w.0.bytes w.1 x h e1 in
      (texts_taken row w.0 w.1 (word_taken row w.0 w.1 w-is) ∙ t.0, t.1))

  pub choice-again : (row : Row) (y : B) (word : List ℕ) (words : List (List ℕ)) → row_texts row ≡ word ∷ words
      → ((fault : Refused) (after : Row) → row_texts after ≡ words → (x : A) × (chosen kinds fault word after ≡ Ok x) × (sees x ≡ y))
      → (x : A) × (choice kinds why row ≡ Ok x) × (sees x ≡ y)
  choice-again row y word words e go =
      let t = word_there row word words e in
      let u = go (refused row.line t.0.column why) t.1 t.4 in
      (u.0, then_ok (word_at row) _ (t.0, t.1) _ t.2 (rw t.3 u.1), u.2)
