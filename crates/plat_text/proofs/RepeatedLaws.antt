-- lines with one first word, no two of them the same: what is read is spelled so, and what is spelled so is read
use Rattle.std.proofs.Common.{◌≡◌, ℕ, Bool, true, false, not, List, [], ◌∷◌, ◌++◌, map, Result, Ok, bytes_eq}
use Rattle.std.proofs.Common.{refl, ap, sym, ◌∙◌, subst, append_assoc, append-nil, ⊎_elim}
use Rattle.std.specs.List.{AllByRecursion, list_any}
use Rattle.std.proofs.lemmas.Bool.{cases_Bool, and_parts, and_from, or_parts, not-true}
use Rattle.std.proofs.lemmas.Slice.Eq.{bytes_eq-Decides}
use Rattle.plat_grammar.specs.Lines.{Word, texts}
use Rattle.plat_base.specs.Machine.{all_differ}
use Rattle.plat_grammar.specs.Forms.{Row, Rest, Stop, word_at, first_word, once, repeated, all_with, refused}
use Rattle.plat_base.specs.declared.faults.Refused.{Refused}
use Rattle.plat_base.specs.declared.faults.Why.TheVariants.{Duplicate}
use Rattle.plat_text.proofs.Results.{taking, then_ok, ok_first, ok_second, stopped}
use Rattle.plat_text.proofs.FormLemmas.{word_taken}
use Rattle.plat_text.proofs.FormLaws.{row_texts, IsTail, word_there, texts_taken}
use Rattle.plat_text.proofs.SectionLaws.{row_lists, rest_lists, Took, took_none, took_then, took_row, IsSection}
use Rattle.plat_base.proofs.ListLemmas.{list_any-push}

-- ---- no two the same

module _ {A : Type 0} (same : A → A → Bool) (symmetric : (a b : A) → same a b ≡ same b a) where
  -- one more that is like none before
  pub differ-push : (xs : List A) (y : A) → all_differ same xs ≡ true → list_any (same y) xs ≡ false → all_differ same (xs ++ y ∷ []) ≡ true
  differ-push [] y d n = refl
  differ-push (x ∷ xs) y d n =
      let parts = and_parts (not (list_any (same x) xs)) (all_differ same xs) d in
      let apart = or_parts (same y x) (list_any (same y) xs) n in
      let others : list_any (same x) xs ≡ false = not-true _ parts.0 in
      let last : same x y ≡ false = symmetric x y ∙ apart.0 in
      and_from _ _ (rw (list_any-push (same x) xs y, others, last) refl) (differ-push xs y parts.1 apart.1)

  -- each is like none before
  pub differ-at : (xs : List A) (y : A) (ys : List A) → all_differ same (xs ++ y ∷ ys) ≡ true → list_any (same y) xs ≡ false
  differ-at [] y ys d = refl
  differ-at (x ∷ xs) y ys d =
      let parts = and_parts (not (list_any (same x) (xs ++ y ∷ ys))) (all_differ same (xs ++ y ∷ ys)) d in
      let apart = not_like x xs y ys (not-true _ parts.0) in
      rw (symmetric y x, apart, differ-at xs y ys parts.1) refl where
        not_like : (x : A) (xs : List A) (y : A) (ys : List A) → list_any (same x) (xs ++ y ∷ ys) ≡ false → same x y ≡ false
        not_like x [] y ys e = (or_parts (same x y) (list_any (same x) ys) e).0
        not_like x (z ∷ zs) y ys e = not_like x zs y ys (or_parts (same x z) (list_any (same x) (zs ++ y ∷ ys)) e).1

-- ---- one line that is like none before

module _ {A : Type 0} (same : A → A → Bool) {read : Row → Result A Refused} {spell : A → List (List ℕ)} {fits : A → Type 0}
    (law : IsTail read (λ x. x) spell fits) where
  pub once-takes : (seen : List A) (row : Row) (x : A) → once same seen read row ≡ Ok x → (row_texts row ≡ spell x) × fits x
      × (list_any (same x) seen ≡ false)
  once-takes seen row x e =
      taking (first_word row) _ _ e (λ w w-is e1. taking (read row) _ _ e1 (λ v v-is e2.
      let passed = stopped (list_any (same v) seen) v x (refused row.line w.column Duplicate) e2 in
      let t = law.takes row v v-is in
      (t.0 ∙ ap spell passed.1, subst fits passed.1 t.1, ap (λ k. list_any (same k) seen) (sym passed.1) ∙ passed.0)))

  pub once-again : (seen : List A) (row : Row) (x : A) (b : List ℕ) (more : List (List ℕ)) → fits x → spell x ≡ b ∷ more →
      list_any (same x) seen ≡ false → row_texts row ≡ spell x → once same seen read row ≡ Ok x
  once-again seen row x b more h s n e =
      let w = word_there row b more (e ∙ s) in
      let t = law.again row x h e in
      then_ok (first_word row) _ w.0 _ (then_ok (word_at row) _ (w.0, w.1) _ w.2 refl)
      (then_ok (read row) _ x _ (t.1 ∙ ap Ok t.2) (rw n refl))

-- what does not begin with this word
abbrev pub Stops : List ℕ → List (List (List ℕ)) → Type 0
Stops word [] = ⊥
Stops word ([] ∷ ls) = ⊥
Stops word ((w ∷ ws) ∷ ls) = bytes_eq w word ≡ false

module _ {A : Type 0} (word : List ℕ) (same : A → A → Bool) (symmetric : (a b : A) → same a b ≡ same b a)
    {read : Row → Result A Refused} {spell : A → List (List ℕ)} {fits : A → Type 0} (law : IsTail read (λ x. x) spell fits) where
  abbrev with_word : List A → List (List (List ℕ))
  with_word xs = map (λ x. word ∷ spell x) xs

  abbrev here : Stop → List Row → Rest
  here stop rows = record { rows = rows; stop = stop }

  repeated-takes : (stop : Stop) (seen : List A) (rows : List Row) (xs : List A) (after : Rest) →
      repeated word same read stop seen rows ≡ Ok (xs, after)
      → (new : List A) × (xs ≡ seen ++ new) × Took (here stop rows) after (with_word new) × AllByRecursion fits new
      × (all_differ same seen ≡ true → all_differ same xs ≡ true)
  repeated-takes stop seen [] xs after e = cc
  repeated-takes stop seen (row ∷ rows) xs after e = taking (word_at row) _ _ e (λ w w-is e1. ⊎_elim
      (λ t. taking (once same seen read w.1) _ _ (rw t at e1) (λ x x-is e2.
      let one = once-takes same law seen w.1 x x-is in
      let u = repeated-takes stop (seen ++ x ∷ []) rows xs after e2 in
      let spelled : row_texts row ≡ word ∷ spell x = texts_taken row w.0 w.1 (word_taken row w.0 w.1 w-is)
      ∙ rw ((bytes_eq-Decides w.0.bytes word).0 t, one.0) refl in
      let first : Took (here stop (row ∷ rows)) (here stop rows) ((word ∷ spell x) ∷ []) =
      rw (← spelled) (took_row (here stop (row ∷ rows)) row (here stop rows)
      (record { rows = refl; stop = refl })) in (
        x ∷ u.0,
        u.1 ∙ append_assoc seen (x ∷ []) u.0,
        took_then _ _ _ ((word ∷ spell x) ∷ []) (with_word u.0) first u.2,
        (one.1, u.3),
        λ d. u.4 (differ-push same symmetric seen x d one.2),
      )))
      (λ t.
      let e2 : ◌≡◌ {A = Result (List A × Rest) Refused} (Ok (seen, here stop (row ∷ rows))) (Ok (xs, after)) = rw t at e1 in
      let all : seen ≡ xs = ok_first (seen, here stop (row ∷ rows)) (xs, after) e2 in
      let left : here stop (row ∷ rows) ≡ after = ok_second (seen, here stop (row ∷ rows)) (xs, after) e2 in
      ([], sym all ∙ sym (append-nil seen), rw (← left) (took_none (here stop (row ∷ rows))), tt, λ d. rw (← all) d))
      (cases_Bool (bytes_eq w.0.bytes word)))

  repeated-again : (nonempty : (x : A) → (b : List ℕ) × (more : List (List ℕ)) × (spell x ≡ b ∷ more)) (stop : Stop)
      (seen new : List A) (rows : List Row) (more : List (List (List ℕ)))
      → AllByRecursion fits new → all_differ same (seen ++ new) ≡ true → Stops word more → row_lists rows ≡ with_word new ++ more
      → (after : Rest) × (repeated word same read stop seen rows ≡ Ok (seen ++ new, after)) × (rest_lists after ≡ more)
  repeated-again nonempty stop seen [] [] more h d s e = absurd (subst (Stops word) (sym e) s)
  repeated-again nonempty stop seen [] (row ∷ rows) more h d s e = by_words row.words (subst (Stops word) (sym e) s) e where
    by_words : (ws : List Word) → Stops word (texts ws ∷ row_lists rows) → texts ws ∷ row_lists rows ≡ more
        → (after : Rest) × (repeated word same read stop seen (record row { words = ws } ∷ rows) ≡ Ok (seen ++ [], after))
        × (rest_lists after ≡ more)
    by_words [] s e = absurd s
    by_words (w ∷ ws) s e = (here stop (record row { words = w ∷ ws } ∷ rows), rw (s, append-nil) refl, e)
  repeated-again nonempty stop seen (x ∷ xs) [] more h d s e = absurd cc
  repeated-again nonempty stop seen (x ∷ xs) (row ∷ rows) more h d s e =
      let first : row_texts row ≡ word ∷ spell x = cc in
      let others : row_lists rows ≡ with_word xs ++ more = cc in
      let t = word_there row word (spell x) first in
      let apart = differ-at same symmetric seen x xs d in
      let n = nonempty x in
      let o = once-again same law seen t.1 x n.0 n.1 h.0 n.2 apart t.4 in
      let u = repeated-again nonempty stop (seen ++ x ∷ []) xs rows more h.1 (rw append_assoc d) s others in
      let yes : bytes_eq t.0.bytes word ≡ true = (bytes_eq-Decides t.0.bytes word).1 t.3 in (
        u.0,
        then_ok (word_at row) _ (t.0, t.1) _ t.2
            (rw yes (then_ok (once same seen read t.1) _ x _ o (u.1 ∙ ap (λ k. Ok (k, u.0)) (append_assoc seen (x ∷ []) xs)))),
        u.2,
      )

  pub repeated-law : ((x : A) → (b : List ℕ) × (more : List (List ℕ)) × (spell x ≡ b ∷ more))
      → IsSection (all_with word same read) (λ xs. xs) with_word (λ xs. AllByRecursion fits xs × (all_differ same xs ≡ true)) (Stops word)
  repeated-law nonempty = record {
    takes = λ rest xs after e.
        let t = repeated-takes rest.stop [] rest.rows xs after e in
        (rw t.1 t.2, (rw t.1 t.3, t.4 refl));
    again = λ rest xs more h s e.
        let t = repeated-again nonempty rest.stop [] xs rest.rows more h.0 h.1 s e in
        (xs, t.0, t.1, refl, t.2);
  }
