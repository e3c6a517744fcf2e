-- the items and the ends of a history: what is read is spelled so, and what is spelled so is read
use Rattle.std.proofs.Common.{◌≡◌, ℕ, zero, suc, ◌+◌, List, [], ◌∷◌, ◌++◌, length, map, Ok, codes, refl, ap, sym, ◌∙◌, subst, arith}
use Rattle.std.proofs.Common.{append_assoc, append-nil}
use Rattle.std.specs.List.{AllByRecursion}
use Rattle.std.specs.Fmt.{decimal}
use Rattle.std.proofs.lemmas.List.{length_push}
use Rattle.plat_base.specs.Machine.{Machine}
use Rattle.plat_base.specs.Report.{end_word}
use Rattle.plat_base.specs.Canon.{Words}
use Rattle.plat_grammar.specs.Forms.{Row, Rest, one, exactly, number, nothing, row_at, line_at}
use Rattle.plat_base.specs.declared.items.Item.{Item}
use Rattle.plat_base.specs.declared.endings.Ended.{Ended}
use Rattle.plat_text.proofs.Results.{taking, then_ok, ok_is, ok_first, ok_second}
use Rattle.plat_text.proofs.WordLaws.{exactly-law, number-law}
use Rattle.plat_text.proofs.FormLemmas.{row_taken}
use Rattle.plat_text.proofs.FormLaws.{row_texts, IsTail, one-law, nothing-law}
use Rattle.plat_text.proofs.SectionLaws.{rest_lists, Took, took_none, took_then, took_row, row_there, IsSection, line-law}
use Rattle.plat_grammar.specs.HistoryCanon.{item_words, ended_words, ended_lines}
use Rattle.plat_grammar.specs.HistoryForms.{named, endings, item_line, ended_line}
use Rattle.plat_grammar.specs.HistoryFaults.{items_from, ends_from}
use Rattle.plat_grammar.specs.HistoryGrammar.{IsTold, IsToldEnd}
use Rattle.plat_history.proofs.NameLaws.{endings-law}
use Rattle.plat_history.proofs.ItemLaws.{IsSmall, item-law, word_on, end_on}

-- ---- items

-- what the reading of items gave
record ItemsTook (m : Machine) (count : ℕ) (seen items : List Item) (rest after : Rest) : Type 0 where
  new : List Item
  all : items ≡ seen ++ new
  number : length new ≡ count
  took : Took rest after (map item_words new)
  told : AllByRecursion (IsTold m) new

module _ (m : Machine) (small : IsSmall m) where
  items-take : (n : ℕ) (seen : List Item) (rest : Rest) (items : List Item) (after : Rest) → items_from m n seen rest ≡ Ok (items, after) →
      ItemsTook m n seen items rest after
  unfolding items_from
  items-take zero seen rest items after e =
      let left : rest ≡ after = ok_second (seen, rest) (items, after) e in
      record {
        new = [];
        all = sym (ok_first (seen, rest) (items, after) e) ∙ sym (append-nil seen);
        number = refl;
        took = rw (← left) (took_none rest);
        told = tt;
      }
  items-take (suc n) seen rest items after e = taking (row_at rest) _ _ e (λ r r-is e1. taking (item_line m r.0) _ _ e1 (λ i i-is e2.
      let one = (item-law m small).takes r.0 i i-is in
      let u = items-take n (seen ++ i ∷ []) r.1 items after e2 in
      record {
        new = i ∷ u.new;
        all = u.all ∙ append_assoc seen (i ∷ []) u.new;
        number = ap suc u.number;
        took = took_then rest r.1 after (item_words i ∷ []) (map item_words u.new)
            (subst (λ k. Took rest r.1 (k ∷ [])) one.0 (took_row rest r.0 r.1 (row_taken rest r.0 r.1 r-is))) u.took;
        told = (one.1, u.told);
      }))

  items-again : (new seen : List Item) (rest : Rest) (more : List Words) → AllByRecursion (IsTold m) new →
      rest_lists rest ≡ map item_words new ++ more
      → (after : Rest) × (items_from m (length new) seen rest ≡ Ok (seen ++ new, after)) × (rest_lists after ≡ more)
  unfolding items_from
  items-again [] seen rest more h e = (rest, ap (λ k. Ok (k, rest)) (sym (append-nil seen)), e)
  items-again (i ∷ is) seen rest more h e =
      let r = row_there rest (item_words i) (map item_words is ++ more) e in
      let t = (item-law m small).again r.0 i h.0 r.3 in
      let u = items-again is (seen ++ i ∷ []) r.1 more h.1 r.4 in (
        u.0,
        then_ok (row_at rest) _ (r.0, r.1) _ r.2
            (then_ok (item_line m r.0) _ i _ (t.1 ∙ ap Ok t.2) (u.1 ∙ ap (λ k. Ok (k, u.0)) (append_assoc seen (i ∷ []) is))),
        u.2,
      )

  pub items-law : (n : ℕ) → IsSection (items_from m n []) (λ is. is) (λ is. map item_words is) (λ is. (length is ≡ n)
      × AllByRecursion (IsTold m) is) (λ _. Unit {0})
  items-law n = record {
    takes = λ rest items after e.
        let t = items-take n [] rest items after e in
        rw t.all (t.took, (t.number, t.told));
    again = λ rest items more h s e.
        let t = items-again items [] rest more h.1 e in
        (items, t.0, subst (λ k. items_from m k [] rest ≡ Ok (items, t.0)) h.0 t.1, refl, t.2);
  }

-- ---- ends

ended-law : (q : ℕ) → IsTail (ended_line q) (λ e. e) (λ e. decimal q ∷ end_word e.end ∷ decimal e.turns ∷ []) IsToldEnd
unfolding ended_line
ended-law q = record { takes = takes; again = λ row x h e. (x, again row x h e, refl) } where
  takes : (row : Row) (x : Ended) → ended_line q row ≡ Ok x → (row_texts row ≡ decimal q ∷ end_word x.end ∷ decimal x.turns ∷ [])
      × IsToldEnd x
  takes row x e =
      taking (one (exactly (decimal q)) row) _ _ e (λ node node-is e1. taking (one (named endings) node.1) _ _ e1 (λ end end-is e2.
      taking (number 0 65536 end.1) _ _ e2 (λ turns turns-is e3. taking (nothing turns.1) _ _ e3 (λ over over-is e4.
      let value : record { end = end.0; turns = turns.0 } ≡ x = ok_is (record { end = end.0; turns = turns.0 }) x e4 in
      let t0 = (one-law (exactly-law (decimal q))).takes row node.0 node.1 node-is in
      let t1 = (one-law endings-law).takes node.1 end.0 end.1 end-is in
      let t2 = (one-law (number-law 0 65536 (omega arith))).takes end.1 turns.0 turns.1 turns-is in
      let t3 = nothing-law.takes turns.1 over over-is in
      rw (← value) (
        t0.0 ∙ ap (λ k. decimal q ∷ k) (t1.0 ∙ ap (λ k. end_word end.0 ∷ k) (t2.0 ∙ ap (λ k. decimal turns.0 ∷ k) t3.0)),
        t2.1.1,
      )))))

  again : (row : Row) (x : Ended) → IsToldEnd x → row_texts row ≡ decimal q ∷ end_word x.end ∷ decimal x.turns ∷ [] →
      ended_line q row ≡ Ok x
  again row x h e =
      word_on (exactly-law (decimal q)) row (tt {0}) _ tt e _ _ (λ r1 e1.
      word_on endings-law r1 x.end _ tt e1 _ _ (λ r2 e2.
      word_on (number-law 0 65536 (omega arith)) r2 x.turns _ (omega arith, h) e2 _ _ (λ r3 e3.
      end_on r3 e3 _ _ refl)))

node_section : (q : ℕ) → IsSection (line_at (codes "processor") (ended_line q)) (λ e. e) (λ e. ended_words q e ∷ []) IsToldEnd
    (λ _. Unit {0})
node_section q = line-law (codes "processor") (ended-law q)

-- what the reading of ends gave
record EndsTook (count : ℕ) (seen ends : List Ended) (rest after : Rest) : Type 0 where
  new : List Ended
  all : ends ≡ seen ++ new
  number : length new ≡ count
  took : Took rest after (ended_lines (length seen) new)
  told : AllByRecursion IsToldEnd new

ends-take : (n : ℕ) (seen : List Ended) (rest : Rest) (ends : List Ended) (after : Rest) → ends_from n seen rest ≡ Ok (ends, after) →
    EndsTook n seen ends rest after
unfolding ends_from
ends-take zero seen rest ends after e =
    let left : rest ≡ after = ok_second (seen, rest) (ends, after) e in
    record {
      new = [];
      all = sym (ok_first (seen, rest) (ends, after) e) ∙ sym (append-nil seen);
      number = refl;
      took = rw (← left) (took_none rest);
      told = tt;
    }
ends-take (suc n) seen rest ends after e = taking (line_at (codes "processor") (ended_line (length seen)) rest) _ _ e (λ x x-is e1.
    let one = (node_section (length seen)).takes rest x.0 x.1 x-is in
    let u = ends-take n (seen ++ x.0 ∷ []) x.1 ends after e1 in
    let others : Took x.1 after (ended_lines (length seen + 1) u.new) =
    subst (λ k. Took x.1 after (ended_lines k u.new)) (length_push seen x.0) u.took in
    record {
      new = x.0 ∷ u.new;
      all = u.all ∙ append_assoc seen (x.0 ∷ []) u.new;
      number = ap suc u.number;
      took = took_then rest x.1 after (ended_words (length seen) x.0 ∷ []) (ended_lines (length seen + 1) u.new) one.0 others;
      told = (one.1, u.told);
    })

ends-again : (new seen : List Ended) (rest : Rest) (more : List Words) → AllByRecursion IsToldEnd new →
    rest_lists rest ≡ ended_lines (length seen) new ++ more
    → (after : Rest) × (ends_from (length new) seen rest ≡ Ok (seen ++ new, after)) × (rest_lists after ≡ more)
unfolding ends_from
ends-again [] seen rest more h e = (rest, ap (λ k. Ok (k, rest)) (sym (append-nil seen)), e)
ends-again (x ∷ xs) seen rest more h e =
    let t = (node_section (length seen)).again rest x (ended_lines (length seen + 1) xs ++ more) h.0 tt e in
    let left : rest_lists t.1 ≡ ended_lines (length (seen ++ x ∷ [])) xs ++ more = t.4
    ∙ ap (λ k. ended_lines k xs ++ more) (sym (length_push seen x)) in
    let u = ends-again xs (seen ++ x ∷ []) t.1 more h.1 left in (
      u.0,
      then_ok (line_at (codes "processor") (ended_line (length seen)) rest) _ (x, t.1) _ (t.2 ∙ ap (λ k. Ok (k, t.1)) t.3)
          (u.1 ∙ ap (λ k. Ok (k, u.0)) (append_assoc seen (x ∷ []) xs)),
      u.2,
    )

pub ends-law : (n : ℕ) → IsSection (ends_from n []) (λ es. es) (λ es. ended_lines 0 es) (λ es. (length es ≡ n)
    × AllByRecursion IsToldEnd es) (λ _. Unit {0})
ends-law n = record {
  takes = λ rest ends after e.
      let t = ends-take n [] rest ends after e in
      rw t.all (t.took, (t.number, t.told));
  again = λ rest ends more h s e.
      let t = ends-again ends [] rest more h.1 e in
      (ends, t.0, subst (λ k. ends_from k [] rest ≡ Ok (ends, t.0)) h.0 t.1, refl, t.2);
}
