-- distances, entries and starting values: what is read is spelled so, and what is spelled so is read
use Rattle.std.proofs.Common.{◌≡◌, ℕ, ◌^◌, ◌<◌, ◌≤◌, Bool, true, false, not, ◌&&◌, cond, eqb, ltb, List, [], ◌∷◌, length}
use Rattle.std.proofs.Common.{map, Ok, Err, codes, refl, ap, sym, ◌∙◌, arith}
use Rattle.std.specs.Fmt.{decimal}
use Rattle.std.specs.List.{AllByRecursion}
use Rattle.std.proofs.lemmas.Bool.{and_parts, and_from, lt-ltb, ltb-true, not-true, not_from_false}
use Rattle.std.proofs.lemmas.Bool.Decides.{nat_tests}
use Rattle.plat_grammar.specs.Lines.{number_of}
use Rattle.plat_base.specs.Machine.{is_within, is_distance, is_entry, is_init, is_number, same_nodes, same_place, same_word, all_differ}
use Rattle.plat_base.specs.Canon.{distance_words, entry_words, init_words}
use Rattle.plat_grammar.specs.Forms.{Row, Rest, one, nothing, number, below}
use Rattle.plat_grammar.specs.FirstFault.{other_node, distance_line, entry_line, init_line, distances_at, entries_at, inits_at}
use Rattle.plat_base.specs.declared.faults.Why.TheVariants as why
use Rattle.plat_base.specs.declared.configs.Distance.{Distance}
use Rattle.plat_base.specs.declared.configs.Entry.{Entry}
use Rattle.plat_base.specs.declared.configs.Init.{Init}
use Rattle.plat_base.proofs.EntryLimits.{entries-few}
use Rattle.plat_base.proofs.ListLemmas.{all-from}
use Rattle.plat_text.proofs.Results.{taking, then_ok, ok_is}
use Rattle.plat_text.proofs.NumberLemmas.{number_of-takes, number_of-again}
use Rattle.plat_text.proofs.WordLaws.{IsWordForm, number-law, below-law, any-law, is_within-true, is_within-from}
use Rattle.plat_text.proofs.FormLaws.{row_texts, IsTail, one-law, nothing-law, before-law, made-law, same-law}
use Rattle.plat_text.proofs.SectionLaws.{IsSection}
use Rattle.plat_text.proofs.RepeatedLaws.{repeated-law, Stops}

-- ---- distances

both_passed : (b c : Bool) (n m : ℕ) → cond b (cond c (Err why.SelfDistance) (Ok n)) (Err why.OutOfRange) ≡ Ok m → (b ≡ true) × (c ≡ false)
    × (n ≡ m)
both_passed true true n m e = cc
both_passed true false n m e = (refl, refl, ok_is n m e)
both_passed false c n m e = cc

other-law : (nodes a : ℕ) → nodes < 2 ^ 32 → IsWordForm (other_node nodes a) decimal (λ b. (b < nodes) × (eqb b a ≡ false))
other-law nodes a few = record {
  takes = λ w b e. taking (number_of w) _ b e (λ n n-is e1.
      let passed = both_passed (ltb n nodes) (eqb n a) n b e1 in (
        (number_of-takes w n n-is).0 ∙ ap decimal passed.2,
        (rw (← passed.2) (ltb-true n nodes passed.0), ap (λ k. eqb k a) (sym passed.2) ∙ passed.1),
      ));
  again = λ b h. then_ok (number_of (decimal b)) _ b _ (number_of-again b (omega (arith, h.0, few))) (rw (lt-ltb b nodes h.0, h.1) refl);
}

is_distance-parts : (nodes : ℕ) (d : Distance) → is_distance nodes d ≡ true → (d.a < nodes) × (d.b < nodes) × (eqb d.b d.a ≡ false)
    × ((1 ≤ d.d) × (d.d ≤ 1000))
is_distance-parts nodes d e =
    let last = and_parts (ltb d.a nodes && ltb d.b nodes && not (eqb d.a d.b)) (is_within 1 1000 d.d) e in
    let third = and_parts (ltb d.a nodes && ltb d.b nodes) (not (eqb d.a d.b)) last.0 in
    let first = and_parts (ltb d.a nodes) (ltb d.b nodes) third.0 in
    (ltb-true d.a nodes first.0, ltb-true d.b nodes first.1, turned d.a d.b (not-true _ third.1), is_within-true 1 1000 d.d last.1) where
      turned : (a b : ℕ) → eqb a b ≡ false → eqb b a ≡ false
      turned a b h = grind (arith, nat_tests, h)

is_distance-from : (nodes a b d : ℕ) → a < nodes → b < nodes → eqb b a ≡ false → 1 ≤ d → d ≤ 1000 →
    is_distance nodes (record { a = a; b = b; d = d }) ≡ true
is_distance-from nodes a b d ha hb apart low high =
    and_from (ltb a nodes && ltb b nodes && not (eqb a b)) (is_within 1 1000 d)
    (and_from (ltb a nodes && ltb b nodes) (not (eqb a b)) (and_from (ltb a nodes) (ltb b nodes) (lt-ltb a nodes ha) (lt-ltb b nodes hb))
    (not_from_false _ (turned a b apart)))
    (is_within-from 1 1000 d low high) where
      turned : (a b : ℕ) → eqb b a ≡ false → eqb a b ≡ false
      turned a b h = grind (arith, nat_tests, h)

abbrev pub distance_tail : Distance → List (List ℕ)
distance_tail d = decimal d.a ∷ decimal d.b ∷ decimal d.d ∷ []

module _ (nodes : ℕ) (few : nodes < 2 ^ 32) where
  small : nodes ≤ 2 ^ 32
  small = omega (arith, few)

  distance-takes : (row : Row) (d : Distance) → distance_line nodes row ≡ Ok d → (row_texts row ≡ distance_tail d)
      × (is_distance nodes d ≡ true)
  unfolding distance_line
  distance-takes row d e =
      taking (below nodes row) _ d e
      (λ a a-is e1. taking (one (other_node nodes a.0) a.1) _ d e1
      (λ b b-is e2. taking (number 1 1000 b.1) _ d e2 (λ k k-is e3. taking (nothing k.1) _ d e3 (λ n n-is e4.
      let all : record { a = a.0; b = b.0; d = k.0 } ≡ d = ok_is _ d e4 in
      let ta = (one-law (below-law nodes small)).takes row a.0 a.1 a-is in
      let tb = (one-law (other-law nodes a.0 few)).takes a.1 b.0 b.1 b-is in
      let tk = (one-law (number-law 1 1000 (omega arith))).takes b.1 k.0 k.1 k-is in
      let tn = nothing-law.takes k.1 n n-is in
      rw (← all) (rw (ta.0, tb.0, tk.0, tn.0) refl, is_distance-from nodes a.0 b.0 k.0 ta.1 tb.1.0 tb.1.1 tk.1.0 tk.1.1)))))

  distance-again : (row : Row) (d : Distance) → is_distance nodes d ≡ true → row_texts row ≡ distance_tail d →
      distance_line nodes row ≡ Ok d
  unfolding distance_line
  distance-again row d h e =
      let parts = is_distance-parts nodes d h in
      let ta = (one-law (below-law nodes small)).again row d.a (decimal d.b ∷ decimal d.d ∷ []) parts.0 e in
      let tb = (one-law (other-law nodes d.a few)).again ta.1 d.b (decimal d.d ∷ []) (parts.1, parts.2) ta.4 in
      let tk = (one-law (number-law 1 1000 (omega arith))).again tb.1 d.d [] parts.3 tb.4 in
      let tn = nothing-law.again tk.1 (tt {0}) tt tk.4 in
      then_ok (below nodes row) _ (d.a, ta.1) _ (ta.2 ∙ ap (λ k. Ok (k, ta.1)) ta.3)
      (then_ok (one (other_node nodes d.a) ta.1) _ (d.b, tb.1) _ (tb.2 ∙ ap (λ k. Ok (k, tb.1)) tb.3)
      (then_ok (number 1 1000 tb.1) _ (d.d, tk.1) _ (tk.2 ∙ ap (λ k. Ok (k, tk.1)) tk.3)
      (then_ok (nothing tk.1) _ tn.0 _ tn.1 refl)))

  pub distance-law : IsTail (distance_line nodes) (λ d. d) distance_tail (λ d. is_distance nodes d ≡ true)
  distance-law = record { takes = distance-takes; again = λ row d h e. (d, distance-again row d h e, refl) }

-- two pairs of numbers are the same either way
swapped : (x y v w : ℕ) → (eqb x y && eqb v w) ≡ (eqb y x && eqb w v)
swapped x y v w = grind (arith, nat_tests)

same_nodes-symmetric : (a b : Distance) → same_nodes a b ≡ same_nodes b a
same_nodes-symmetric a b = swapped a.a b.a a.b b.b

pub distances-law : (nodes : ℕ) → nodes < 2 ^ 32
    → IsSection (distances_at nodes) (λ ds. ds) (λ ds. map distance_words ds) (λ ds. AllByRecursion (λ d. is_distance nodes d ≡ true) ds
    × (all_differ same_nodes ds ≡ true)) (Stops (codes "distance"))
unfolding distances_at
distances-law nodes few = repeated-law (codes "distance") same_nodes same_nodes-symmetric (distance-law nodes few)
    (λ d. (decimal d.a, decimal d.b ∷ decimal d.d ∷ [], refl))

-- ---- entries

abbrev pub entry_tail : Entry → List (List ℕ)
entry_tail e = decimal e.space ∷ decimal e.vpage ∷ decimal e.page ∷ []

pub entry-law : (pages : ℕ) → pages < 2 ^ 32 → IsTail (entry_line pages) (λ e. e) entry_tail (λ e. is_entry pages e ≡ true)
unfolding entry_line
entry-law pages few =
    same-law (made-law
    (before-law (one-law (number-law 0 7 (omega arith)))
    (before-law (one-law (number-law 0 63 (omega arith))) (before-law (one-law (below-law pages (omega (arith, few)))) nothing-law)))
    (λ x. record { space = x.0; vpage = x.1.0; page = x.1.1.0 }) (λ e. e) (λ e. (e.space, (e.vpage, (e.page, tt)))) (λ a. refl)
    (λ a d h. ap (λ x. record { space = x.0; vpage = x.1.0; page = x.1.1.0 }) h))
    (λ e h. (
      refl,
      and_from (ltb e.space 8 && ltb e.vpage 64) (ltb e.page pages)
          (and_from (ltb e.space 8) (ltb e.vpage 64) (lt-ltb e.space 8 (omega (arith, h.0.1))) (lt-ltb e.vpage 64 (omega (arith, h.1.0.1))))
          (lt-ltb e.page pages h.1.1.0),
    ))
    (λ e h.
    let last = and_parts (ltb e.space 8 && ltb e.vpage 64) (ltb e.page pages) h in
    let first = and_parts (ltb e.space 8) (ltb e.vpage 64) last.0 in (
      refl,
      (
        (omega arith, omega (arith, ltb-true e.space 8 first.0)),
        ((omega arith, omega (arith, ltb-true e.vpage 64 first.1)), (ltb-true e.page pages last.1, tt)),
      ),
    ))

same_place-symmetric : (a b : Entry) → same_place a b ≡ same_place b a
same_place-symmetric a b = swapped a.space b.space a.vpage b.vpage

pub entries-law : (pages : ℕ) → pages < 2 ^ 32
    → IsSection (entries_at pages) (λ es. es) (λ es. map entry_words es) (λ es. AllByRecursion (λ e. is_entry pages e ≡ true) es
    × (all_differ same_place es ≡ true)) (Stops (codes "map"))
unfolding entries_at
entries-law pages few = repeated-law (codes "map") same_place same_place-symmetric (entry-law pages few)
    (λ e. (decimal e.space, decimal e.vpage ∷ decimal e.page ∷ [], refl))

-- they are few, since no two have one place
pub entries-read : (pages : ℕ) → pages < 2 ^ 32 → (rest : Rest) (es : List Entry) (after : Rest) → entries_at pages rest ≡ Ok (es, after) →
    length es ≤ 512
entries-read pages few rest es after e =
    let fits = ((entries-law pages few).takes rest es after e).1 in
    entries-few pages es (all-from (is_entry pages) es fits.0) fits.1

-- ---- starting values

abbrev pub init_tail : Init → List (List ℕ)
init_tail i = decimal i.page ∷ decimal i.word ∷ decimal i.value ∷ []

pub init-law : (pages words : ℕ) → pages < 2 ^ 32 → words < 2 ^ 32 →
    IsTail (init_line pages words) (λ i. i) init_tail (λ i. is_init pages words i ≡ true)
unfolding init_line
init-law pages words few short =
    same-law (made-law
    (before-law (one-law (below-law pages (omega (arith, few))))
    (before-law (one-law (below-law words (omega (arith, short)))) (before-law (one-law any-law) nothing-law)))
    (λ x. record { page = x.0; word = x.1.0; value = x.1.1.0 }) (λ i. i) (λ i. (i.page, (i.word, (i.value, tt)))) (λ a. refl)
    (λ a d h. ap (λ x. record { page = x.0; word = x.1.0; value = x.1.1.0 }) h))
    (λ i h. (
      refl,
      and_from (ltb i.page pages && ltb i.word words) (is_number i.value)
          (and_from (ltb i.page pages) (ltb i.word words) (lt-ltb i.page pages h.0) (lt-ltb i.word words h.1.0))
          (lt-ltb i.value 4294967296 h.1.1.0),
    ))
    (λ i h.
    let last = and_parts (ltb i.page pages && ltb i.word words) (is_number i.value) h in
    let first = and_parts (ltb i.page pages) (ltb i.word words) last.0 in
    (refl, (ltb-true i.page pages first.0, (ltb-true i.word words first.1, (ltb-true i.value 4294967296 last.1, tt)))))

same_word-symmetric : (a b : Init) → same_word a b ≡ same_word b a
same_word-symmetric a b = swapped a.page b.page a.word b.word

pub inits-law : (pages words : ℕ) → pages < 2 ^ 32 → words < 2 ^ 32
    → IsSection (inits_at pages words) (λ is. is) (λ is. map init_words is) (λ is. AllByRecursion (λ i. is_init pages words i ≡ true) is
    × (all_differ same_word is ≡ true)) (Stops (codes "init"))
unfolding inits_at
inits-law pages words few short = repeated-law (codes "init") same_word same_word-symmetric (init-law pages words few short)
    (λ i. (decimal i.page, decimal i.word ∷ decimal i.value ∷ [], refl))
