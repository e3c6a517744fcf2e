-- whole history texts: what is read is in the grammar, and what is in the grammar is read
use Rattle.std.proofs.Common.{◌≡◌, ℕ, ◌≤◌, Bool, true, false, cond, ltb, List, [], ◌∷◌, ◌++◌, length, map, Result, Ok, Err, codes, IsTrue}
use Rattle.std.proofs.Common.{refl, ap, sym, ◌∙◌, subst, arith, append_assoc, append-nil}
use Rattle.std.specs.Fmt.{decimal}
use Rattle.std.proofs.lemmas.Bool.{ltb-false, le-ltb}
use Rattle.plat_grammar.specs.Lines.{lines_of}
use Rattle.plat_base.specs.Machine.{Machine}
use Rattle.plat_base.specs.Canon.{canon, is_short}
use Rattle.plat_grammar.specs.Grammar.{IsMachine}
use Rattle.plat_grammar.specs.Forms.{Rest, rows_of, refused, nothing, line_at, over}
use Rattle.plat_grammar.specs.FirstFault.{number_line, version_line, machine_at}
use Rattle.plat_base.specs.declared.faults.Refused.{Refused}
use Rattle.plat_base.specs.declared.faults.Why.TheVariants as why
use Rattle.plat_base.proofs.LimitLemmas.{limits_of}
use Rattle.plat_text.proofs.Results.{taking, then_ok, ok_is, ok_first, ok_second}
use Rattle.plat_text.proofs.WordLaws.{exactly-law}
use Rattle.plat_text.proofs.FormLaws.{nothing-law}
use Rattle.plat_text.proofs.SectionLaws.{row_lists, row_lists-append, rest_lists, Took, took_then, took_lists, IsSection, line-law}
use Rattle.plat_text.proofs.SectionLaws.{again_exactly}
use Rattle.plat_text.proofs.TextLaws.{rows-clean, finished-clean, over-takes, over-again}
use Rattle.plat_base.proofs.EntryLimits.{entries_most}
use Rattle.plat_machine.proofs.HeaderLaws.{single-law, number_line-law}
use Rattle.plat_machine.proofs.MachineLaws.{MachineTook, machine-takes, machine-again}
use Rattle.plat_grammar.specs.HistoryCanon.{History, item_words, ended_lines, told_lines, canon_history, most_history_bytes, most_items}
use Rattle.plat_grammar.specs.HistoryFaults.{items_from, ends_from, told_at, lines_at, history_at}
use Rattle.plat_grammar.specs.HistoryGrammar.{IsInRange, IsHistory, IsHistoryTextOf}
use Rattle.plat_history.proofs.ItemLaws.{IsSmall}
use Rattle.plat_history.proofs.SectionLaws.{items-law, ends-law}

-- ---- the numbers of a machine

pub small-from : (m : Machine) → IsMachine m → IsTrue (is_short m) → IsSmall m
small-from m fits short =
    let l = limits_of m fits in
    record {
      nodes = omega (arith, l.nodes_most);
      frames = omega (arith, l.frames_most);
      words = omega (arith, l.words_most);
      pages = omega (arith, l.pages_most);
      entries = omega (arith, entries_most m fits);
    }

-- ---- the lines that are not of the machine text

version_section : IsSection (line_at (codes "history") version_line) (λ x. x) (λ _. (codes "history" ∷ codes "1" ∷ []) ∷ []) (λ _. Unit {0})
    (λ _. Unit {0})
version_section = line-law (codes "history") (single-law (exactly-law (codes "1")))

count_section : IsSection (line_at (codes "items") (number_line 0 most_items)) (λ n. n) (λ n. (codes "items" ∷ decimal n ∷ []) ∷ [])
    (λ n. (0 ≤ n) × (n ≤ most_items)) (λ _. Unit {0})
count_section = line-law (codes "items") (number_line-law 0 most_items (omega arith))

word_section : (word : List ℕ) → IsSection (line_at word nothing) (λ x. x) (λ _. (word ∷ []) ∷ []) (λ _. Unit {0}) (λ _. Unit {0})
word_section word = line-law word nothing-law

-- ---- from `items` on

record ToldTook (m : Machine) (h : History) (rest after : Rest) : Type 0 where
  machine : m ≡ h.machine
  took : Took rest after (told_lines h.items h.ends)
  numbers : IsInRange h

told-takes : (m : Machine) (rest : Rest) (h : History) (after : Rest) → IsSmall m → told_at m rest ≡ Ok (h, after) → ToldTook m h rest after
unfolding told_at
told-takes m rest h after small e =
    taking (line_at (codes "items") (number_line 0 most_items) rest) _ _ e (λ n n-is e1.
    taking (items_from m n.0 [] n.1) _ _ e1 (λ is is-is e2.
    taking (line_at (codes "ends") nothing is.1) _ _ e2 (λ w w-is e3.
    taking (ends_from m.nodes [] w.1) _ _ e3 (λ es es-is e4.
    taking (line_at (codes "end") nothing es.1) _ _ e4 (λ l l-is e5.
    let value : record { machine = m; items = is.0; ends = es.0 } ≡ h =
    ok_first (record { machine = m; items = is.0; ends = es.0 }, l.1) (h, after) e5 in
    let left : l.1 ≡ after = ok_second (record { machine = m; items = is.0; ends = es.0 }, l.1) (h, after) e5 in
    let t0 = count_section.takes rest n.0 n.1 n-is in
    let t1 = (items-law m small n.0).takes n.1 is.0 is.1 is-is in
    let t2 = (word_section (codes "ends")).takes is.1 w.0 w.1 w-is in
    let t3 = (ends-law m.nodes).takes w.1 es.0 es.1 es-is in
    let t4 = (word_section (codes "end")).takes es.1 l.0 l.1 l-is in
    let head : Took rest n.1 ((codes "items" ∷ decimal (length is.0) ∷ []) ∷ []) =
    subst (λ k. Took rest n.1 ((codes "items" ∷ decimal k ∷ []) ∷ [])) (sym t1.1.0) t0.0 in
    rw (← value, ← left) (record {
      machine = refl;
      took =
          took_then rest n.1 l.1 ((codes "items" ∷ decimal (length is.0) ∷ []) ∷ []) _ head
          (took_then n.1 is.1 l.1 (map item_words is.0) _ t1.0
          (took_then is.1 w.1 l.1 ((codes "ends" ∷ []) ∷ []) _ t2.0 (took_then w.1 es.1 l.1 (ended_lines 0 es.0) _ t3.0 t4.0)));
      numbers = record { items = t1.1.1; few = omega (arith, t0.1.1, t1.1.0); count = t3.1.0; ends = t3.1.1 };
    }))))))

told-again : (h : History) (rest : Rest) → IsSmall h.machine → IsInRange h → rest_lists rest ≡ told_lines h.items h.ends
    → (after : Rest) × (told_at h.machine rest ≡ Ok (h, after)) × (rest_lists after ≡ [])
unfolding told_at
told-again h rest small fits e =
    let m = h.machine in
    let t0 = again_exactly count_section rest (length h.items) _ (omega arith, fits.few) tt e in
    let t1 = again_exactly (items-law m small (length h.items)) t0.0 h.items _ (refl, fits.items) tt t0.2 in
    let t2 = again_exactly (word_section (codes "ends")) t1.0 (tt {0}) _ tt tt t1.2 in
    let t3 = again_exactly (ends-law m.nodes) t2.0 h.ends _ (fits.count, fits.ends) tt t2.2 in
    let t4 = again_exactly (word_section (codes "end")) t3.0 (tt {0}) [] tt tt t3.2 in (
      t4.0,
      then_ok (line_at (codes "items") (number_line 0 most_items) rest) _ (length h.items, t0.0) _ t0.1
          (then_ok (items_from m (length h.items) [] t0.0) _ (h.items, t1.0) _ t1.1
          (then_ok (line_at (codes "ends") nothing t1.0) _ (tt {0}, t2.0) _ t2.1
          (then_ok (ends_from m.nodes [] t2.0) _ (h.ends, t3.0) _ t3.1
          (then_ok (line_at (codes "end") nothing t3.0) _ (tt {0}, t4.0) _ t4.1 refl)))),
      t4.2,
    )

-- ---- the whole text

record LinesTook (h : History) (rest after : Rest) : Type 0 where
  lists : rest_lists rest ≡ canon_history h ++ rest_lists after
  stop : after.stop ≡ rest.stop
  fits : IsHistory h

machine-lists : (rest after : Rest) (m : Machine) (next : ℕ) → MachineTook rest after m next → rest_lists rest ≡ canon m ++ rest_lists after
machine-lists rest after m next t =
    ap row_lists t.rows ∙ row_lists-append t.front (t.last ∷ after.rows) ∙ sym (append_assoc (row_lists t.front) _ (rest_lists after))
    ∙ ap (λ k. k ++ rest_lists after) t.lists

lines-take : (rest : Rest) (h : History) (after : Rest) → lines_at rest ≡ Ok (h, after) → LinesTook h rest after
unfolding lines_at
lines-take rest h after e =
    taking (line_at (codes "history") version_line rest) _ _ e (λ v v-is e1. taking (machine_at v.1) _ _ e1 (λ x x-is e2.
    let m : Machine = x.0.0 in
    let t0 = version_section.takes rest v.0 v.1 v-is in
    let t1 = machine-takes v.1 m x.0.1 x.1 x-is in
    let t2 = told-takes m x.1 h after (small-from m t1.machine t1.short) e2 in
    let machine_text : rest_lists v.1 ≡ canon m ++ (told_lines h.items h.ends ++ rest_lists after) =
    machine-lists v.1 x.1 m x.0.1 t1 ∙ ap (λ k. canon m ++ k) (took_lists x.1 after (told_lines h.items h.ends) t2.took) in
    let lists : rest_lists rest ≡ (codes "history" ∷ codes "1" ∷ []) ∷ ((canon m ++ told_lines h.items h.ends) ++ rest_lists after) =
    took_lists rest v.1 ((codes "history" ∷ codes "1" ∷ []) ∷ []) t0.0
    ∙ ap (λ k. (codes "history" ∷ codes "1" ∷ []) ∷ k)
    (machine_text ∙ sym (append_assoc (canon m) (told_lines h.items h.ends) (rest_lists after))) in
    record {
      lists = lists ∙ ap (λ k. (codes "history" ∷ codes "1" ∷ []) ∷ ((canon k ++ told_lines h.items h.ends) ++ rest_lists after))
          t2.machine;
      stop = t2.took.stop ∙ (t1.stop ∙ t0.0.stop);
      fits = record {
        machine = subst IsMachine t2.machine t1.machine;
        short = subst (λ k. IsTrue (is_short k)) t2.machine t1.short;
        numbers = t2.numbers;
      };
    }))

within_size : (b : Bool) (fault : Refused) (r : Result History Refused) (h : History) → cond b (Err fault) r ≡ Ok h →
    (b ≡ false) × (r ≡ Ok h)
within_size true fault r h e = cc
within_size false fault r h e = (refl, e)

pub history-takes : (bytes : List ℕ) (h : History) → history_at bytes ≡ Ok h → IsHistoryTextOf bytes h × IsHistory h
unfolding history_at
history-takes bytes h e =
    let t = within_size (ltb most_history_bytes (length bytes)) (refused 0 0 why.TooLong) _ h e in
    taking (lines_at (rows_of 1 bytes)) _ h t.1 (λ x x-is e1. taking (over x.1) _ h e1 (λ u u-is e2.
    let value : x.0 ≡ h = ok_is x.0 h e2 in
    let took = lines-take (rows_of 1 bytes) x.0 x.1 x-is in
    let end = over-takes x.1 u u-is in
    let clean = finished-clean 1 end.1.0 (lines_of 1 bytes) (sym took.stop ∙ end.1.1) in
    let rows = rows-clean 1 (lines_of 1 bytes) clean in
    let lists : rest_lists (rows_of 1 bytes) ≡ canon_history x.0 = took.lists ∙ ap (λ k. canon_history x.0 ++ row_lists k) end.0
    ∙ append-nil (canon_history x.0) in
    rw (← value) (record { size = ltb-false most_history_bytes (length bytes) t.0; clean = clean; words = sym rows.0 ∙ lists }, took.fits)))

lines-again : (h : History) (rest : Rest) → IsHistory h → rest_lists rest ≡ canon_history h →
    (after : Rest) × (lines_at rest ≡ Ok (h, after)) × (rest_lists after ≡ [])
unfolding lines_at
lines-again h rest fits e =
    let t0 = again_exactly version_section rest (tt {0}) _ tt tt e in
    let t1 = machine-again t0.0 h.machine (told_lines h.items h.ends) fits.machine fits.short t0.2 in
    let t2 = told-again h t1.1 (small-from h.machine fits.machine fits.short) fits.numbers t1.3 in (
      t2.0,
      then_ok (line_at (codes "history") version_line rest) _ (tt {0}, t0.0) _ t0.1
          (then_ok (machine_at t0.0) _ ((h.machine, t1.0), t1.1) _ t1.2 t2.1),
      t2.2,
    )

pub history-again : (bytes : List ℕ) (h : History) → IsHistory h → IsHistoryTextOf bytes h → history_at bytes ≡ Ok h
unfolding history_at
history-again bytes h fits t =
    let rows = rows-clean 1 (lines_of 1 bytes) t.clean in
    let u = lines-again h (rows_of 1 bytes) fits (rows.0 ∙ t.words) in
    let took = lines-take (rows_of 1 bytes) h u.0 u.1 in
    rw (le-ltb most_history_bytes (length bytes) t.size)
    (then_ok (lines_at (rows_of 1 bytes)) _ (h, u.0) _ u.1
    (then_ok (over u.0) _ (tt {0}) _ (over-again u.0 rows.1.0 u.2 (took.stop ∙ rows.1.1)) refl))
