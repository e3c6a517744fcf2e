-- a guest's lines: what is read is spelled so, and what is spelled so is read
use Rattle.std.proofs.Common.{◌≡◌, ℕ, ◌+◌, ◌<◌, ◌≤◌, Bool, true, false, cond, leb, List, [], ◌∷◌, ◌++◌, length}
use Rattle.std.proofs.Common.{map, Result, Ok, Err, codes, bytes_eq, refl, ap, sym, ◌∙◌, subst, arith}
use Rattle.std.proofs.Common.{⊎_elim, append_assoc, append-nil}
use Rattle.std.specs.List.{AllByRecursion, list_any}
use Rattle.std.proofs.lemmas.Bool.{cases_Bool, leb-false, lt-leb}
use Rattle.std.proofs.lemmas.Bool.Decides.{same_from_decides}
use Rattle.std.proofs.lemmas.List.{length_push}
use Rattle.std.proofs.lemmas.Slice.Eq.{bytes_eq-Decides}
use Rattle.plat_grammar.specs.Lines.{Word, texts}
use Rattle.plat_base.specs.Labels.{is_label_name}
use Rattle.plat_base.specs.Machine.{all_differ, same_name, is_instr}
use Rattle.plat_base.specs.Canon.{Words, instr_words}
use Rattle.plat_grammar.specs.Forms.{Row, Rest, Stop, word_at, first_word, one, nothing, ◌·◌, made, once}
use Rattle.plat_grammar.specs.FirstFault.{name_after, label_line, body_line, ends_guest, body_from}
use Rattle.plat_grammar.specs.Drafts.{Draft, name_of, instruction_line}
use Rattle.plat_base.specs.declared.faults.Refused.{Refused}
use Rattle.plat_base.specs.declared.faults.Why.{Why}
use Rattle.plat_base.specs.declared.faults.Why.TheVariants as why
use Rattle.plat_base.specs.declared.guests.Label.{Label}
use Rattle.plat_base.specs.declared.guests.Instr.{Instr}
use Rattle.plat_base.specs.declared.guests.Instr.TheVariants as instr
use Rattle.plat_text.proofs.Results.{taking, then_ok, ok_is, ok_first, ok_second}
use Rattle.plat_text.proofs.WordLaws.{IsWordForm}
use Rattle.plat_text.proofs.FormLemmas.{word_taken}
use Rattle.plat_text.proofs.FormLaws.{row_texts, IsTail, one-law, nothing-law, before-law, word_there, texts_taken}
use Rattle.plat_text.proofs.SectionLaws.{row_lists, rest_lists, Took, took_none, took_then, took_row}
use Rattle.plat_text.proofs.RepeatedLaws.{differ-push, differ-at, once-takes, once-again}
use Rattle.plat_machine.proofs.InstrLaws.{name-law, named, named_words, NamedFits, named_by, instruction-takes, instruction-again}
use Rattle.plat_machine.proofs.MarkLaws.{Mark, does, place, codes_of, places_of, mark_words, AreInOrder}

-- ---- labels

same_name-symmetric : (a b : Label) → same_name a b ≡ same_name b a
same_name-symmetric a b = swapped a.name b.name where
  swapped : (x y : List ℕ) → bytes_eq x y ≡ bytes_eq y x
  swapped x y = same_from_decides (bytes_eq x y) (bytes_eq y x) (bytes_eq-Decides x y) (
    (λ e. sym ((bytes_eq-Decides y x).0 e)),
    (λ e. (bytes_eq-Decides y x).1 (sym e)),
  )

new_name-law : (count : ℕ) → IsWordForm (name_after count) (λ n. n) (λ n. (is_label_name n ≡ true) × (count < 256))
new_name-law count = record {
  takes = λ w n e. let u = room_left (leb 256 count) (name_of w) n e in let t = name-law.takes w n u.1 in
      (t.0, (t.1, leb-false 256 count u.0));
  again = λ n h. rw (lt-leb 256 count h.1) (name-law.again n h.0);
} where
  room_left : (b : Bool) (r : Result (List ℕ) Why) (n : List ℕ) → cond b (Err why.TooMany) r ≡ Ok n → (b ≡ false) × (r ≡ Ok n)
  room_left true r n e = cc
  room_left false r n e = (refl, e)

abbrev LabelFits : ℕ → ℕ → Label → Type 0
LabelFits at count l = (l.at ≡ at) × (is_label_name l.name ≡ true) × (count < 256)

abbrev read_label : ℕ → ℕ → Row → Result Label Refused
read_label at count = made (λ x. record { name = x.0; at = at }) (one (name_after count) · nothing)

read_label-law : (at count : ℕ) → IsTail (read_label at count) (λ l. l) (λ l. l.name ∷ []) (LabelFits at count)
read_label-law at count = record {
  takes = λ row l e. taking ((one (name_after count) · nothing) row) _ l e (λ x x-is e1.
      let value : record { name = x.0; at = at } ≡ l = ok_is _ l e1 in
      let t = (before-law (one-law (new_name-law count)) nothing-law).takes row x x-is in
      rw (← value) (t.0, (refl, t.1.0.0, t.1.0.1)));
  again = λ row l h e.
      let t = (before-law (one-law (new_name-law count)) nothing-law).again row (l.name, tt) ((h.1, h.2), tt) e in (
        record { name = t.0.0; at = at },
        then_ok ((one (name_after count) · nothing) row) _ t.0 _ t.1 refl,
        same l t.0.0 (ap (λ p. p.0) t.2) h.0,
      );
} where
  same : (l : Label) (n : List ℕ) → n ≡ l.name → l.at ≡ at → record { name = n; at = at } ≡ l
  same l n e f = ap (λ k. record { name = k; at = at }) e ∙ ap (λ k. record { name = l.name; at = k }) (sym f)

-- ---- one line

-- a line that may come after these instructions and labels
abbrev pub MarkFits : List Draft → List Label → Mark Draft → Type 0
MarkFits drafts labels (does d) = NamedFits (named d) × (length drafts < 4096)
MarkFits drafts labels (place l) = LabelFits (length drafts) (length labels) l × (list_any (same_name l) labels ≡ false)

abbrev pub added : List Draft → List Label → Mark Draft → List Draft × List Label
added drafts labels (does d) = (drafts ++ d ∷ [], labels)
added drafts labels (place l) = (drafts, labels ++ l ∷ [])

abbrev draft_mark_words : Mark Draft → Words
draft_mark_words m = mark_words (λ d. named_words (named d)) m

body_line-takes : (drafts : List Draft) (labels : List Label) (row : Row) (b : List Draft × List Label) → body_line drafts labels row ≡ Ok b
    → (m : Mark Draft) × (b ≡ added drafts labels m) × (row_texts row ≡ draft_mark_words m) × MarkFits drafts labels m
unfolding body_line label_line
body_line-takes drafts labels row b e = taking (word_at row) _ b e (λ w w-is e1. ⊎_elim
    (λ t. taking (once same_name labels (read_label (length drafts) (length labels)) w.1) _ b (rw t at e1) (λ l l-is e2.
    let u = once-takes same_name (read_label-law (length drafts) (length labels)) labels w.1 l l-is in (
      place l,
      sym (ok_is _ b e2),
      texts_taken row w.0 w.1 (word_taken row w.0 w.1 w-is)
          ∙ rw ((bytes_eq-Decides w.0.bytes (codes "label")).0 t, u.0) refl,
      (u.1, u.2),
    )))
    (λ t. taking (instruction_line (length drafts) row) _ b (rw t at e1) (λ d d-is e2.
    let u = instruction-takes (length drafts) row d d-is in
    (does d, sym (ok_is _ b e2), u.0, (u.1, u.2))))
    (cases_Bool (bytes_eq w.0.bytes (codes "label"))))

-- ---- all lines

-- what is kept of instructions and labels: limits, and names that are spelled and differ
pub record IsBody (drafts : List Draft) (labels : List Label) : Type 0 where
  pub code : length drafts ≤ 4096
  pub fits : AllByRecursion (λ d. NamedFits (named d)) drafts
  pub few : length labels ≤ 256
  pub names : AllByRecursion (λ l. is_label_name l.name ≡ true) labels
  pub differ : all_differ same_name labels ≡ true

all-push : {A : Type 0} (P : A → Type 0) (xs : List A) (x : A) → AllByRecursion P xs → P x → AllByRecursion P (xs ++ x ∷ [])
all-push P [] x h p = (p, tt)
all-push P (y ∷ ys) x h p = (h.0, all-push P ys x h.1 p)

pub no_body : IsBody [] []
no_body = record { code = omega arith; fits = tt; few = omega arith; names = tt; differ = refl }

one_more : (drafts : List Draft) (labels : List Label) (m : Mark Draft) → IsBody drafts labels → MarkFits drafts labels m →
    IsBody (added drafts labels m).0 (added drafts labels m).1
one_more drafts labels (does d) h f = record {
  code = omega (arith, length_push drafts d, f.1);
  fits = all-push (λ d. NamedFits (named d)) drafts d h.fits f.0;
  few = h.few;
  names = h.names;
  differ = h.differ;
}
one_more drafts labels (place l) h f = record {
  code = h.code;
  fits = h.fits;
  few = omega (arith, length_push labels l, f.0.2);
  names = all-push (λ l. is_label_name l.name ≡ true) labels l h.names f.0.1;
  differ = differ-push same_name same_name-symmetric labels l h.differ f.1;
}

abbrev pub here : Stop → List Row → Rest
here stop rows = record { rows = rows; stop = stop }

-- the lines that were read
pub record ReadsBody (drafts : List Draft) (labels : List Label) (rest after : Rest) (ds : List Draft) (ls : List Label) : Type 0 where
  pub marks : List (Mark Draft)
  pub drafts_are : ds ≡ drafts ++ codes_of marks
  pub labels_are : ls ≡ labels ++ places_of marks
  pub in_order : AreInOrder (length drafts) marks
  pub took : Took rest after (map draft_mark_words marks)
  pub body : IsBody drafts labels → IsBody ds ls

-- one line before others
add_mark : (drafts : List Draft) (labels : List Label) (a b c : Rest) (ds : List Draft) (ls : List Label) (m : Mark Draft) →
    MarkFits drafts labels m → Took a b (draft_mark_words m ∷ [])
    → ReadsBody (added drafts labels m).0 (added drafts labels m).1 b c ds ls → ReadsBody drafts labels a c ds ls
add_mark drafts labels a b c ds ls (does d) f t u = record {
  marks = does d ∷ u.marks;
  drafts_are = u.drafts_are ∙ append_assoc drafts (d ∷ []) (codes_of u.marks);
  labels_are = u.labels_are;
  in_order = subst (λ k. AreInOrder k u.marks) (length_push drafts d) u.in_order;
  took = took_then a b c (draft_mark_words (does d) ∷ []) (map draft_mark_words u.marks) t u.took;
  body = λ h. u.body (one_more drafts labels (does d) h f);
}
add_mark drafts labels a b c ds ls (place l) f t u = record {
  marks = place l ∷ u.marks;
  drafts_are = u.drafts_are;
  labels_are = u.labels_are ∙ append_assoc labels (l ∷ []) (places_of u.marks);
  in_order = (f.0.0, u.in_order);
  took = took_then a b c (draft_mark_words (place l) ∷ []) (map draft_mark_words u.marks) t u.took;
  body = λ h. u.body (one_more drafts labels (place l) h f);
}

pub body-takes : (stop : Stop) (drafts : List Draft) (labels : List Label) (rows : List Row) (ds : List Draft) (ls : List Label)
    (after : Rest)
    → body_from stop drafts labels rows ≡ Ok ((ds, ls), after) → ReadsBody drafts labels (here stop rows) after ds ls
unfolding body_from
body-takes stop drafts labels [] ds ls after e = cc
body-takes stop drafts labels (row ∷ rows) ds ls after e = taking (first_word row) _ _ e (λ w w-is e1. ⊎_elim
    (λ t.
    let e2 : ◌≡◌ {A = Result ((List Draft × List Label) × Rest) Refused} (Ok ((drafts, labels), here stop (row ∷ rows)))
    (Ok ((ds, ls), after)) = rw t at e1 in
    let same : ◌≡◌ {A = List Draft × List Label} (drafts, labels) (ds, ls) =
    ok_first ((drafts, labels), here stop (row ∷ rows)) ((ds, ls), after) e2 in
    let left : here stop (row ∷ rows) ≡ after = ok_second ((drafts, labels), here stop (row ∷ rows)) ((ds, ls), after) e2 in
    let drafts_same : drafts ≡ ds = ap (λ p. p.0) same in
    let labels_same : labels ≡ ls = ap (λ p. p.1) same in
    record {
      marks = [];
      drafts_are = sym drafts_same ∙ sym (append-nil drafts);
      labels_are = sym labels_same ∙ sym (append-nil labels);
      in_order = tt;
      took = rw (← left) (took_none (here stop (row ∷ rows)));
      body = λ h. rw (← drafts_same, ← labels_same) h;
    })
    (λ t. taking (body_line drafts labels row) _ _ (rw t at e1) (λ b b-is e2.
    let u = body_line-takes drafts labels row b b-is in
    let e3 = rw u.1 at e2 in
    let next = body-takes stop (added drafts labels u.0).0 (added drafts labels u.0).1 rows ds ls after e3 in
    let first : Took (here stop (row ∷ rows)) (here stop rows) (draft_mark_words u.0 ∷ []) =
    rw (← u.2) (took_row (here stop (row ∷ rows)) row (here stop rows)
    (record { rows = refl; stop = refl })) in
    add_mark drafts labels (here stop (row ∷ rows)) (here stop rows) after ds ls u.0 u.3 first next))
    (cases_Bool (ends_guest w.bytes)))

-- ---- and read again

-- the first word of an instruction's line, which is neither `label` nor the first word of the line after a guest
pub record HasKey (words : Words) : Type 0 where
  pub key : List ℕ
  pub others : List (List ℕ)
  pub parts : words ≡ key ∷ others
  pub no_label : bytes_eq key (codes "label") ≡ false
  pub no_end : ends_guest key ≡ false

pub instr-key : (names : ℕ → List ℕ) (i : Instr) → HasKey (instr_words names i)
instr-key names (instr.Set d n) = record { key = codes "set"; others = _; parts = refl; no_label = refl; no_end = refl }
instr-key names (instr.Move d a) = record { key = codes "move"; others = _; parts = refl; no_label = refl; no_end = refl }
instr-key names (instr.Add d a b) = record { key = codes "add"; others = _; parts = refl; no_label = refl; no_end = refl }
instr-key names (instr.Sub d a b) = record { key = codes "sub"; others = _; parts = refl; no_label = refl; no_end = refl }
instr-key names (instr.Mul d a b) = record { key = codes "mul"; others = _; parts = refl; no_label = refl; no_end = refl }
instr-key names (instr.And d a b) = record { key = codes "and"; others = _; parts = refl; no_label = refl; no_end = refl }
instr-key names (instr.Shr d a b) = record { key = codes "shr"; others = _; parts = refl; no_label = refl; no_end = refl }
instr-key names (instr.Load d k i) = record { key = codes "load"; others = _; parts = refl; no_label = refl; no_end = refl }
instr-key names (instr.Store s k i) = record { key = codes "store"; others = _; parts = refl; no_label = refl; no_end = refl }
instr-key names (instr.Fadd d s k i) = record { key = codes "fadd"; others = _; parts = refl; no_label = refl; no_end = refl }
instr-key names (instr.Switch s) = record { key = codes "switch"; others = _; parts = refl; no_label = refl; no_end = refl }
instr-key names (instr.Print s) = record { key = codes "print"; others = _; parts = refl; no_label = refl; no_end = refl }
instr-key names (instr.Jump l) = record { key = codes "jump"; others = _; parts = refl; no_label = refl; no_end = refl }
instr-key names (instr.Zero a l) = record { key = codes "zero"; others = _; parts = refl; no_label = refl; no_end = refl }
instr-key names (instr.Less a b l) = record { key = codes "less"; others = _; parts = refl; no_label = refl; no_end = refl }
instr-key names instr.Halt = record { key = codes "halt"; others = _; parts = refl; no_label = refl; no_end = refl }

-- what follows a guest
abbrev pub EndsGuest : List Words → Type 0
EndsGuest [] = ⊥
EndsGuest ([] ∷ ls) = ⊥
EndsGuest ((w ∷ ws) ∷ ls) = ends_guest w ≡ true

first_is : (row : Row) (w : Word) (after : Row) → word_at row ≡ Ok (w, after) → first_word row ≡ Ok w
first_is row w after e = then_ok (word_at row) _ (w, after) _ e refl

pub record BodyAgain (names : ℕ → List ℕ) (read : Result ((List Draft × List Label) × Rest) Refused) (drafts : List Draft)
    (labels : List Label) (ms : List (Mark Instr)) (more : List Words) : Type 0 where
  pub ds : List Draft
  pub after : Rest
  pub reads : read ≡ Ok ((drafts ++ ds, labels ++ places_of ms), after)
  pub named_as : map named ds ≡ map (named_by names) (codes_of ms)
  pub lists : rest_lists after ≡ more

module _ (names : ℕ → List ℕ) (n : ℕ) (spelled : (l : ℕ) → l < n → is_label_name (names l) ≡ true) (more : List Words)
    (ends : EndsGuest more) (stop : Stop) where
  abbrev lines_of_marks : List (Mark Instr) → List Words
  lines_of_marks ms = map (λ m. mark_words (instr_words names) m) ms

  pub body-again : (ms : List (Mark Instr)) (drafts : List Draft) (labels : List Label) (rows : List Row)
      → AllByRecursion (λ i. is_instr n i ≡ true) (codes_of ms) → AllByRecursion (λ l. is_label_name l.name ≡ true) (places_of ms) →
      all_differ same_name (labels ++ places_of ms) ≡ true
      → length drafts + length (codes_of ms) ≤ 4096 → length labels + length (places_of ms) ≤ 256 → AreInOrder (length drafts) ms
      → row_lists rows ≡ lines_of_marks ms ++ more → BodyAgain names (body_from stop drafts labels rows) drafts labels ms more
  unfolding body_from body_line label_line
  body-again [] drafts labels [] fit spell apart few_code few_labels order e = absurd (subst EndsGuest (sym e) ends)
  body-again [] drafts labels (row ∷ rows) fit spell apart few_code few_labels order e =
      by_words row.words (subst EndsGuest (sym e) ends) e where
        by_words : (ws : List Word) → EndsGuest (texts ws ∷ row_lists rows) → texts ws ∷ row_lists rows ≡ more
            → BodyAgain names (body_from stop drafts labels (record row { words = ws } ∷ rows)) drafts labels [] more
        by_words [] t e = absurd t
        by_words (w ∷ ws) t e = record {
          ds = [];
          after = here stop (record row { words = w ∷ ws } ∷ rows);
          reads = rw (t, append-nil, append-nil) refl;
          named_as = refl;
          lists = e;
        }
  body-again (does i ∷ ms) drafts labels [] fit spell apart few_code few_labels order e = absurd cc
  body-again (place l ∷ ms) drafts labels [] fit spell apart few_code few_labels order e = absurd cc
  body-again (does i ∷ ms) drafts labels (row ∷ rows) fit spell apart few_code few_labels order e =
      let first : row_texts row ≡ instr_words names i = cc in
      let others : row_lists rows ≡ lines_of_marks ms ++ more = cc in
      let key = instr-key names i in
      let t = word_there row key.key key.others (first ∙ key.parts) in
      let d = instruction-again (length drafts) (omega (arith, few_code)) names n spelled row i fit.0 first in
      let next = body-again ms (drafts ++ d.0 ∷ []) labels rows fit.1 spell apart
      (omega (arith, few_code, length_push drafts d.0)) few_labels (subst (λ k. AreInOrder k ms) (sym (length_push drafts d.0)) order)
      others in
      record {
        ds = d.0 ∷ next.ds;
        after = next.after;
        reads = then_ok (first_word row) _ t.0 _ (first_is row t.0 t.1 t.2) (rw (t.3, key.no_end)
            (then_ok (body_line drafts labels row) _ (drafts ++ d.0 ∷ [], labels) _
            (then_ok (word_at row) _ (t.0, t.1) _ t.2
            (rw (t.3, key.no_label) (then_ok (instruction_line (length drafts) row) _ d.0 _ d.1 refl)))
            (next.reads ∙ ap (λ k. Ok ((k, labels ++ places_of ms), next.after)) (append_assoc drafts (d.0 ∷ []) next.ds))));
        named_as = rw (d.2, next.named_as) refl;
        lists = next.lists;
      }
  body-again (place l ∷ ms) drafts labels (row ∷ rows) fit spell apart few_code few_labels order e =
      let first : row_texts row ≡ codes "label" ∷ l.name ∷ [] = cc in
      let others : row_lists rows ≡ lines_of_marks ms ++ more = cc in
      let t = word_there row (codes "label") (l.name ∷ []) first in
      let alone = differ-at same_name same_name-symmetric labels l (places_of ms) apart in
      let o = once-again same_name (read_label-law (length drafts) (length labels)) labels t.1 l l.name [] (
        order.0,
        spell.0,
        omega (arith, few_labels),
      ) refl alone t.4 in
      let next = body-again ms drafts (labels ++ l ∷ []) rows fit spell.1 (rw append_assoc apart)
      few_code (omega (arith, few_labels, length_push labels l)) order.1 others in
      record {
        ds = next.ds;
        after = next.after;
        reads = then_ok (first_word row) _ t.0 _ (first_is row t.0 t.1 t.2) (rw t.3
            (then_ok (body_line drafts labels row) _ (drafts, labels ++ l ∷ []) _
            (then_ok (word_at row) _ (t.0, t.1) _ t.2
            (rw t.3 (then_ok (once same_name labels (read_label (length drafts) (length labels)) t.1) _ l _ o refl)))
            (next.reads ∙ ap (λ k. Ok ((drafts ++ next.ds, k), next.after)) (append_assoc labels (l ∷ []) (places_of ms)))));
        named_as = next.named_as;
        lists = next.lists;
      }
