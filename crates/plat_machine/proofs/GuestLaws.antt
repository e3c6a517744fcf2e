-- guests: what is read is spelled so, and what is spelled so is read
use Rattle.std.proofs.Common.{◌≡◌, ℕ, zero, suc, ◌+◌, ◌<◌, ◌≤◌, Bool, true, ◌&&◌, leb, ltb, List, [], ◌∷◌, ◌++◌, length, map}
use Rattle.std.proofs.Common.{Ok, codes, refl, ap, sym, ◌∙◌, subst, arith, append_assoc, append-nil}
use Rattle.std.specs.Fmt.{decimal}
use Rattle.std.specs.List.{AllByRecursion, list_all, flat_map}
use Rattle.std.proofs.lemmas.Bool.{and_parts, and_from, leb-true, le-leb, lt-ltb, ltb-true}
use Rattle.plat_base.specs.Labels.{is_label_name}
use Rattle.plat_base.specs.Machine.{Program, is_program, is_instr, is_spelled, all_differ, same_name, labels_rise}
use Rattle.plat_base.specs.Canon.{Words, instr_words, label_name, with_labels, program_lines}
use Rattle.plat_grammar.specs.Forms.{Rest, line_at}
use Rattle.plat_grammar.specs.FirstFault.{number_line, body_at, guest_at, guests_from}
use Rattle.plat_grammar.specs.Drafts.{Draft, code_from}
use Rattle.plat_base.specs.declared.guests.Label.{Label}
use Rattle.plat_base.specs.declared.guests.Instr.{Instr}
use Rattle.plat_text.proofs.Results.{taking, then_ok, ok_first, ok_second}
use Rattle.plat_text.proofs.SectionLaws.{rest_lists, Took, took_none, took_then, IsSection, line-law, again_exactly}
use Rattle.plat_machine.proofs.HeaderLaws.{number_line-law}
use Rattle.plat_machine.proofs.InstrLaws.{named, named_words, named_by}
use Rattle.plat_machine.proofs.MarkLaws.{Mark, codes_of, places_of, mark_words, AreInOrder, with_labels-marks, rise-marks, marks_of}
use Rattle.plat_machine.proofs.MarkLaws.{codes-marks, places-marks, in_order-marks}
use Rattle.plat_machine.proofs.BodyLaws.{no_body, body-takes, EndsGuest, body-again}
use Rattle.plat_machine.proofs.LinkLaws.{code-takes, code-again}
use Rattle.plat_base.proofs.ListLemmas.{all-from}

-- ---- the limits of a guest

pub all-bools : {A : Type 0} (p : A → Bool) (xs : List A) → list_all p xs ≡ true → AllByRecursion (λ x. p x ≡ true) xs
all-bools p [] h = tt
all-bools p (x ∷ xs) h = let parts = and_parts (p x) (list_all p xs) h in (parts.0, all-bools p xs parts.1)

abbrev pub GuestFits : Program → Type 0
GuestFits p = is_program p ≡ true

pub record ProgramParts (p : Program) : Type 0 where
  pub space : p.space ≤ 7
  pub code : length p.code ≤ 4096
  pub few : length p.labels ≤ 256
  pub instrs : list_all (is_instr (length p.labels)) p.code ≡ true
  pub rise : labels_rise 0 (length p.code) p.labels ≡ true
  pub names : AllByRecursion (λ l. is_label_name l.name ≡ true) p.labels
  pub differ : all_differ same_name p.labels ≡ true

abbrev first_four : Program → Bool
first_four p = ltb p.space 8 && leb (length p.code) 4096 && leb (length p.labels) 256 && list_all (is_instr (length p.labels)) p.code

pub program-parts : (p : Program) → is_program p ≡ true → ProgramParts p
program-parts p e =
    let a = and_parts (first_four p && labels_rise 0 (length p.code) p.labels && list_all is_spelled p.labels)
    (all_differ same_name p.labels) e in
    let s = and_parts (first_four p && labels_rise 0 (length p.code) p.labels) (list_all is_spelled p.labels) a.0 in
    let b = and_parts (first_four p) (labels_rise 0 (length p.code) p.labels) s.0 in
    let c = and_parts (ltb p.space 8 && leb (length p.code) 4096 && leb (length p.labels) 256)
    (list_all (is_instr (length p.labels)) p.code) b.0 in
    let d = and_parts (ltb p.space 8 && leb (length p.code) 4096) (leb (length p.labels) 256) c.0 in
    let f = and_parts (ltb p.space 8) (leb (length p.code) 4096) d.0 in
    record {
      space = omega (arith, ltb-true _ _ f.0);
      code = leb-true _ _ f.1;
      few = leb-true _ _ d.1;
      instrs = c.1;
      rise = b.1;
      names = all-bools is_spelled p.labels s.1;
      differ = a.1;
    }

program-from : (p : Program) → ProgramParts p → is_program p ≡ true
program-from p h =
    and_from (first_four p && labels_rise 0 (length p.code) p.labels && list_all is_spelled p.labels) (all_differ same_name p.labels)
    (and_from (first_four p && labels_rise 0 (length p.code) p.labels) (list_all is_spelled p.labels)
    (and_from (first_four p) (labels_rise 0 (length p.code) p.labels)
    (and_from (ltb p.space 8 && leb (length p.code) 4096 && leb (length p.labels) 256) (list_all (is_instr (length p.labels)) p.code)
    (and_from (ltb p.space 8 && leb (length p.code) 4096) (leb (length p.labels) 256)
    (and_from (ltb p.space 8) (leb (length p.code) 4096) (lt-ltb _ _ (omega (arith, h.space))) (le-leb _ _ h.code)) (le-leb _ _ h.few))
    h.instrs) h.rise) (all-from is_spelled p.labels h.names)) h.differ

-- ---- one guest

space-section : IsSection (line_at (codes "guest") (number_line 0 7)) (λ n. n) (λ n. (codes "guest" ∷ decimal n ∷ []) ∷ [])
    (λ n. (0 ≤ n) × (n ≤ 7)) (λ _. Unit {0})
space-section = line-law (codes "guest") (number_line-law 0 7 (omega arith))

abbrev draft_words : Draft → Words
draft_words d = named_words (named d)

-- the lines of a body that was read are those of its instructions and labels
body_lines : (ds : List Draft) (ls : List Label) (marks : List (Mark Draft)) (code : List Instr) → ds ≡ codes_of marks →
    ls ≡ places_of marks → AreInOrder 0 marks
    → map (λ i. instr_words (label_name ls) i) code ≡ map draft_words ds
    → with_labels 0 (map (λ i. instr_words (label_name ls) i) code) ls ≡ map (λ m. mark_words draft_words m) marks
body_lines ds ls marks code d l order e =
    ap (λ k. with_labels 0 k ls) (e ∙ ap (λ k. map draft_words k) d) ∙ ap (λ k. with_labels 0 (map draft_words (codes_of marks)) k) l
    ∙ with_labels-marks draft_words 0 marks order

guest-takes : (rest : Rest) (p : Program) (after : Rest) → guest_at rest ≡ Ok (p, after) → Took rest after (program_lines p) × GuestFits p
unfolding guest_at
guest-takes rest p after e =
    taking (line_at (codes "guest") (number_line 0 7) rest) _ _ e
    (λ s s-is e1. taking (body_at s.1) _ _ e1 (λ b b-is e2. taking (code_from b.0.1 [] b.0.0) _ _ e2 (λ code code-is e3.
    let value : ◌≡◌ {A = Program} (record { space = s.0; code = code; labels = b.0.1 }) p = ok_first _ (p, after) e3 in
    let left : b.1 ≡ after = ok_second _ (p, after) e3 in
    let t = space-section.takes rest s.0 s.1 s-is in
    let u = body-takes s.1.stop [] [] s.1.rows b.0.0 b.0.1 b.1 b-is in
    let body = u.body no_body in
    let c = code-takes b.0.1 [] b.0.0 code body.fits code-is in
    let words : map (λ i. instr_words (label_name b.0.1) i) code ≡ map draft_words b.0.0 =
    ap (λ k. map (λ i. instr_words (label_name b.0.1) i) k) c.1 ∙ c.2 in
    let lines = body_lines b.0.0 b.0.1 u.marks code u.drafts_are u.labels_are u.in_order words in
    let len : length code ≡ length b.0.0 = ap length c.1 ∙ c.4 in
    let rise : labels_rise 0 (length code) b.0.1 ≡ true =
    rw u.labels_are (rise-marks 0 0 (length code) u.marks u.in_order (omega arith) (omega (arith, len, ap length u.drafts_are))) in
    let parts : ProgramParts (record { space = s.0; code = code; labels = b.0.1 }) = record {
      space = t.1.1;
      code = omega (arith, len, body.code);
      few = body.few;
      instrs = ap (list_all (is_instr (length b.0.1))) c.1 ∙ c.3;
      rise = rise;
      names = body.names;
      differ = body.differ;
    } in
    rw (← value, ← left) (
      rw lines (took_then rest s.1 b.1 ((codes "guest" ∷ decimal s.0 ∷ []) ∷ []) (map (λ m. mark_words draft_words m) u.marks) t.0 u.took),
      program-from _ parts,
    ))))

pub name_at : (labels : List Label) → AllByRecursion (λ l. is_label_name l.name ≡ true) labels → (k : ℕ) → k < length labels →
    is_label_name (label_name labels k) ≡ true
name_at [] h k inside = absurd (omega arith)
name_at (l ∷ ls) h zero inside = h.0
name_at (l ∷ ls) h (suc k) inside = name_at ls h.1 k (omega arith)

guest-again : (rest : Rest) (p : Program) (more : List Words) → GuestFits p → EndsGuest more → rest_lists rest ≡ program_lines p ++ more
    → (after : Rest) × (guest_at rest ≡ Ok (p, after)) × (rest_lists after ≡ more)
unfolding guest_at
guest-again rest p more fits ends e =
    let parts = program-parts p fits in
    let names = label_name p.labels in
    let ms = marks_of 0 p.code p.labels in
    let code_is : codes_of ms ≡ p.code = codes-marks 0 p.code p.labels in
    let labels_are : places_of ms ≡ p.labels = places-marks 0 p.code p.labels in
    let zero_up : 0 + length p.code ≡ length p.code = omega arith in
    let order : AreInOrder 0 ms = in_order-marks 0 p.code p.labels
    (subst (λ k. labels_rise 0 k p.labels ≡ true) (sym zero_up) parts.rise) in
    let lines : map (λ m. mark_words (instr_words names) m) ms ≡ with_labels 0 (map (instr_words names) p.code) p.labels =
    sym (with_labels-marks (instr_words names) 0 ms order) ∙ ap (λ k. with_labels 0 (map (instr_words names) k) (places_of ms)) code_is
    ∙ ap (λ k. with_labels 0 (map (instr_words names) p.code) k) labels_are in
    let t = again_exactly space-section rest p.space (with_labels 0 (map (instr_words names) p.code) p.labels ++ more)
    (omega arith, parts.space) tt e in
    let u = body-again names (length p.labels) (name_at p.labels parts.names) more ends t.0.stop ms [] [] t.0.rows
    (rw code_is (all-bools (is_instr (length p.labels)) p.code parts.instrs)) (rw labels_are parts.names) (rw labels_are parts.differ)
    (omega (arith, ap length code_is, parts.code)) (omega (arith, ap length labels_are, parts.few)) order
    (t.2 ∙ ap (λ k. k ++ more) (sym lines)) in
    let body : body_at t.0 ≡ Ok ((u.ds, p.labels), u.after) = u.reads ∙ ap (λ k. Ok ((u.ds, k), u.after)) labels_are in
    let c = code-again p.labels [] u.ds p.code parts.differ parts.instrs (u.named_as ∙ ap (λ k. map (named_by names) k) code_is) in (
      u.after,
      then_ok (line_at (codes "guest") (number_line 0 7) rest) _ (p.space, t.0) _ t.1
          (then_ok (body_at t.0) _ ((u.ds, p.labels), u.after) _ body (then_ok (code_from p.labels [] u.ds) _ p.code _ c refl)),
      u.lists,
    )

-- ---- so many guests

guests-takes : (n : ℕ) (seen : List Program) (rest : Rest) (gs : List Program) (after : Rest) → guests_from n seen rest ≡ Ok (gs, after)
    → (new : List Program) × (gs ≡ seen ++ new) × (length new ≡ n) × Took rest after (flat_map program_lines new)
    × AllByRecursion GuestFits new
unfolding guests_from
guests-takes zero seen rest gs after e =
    let all : seen ≡ gs = ok_first (seen, rest) (gs, after) e in
    let left : rest ≡ after = ok_second (seen, rest) (gs, after) e in
    ([], sym all ∙ sym (append-nil seen), refl, rw (← left) (took_none rest), tt)
guests-takes (suc n) seen rest gs after e = taking (guest_at rest) _ _ e (λ g g-is e1.
    let t = guest-takes rest g.0 g.1 g-is in
    let u = guests-takes n (seen ++ g.0 ∷ []) g.1 gs after e1 in (
      g.0 ∷ u.0,
      u.1 ∙ append_assoc seen (g.0 ∷ []) u.0,
      ap suc u.2,
      took_then rest g.1 after (program_lines g.0) (flat_map program_lines u.0) t.0 u.3,
      (t.1, u.4),
    ))

-- a guest's lines, and those after the guests, follow a guest
ends_next : (gs : List Program) (more : List Words) → EndsGuest more → EndsGuest (flat_map program_lines gs ++ more)
ends_next [] more h = h
ends_next (g ∷ gs) more h = refl

guests-again : (new : List Program) (seen : List Program) (rest : Rest) (more : List Words) → AllByRecursion GuestFits new →
    EndsGuest more → rest_lists rest ≡ flat_map program_lines new ++ more
    → (after : Rest) × (guests_from (length new) seen rest ≡ Ok (seen ++ new, after)) × (rest_lists after ≡ more)
unfolding guests_from
guests-again [] seen rest more fits ends e = (rest, ap (λ k. Ok (k, rest)) (sym (append-nil seen)), e)
guests-again (g ∷ gs) seen rest more fits ends e =
    let t = guest-again rest g (flat_map program_lines gs ++ more) fits.0 (ends_next gs more ends)
    (e ∙ append_assoc (program_lines g) (flat_map program_lines gs) more) in
    let u = guests-again gs (seen ++ g ∷ []) t.0 more fits.1 ends t.2 in
    (u.0, then_ok (guest_at rest) _ (g, t.0) _ t.1 (u.1 ∙ ap (λ k. Ok (k, u.0)) (append_assoc seen (g ∷ []) gs)), u.2)

pub guests-law : (n : ℕ) → IsSection (guests_from n []) (λ gs. gs) (λ gs. flat_map program_lines gs) (λ gs. (length gs ≡ n)
    × AllByRecursion GuestFits gs) EndsGuest
guests-law n = record {
  takes = λ rest gs after e. let t = guests-takes n [] rest gs after e in (rw t.1 t.3, (rw t.1 t.2, rw t.1 t.4));
  again = λ rest gs more h s e.
      let t = guests-again gs [] rest more h.1 s e in
      (gs, t.0, subst (λ k. guests_from k [] rest ≡ Ok (gs, t.0)) h.0 t.1, refl, t.2);
}
