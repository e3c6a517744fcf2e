-- labels of instructions: a name becomes the number of the label that has it, and the other way
use Rattle.std.proofs.Common.{◌≡◌, ℕ, zero, suc, ◌<◌, Bool, true, false, not, ◌&&◌, ltb, List, [], ◌∷◌, ◌++◌, length}
use Rattle.std.proofs.Common.{map, get_or, Option, Some, None, option_map, Ok, bytes_eq, refl, ap, sym, ◌∙◌, arith}
use Rattle.std.proofs.Common.{append_assoc, append-nil}
use Rattle.std.specs.List.{AllByRecursion, list_all, list_any, position_or_len}
use Rattle.std.proofs.lemmas.Bool.{and_parts, and_from, or_parts, not-true, ltb-true, lt-ltb, false≢true, false_from_ne_true}
use Rattle.std.proofs.lemmas.List.Quantifiers.{position-Some}
use Rattle.std.proofs.lemmas.Slice.Eq.{bytes_eq-Decides}
use Rattle.plat_base.specs.GuestRun.{no_label}
use Rattle.plat_base.specs.Machine.{all_differ, same_name, is_instr, is_register}
use Rattle.plat_base.specs.Canon.{instr_words, label_name}
use Rattle.plat_grammar.specs.Drafts.{Target, Draft, with_label, label_number, linked, linked_by, linked_to, code_from}
use Rattle.plat_base.specs.declared.guests.Label.{Label}
use Rattle.plat_base.specs.declared.guests.Instr.{Instr}
use Rattle.plat_base.specs.declared.guests.Instr.TheVariants as instr
use Rattle.plat_text.proofs.Results.{taking, then_ok, ok_is}
use Rattle.plat_machine.proofs.InstrLaws.{goes, NameFits, Named, named, named_words, NamedFits, named_by, label_of}

-- ---- by cases on instructions

-- an instruction without a label has its words and limits whatever the labels are
pub plain_same : (i : Instr) → goes i ≡ false → (names names' : ℕ → List ℕ) (n m : ℕ) → (instr_words names i ≡ instr_words names' i)
    × (is_instr n i ≡ is_instr m i)
plain_same (instr.Set d k) h names names' n m = (refl, refl)
plain_same (instr.Move d a) h names names' n m = (refl, refl)
plain_same (instr.Add d a b) h names names' n m = (refl, refl)
plain_same (instr.Sub d a b) h names names' n m = (refl, refl)
plain_same (instr.Mul d a b) h names names' n m = (refl, refl)
plain_same (instr.And d a b) h names names' n m = (refl, refl)
plain_same (instr.Shr d a b) h names names' n m = (refl, refl)
plain_same (instr.Load d k i) h names names' n m = (refl, refl)
plain_same (instr.Store s k i) h names names' n m = (refl, refl)
plain_same (instr.Fadd d s k i) h names names' n m = (refl, refl)
plain_same (instr.Switch s) h names names' n m = (refl, refl)
plain_same (instr.Print s) h names names' n m = (refl, refl)
plain_same (instr.Jump l) h names names' n m = cc
plain_same (instr.Zero a l) h names names' n m = cc
plain_same (instr.Less a b l) h names names' n m = cc
plain_same instr.Halt h names names' n m = (refl, refl)

-- one with a label has those of the label
pub goes_same : (i : Instr) → goes i ≡ true → (names : ℕ → List ℕ) (number n : ℕ) → number < n → is_instr 1 i ≡ true
    → (instr_words names (with_label number i) ≡ instr_words (λ _. names number) i) × (is_instr n (with_label number i) ≡ true)
goes_same (instr.Set d k) h names number n inside fit = cc
goes_same (instr.Move d a) h names number n inside fit = cc
goes_same (instr.Add d a b) h names number n inside fit = cc
goes_same (instr.Sub d a b) h names number n inside fit = cc
goes_same (instr.Mul d a b) h names number n inside fit = cc
goes_same (instr.And d a b) h names number n inside fit = cc
goes_same (instr.Shr d a b) h names number n inside fit = cc
goes_same (instr.Load d k i) h names number n inside fit = cc
goes_same (instr.Store s k i) h names number n inside fit = cc
goes_same (instr.Fadd d s k i) h names number n inside fit = cc
goes_same (instr.Switch s) h names number n inside fit = cc
goes_same (instr.Print s) h names number n inside fit = cc
goes_same (instr.Jump l) h names number n inside fit = (refl, lt-ltb number n inside)
goes_same (instr.Zero a l) h names number n inside fit =
    (refl, and_from (is_register a) (ltb number n) (and_parts (is_register a) (ltb l 1) fit).0 (lt-ltb number n inside))
goes_same (instr.Less a b l) h names number n inside fit = (
  refl,
  and_from (is_register a && is_register b) (ltb number n) (and_parts (is_register a && is_register b) (ltb l 1) fit).0
      (lt-ltb number n inside),
)
goes_same instr.Halt h names number n inside fit = cc

-- the label that was taken out is put back
abbrev pub PutsBack : ℕ → Instr → Option ℕ → Type 0
PutsBack n i None = with_label 0 i ≡ i
PutsBack n i (Some l) = (with_label l (with_label 0 i) ≡ i) × (l < n)

pub puts_back : (n : ℕ) (i : Instr) → is_instr n i ≡ true → PutsBack n i (label_of i)
puts_back n (instr.Set d k) h = refl
puts_back n (instr.Move d a) h = refl
puts_back n (instr.Add d a b) h = refl
puts_back n (instr.Sub d a b) h = refl
puts_back n (instr.Mul d a b) h = refl
puts_back n (instr.And d a b) h = refl
puts_back n (instr.Shr d a b) h = refl
puts_back n (instr.Load d k i) h = refl
puts_back n (instr.Store s k i) h = refl
puts_back n (instr.Fadd d s k i) h = refl
puts_back n (instr.Switch s) h = refl
puts_back n (instr.Print s) h = refl
puts_back n (instr.Jump l) h = (refl, ltb-true l n h)
puts_back n (instr.Zero a l) h = (refl, ltb-true l n (and_parts (is_register a) (ltb l n) h).1)
puts_back n (instr.Less a b l) h = (refl, ltb-true l n (and_parts (is_register a && is_register b) (ltb l n) h).1)
puts_back n instr.Halt h = refl

-- ---- one instruction

fits_none : (b : Bool) → NameFits b None → b ≡ false
fits_none true h = absurd h
fits_none false h = refl

fits_some : (b : Bool) (n : List ℕ) → NameFits b (Some n) → b ≡ true
fits_some true n h = refl
fits_some false n h = absurd h

linked_name : (labels : List Label) (name : List ℕ) (l : ℕ) → label_number labels name ≡ Some l →
    (l < length labels) × (label_name labels l ≡ name)
linked_name labels name l e =
    let t = position-Some (λ x. bytes_eq name x.name) labels l no_label e in
    (t.0, sym ((bytes_eq-Decides name (get_or labels l no_label).name).0 t.1))

linked-takes : (labels : List Label) (d : Draft) (i : Instr) → NamedFits (named d) → linked labels d ≡ Ok i
    → (instr_words (label_name labels) i ≡ named_words (named d)) × (is_instr (length labels) i ≡ true)
linked-takes labels d i h e = by_target d.target h e where
  by_number : (t : Target) (o : Option ℕ) → label_number labels t.name ≡ o → NamedFits (d.instr, Some t.name) → linked_to d t o ≡ Ok i
      → (instr_words (label_name labels) i ≡ named_words (d.instr, Some t.name)) × (is_instr (length labels) i ≡ true)
  by_number t (Some l) is h e =
      let value : with_label l d.instr ≡ i = ok_is (with_label l d.instr) i e in
      let name = linked_name labels t.name l is in
      let u = goes_same d.instr (fits_some (goes d.instr) t.name h.1) (label_name labels) l (length labels) name.0 h.0 in
      rw (← value) (u.0 ∙ ap (λ k. instr_words (λ _. k) d.instr) name.1, u.1)
  by_number t None is h e = cc

  by_target : (o : Option Target) → NamedFits (d.instr, option_map (λ t. t.name) o) → linked_by labels d o ≡ Ok i
      → (instr_words (label_name labels) i ≡ named_words (d.instr, option_map (λ t. t.name) o)) × (is_instr (length labels) i ≡ true)
  by_target None h e =
      let value : d.instr ≡ i = ok_is d.instr i e in
      let u = plain_same d.instr (fits_none (goes d.instr) h.1) (label_name labels) (λ _. []) (length labels) 1 in
      rw (← value) (u.0, u.1 ∙ h.0)
  by_target (Some t) h e = by_number t (label_number labels t.name) refl h e

-- names differ, so a name has one number
unlike : (x : Label) (xs : List Label) (l : ℕ) → list_any (same_name x) xs ≡ false → l < length xs → bytes_eq (label_name xs l) x.name
    ≡ false
unlike x [] l h inside = absurd (omega arith)
unlike x (y ∷ ys) zero h inside = turned x.name y.name (or_parts (same_name x y) (list_any (same_name x) ys) h).0 where
  turned : (a b : List ℕ) → bytes_eq a b ≡ false → bytes_eq b a ≡ false
  turned a b e = false_from_ne_true (bytes_eq b a) (λ t. false≢true (sym e ∙ (bytes_eq-Decides a b).1 (sym ((bytes_eq-Decides b a).0 t))))
unlike x (y ∷ ys) (suc l) h inside = unlike x ys l (or_parts (same_name x y) (list_any (same_name x) ys) h).1 (omega arith)

number_len : (labels : List Label) (l : ℕ) → all_differ same_name labels ≡ true → l < length labels →
    position_or_len (λ x. bytes_eq (label_name labels l) x.name) labels ≡ l
number_len [] l d inside = absurd (omega arith)
number_len (x ∷ xs) zero d inside = rw ((bytes_eq-Decides x.name x.name).1 refl) refl
number_len (x ∷ xs) (suc l) d inside =
    let parts = and_parts (not (list_any (same_name x) xs)) (all_differ same_name xs) d in
    let within : l < length xs = omega arith in
    rw (unlike x xs l (not-true _ parts.0) within, number_len xs l parts.1 within) (omega arith)

label_number-at : (labels : List Label) (l : ℕ) → all_differ same_name labels ≡ true → l < length labels →
    label_number labels (label_name labels l) ≡ Some l
label_number-at labels l d inside = rw (number_len labels l d inside, lt-ltb l (length labels) inside) refl

linked-again : (labels : List Label) (d : Draft) (i : Instr) → all_differ same_name labels ≡ true → is_instr (length labels) i ≡ true →
    named d ≡ named_by (label_name labels) i → linked labels d ≡ Ok i
linked-again labels d i apart h e = by_both d.target (label_of i) (puts_back (length labels) i h) (ap (λ p. p.1) e) where
  instr_is : d.instr ≡ with_label 0 i
  instr_is = ap (λ p. p.0) e

  by_both : (o : Option Target) (p : Option ℕ) → PutsBack (length labels) i p →
      option_map (λ t. t.name) o ≡ option_map (label_name labels) p → linked_by labels d o ≡ Ok i
  by_both None None back e = ap Ok (instr_is ∙ back)
  by_both None (Some l) back e = cc
  by_both (Some t) None back e = cc
  by_both (Some t) (Some l) back e =
      let name : t.name ≡ label_name labels l = cc in
      rw (name, label_number-at labels l apart back.1) (ap (λ k. Ok (with_label l k)) instr_is ∙ ap Ok back.0)

-- ---- all of them

pub code-takes : (labels : List Label) (seen : List Instr) (ds : List Draft) (code : List Instr) →
    AllByRecursion (λ d. NamedFits (named d)) ds → code_from labels seen ds ≡ Ok code
    → (new : List Instr) × (code ≡ seen ++ new) × (map (λ i. instr_words (label_name labels) i) new ≡ map (λ d. named_words (named d)) ds)
    × (list_all (is_instr (length labels)) new ≡ true) × (length new ≡ length ds)
unfolding code_from
code-takes labels seen [] code h e = ([], sym (ok_is seen code e) ∙ sym (append-nil seen), refl, refl, refl)
code-takes labels seen (d ∷ ds) code h e = taking (linked labels d) _ code e (λ i i-is e1.
    let one = linked-takes labels d i h.0 i-is in
    let u = code-takes labels (seen ++ i ∷ []) ds code h.1 e1 in (
      i ∷ u.0,
      u.1 ∙ append_assoc seen (i ∷ []) u.0,
      rw (one.0, u.2) refl,
      and_from (is_instr (length labels) i) (list_all (is_instr (length labels)) u.0) one.1 u.3,
      ap suc u.4,
    ))

pub code-again : (labels : List Label) (seen : List Instr) (ds : List Draft) (code : List Instr) → all_differ same_name labels ≡ true →
    list_all (is_instr (length labels)) code ≡ true
    → map named ds ≡ map (named_by (label_name labels)) code → code_from labels seen ds ≡ Ok (seen ++ code)
unfolding code_from
code-again labels seen [] [] apart h e = ap Ok (sym (append-nil seen))
code-again labels seen [] (i ∷ is) apart h e = cc
code-again labels seen (d ∷ ds) [] apart h e = cc
code-again labels seen (d ∷ ds) (i ∷ is) apart h e =
    let parts = and_parts (is_instr (length labels) i) (list_all (is_instr (length labels)) is) h in
    let first : named d ≡ named_by (label_name labels) i = cons_first _ _ _ _ e in
    let others : map named ds ≡ map (named_by (label_name labels)) is = cc in
    then_ok (linked labels d) _ i _ (linked-again labels d i apart parts.0 first)
    (code-again labels (seen ++ i ∷ []) ds is apart parts.1 others ∙ ap Ok (append_assoc seen (i ∷ []) is)) where
      cons_first : (x y : Named) (xs ys : List Named) → x ∷ xs ≡ y ∷ ys → x ≡ y
      cons_first x y xs ys e = cc
