-- instructions: what is read is spelled so, and what is spelled so is read
use Rattle.std.proofs.Common.{◌≡◌, ℕ, ◌<◌, Bool, true, false, ◌&&◌, cond, eqb, leb, ltb, List, [], ◌∷◌}
use Rattle.std.proofs.Common.{Option, Some, None, option_map, Result, Ok, Err, codes, refl, ap, sym, ◌∙◌, arith}
use Rattle.std.proofs.Common.{⊎_elim}
use Rattle.std.specs.Fmt.{decimal}
use Rattle.std.specs.List.{AllByRecursion}
use Rattle.std.proofs.lemmas.Bool.{cases_Bool, and_parts, and_from, leb-false, lt-leb, lt-ltb, ltb-true, eqb-true}
use Rattle.plat_grammar.specs.Lines.{number_of}
use Rattle.plat_base.specs.Labels.{is_label_name}
use Rattle.plat_base.specs.Machine.{is_instr, is_register, is_number, is_index}
use Rattle.plat_base.specs.Canon.{instr_words, register_word, index_words}
use Rattle.plat_grammar.specs.Forms.{Row, word_at, refused, read_as, chosen}
use Rattle.plat_grammar.specs.Drafts.{Draft, plain, numbered_register, register_of, name_of, target}
use Rattle.plat_grammar.specs.Drafts.{set_line, move_line, add_line, sub_line, mul_line, and_line}
use Rattle.plat_grammar.specs.Drafts.{shr_line, load_line, store_line, fadd_line, switch_line, print_line, jump_line, zero_line, less_line}
use Rattle.plat_grammar.specs.Drafts.{halt_line, instructions, instruction_line, with_label}
use Rattle.plat_base.specs.declared.faults.Refused.{Refused}
use Rattle.plat_base.specs.declared.faults.Why.{Why}
use Rattle.plat_base.specs.declared.faults.Why.TheVariants as why
use Rattle.plat_base.specs.declared.guests.Instr.{Instr}
use Rattle.plat_base.specs.declared.guests.Instr.TheVariants as instr
use Rattle.plat_text.proofs.Results.{taking, then_ok, ok_first, ok_second, let_through}
use Rattle.plat_text.proofs.NumberLemmas.{number_of-takes, number_of-again}
use Rattle.plat_text.proofs.WordLaws.{IsWordForm, number-law, any-law}
use Rattle.plat_text.proofs.FormLemmas.{word_taken}
use Rattle.plat_text.proofs.FormLaws.{row_texts, IsForm, IsKind, one-law, nothing-law, before-law, maybe_words, maybe_fits}
use Rattle.plat_text.proofs.FormLaws.{maybe-law, word_there, texts_taken, read_as-ok, made-kind, made-again, chosen-takes}

-- ---- registers

register_from : (word : List ℕ) (o : Result ℕ Why) (r : ℕ) → number_of word ≡ o → numbered_register o ≡ Ok r →
    (114 ∷ word ≡ register_word r) × (r < 16)
register_from word (Ok n) r is e =
    let passed = let_through (ltb n 16) n r why.BadRegister e in
    (ap (λ w. 114 ∷ w) ((number_of-takes word n is).0 ∙ ap decimal passed.1), rw (← passed.1) (ltb-true n 16 passed.0))
register_from word (Err fault) r is e = cc

pub register-law : IsWordForm register_of register_word (λ r. r < 16)
unfolding register_of
register-law = record { takes = by_word; again = λ r h. rw (number_of-again r (omega (arith, h)), lt-ltb r 16 h) refl } where
  by_word : (w : List ℕ) (r : ℕ) → register_of w ≡ Ok r → (w ≡ register_word r) × (r < 16)
  by_word [] r e = cc
  by_word (b ∷ word) r e = ⊎_elim
      (λ t. let u = register_from word (number_of word) r refl (rw t at e) in (ap (λ k. k ∷ word) (eqb-true b 114 t) ∙ u.0, u.1))
      (λ t. absurd (wrong (rw t at e)))
      (cases_Bool (eqb b 114)) where
        wrong : ◌≡◌ {A = Result ℕ Why} (Err why.BadRegister) (Ok r) → ⊥
        wrong e = cc

-- ---- labels

pub name-law : IsWordForm name_of (λ n. n) (λ n. is_label_name n ≡ true)
name-law = record {
  takes = λ w n e. let passed = let_through (is_label_name w) w n why.BadLabel e in (passed.1, ap is_label_name (sym passed.1) ∙ passed.0);
  again = λ n h. rw h refl;
}

target-law : IsForm target (λ t. t.name) (λ n. n ∷ []) (λ n. is_label_name n ≡ true)
target-law = record {
  takes = λ row t after e. taking (word_at row) _ _ e (λ w w-is e1. taking (read_as row.line w.0 (name_of w.0.bytes)) _ _ e1 (λ n n-is e2.
      let value : record { line = row.line; column = w.0.column; name = n } ≡ t = ok_first _ (t, after) e2 in
      let left : w.1 ≡ after = ok_second (record { line = row.line; column = w.0.column; name = n }, w.1) (t, after) e2 in
      let passed = name-law.takes w.0.bytes n (read_as-ok row.line w.0 (name_of w.0.bytes) n n-is) in
      rw (← value, ← left) (texts_taken row w.0 w.1 (word_taken row w.0 w.1 w-is) ∙ ap (λ k. k ∷ row_texts w.1) passed.0, passed.1)));
  again = λ row n more h e.
      let t = word_there row n more e in (
        record { line = row.line; column = t.0.column; name = n },
        t.1,
        then_ok (word_at row) _ (t.0, t.1) _ t.2 (rw (t.3, h) refl),
        refl,
        t.4,
      );
}

-- ---- what a draft is, once places are forgotten

abbrev pub Named : Type 0
Named = Instr × Option (List ℕ)

abbrev pub named : Draft → Named
named d = (d.instr, option_map (λ t. t.name) d.target)

abbrev pub given_name : Option (List ℕ) → List ℕ
given_name None = []
given_name (Some n) = n

abbrev pub named_words : Named → List (List ℕ)
named_words n = instr_words (λ _. given_name n.1) n.0

-- whether an instruction names a label
abbrev pub goes : Instr → Bool
goes (instr.Set d n) = false
goes (instr.Move d a) = false
goes (instr.Add d a b) = false
goes (instr.Sub d a b) = false
goes (instr.Mul d a b) = false
goes (instr.And d a b) = false
goes (instr.Shr d a b) = false
goes (instr.Load d k i) = false
goes (instr.Store s k i) = false
goes (instr.Fadd d s k i) = false
goes (instr.Switch s) = false
goes (instr.Print s) = false
goes (instr.Jump l) = true
goes (instr.Zero a l) = true
goes (instr.Less a b l) = true
goes instr.Halt = false

abbrev pub NameFits : Bool → Option (List ℕ) → Type 0
NameFits true None = ⊥
NameFits true (Some n) = is_label_name n ≡ true
NameFits false None = Unit {0}
NameFits false (Some n) = ⊥

abbrev pub NamedFits : Named → Type 0
NamedFits n = (is_instr 1 n.0 ≡ true) × NameFits (goes n.0) n.1

-- ---- what each kind of line reads

two_fit : (a b : ℕ) → a < 16 → b < 16 → (is_register a && is_register b) ≡ true
two_fit a b h g = and_from (is_register a) (is_register b) (lt-ltb a 16 h) (lt-ltb b 16 g)

three_fit : (a b c : ℕ) → a < 16 → b < 16 → c < 16 → (is_register a && is_register b && is_register c) ≡ true
three_fit a b c h g f = and_from (is_register a && is_register b) (is_register c) (two_fit a b h g) (lt-ltb c 16 f)

two_parts : (a b : ℕ) → (is_register a && is_register b) ≡ true → (a < 16) × (b < 16)
two_parts a b e = let p = and_parts (is_register a) (is_register b) e in (ltb-true a 16 p.0, ltb-true b 16 p.1)

three_parts : (a b c : ℕ) → (is_register a && is_register b && is_register c) ≡ true → (a < 16) × (b < 16) × (c < 16)
three_parts a b c e =
    let p = and_parts (is_register a && is_register b) (is_register c) e in
    let q = two_parts a b p.0 in
    (q.0, q.1, ltb-true c 16 p.1)

index_fits : (o : Option ℕ) → maybe_fits (λ r. r < 16) o → is_index o ≡ true
index_fits None h = refl
index_fits (Some r) h = lt-ltb r 16 h

index_parts : (o : Option ℕ) → is_index o ≡ true → maybe_fits (λ r. r < 16) o
index_parts None h = tt
index_parts (Some r) h = ltb-true r 16 h

index-words : (o : Option ℕ) → maybe_words register_word o ≡ index_words o
index-words None = refl
index-words (Some r) = refl

abbrev Kind : List ℕ × (Row → Result Draft Refused) → Type 0
Kind = IsKind named named_words NamedFits

set-kind : Kind (codes "set", set_line)
unfolding set_line
set-kind = made-kind (before-law (one-law register-law) (before-law (one-law any-law) nothing-law)) (λ x. plain (instr.Set x.0 x.1.0)) named
    (λ b. (instr.Set b.0 b.1.0, None)) (λ a. refl)
    named_words NamedFits (codes "set")
    (λ b h. (refl, (and_from (is_register b.0) (is_number b.1.0) (lt-ltb b.0 16 h.0) (lt-ltb b.1.0 4294967296 h.1.0), tt)))

move-kind : Kind (codes "move", move_line)
unfolding move_line
move-kind = made-kind (before-law (one-law register-law) (before-law (one-law register-law) nothing-law))
    (λ x. plain (instr.Move x.0 x.1.0)) named (λ b. (instr.Move b.0 b.1.0, None)) (λ a. refl)
    named_words NamedFits (codes "move") (λ b h. (refl, (two_fit b.0 b.1.0 h.0 h.1.0, tt)))

add-kind : Kind (codes "add", add_line)
unfolding add_line
add-kind = made-kind (before-law (one-law register-law) (before-law (one-law register-law) (before-law (one-law register-law) nothing-law)))
    (λ x. plain (instr.Add x.0 x.1.0 x.1.1.0)) named
    (λ b. (instr.Add b.0 b.1.0 b.1.1.0, None)) (λ a. refl) named_words NamedFits (codes "add")
    (λ b h. (refl, (three_fit b.0 b.1.0 b.1.1.0 h.0 h.1.0 h.1.1.0, tt)))

sub-kind : Kind (codes "sub", sub_line)
unfolding sub_line
sub-kind = made-kind (before-law (one-law register-law) (before-law (one-law register-law) (before-law (one-law register-law) nothing-law)))
    (λ x. plain (instr.Sub x.0 x.1.0 x.1.1.0)) named
    (λ b. (instr.Sub b.0 b.1.0 b.1.1.0, None)) (λ a. refl) named_words NamedFits (codes "sub")
    (λ b h. (refl, (three_fit b.0 b.1.0 b.1.1.0 h.0 h.1.0 h.1.1.0, tt)))

mul-kind : Kind (codes "mul", mul_line)
unfolding mul_line
mul-kind = made-kind (before-law (one-law register-law) (before-law (one-law register-law) (before-law (one-law register-law) nothing-law)))
    (λ x. plain (instr.Mul x.0 x.1.0 x.1.1.0)) named
    (λ b. (instr.Mul b.0 b.1.0 b.1.1.0, None)) (λ a. refl) named_words NamedFits (codes "mul")
    (λ b h. (refl, (three_fit b.0 b.1.0 b.1.1.0 h.0 h.1.0 h.1.1.0, tt)))

and-kind : Kind (codes "and", and_line)
unfolding and_line
and-kind = made-kind (before-law (one-law register-law) (before-law (one-law register-law) (before-law (one-law register-law) nothing-law)))
    (λ x. plain (instr.And x.0 x.1.0 x.1.1.0)) named
    (λ b. (instr.And b.0 b.1.0 b.1.1.0, None)) (λ a. refl) named_words NamedFits (codes "and")
    (λ b h. (refl, (three_fit b.0 b.1.0 b.1.1.0 h.0 h.1.0 h.1.1.0, tt)))

shr-kind : Kind (codes "shr", shr_line)
unfolding shr_line
shr-kind = made-kind (before-law (one-law register-law) (before-law (one-law register-law) (before-law (one-law register-law) nothing-law)))
    (λ x. plain (instr.Shr x.0 x.1.0 x.1.1.0)) named
    (λ b. (instr.Shr b.0 b.1.0 b.1.1.0, None)) (λ a. refl) named_words NamedFits (codes "shr")
    (λ b h. (refl, (three_fit b.0 b.1.0 b.1.1.0 h.0 h.1.0 h.1.1.0, tt)))

load-kind : Kind (codes "load", load_line)
unfolding load_line
load-kind = made-kind (before-law (one-law register-law) (before-law (one-law any-law) (maybe-law register-law)))
    (λ x. plain (instr.Load x.0 x.1.0 x.1.1)) named
    (λ b. (instr.Load b.0 b.1.0 b.1.1, None)) (λ a. refl) named_words NamedFits (codes "load")
    (λ b h. (
      ap (λ k. codes "load" ∷ register_word b.0 ∷ decimal b.1.0 ∷ k) (index-words b.1.1),
      (
        and_from (is_register b.0 && is_number b.1.0) (is_index b.1.1)
            (and_from (is_register b.0) (is_number b.1.0) (lt-ltb b.0 16 h.0) (lt-ltb b.1.0 4294967296 h.1.0)) (index_fits b.1.1 h.1.1),
        tt,
      ),
    ))

store-kind : Kind (codes "store", store_line)
unfolding store_line
store-kind = made-kind (before-law (one-law register-law) (before-law (one-law any-law) (maybe-law register-law)))
    (λ x. plain (instr.Store x.0 x.1.0 x.1.1)) named
    (λ b. (instr.Store b.0 b.1.0 b.1.1, None)) (λ a. refl) named_words NamedFits (codes "store")
    (λ b h. (
      ap (λ k. codes "store" ∷ register_word b.0 ∷ decimal b.1.0 ∷ k) (index-words b.1.1),
      (
        and_from (is_register b.0 && is_number b.1.0) (is_index b.1.1)
            (and_from (is_register b.0) (is_number b.1.0) (lt-ltb b.0 16 h.0) (lt-ltb b.1.0 4294967296 h.1.0)) (index_fits b.1.1 h.1.1),
        tt,
      ),
    ))

fadd-kind : Kind (codes "fadd", fadd_line)
unfolding fadd_line
fadd-kind =
    made-kind (before-law (one-law register-law)
    (before-law (one-law register-law) (before-law (one-law any-law) (maybe-law register-law))))
    (λ x. plain (instr.Fadd x.0 x.1.0 x.1.1.0 x.1.1.1)) named
    (λ b. (instr.Fadd b.0 b.1.0 b.1.1.0 b.1.1.1, None)) (λ a. refl) named_words NamedFits (codes "fadd")
    (λ b h. (
      ap (λ k. codes "fadd" ∷ register_word b.0 ∷ register_word b.1.0 ∷ decimal b.1.1.0 ∷ k) (index-words b.1.1.1),
      (
        and_from (is_register b.0 && is_register b.1.0 && is_number b.1.1.0) (is_index b.1.1.1)
            (and_from (is_register b.0 && is_register b.1.0) (is_number b.1.1.0) (two_fit b.0 b.1.0 h.0 h.1.0)
            (lt-ltb b.1.1.0 4294967296 h.1.1.0)) (index_fits b.1.1.1 h.1.1.1),
        tt,
      ),
    ))

switch-kind : Kind (codes "switch", switch_line)
unfolding switch_line
switch-kind = made-kind (before-law (one-law (number-law 0 7 (omega arith))) nothing-law) (λ x. plain (instr.Switch x.0)) named
    (λ b. (instr.Switch b.0, None)) (λ a. refl)
    named_words NamedFits (codes "switch") (λ b h. (refl, (lt-ltb b.0 8 (omega (arith, h.0.1)), tt)))

print-kind : Kind (codes "print", print_line)
unfolding print_line
print-kind = made-kind (before-law (one-law register-law) nothing-law) (λ x. plain (instr.Print x.0)) named (λ b. (instr.Print b.0, None))
    (λ a. refl)
    named_words NamedFits (codes "print") (λ b h. (refl, (lt-ltb b.0 16 h.0, tt)))

jump-kind : Kind (codes "jump", jump_line)
unfolding jump_line
jump-kind = made-kind (before-law target-law nothing-law) (λ x. record { instr = instr.Jump 0; target = Some x.0 }) named
    (λ b. (instr.Jump 0, Some b.0)) (λ a. refl)
    named_words NamedFits (codes "jump") (λ b h. (refl, (refl, h.0)))

zero-kind : Kind (codes "zero", zero_line)
unfolding zero_line
zero-kind = made-kind (before-law (one-law register-law) (before-law target-law nothing-law))
    (λ x. record { instr = instr.Zero x.0 0; target = Some x.1.0 }) named (λ b. (instr.Zero b.0 0, Some b.1.0)) (λ a. refl)
    named_words NamedFits (codes "zero") (λ b h. (refl, (and_from (is_register b.0) true (lt-ltb b.0 16 h.0) refl, h.1.0)))

less-kind : Kind (codes "less", less_line)
unfolding less_line
less-kind = made-kind (before-law (one-law register-law) (before-law (one-law register-law) (before-law target-law nothing-law)))
    (λ x. record { instr = instr.Less x.0 x.1.0 0; target = Some x.1.1.0 }) named
    (λ b. (instr.Less b.0 b.1.0 0, Some b.1.1.0)) (λ a. refl)
    named_words NamedFits (codes "less")
    (λ b h. (refl, (and_from (is_register b.0 && is_register b.1.0) true (two_fit b.0 b.1.0 h.0 h.1.0) refl, h.1.1.0)))

halt-kind : Kind (codes "halt", halt_line)
unfolding halt_line
halt-kind = made-kind nothing-law (λ _. plain instr.Halt) named (λ _. (instr.Halt, None)) (λ a. refl) named_words NamedFits (codes "halt")
    (λ b h. (refl, (refl, tt)))

kinds : AllByRecursion Kind instructions
kinds = (
  set-kind,
  (
    move-kind,
    (
      add-kind,
      (
        sub-kind,
        (
          mul-kind,
          (
            and-kind,
            (
              shr-kind,
              (
                load-kind,
                (
                  store-kind,
                  (fadd-kind, (switch-kind, (print-kind, (jump-kind, (zero-kind, (less-kind, (halt-kind, tt))))))),
                ),
              ),
            ),
          ),
        ),
      ),
    ),
  ),
)

room_left : (b : Bool) (fault : Refused) (r : Result Draft Refused) (d : Draft) → cond b (Err fault) r ≡ Ok d → (b ≡ false) × (r ≡ Ok d)
room_left true fault r d e = cc
room_left false fault r d e = (refl, e)

pub instruction-takes : (count : ℕ) (row : Row) (d : Draft) → instruction_line count row ≡ Ok d → (row_texts row ≡ named_words (named d))
    × NamedFits (named d) × (count < 4096)
unfolding instruction_line
instruction-takes count row d e = taking (word_at row) _ d e (λ w w-is e1.
    let room = room_left (leb 4096 count) (refused row.line w.0.column why.TooMany) _ d e1 in
    let t = chosen-takes named named_words NamedFits instructions (refused row.line w.0.column why.UnknownInstruction) w.0.bytes w.1 d kinds
    room.1 in
    (texts_taken row w.0 w.1 (word_taken row w.0 w.1 w-is) ∙ t.0, t.1, leb-false 4096 count room.0))

-- ---- and what is read again

-- the label that an instruction goes to
abbrev pub label_of : Instr → Option ℕ
label_of (instr.Set d n) = None
label_of (instr.Move d a) = None
label_of (instr.Add d a b) = None
label_of (instr.Sub d a b) = None
label_of (instr.Mul d a b) = None
label_of (instr.And d a b) = None
label_of (instr.Shr d a b) = None
label_of (instr.Load d k i) = None
label_of (instr.Store s k i) = None
label_of (instr.Fadd d s k i) = None
label_of (instr.Switch s) = None
label_of (instr.Print s) = None
label_of (instr.Jump l) = Some l
label_of (instr.Zero a l) = Some l
label_of (instr.Less a b l) = Some l
label_of instr.Halt = None

-- an instruction as its line names it
abbrev pub named_by : (ℕ → List ℕ) → Instr → Named
named_by names i = (with_label 0 i, option_map names (label_of i))

dispatch : (count : ℕ) (row : Row) (word : List ℕ) (words : List (List ℕ)) (y : Named) → count < 4096 → row_texts row ≡ word ∷ words
    → ((fault : Refused) (after : Row) → row_texts after ≡ words → (d : Draft) × (chosen instructions fault word after ≡ Ok d)
    × (named d ≡ y))
    → (d : Draft) × (instruction_line count row ≡ Ok d) × (named d ≡ y)
unfolding instruction_line
dispatch count row word words y few e go =
    let t = word_there row word words e in
    let u = go (refused row.line t.0.column why.UnknownInstruction) t.1 t.4 in
    (u.0, then_ok (word_at row) _ (t.0, t.1) _ t.2 (rw (lt-leb 4096 count few, t.3) u.1), u.2)

module _ (count : ℕ) (few : count < 4096) (names : ℕ → List ℕ) (n : ℕ) (spelled : (l : ℕ) → l < n → is_label_name (names l) ≡ true)
    (row : Row) where
  pub instruction-again : (i : Instr) → is_instr n i ≡ true → row_texts row ≡ instr_words names i →
      (d : Draft) × (instruction_line count row ≡ Ok d) × (named d ≡ named_by names i)
  unfolding set_line move_line add_line sub_line mul_line and_line shr_line load_line store_line fadd_line switch_line print_line jump_line
      zero_line less_line halt_line
  instruction-again (instr.Set d k) h e =
      let p = and_parts (is_register d) (is_number k) h in
      dispatch count row (codes "set") (register_word d ∷ decimal k ∷ []) (instr.Set d k, None) few e
      (λ fault after a. made-again (before-law (one-law register-law) (before-law (one-law any-law) nothing-law))
      (λ x. plain (instr.Set x.0 x.1.0)) named (λ b. (instr.Set b.0 b.1.0, None)) (λ a. refl)
      after (d, (k, tt)) (ltb-true d 16 p.0, (ltb-true k 4294967296 p.1, tt)) a)
  instruction-again (instr.Move d a) h e =
      let p = two_parts d a h in
      dispatch count row (codes "move") (register_word d ∷ register_word a ∷ []) (instr.Move d a, None) few e
      (λ fault after t. made-again (before-law (one-law register-law) (before-law (one-law register-law) nothing-law))
      (λ x. plain (instr.Move x.0 x.1.0)) named (λ b. (instr.Move b.0 b.1.0, None)) (λ a. refl)
      after (d, (a, tt)) (p.0, (p.1, tt)) t)
  instruction-again (instr.Add d a b) h e =
      let p = three_parts d a b h in
      dispatch count row (codes "add") (register_word d ∷ register_word a ∷ register_word b ∷ []) (instr.Add d a b, None) few e
      (λ fault after t. made-again (before-law (one-law register-law)
      (before-law (one-law register-law) (before-law (one-law register-law) nothing-law)))
      (λ x. plain (instr.Add x.0 x.1.0 x.1.1.0)) named (λ b. (instr.Add b.0 b.1.0 b.1.1.0, None)) (λ a. refl) after (d, (a, (b, tt)))
      (p.0, (p.1, (p.2, tt))) t)
  instruction-again (instr.Sub d a b) h e =
      let p = three_parts d a b h in
      dispatch count row (codes "sub") (register_word d ∷ register_word a ∷ register_word b ∷ []) (instr.Sub d a b, None) few e
      (λ fault after t. made-again (before-law (one-law register-law)
      (before-law (one-law register-law) (before-law (one-law register-law) nothing-law)))
      (λ x. plain (instr.Sub x.0 x.1.0 x.1.1.0)) named (λ b. (instr.Sub b.0 b.1.0 b.1.1.0, None)) (λ a. refl) after (d, (a, (b, tt)))
      (p.0, (p.1, (p.2, tt))) t)
  instruction-again (instr.Mul d a b) h e =
      let p = three_parts d a b h in
      dispatch count row (codes "mul") (register_word d ∷ register_word a ∷ register_word b ∷ []) (instr.Mul d a b, None) few e
      (λ fault after t. made-again (before-law (one-law register-law)
      (before-law (one-law register-law) (before-law (one-law register-law) nothing-law)))
      (λ x. plain (instr.Mul x.0 x.1.0 x.1.1.0)) named (λ b. (instr.Mul b.0 b.1.0 b.1.1.0, None)) (λ a. refl) after (d, (a, (b, tt)))
      (p.0, (p.1, (p.2, tt))) t)
  instruction-again (instr.And d a b) h e =
      let p = three_parts d a b h in
      dispatch count row (codes "and") (register_word d ∷ register_word a ∷ register_word b ∷ []) (instr.And d a b, None) few e
      (λ fault after t. made-again (before-law (one-law register-law)
      (before-law (one-law register-law) (before-law (one-law register-law) nothing-law)))
      (λ x. plain (instr.And x.0 x.1.0 x.1.1.0)) named (λ b. (instr.And b.0 b.1.0 b.1.1.0, None)) (λ a. refl) after (d, (a, (b, tt)))
      (p.0, (p.1, (p.2, tt))) t)
  instruction-again (instr.Shr d a b) h e =
      let p = three_parts d a b h in
      dispatch count row (codes "shr") (register_word d ∷ register_word a ∷ register_word b ∷ []) (instr.Shr d a b, None) few e
      (λ fault after t. made-again (before-law (one-law register-law)
      (before-law (one-law register-law) (before-law (one-law register-law) nothing-law)))
      (λ x. plain (instr.Shr x.0 x.1.0 x.1.1.0)) named (λ b. (instr.Shr b.0 b.1.0 b.1.1.0, None)) (λ a. refl) after (d, (a, (b, tt)))
      (p.0, (p.1, (p.2, tt))) t)
  instruction-again (instr.Load d k i) h e =
      let last = and_parts (is_register d && is_number k) (is_index i) h in
      let p = and_parts (is_register d) (is_number k) last.0 in
      dispatch count row (codes "load") (register_word d ∷ decimal k ∷ index_words i) (instr.Load d k i, None) few e
      (λ fault after t. made-again (before-law (one-law register-law) (before-law (one-law any-law) (maybe-law register-law)))
      (λ x. plain (instr.Load x.0 x.1.0 x.1.1)) named
      (λ b. (instr.Load b.0 b.1.0 b.1.1, None)) (λ a. refl) after (d, (k, i)) (
        ltb-true d 16 p.0,
        (ltb-true k 4294967296 p.1, index_parts i last.1),
      )
      (t ∙ ap (λ ws. register_word d ∷ decimal k ∷ ws) (sym (index-words i))))
  instruction-again (instr.Store d k i) h e =
      let last = and_parts (is_register d && is_number k) (is_index i) h in
      let p = and_parts (is_register d) (is_number k) last.0 in
      dispatch count row (codes "store") (register_word d ∷ decimal k ∷ index_words i) (instr.Store d k i, None) few e
      (λ fault after t. made-again (before-law (one-law register-law) (before-law (one-law any-law) (maybe-law register-law)))
      (λ x. plain (instr.Store x.0 x.1.0 x.1.1)) named
      (λ b. (instr.Store b.0 b.1.0 b.1.1, None)) (λ a. refl) after (d, (k, i)) (
        ltb-true d 16 p.0,
        (ltb-true k 4294967296 p.1, index_parts i last.1),
      )
      (t ∙ ap (λ ws. register_word d ∷ decimal k ∷ ws) (sym (index-words i))))
  instruction-again (instr.Fadd d s k i) h e =
      let last = and_parts (is_register d && is_register s && is_number k) (is_index i) h in
      let third = and_parts (is_register d && is_register s) (is_number k) last.0 in
      let p = two_parts d s third.0 in
      dispatch count row (codes "fadd") (register_word d ∷ register_word s ∷ decimal k ∷ index_words i) (instr.Fadd d s k i, None) few e
      (λ fault after t. made-again (before-law (one-law register-law)
      (before-law (one-law register-law) (before-law (one-law any-law) (maybe-law register-law))))
      (λ x. plain (instr.Fadd x.0 x.1.0 x.1.1.0 x.1.1.1)) named
      (λ b. (instr.Fadd b.0 b.1.0 b.1.1.0 b.1.1.1, None)) (λ a. refl) after (d, (s, (k, i)))
      (p.0, (p.1, (ltb-true k 4294967296 third.1, index_parts i last.1)))
      (t ∙ ap (λ ws. register_word d ∷ register_word s ∷ decimal k ∷ ws) (sym (index-words i))))
  instruction-again (instr.Switch s) h e =
      dispatch count row (codes "switch") (decimal s ∷ []) (instr.Switch s, None) few e
      (λ fault after t. made-again (before-law (one-law (number-law 0 7 (omega arith))) nothing-law) (λ x. plain (instr.Switch x.0)) named
      (λ b. (instr.Switch b.0, None)) (λ a. refl)
      after (s, tt) ((omega arith, omega (arith, ltb-true s 8 h)), tt) t)
  instruction-again (instr.Print s) h e =
      dispatch count row (codes "print") (register_word s ∷ []) (instr.Print s, None) few e
      (λ fault after t. made-again (before-law (one-law register-law) nothing-law) (λ x. plain (instr.Print x.0)) named
      (λ b. (instr.Print b.0, None)) (λ a. refl) after (s, tt) (ltb-true s 16 h, tt) t)
  instruction-again (instr.Jump l) h e =
      dispatch count row (codes "jump") (names l ∷ []) (instr.Jump 0, Some (names l)) few e
      (λ fault after t. made-again (before-law target-law nothing-law) (λ x. record { instr = instr.Jump 0; target = Some x.0 }) named
      (λ b. (instr.Jump 0, Some b.0)) (λ a. refl)
      after (names l, tt) (spelled l (ltb-true l n h), tt) t)
  instruction-again (instr.Zero a l) h e =
      let p = and_parts (is_register a) (ltb l n) h in
      dispatch count row (codes "zero") (register_word a ∷ names l ∷ []) (instr.Zero a 0, Some (names l)) few e
      (λ fault after t. made-again (before-law (one-law register-law) (before-law target-law nothing-law))
      (λ x. record { instr = instr.Zero x.0 0; target = Some x.1.0 }) named (λ b. (instr.Zero b.0 0, Some b.1.0)) (λ a. refl)
      after (a, (names l, tt)) (ltb-true a 16 p.0, (spelled l (ltb-true l n p.1), tt)) t)
  instruction-again (instr.Less a b l) h e =
      let p = and_parts (is_register a && is_register b) (ltb l n) h in
      let q = two_parts a b p.0 in
      dispatch count row (codes "less") (register_word a ∷ register_word b ∷ names l ∷ []) (instr.Less a b 0, Some (names l)) few e
      (λ fault after t. made-again (before-law (one-law register-law)
      (before-law (one-law register-law) (before-law target-law nothing-law)))
      (λ x. record { instr = instr.Less x.0 x.1.0 0; target = Some x.1.1.0 }) named
      (λ b. (instr.Less b.0 b.1.0 0, Some b.1.1.0)) (λ a. refl) after (a, (b, (names l, tt)))
      (q.0, (q.1, (spelled l (ltb-true l n p.1), tt))) t)
  instruction-again instr.Halt h e =
      dispatch count row (codes "halt") [] (instr.Halt, None) few e
      (λ fault after t. made-again nothing-law (λ _. plain instr.Halt) named (λ _. (instr.Halt, None)) (λ a. refl) after tt tt t)
