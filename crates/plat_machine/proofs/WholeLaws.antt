-- whole texts: what is read is in the grammar, and what is in the grammar is read
use Rattle.std.proofs.Common.{◌≡◌, ℕ, suc, ◌+◌, Bool, true, false, cond, ltb, List, [], ◌∷◌, ◌++◌, length}
use Rattle.std.proofs.Common.{Result, Ok, Err, IfOk, codes, IsTrue, refl, ap, sym, ◌∙◌, arith, append_assoc, append-nil}
use Rattle.std.proofs.lemmas.Bool.{ltb-false, le-ltb, le-leb}
use Rattle.std.proofs.lemmas.List.{same_from_push}
use Rattle.plat_grammar.specs.Lines.{lines_of}
use Rattle.plat_base.specs.Machine.{Machine}
use Rattle.plat_base.specs.Text.{text_bytes}
use Rattle.plat_base.specs.Canon.{canon, canon_text, is_short, most_bytes}
use Rattle.plat_grammar.specs.Forms.{Row, Gives, refused, rest_of, over}
use Rattle.plat_grammar.specs.FirstFault.{machine_at, text_at, text_from}
use Rattle.plat_grammar.specs.Forms.{rows_of}
use Rattle.plat_grammar.specs.Grammar.{IsMachine, IsTextOf, IsFrontOf, line_words, word_lists}
use Rattle.plat_base.specs.declared.faults.Refused.{Refused}
use Rattle.plat_base.specs.declared.faults.TextFault.{TextFault}
use Rattle.plat_base.specs.declared.faults.TextFault.TheVariants as fault
use Rattle.plat_base.specs.declared.faults.Why.TheVariants as why
use Rattle.plat_text.proofs.Results.{taking, then_ok, ok_is, ok_first, ok_second}
use Rattle.plat_text.proofs.FormLaws.{row_texts}
use Rattle.plat_text.proofs.SectionLaws.{row_lists, row_lists-append, rest_lists}
use Rattle.plat_text.proofs.TextLaws.{rows-clean, finished-clean, over-takes, over-again, front-takes, front-again}
use Rattle.plat_text.proofs.TextLaws.{line_row}
use Rattle.plat_text.proofs.CanonLaws.{canonical-le}
use Rattle.plat_machine.proofs.MachineLaws.{machine-takes, machine-again, header_of, machine_lines, canon-front}

-- ---- a text alone

within_size : (b : Bool) (fault : Refused) (r : Result Machine Refused) (m : Machine) → cond b (Err fault) r ≡ Ok m →
    (b ≡ false) × (r ≡ Ok m)
within_size true fault r m e = cc
within_size false fault r m e = (refl, e)

pub text-takes : (bytes : List ℕ) (m : Machine) → text_at bytes ≡ Ok m → IsTextOf bytes m
unfolding text_at
text-takes bytes m e =
    let t = within_size (ltb most_bytes (length bytes)) (refused 0 0 why.TooLong) _ m e in
    taking (machine_at (rows_of 1 bytes)) _ m t.1 (λ x x-is e1. taking (over x.1) _ m e1 (λ u u-is e2.
    let value : x.0.0 ≡ m = ok_is x.0.0 m e2 in
    let took = machine-takes (rows_of 1 bytes) x.0.0 x.0.1 x.1 x-is in
    let end = over-takes x.1 u u-is in
    let clean = finished-clean 1 end.1.0 (lines_of 1 bytes) (sym took.stop ∙ end.1.1) in
    let rows = rows-clean 1 (lines_of 1 bytes) clean in
    let lists : rest_lists (rows_of 1 bytes) ≡ canon x.0.0 =
    ap row_lists (took.rows ∙ ap (λ k. took.front ++ took.last ∷ k) end.0) ∙ row_lists-append took.front (took.last ∷ []) ∙ took.lists in
    record {
      size = ltb-false most_bytes (length bytes) t.0;
      clean = clean;
      words = sym rows.0 ∙ lists ∙ ap canon value;
    }))

-- a canonical text is never longer than a text that gave the machine
pub text-short : (bytes : List ℕ) (m : Machine) → IsTextOf bytes m → IsTrue (is_short m)
unfolding is_short canon_text
text-short bytes m h =
    let same : length (text_bytes (word_lists (lines_of 1 bytes))) ≡ length (text_bytes (canon m)) =
    ap (λ k. length (text_bytes k)) h.words in
    le-leb (length (text_bytes (canon m))) most_bytes (omega (arith, canonical-le 1 bytes h.clean, same, h.size))

pub text-again : (bytes : List ℕ) (m : Machine) → IsMachine m → IsTextOf bytes m → text_at bytes ≡ Ok m
unfolding text_at
text-again bytes m fits h =
    let rows = rows-clean 1 (lines_of 1 bytes) h.clean in
    let t = machine-again (rows_of 1 bytes) m [] fits (text-short bytes m h) (rows.0 ∙ h.words ∙ sym (append-nil (canon m))) in
    let took = machine-takes (rows_of 1 bytes) m t.0 t.1 t.2 in
    rw (le-ltb most_bytes (length bytes) h.size)
    (then_ok (machine_at (rows_of 1 bytes)) _ ((m, t.0), t.1) _ t.2
    (then_ok (over t.1) _ (tt {0}) _ (over-again t.1 rows.1.0 t.3 (took.stop ∙ rows.1.1)) refl))

-- ---- a text inside a longer one

pub from-takes : (first : ℕ) (bytes : List ℕ) (m : Machine) (next : ℕ) → text_from first bytes ≡ Ok (m, next) → IsFrontOf first bytes m next
unfolding text_from
from-takes first bytes m next e = taking (machine_at (rows_of first bytes)) _ _ e (λ x x-is e1.
    let value : x.0.0 ≡ m = ok_first x.0 (m, next) e1 in
    let number : x.0.1 ≡ next = ok_second x.0 (m, next) e1 in
    let took = machine-takes (rows_of first bytes) x.0.0 x.0.1 x.1 x-is in
    let row = front-takes first (lines_of first bytes) took.front took.last x.1.rows took.rows in
    record {
      before = row.before;
      last = row.last;
      after = row.after;
      parts = row.parts;
      clean = row.clean;
      words = rw (row.lists, row.words) (took.lists ∙ ap canon value);
      number = sym number ∙ took.number ∙ ap (λ k. k + 1) (sym row.number);
    })

-- lists with parts of the same lengths have the same parts
same_part : {A : Type 0} (xs ys : List A) (x y : A) (us vs : List A) → length xs ≡ length ys → xs ++ x ∷ us ≡ ys ++ y ∷ vs → x ≡ y
same_part [] [] x y us vs h e = cc
same_part [] (z ∷ ys) x y us vs h e = absurd (omega arith)
same_part (z ∷ xs) [] x y us vs h e = absurd (omega arith)
same_part (z ∷ xs) (w ∷ ys) x y us vs h e =
    let left : xs ++ x ∷ us ≡ ys ++ y ∷ vs = cc in
    same_part xs ys x y us vs (omega arith) left

length-row_lists : (rows : List Row) → length (row_lists rows) ≡ length rows
length-row_lists [] = refl
length-row_lists (r ∷ rs) = ap suc (length-row_lists rs)

pub from-again : (first : ℕ) (bytes : List ℕ) (m : Machine) (next : ℕ) → IsMachine m → IsTrue (is_short m) → IsFrontOf first bytes m next →
    text_from first bytes ≡ Ok (m, next)
unfolding text_from
from-again first bytes m next fits short h =
    let end_line : line_words h.last ≡ codes "end" ∷ [] =
    (same_from_push (word_lists h.before) (machine_lines m) (line_words h.last) (codes "end" ∷ [])
    (h.words ∙ sym (canon-front (header_of m) m.distances m.entries m.inits m.guests))).1 in
    let t = front-again first h.before h.last h.after h.clean (rw end_line refl) in
    let rows_are : (rows_of first bytes).rows ≡ t.0 ++ line_row h.last ∷ t.1.more = ap (λ k. (rest_of first k).rows) h.parts ∙ t.1.parts in
    let lists : rest_lists (rows_of first bytes) ≡ canon m ++ row_lists t.1.more =
    ap row_lists rows_are ∙ row_lists-append t.0 (line_row h.last ∷ t.1.more) ∙ ap (λ k. k ++ line_words h.last ∷ row_lists t.1.more) t.2
    ∙ sym (append_assoc (word_lists h.before) (line_words h.last ∷ []) (row_lists t.1.more)) ∙ ap (λ k. k ++ row_lists t.1.more) h.words in
    let u = machine-again (rows_of first bytes) m (row_lists t.1.more) fits short lists in
    let took = machine-takes (rows_of first bytes) m u.0 u.1 u.2 in
    let fronts : row_lists took.front ≡ row_lists t.0 =
    (same_from_push (row_lists took.front) (row_lists t.0) (row_texts took.last) (line_words h.last)
    (took.lists ∙ sym h.words ∙ ap (λ k. k ++ line_words h.last ∷ []) (sym t.2))).0 in
    let lengths : length took.front ≡ length t.0 = sym (length-row_lists took.front) ∙ ap length fronts ∙ length-row_lists t.0 in
    let last_is : took.last ≡ line_row h.last =
    same_part took.front t.0 took.last (line_row h.last) u.1.rows t.1.more lengths (sym took.rows ∙ rows_are) in
    let number : u.0 ≡ next = took.number ∙ ap (λ r. r.line + 1) last_is ∙ sym h.number in
    then_ok (machine_at (rows_of first bytes)) _ ((m, u.0), u.1) _ u.2 (ap (λ k. Ok (m, k)) number)

-- ---- what code answered

pub gives-found : {X Y : Type 0} (view : X → Y) (result : Result X TextFault) (read : Result Y Refused) {P : Y → Type 0} →
    Gives view result read → ((y : Y) → read ≡ Ok y → P y) → IfOk result (λ x. P (view x))
gives-found view (Ok x) read g h = h (view x) g
gives-found view (Err e) read g h = tt

pub gives-only : {X Y : Type 0} (view : X → Y) (result : Result X TextFault) (read : Result Y Refused) (y : Y) → Gives view result read →
    read ≡ Ok y → Gives view result (Ok y)
gives-only view (Ok x) read y g e = sym e ∙ g
gives-only view (Err (fault.Refused r)) read y g e = sym e ∙ g
gives-only view (Err fault.OutOfMemory) read y g e = tt
