-- the lines of a history, as they are written piece by piece
use Rattle.std.proofs.Common.{◌≡◌, ℕ, ◌+◌, ◌<◌, List, [], ◌∷◌, ◌++◌, length, take, drop, get_or, codes, refl, ap, sym, ◌∙◌, arith}
use Rattle.std.proofs.Common.{append_assoc, append-nil}
use Rattle.std.specs.List.{flat_map}
use Rattle.std.specs.Fmt.{decimal}
use Rattle.std.proofs.lemmas.List.{take-append-drop, take_more, length-take}
use Rattle.std.proofs.lemmas.Grind.{flat_map-append}
use Rattle.plat_base.specs.Machine.{Machine}
use Rattle.plat_base.specs.Canon.{canon, canon_text}
use Rattle.plat_base.specs.Report.{end_word}
use Rattle.plat_base.specs.declared.items.Change.{Change}
use Rattle.plat_base.specs.declared.endings.Ended.{Ended}
use Rattle.plat_io.specs.Lines.{text}
use Rattle.plat_io.proofs.LineLemmas.{text_line}
use Rattle.plat_grammar.specs.HistoryCanon.{History, cause_word, action_word, removed_word, dir_word, grant_word, change_words, ended_words}
use Rattle.plat_grammar.specs.HistoryCanon.{ended_lines, canon_history, history_text}
use Rattle.plat_history.specs.Printed.{change_front}

-- ---- changes

regroup : (a b c d e : List ℕ) → a ++ ((b ++ (c ++ (d ++ (e ++ [])))) ++ 10 ∷ []) ≡ (a ++ b) ++ (c ++ (d ++ (e ++ 10 ∷ [])))
regroup a b c d e = simp (append_assoc, append-nil)

pub change_line : (c : Change) →
    text (change_words c ∷ []) ≡ change_front c
    ++ ((32 ∷ dir_word c.before) ++ ((32 ∷ dir_word c.after) ++ ((32 ∷ grant_word c.granted) ++ 10 ∷ [])))
unfolding change_words change_front
change_line c =
    let front : List (List ℕ) = decimal c.actor ∷ decimal c.page ∷ decimal c.seq ∷ decimal c.time ∷ cause_word c.cause
    ∷ action_word c.action ∷ removed_word c.removed ∷ [] in
    let back : List (List ℕ) = dir_word c.before ∷ dir_word c.after ∷ grant_word c.granted ∷ [] in
    text_line (codes "change" ∷ (front ++ back))
    ∙ ap (λ (k : List ℕ). codes "change" ++ (k ++ 10 ∷ [])) (flat_map-append (λ v. 32 ∷ v) front back)
    ∙ regroup (codes "change") (flat_map (λ v. 32 ∷ v) front) (32 ∷ dir_word c.before) (32 ∷ dir_word c.after) (32 ∷ grant_word c.granted)

-- ---- ends

ended_lines-append : (q : ℕ) (xs ys : List Ended) → ended_lines q (xs ++ ys) ≡ ended_lines q xs ++ ended_lines (q + length xs) ys
ended_lines-append q [] ys = let e : q + 0 ≡ q = omega arith in ap (λ k. ended_lines k ys) (sym e)
ended_lines-append q (x ∷ xs) ys =
    let e : q + 1 + length xs ≡ q + length (x ∷ xs) = omega arith in
    ap (λ k. ended_words q x ∷ k) (ended_lines-append (q + 1) xs ys ∙ ap (λ k. ended_lines (q + 1) xs ++ ended_lines k ys) e)

-- the line of a processor, in the pieces that are written
pub ended_line : (q : ℕ) (e : Ended) →
    text (ended_words q e ∷ []) ≡ codes "processor"
    ++ ((32 ∷ decimal q) ++ (((32 ∷ end_word e.end) ++ ((32 ∷ decimal e.turns) ++ [])) ++ 10 ∷ []))
ended_line q e = text_line (ended_words q e) ∙ ap (λ (k : List ℕ). codes "processor" ++ k) (append_assoc (32 ∷ decimal q) _ (10 ∷ []))

-- the line of one processor more
pub ended_lines-more : (ends : List Ended) (q : ℕ) (e : Ended) → q < length ends → ended_lines 0 (take (q + 1) ends)
    ≡ ended_lines 0 (take q ends) ++ ended_words q (get_or ends q e) ∷ []
ended_lines-more ends q e inside =
    let number : 0 + length (take q ends) ≡ q = omega (arith, length-take q ends) in
    ap (ended_lines 0) (take_more ends q e inside) ∙ ended_lines-append 0 (take q ends) (get_or ends q e ∷ [])
    ∙ ap (λ k. ended_lines 0 (take q ends) ++ ended_words k (get_or ends q e) ∷ []) number

-- the lines up to that of a processor begin those of all
pub ended_lines-next : (ends : List Ended) (q : ℕ) (e : Ended) → q < length ends →
    ended_lines 0 ends ≡ ended_lines 0 (take q ends) ++ ((ended_words q (get_or ends q e) ∷ []) ++ ended_lines (q + 1) (drop (q + 1) ends))
ended_lines-next ends q e inside =
    let number : 0 + length (take (q + 1) ends) ≡ q + 1 = omega (arith, length-take (q + 1) ends) in
    ap (ended_lines 0) (sym (take-append-drop (q + 1) ends)) ∙ ended_lines-append 0 (take (q + 1) ends) (drop (q + 1) ends)
    ∙ ap (λ k. ended_lines 0 (take (q + 1) ends) ++ ended_lines k (drop (q + 1) ends)) number
    ∙ ap (λ k. k ++ ended_lines (q + 1) (drop (q + 1) ends)) (ended_lines-more ends q e inside)
    ∙ append_assoc (ended_lines 0 (take q ends)) (ended_words q (get_or ends q e) ∷ []) (ended_lines (q + 1) (drop (q + 1) ends))

-- ---- the text of a machine and that of a history

pub canon_text-lines : (m : Machine) → canon_text m ≡ text (canon m)
unfolding canon_text text
canon_text-lines m = refl

pub history_text-lines : (h : History) → history_text h ≡ text (canon_history h)
unfolding history_text text
history_text-lines h = refl
