-- flat memory at the end of a good history
use Rattle.std.proofs.Common.{◌≡◌, ℕ, zero, suc, ◌+◌, ◌<◌, Bool, true, false, if◌then◌else◌, List, [], ◌∷◌, ◌++◌, length, take, get_or}
use Rattle.std.proofs.Common.{Some, None, refl, ap, arith, append_assoc, subst}
use Rattle.std.specs.Prelude.{slice_get, slice_index, IsTrue, IfSome}
use Rattle.std.specs.List.{flat_map}
use Rattle.std.proofs.lemmas.List.{append-nil}
use Rattle.std.proofs.lemmas.Option.{slice_get_read}
use Rattle.std.proofs.lemmas.Bool.Decides.{nat_tests}
use Rattle.plat_base.specs.Verdicts.{Answer}
use Rattle.plat_base.specs.Machine.{Machine}
use Rattle.plat_base.specs.Pages.{numbers}
use Rattle.plat_base.specs.Flat.{flat_value}
use Rattle.plat_base.specs.Report.{word_lines_of, page_lines}
use Rattle.plat_base.specs.Rules.{bad_rule, bad_after, bad_ends, first_bad, unless, is_ordered_access}
use Rattle.plat_base.specs.Rules.{is_granted, is_legal}
use Rattle.plat_base.specs.declared.items.Item.{Item}
use Rattle.plat_base.specs.declared.items.Item.TheVariants as item
use Rattle.plat_base.specs.declared.endings.Ended.{Ended}
use Rattle.plat_base.specs.declared.statuses.Bad.{Bad}
use Rattle.plat_flat.specs.FlatSeen.{FlatSeen, IsFlatOf, is_legal_item, place}
use Rattle.plat_report.specs.Flats.{AreLegal, flat_lines}
use Rattle.plat_report.proofs.WritingLemmas.{numbers_same}
use Rattle.plat_base.proofs.RuleLemmas.{unless-none, bad_at-none, bad_or-none, first_rule-none}
use Rattle.plat_laws.proofs.Limits.{and-left}

-- ---- the rules that a good history keeps

legal-from_rule : (m : Machine) (answer : Answer) (before : List Item) (i : Item) → bad_rule m answer before i ≡ None →
    is_legal_item m before i ≡ true
legal-from_rule m answer before (item.Access a) h =
    let order = first_rule-none (unless (is_ordered_access m before a) _) _ h in
    let grant = first_rule-none (unless (is_granted m before a) _) _ order.1 in
    unless-none (is_legal m before a) _ grant.1
legal-from_rule m answer before (item.Change c) h = refl
legal-from_rule m answer before (item.Applied x) h = refl
legal-from_rule m answer before (item.Switch s) h = refl

legal-behind :
    (m : Machine) (answer : Answer) (before : List Item) (n : ℕ) (items : List Item) → bad_after m answer before n items ≡ None
    → (i : ℕ) → IfSome (slice_get items i) (λ x. IsTrue (is_legal_item m (before ++ take i items) x))
legal-behind m answer before n [] h i = tt
legal-behind m answer before n (x ∷ xs) h zero =
    rw append-nil (legal-from_rule m answer before x (bad_at-none n (bad_rule m answer before x) _ h).0)
legal-behind m answer before n (x ∷ xs) h (suc i) =
    subst (λ (behind : List Item). IfSome (slice_get xs i) (λ y. IsTrue (is_legal_item m behind y)))
    (append_assoc before (x ∷ []) (take i xs))
    (legal-behind m answer (before ++ x ∷ []) (n + 1) xs (bad_at-none n (bad_rule m answer before x) _ h).1 i)

pub legal_of_good : (m : Machine) (answer : Answer) (items : List Item) (ends : List Ended) → first_bad m answer items ends ≡ None →
    AreLegal m items
unfolding first_bad
legal_of_good m answer items ends h =
    legal-behind m answer [] 0 items (bad_or-none (bad_after m answer [] 0 items) (bad_ends m items ends) h).0

fine-none : (b : Bool) (x : Bad) → (if b then None else Some x) ≡ None → b ≡ true
fine-none true x h = refl
fine-none false x h = absurd cc

pub ends_of_good : (m : Machine) (answer : Answer) (items : List Item) (ends : List Ended) → first_bad m answer items ends ≡ None →
    length ends ≡ m.nodes
unfolding first_bad
ends_of_good m answer items ends h =
    let none = (bad_or-none (bad_after m answer [] 0 items) (bad_ends m items ends) h).1 in
    grind (arith, nat_tests, and-left, fine-none, none)

-- ---- the lines of its words

lines_by :
    (m : Machine) (items : List Item) (pages words : ℕ) (values : List ℕ) → pages ≡ m.pages → words ≡ m.words
    → ((page word : ℕ) → page < m.pages → word < m.words → slice_index values (place m.words page word) ≡ flat_value m items page word)
    → flat_map (λ page. flat_map (λ word. word_lines_of page word (slice_index values (place words page word))) (numbers words))
    (numbers pages)
    ≡ flat_map (page_lines m items) (numbers m.pages)
lines_by m items pages words values e f h =
    rw (e, f)
    (numbers_same (λ page. flat_map (λ word. word_lines_of page word (slice_index values (place m.words page word))) (numbers m.words))
    (page_lines m items) m.pages (λ page low.
    numbers_same (λ word. word_lines_of page word (slice_index values (place m.words page word)))
    (λ word. word_lines_of page word (flat_value m items page word)) m.words
    (λ word least. ap (word_lines_of page word) (h page word low least))))

pub lines_of_flat : (m : Machine) (items : List Item) (flat : FlatSeen) → IsFlatOf m items flat →
    flat_lines flat ≡ flat_map (page_lines m items) (numbers m.pages)
lines_of_flat m items flat h = lines_by m items flat.pages flat.words flat.values h.pages h.words h.value

pub flat_more : (m : Machine) (items : List Item) (i : ℕ) (x : Item) → i < length items → x ≡ get_or items i x → AreLegal m items →
    is_legal_item m (take i items) x ≡ true
flat_more m items i x h e legal = rw (slice_get_read items (length items) i x refl h e) at (legal i)
