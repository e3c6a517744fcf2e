-- an event through a port is the event of a run
use Rattle.std.proofs.Common.{◌≡◌, ℕ, Bool, true, false, List, [], ◌∷◌, ◌++◌, length, refl, sym, ap, ◌∙◌, arith}
use Rattle.std.specs.Prelude.{Option, Some, None, slice_get, slice_set, slice_index}
use Rattle.std.proofs.lemmas.Option.{slice_get_past, same_Some}
use Rattle.plat_base.specs.Machine.{Machine}
use Rattle.plat_base.specs.Verdicts.{Answer, policy_answer}
use Rattle.plat_base.specs.declared.items.Item.{Item}
use Rattle.plat_events.specs.Operations.{written, told}
use Rattle.plat_events.specs.Privates.{Private}
use Rattle.plat_events.specs.Events.{after, item_of, item_if, item_at, is_followed, named_next, moved_at, with_item, after_if}
use Rattle.plat_events.specs.Runs.{Fine, event, event_at, event_by}
use Rattle.plat_ports.specs.Ports.{IsEvent, Makes, words_set}

-- ---- the item that an event adds

journal-if : (b : Bool) (p moved : Private) (made : Option Item) → (after_if b p moved made).journal ≡ with_item p.journal (item_if b made)
journal-if true p moved made = refl
journal-if false p moved made = refl

after-journal : (m : Machine) (answer : Answer) (a : ℕ) (p : Private) (n : ℕ) →
    (after m answer a p n).journal ≡ with_item p.journal (item_of m answer a p n)
unfolding after item_of
after-journal m answer a p n =
    journal-if (is_followed m (named_next m answer a p p.place) n) p (moved_at m answer a p n p.place) (item_at m answer a p n p.place)

get-last : (items : List Item) (i : Item) → slice_get (items ++ i ∷ []) (length items) ≡ Some i
get-last [] i = refl
get-last (x ∷ xs) i = get-last xs i

get-with_item : (items : List Item) (o : Option Item) → slice_get (with_item items o) (length items) ≡ o
get-with_item items None = slice_get_past items (length items) (omega arith)
get-with_item items (Some i) = get-last items i

-- an event adds to the journal what stands at its old length
pub event-journal :
    (m : Machine) (a : ℕ) (p q : Private) (before now : Option (List ℕ)) → IsEvent m a p q before now →
    q.journal ≡ with_item p.journal (slice_get q.journal (length p.journal))
event-journal m a p q before now e =
    let answer = policy_answer m.policy in
    let made : Makes m a p q before now e.0 e.2.0 = e.2.1 in
    let grown : q.journal ≡ with_item p.journal (item_of m answer a p e.2.0) =
    ap (λ (r : Private). r.journal) made.state ∙ after-journal m answer a p e.2.0 in
    let there : slice_get q.journal (length p.journal) ≡ item_of m answer a p e.2.0 =
    ap (λ (items : List Item). slice_get items (length p.journal)) grown ∙ get-with_item p.journal (item_of m answer a p e.2.0) in
    grown ∙ ap (with_item p.journal) (sym there)

-- ---- one event

abbrev pub fine_of : List ℕ → List Private → List Item → Fine
fine_of words privates history = record { words = words; privates = privates; history = history }

-- the run after an event of actor a, which stood at p and then stands at q
pub event-is :
    (m : Machine) (words now : List ℕ) (privates : List Private) (history : List Item) (a : ℕ) (p q : Private) →
    slice_get privates a ≡ Some p →
    IsEvent m a p q (Some words) (Some now) →
    fine_of now (slice_set privates a q) (with_item history (slice_get q.journal (length p.journal)))
    ≡ event m (policy_answer m.policy) (fine_of words privates history) a
event-is m words now privates history a p q there e =
    let answer = policy_answer m.policy in
    let x = e.0 in
    let n = e.2.0 in
    let made : Makes m a p q (Some words) (Some now) x n = e.2.1 in
    let found = slice_index words x.0 in
    let word : now ≡ slice_set words x.0 (written x.1 found) = same_Some now (words_set x.0 x.1 words) made.words in
    let tells : n ≡ told x.1 found = made.found in
    let state : q ≡ after m answer a p (told x.1 found) = made.state ∙ ap (λ (k : ℕ). after m answer a p k) tells in
    let item : slice_get q.journal (length p.journal) ≡ item_of m answer a p (told x.1 found) =
    ap (λ (r : Private). slice_get r.journal (length p.journal)) state
    ∙ ap (λ (items : List Item). slice_get items (length p.journal)) (after-journal m answer a p (told x.1 found))
    ∙ get-with_item p.journal (item_of m answer a p (told x.1 found)) in
    let s = fine_of words privates history in
    let made_of : fine_of now (slice_set privates a q) (with_item history (slice_get q.journal
    (length p.journal))) ≡ event_at m answer s a p (Some x) =
    ap (λ (ws : List ℕ). fine_of ws (slice_set privates a q) (with_item history (slice_get q.journal (length p.journal)))) word
    ∙ ap (λ (i : Option Item). fine_of (slice_set words x.0 (written x.1 found)) (slice_set privates a q) (with_item history i)) item
    ∙ ap (λ (r : Private). fine_of (slice_set words x.0 (written x.1 found)) (slice_set privates a r)
    (with_item history (item_of m answer a p (told x.1 found)))) state in
    made_of ∙ ap (event_at m answer s a p) (sym e.1) ∙ ap (event_by m answer s a) (sym there)
