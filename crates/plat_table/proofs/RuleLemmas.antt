-- each step, split and join keeps the rule
use Rattle.std.proofs.Common.{◌≡◌, ℕ, ◌<◌, ◌≢◌, List, [], ◌∷◌, ◌++◌, length, map, set, take, drop, refl, sym, ap, ◌∙◌, subst, arith}
use Rattle.std.specs.Prelude.{Option, Some, None, IfSome, IsSome, slice_get, slice_set, slice_index}
use Rattle.std.proofs.lemmas.List.{length-set, map-set, map-append}
use Rattle.std.proofs.lemmas.List.Elements.{All-nil, All-set, All-push, All-append, All-take, All-drop}
use Rattle.std.proofs.lemmas.Option.{slice_get_within}
use mathlib.Core.Option.{some}
use lib.ListN.{get_elem?}
use Rattle.plat_base.specs.Machine.{Machine}
use Rattle.plat_base.specs.Seen.{machine}
use Rattle.plat_base.specs.Verdicts.{policy_answer}
use Rattle.plat_base.specs.declared.configs.Config.{Config}
use Rattle.plat_base.specs.declared.words.Op.{Op}
use Rattle.plat_events.specs.Operations.{written, told}
use Rattle.plat_events.specs.Privates.{Private}
use Rattle.plat_events.specs.Events.{next_of, after}
use Rattle.plat_ports.specs.Ports.{IsItsOperation}
use Rattle.atomic_table.specs.Table.{Step, Me, Allows, Splits, Joins, keeps}
use Rattle.atomic_table.specs.Seated.{TableId}
use Rattle.atomic_table.proofs.Lists.{at_map, set_else}
use Rattle.plat_table.specs.Ports.{IsAtItsTable}
use Rattle.plat_table.specs.Rule.{Held, Known, Kept, Holds, AreStatesIn, crew_of, kept_of, low_half, high_half, both_of, nobody, told_by}
use Rattle.plat_table.specs.Rule.{crew_after, moved, Makes, served_in, served}
use Rattle.plat_table.proofs.RunLemmas.{reached-event}
use Rattle.plat_table.proofs.CrewLemmas.{All-at, All-get, times-set, times-halves, times-append, times_in-set, times_in-more, crews-here}

-- ---- one event

-- the private state of the actor h, once its operation x told what it tells of n
abbrev pub event_of : Machine → Held → ℕ × Op → ℕ → Private
event_of m h x n = after m (policy_answer m.policy) h.0 h.1 (told x.1 n)

kept-event :
    (m : Machine) (words : List ℕ) (crews : List (List Held)) (who : List ℕ) (privates : List Private) (id : ℕ) (crew : List Held)
    (at : ℕ) (h : Held) (x : ℕ × Op) → Kept m words crews who privates → get_elem? crews id ≡ some crew → slice_get crew at ≡ Some h
    → next_of m (policy_answer m.policy) h.0 h.1 ≡ Some x
    → Kept m (slice_set words x.0 (written x.1 (slice_index words x.0)))
    (set crews id (set crew at (h.0, event_of m h x (slice_index words x.0)))) (who ++ h.0 ∷ [])
    (slice_set privates h.0 (event_of m h x (slice_index words x.0)))
kept-event m words crews who privates id crew at h x k c e next =
    let q = event_of m h x (slice_index words x.0) in
    let stands : slice_get privates h.0 ≡ Some h.1 =
    All-get (λ (g : Held). slice_get privates g.0 ≡ Some g.1) crew at h (All-at (AreStatesIn privates) crews id crew k.known c) e in
    let within : h.0 < length privates = slice_get_within privates h.0 h.1 stands in
    record {
      reached = reached-event m words privates who h.0 h.1 x k.reached stands next;
      known = crews-here privates q crews id crew at h within k.known c e (let one = k.once h.0 within in omega (arith, one));
      once = λ b l.
          let one = k.once b (omega (arith, l, length-set privates h.0 q)) in
          let moves = times_in-set b crews id crew (set crew at (h.0, q)) c in
          let same = times-set b crew at h q e in
          omega (arith, one, moves, same);
    }

-- what the seat knows after a step whose operation is x
crew-moved :
    (v : Known) (at : ℕ) (h : Held) (i n k : ℕ) (op : Op) → slice_get v.crew at ≡ Some h
    → next_of v.machine (policy_answer v.machine.policy) h.0 h.1 ≡ Some (i, op) → told op k ≡ told op n
    → crew_of (moved at v k) ≡ set v.crew at (h.0, event_of v.machine h (i, op) n)
crew-moved v at h i n k op e next tells =
    ap (crew_after v.machine at v.crew k) e
    ∙ ap (λ (o : Option (ℕ × Op)). set v.crew at (h.0, after v.machine (policy_answer v.machine.policy) h.0 h.1 (told_by o k))) next
    ∙ ap (λ (j : ℕ). set v.crew at (h.0, after v.machine (policy_answer v.machine.policy) h.0 h.1 j)) tells

views-moved :
    (views : List Known) (id : ℕ) (w : Known) (crew : List Held) → crew_of w ≡ crew
    → map crew_of (slice_set views id w) ≡ set (map crew_of views) id crew
views-moved views id w crew e = map-set crew_of views id w ∙ ap (set (map crew_of views) id) e

moved-kept :
    (m : Machine) (v : Known) (words : List ℕ) (views : List Known) (who : List ℕ) (privates : List Private) (id at i k after_it : ℕ)
    (h : Held) (op : Op) → v.machine ≡ m → Kept m words (map crew_of views) who privates → get_elem? views id ≡ some v
    → slice_get v.crew at ≡ Some h → next_of v.machine (policy_answer v.machine.policy) h.0 h.1 ≡ Some (i, op)
    → after_it ≡ written op (slice_index words i) → told op k ≡ told op (slice_index words i)
    → Kept m (slice_set words i after_it) (map crew_of (slice_set views id (moved at v k))) (who ++ h.0 ∷ [])
    (slice_set privates h.0 (event_of v.machine h (i, op) (slice_index words i)))
moved-kept m v words views who privates id at i k after_it h op knows kept there e next writes tells =
    let n = slice_index words i in
    let q = event_of v.machine h (i, op) n in
    let here : Kept v.machine words (map crew_of views) who privates =
    subst (λ (mm : Machine). Kept mm words (map crew_of views) who privates) (sym knows) kept in
    let made : Kept v.machine (slice_set words i (written op n)) (set (map crew_of views) id (set v.crew at (h.0, q))) (who ++ h.0 ∷ [])
    (slice_set privates h.0 q) =
    kept-event v.machine words (map crew_of views) who privates id v.crew at h (i, op) here (at_map crew_of views id v there) e next in
    subst (λ (mm : Machine). Kept mm (slice_set words i after_it) (map crew_of (slice_set views id (moved at v k))) (who ++ h.0 ∷ [])
    (slice_set privates h.0 q)) knows
    (subst (λ (j : ℕ). Kept v.machine (slice_set words i j) (map crew_of (slice_set views id (moved at v k))) (who ++ h.0 ∷ [])
    (slice_set privates h.0 q)) (sym writes)
    (subst (λ (cs : List (List Held)). Kept v.machine (slice_set words i (written op n)) cs (who ++ h.0 ∷ []) (slice_set privates h.0 q))
    (sym (views-moved views id (moved at v k) (set v.crew at (h.0, q)) (crew-moved v at h i n k op e next tells)))
    made))

allowed-by :
    (key : Config) (slots id j : ℕ) (st : Step ℕ) (me : Me ℕ Known) (i : ℕ) (op : Op) → me.0.machine ≡ machine key → (o : Option Held)
    → slice_get me.0.crew j ≡ o → IsSome o → IfSome (served_in me.0.machine o) (λ t. IsItsOperation t i op) → (f tell : ℕ → ℕ)
    → ((n : ℕ) → f n ≡ written op n) → ((n : ℕ) → told op (tell n) ≡ told op n)
    → Allows (Holds key) slots id me i f (λ n. Makes j st me (tell n))
allowed-by key slots id j st me i op knows None e isthere its f tell writes tells = absurd cc
allowed-by key slots id j st me i op knows (Some h) e isthere its f tell writes tells = λ s holds long there small.
    let n = slice_index s.words i in (
      moved j me.0 (tell n),
      keeps,
      tt,
      (
        holds.0 ++ h.0 ∷ [],
        slice_set holds.1 h.0 (event_of me.0.machine h (i, op) n),
        moved-kept (machine key) me.0 s.words s.views holds.0 holds.1 id j i (tell n) (f n) h op knows holds.2 there e its
            (writes n) (tells n),
      ),
      refl,
    )

-- the table allows the next operation of the actor, whatever its words are
pub its_event_allowed :
    (key : Config) (slots id j : ℕ) (st : Step ℕ) (me : Me ℕ Known) (i : ℕ) (op : Op) → me.0.machine ≡ machine key
    → IsSome (slice_get me.0.crew j) → IfSome (served j me.0) (λ t. IsItsOperation t i op) → (f tell : ℕ → ℕ)
    → ((n : ℕ) → f n ≡ written op n) → ((n : ℕ) → told op (tell n) ≡ told op n)
    → Allows (Holds key) slots id me i f (λ n. Makes j st me (tell n))
its_event_allowed key slots id j st me i op knows isthere its f tell writes tells =
    allowed-by key slots id j st me i op knows (slice_get me.0.crew j) refl isthere its f tell writes tells

-- what a step of the table asks, where the operation is the one that the port was told to make
pub its_step :
    (table seat : TableId) (key : Config) (id j : ℕ) (st : Step ℕ) (me : Me ℕ Known) (i : ℕ) (made op : Op)
    → IsAtItsTable table key seat me.0 → i < table.words → IsSome (slice_get me.0.crew j)
    → IfSome (served j me.0) (λ t. IsItsOperation t i made) → made ≡ op → (f tell : ℕ → ℕ) → ((n : ℕ) → f n ≡ written op n)
    → ((n : ℕ) → told op (tell n) ≡ told op n)
    → (seat ≡ table) × (i < table.words) × Allows (Holds key) table.slots id me i f (λ n. Makes j st me (tell n))
its_step table seat key id j st me i made op of within isthere its is f tell writes tells = (
  of.same,
  within,
  its_event_allowed key table.slots id j st me i op of.knows isthere
      (subst (λ (o : Op). IfSome (served j me.0) (λ t. IsItsOperation t i o)) is its) f tell writes tells,
)

-- ---- split and join

split-views :
    (views : List Known) (id : ℕ) (left right : Known)
    → map crew_of (slice_set views id left ++ right ∷ []) ≡ set (map crew_of views) id (crew_of left) ++ crew_of right ∷ []
split-views views id left right =
    map-append crew_of (slice_set views id left) (right ∷ []) ∙ ap (λ (cs : List (List Held)). cs ++ crew_of right ∷ [])
    (map-set crew_of views id left)

kept-split :
    (m : Machine) (words : List ℕ) (crews : List (List Held)) (who : List ℕ) (privates : List Private) (id k : ℕ) (crew : List Held)
    → Kept m words crews who privates → get_elem? crews id ≡ some crew
    → Kept m words (set crews id (take k crew) ++ drop k crew ∷ []) who privates
kept-split m words crews who privates id k crew kept c =
    let P : List Held → Type 0 = AreStatesIn privates in
    let known : P crew = All-at P crews id crew kept.known c in
    record {
      reached = kept.reached;
      known = All-push P (set crews id (take k crew)) (drop k crew)
          (All-set P crews id (take k crew) (All-take (λ (g : Held). slice_get privates g.0 ≡ Some g.1) k crew known) kept.known)
          (All-drop (λ (g : Held). slice_get privates g.0 ≡ Some g.1) k crew known);
      once = λ b l.
          let one = kept.once b l in
          let more = times_in-more b (set crews id (take k crew)) (drop k crew) in
          let moves = times_in-set b crews id crew (take k crew) c in
          let halves = times-halves b k crew in
          omega (arith, one, more, moves, halves);
    }

pub splits : (key : Config) (id : ℕ) (v : Known) → Splits (Holds key) id v (low_half v) (high_half v)
splits key id v = λ s holds there. (
  holds.0,
  holds.1,
  subst (λ (cs : List (List Held)). Kept (machine key) s.words cs holds.0 holds.1)
      (sym (split-views s.views id (low_half v) (high_half v)))
      (kept-split (machine key) s.words (map crew_of s.views) holds.0 holds.1 id (kept_of v.crew) v.crew holds.2
      (at_map crew_of s.views id v there)),
)

kept-join :
    (m : Machine) (words : List ℕ) (crews : List (List Held)) (who : List ℕ) (privates : List Private) (id other : ℕ)
    (crew more : List Held) → Kept m words crews who privates → get_elem? crews id ≡ some crew → other ≢ id
    → get_elem? (set crews id (crew ++ more)) other ≡ some more
    → Kept m words (set (set crews id (crew ++ more)) other []) who privates
kept-join m words crews who privates id other crew more kept c apart d =
    let Q : Held → Type 0 = λ g. slice_get privates g.0 ≡ Some g.1 in
    let P : List Held → Type 0 = AreStatesIn privates in
    let known : P crew = All-at P crews id crew kept.known c in
    let others : P more = All-at P crews other more kept.known (sym (set_else crews id other (crew ++ more) apart) ∙ d) in
    record {
      reached = kept.reached;
      known = All-set P (set crews id (crew ++ more)) other [] (All-nil Q)
          (All-set P crews id (crew ++ more) (All-append Q crew more known others) kept.known);
      once = λ b l.
          let one = kept.once b l in
          let first = times_in-set b crews id crew (crew ++ more) c in
          let second = times_in-set b (set crews id (crew ++ more)) other more [] d in
          let sum = times-append b crew more in
          omega (arith, one, first, second, sum);
    }

join-views :
    (views : List Known) (id other : ℕ) (both spent : Known)
    → map crew_of (slice_set (slice_set views id both) other spent) ≡ set (set (map crew_of views) id (crew_of both)) other (crew_of spent)
join-views views id other both spent =
    map-set crew_of (slice_set views id both) other spent
    ∙ ap (λ (cs : List (List Held)). set cs other (crew_of spent)) (map-set crew_of views id both)

pub joins : (key : Config) (id : ℕ) (v : Known) (other : ℕ) (w : Known) → Joins (Holds key) id v other w (both_of v w) nobody
joins key id v other w = λ s holds there apart second. (
  holds.0,
  holds.1,
  subst (λ (cs : List (List Held)). Kept (machine key) s.words cs holds.0 holds.1)
      (sym (join-views s.views id other (both_of v w) nobody))
      (kept-join (machine key) s.words (map crew_of s.views) holds.0 holds.1 id other v.crew w.crew holds.2
      (at_map crew_of s.views id v there) apart
      (ap (λ (cs : List (List Held)). get_elem? cs other) (sym (map-set crew_of s.views id (both_of v w)))
      ∙ at_map crew_of (slice_set s.views id (both_of v w)) other w second)),
)
