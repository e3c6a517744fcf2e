-- a port of the table, and one event through it
use Rattle.std.proofs.Common.{◌≡◌, ℕ, ◌<◌, List, [], ◌∷◌, refl, sym, ap, ◌∙◌, subst}
use Rattle.std.specs.Prelude.{Option, Some, None, IfSome, IsSome, slice_get, slice_set}
use Rattle.std.proofs.lemmas.Option.{slice_get_within, same_Some}
use Rattle.plat_base.specs.Machine.{Machine}
use Rattle.plat_base.specs.Verdicts.{policy_answer}
use Rattle.plat_base.specs.declared.words.Op.{Op}
use Rattle.plat_events.specs.Operations.{told}
use Rattle.plat_events.specs.Places.{word_count}
use Rattle.plat_events.specs.Privates.{Private}
use Rattle.plat_events.specs.Events.{next_of, after}
use Rattle.plat_ports.specs.Ports.{IsItsOperation, told_after, IsEvent, IsServed, Makes}
use Rattle.atomic_table.specs.Table.{Me}
use Rattle.plat_table.specs.declared.actors.Actor.{Actor}
use Rattle.plat_table.specs.Actors.{held, state_in}
use Rattle.plat_table.specs.Riders.{HasMoved}
use Rattle.atomic_table.specs.Seated.{TableId}
use Rattle.plat_base.specs.declared.configs.Config.{Config}
use Rattle.plat_table.specs.Ports.{IsAtItsTable, IsStep, StaysWithin, StaysWithinAt}
use Rattle.plat_table.specs.Rule.{Held, Known, told_by, held_after, crew_after, moved, served_in, served}
use Rattle.plat_table.proofs.CrewLemmas.{get-set_same}

-- ---- the next operation is on a word of the table

within-by :
    (j : ℕ) (v : Known) (i : ℕ) (op : Op) (o : Option Held) → slice_get v.crew j ≡ o → IsSome o → StaysWithinAt j v
    → IfSome (served_in v.machine o) (λ t. IsItsOperation t i op) → i < word_count v.machine
within-by j v i op None e isthere stays its = absurd cc
within-by j v i op (Some h) e isthere stays its = stays h e [] (i, op) its

pub within-next :
    (j : ℕ) (v : Known) (i : ℕ) (op : Op) → IsSome (slice_get v.crew j) → StaysWithinAt j v
    → IfSome (served j v) (λ t. IsItsOperation t i op) → i < word_count v.machine
within-next j v i op isthere stays its = within-by j v i op (slice_get v.crew j) refl isthere stays its

-- ---- the actor behind a step

get-moved : (j : ℕ) (v : Known) (n : ℕ) (h : Held) → slice_get v.crew j ≡ Some h → slice_get (moved j v n).crew j ≡ Some
    (held_after v.machine h n)
get-moved j v n h e =
    ap (λ (o : Option Held). slice_get (crew_after v.machine j v.crew n o) j) e
    ∙ get-set_same v.crew j (held_after v.machine h n) (slice_get_within v.crew j h e)

there-by : (j : ℕ) (v : Known) (n : ℕ) (o : Option Held) → slice_get v.crew j ≡ o → IsSome o → IsSome (slice_get (moved j v n).crew j)
there-by j v n None e isthere = absurd cc
there-by j v n (Some h) e isthere = subst (λ (o : Option Held). IsSome o) (sym (get-moved j v n h e)) refl

pub there-moved : (j : ℕ) (v : Known) (n : ℕ) → IsSome (slice_get v.crew j) → IsSome (slice_get (moved j v n).crew j)
there-moved j v n isthere = there-by j v n (slice_get v.crew j) refl isthere

stays-after : (m : Machine) (a : ℕ) (p : Private) (k : ℕ) → StaysWithin m a p → StaysWithin m a (after m (policy_answer m.policy) a p k)
stays-after m a p k stays = λ found x next. stays (k ∷ found) x next

stays-by :
    (j : ℕ) (v : Known) (n : ℕ) (o : Option Held) → slice_get v.crew j ≡ o → IsSome o → StaysWithinAt j v → StaysWithinAt j (moved j v n)
stays-by j v n None e isthere stays = absurd cc
stays-by j v n (Some h) e isthere stays = λ g there.
    subst (λ (k : Held). StaysWithin v.machine k.0 k.1) (same_Some (held_after v.machine h n) g (sym (get-moved j v n h e) ∙ there))
    (stays-after v.machine h.0 h.1 (told_by (next_of v.machine (policy_answer v.machine.policy) h.0 h.1) n) (stays h e))

pub stays-moved : (j : ℕ) (v : Known) (n : ℕ) → IsSome (slice_get v.crew j) → StaysWithinAt j v → StaysWithinAt j (moved j v n)
stays-moved j v n isthere stays = stays-by j v n (slice_get v.crew j) refl isthere stays

serves-by :
    (j : ℕ) (v : Known) (n i r : ℕ) (op : Op) (o : Option Held) → slice_get v.crew j ≡ o → IsSome o
    → IfSome (served_in v.machine o) (λ t. IsItsOperation t i op) → r ≡ told op n
    → served j (moved j v n) ≡ told_after r (served_in v.machine o)
serves-by j v n i r op None e isthere its tells = absurd cc
serves-by j v n i r op (Some h) e isthere its tells =
    ap (served_in v.machine) (get-moved j v n h e)
    ∙ ap (λ (o : Option (ℕ × Op)). served_in v.machine
    (Some (h.0, after v.machine (policy_answer v.machine.policy) h.0 h.1 (told_by o n)))) its
    ∙ ap (λ (k : ℕ). served_in v.machine (Some (h.0, after v.machine (policy_answer v.machine.policy) h.0 h.1 k))) (sym tells)

pub serves-moved :
    (j : ℕ) (v : Known) (n i r : ℕ) (op : Op) → IsSome (slice_get v.crew j) → IfSome (served j v) (λ t. IsItsOperation t i op)
    → r ≡ told op n → served j (moved j v n) ≡ told_after r (served j v)
serves-moved j v n i r op isthere its tells = serves-by j v n i r op (slice_get v.crew j) refl isthere its tells

pub table-moved :
    (table : TableId) (key : Config) (seat now : TableId) (j : ℕ) (v : Known) (n : ℕ) → IsAtItsTable table key seat v → now ≡ seat
    → IsAtItsTable table key now (moved j v n)
table-moved table key seat now j v n of stays = record { same = stays ∙ of.same; knows = of.knows; words = of.words }

-- ---- one event through the port

-- the seat knows what the actor has become
seat-moved :
    (m : Machine) (at : ℕ) (v : Known) (n : ℕ) (x y : Held) → v.machine ≡ m → slice_get v.crew at ≡ Some x → y.0 ≡ x.0
    → IfSome (served at (moved at v n)) (λ t. t ≡ record { machine = m; actor = y.0; state = y.1 })
    → moved at v n ≡ record { machine = m; crew = slice_set v.crew at y }
seat-moved m at v n x y knows there number serves =
    let became : held_after v.machine x n ≡ y =
    let told : record {
      machine = v.machine;
      actor = x.0;
      state =
          (held_after v.machine x n).1;
    } ≡ record { machine = m; actor = y.0; state = y.1 } =
    subst (λ (o : Option Held). IfSome (served_in v.machine o) (λ t. t ≡ record { machine = m; actor = y.0; state = y.1 }))
    (get-moved at v n x there) serves in
    λ k. (sym number k, (told k).state) in
    ap (λ (o : Option Held). record { machine = v.machine; crew = crew_after v.machine at v.crew n o }) there
    ∙ (λ k. record { machine = knows k; crew = slice_set v.crew at (became k) })

pub event_moves :
    (m : Machine) (at j : ℕ) (before now : Me ℕ Known) (x y : Actor) (words words_now : Option (List ℕ)) → at ≡ j
    → m ≡ before.0.machine → slice_get before.0.crew at ≡ Some (held m x)
    → IsEvent m x.number (state_in m x.part) (state_in m y.part) words words_now
    → y.number ≡ x.number → IsServed m y.number (state_in m y.part) (served j now.0) → IsStep j before now
    → HasMoved at m before now x y
event_moves m at j before now x y words words_now turn knows there event number serves step =
    let made : Makes m x.number (state_in m x.part) (state_in m y.part) words words_now event.0 event.2.0 = event.2.1 in
    record {
      number = number;
      event = record {
        place = event.0.0;
        op = event.0.1;
        next = event.1;
        found = made.says.0;
        state = made.state ∙ ap (after m (policy_answer m.policy) x.number (state_in m x.part)) made.says.1;
      };
      seat = step.1 ∙ ap (λ (v : Known). (v, before.1))
          (ap (λ k. moved k before.0 step.0) (sym turn)
          ∙ seat-moved m at before.0 step.0 (held m x) (held m y) (sym knows) there number
          (subst (λ k. IsServed m y.number (state_in m y.part) (served k (moved k before.0 step.0))) (sym turn)
          (subst (λ (me : Me ℕ Known). IsServed m y.number (state_in m y.part) (served j me.0)) step.1 serves)));
    }
