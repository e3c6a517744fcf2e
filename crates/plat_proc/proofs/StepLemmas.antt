-- one operation of a processor, whichever makes it: where its word stands, and how it leaves the processor
use Rattle.std.proofs.Common.{◌≡◌, ℕ, ◌<◌, ◌≤◌, false, List, [], length, refl, sym, ap, ◌∙◌, subst, arith}
use Rattle.std.specs.Prelude.{IsTrue, replicate, Option, Some, None, IfSome}
use Rattle.std.specs.Option.{option_map}
use Rattle.std.proofs.lemmas.Bool.Decides.{nat_tests}
use Rattle.plat_base.specs.Machine.{Machine, is_machine}
use Rattle.plat_base.specs.Rooms.{processor_room}
use Rattle.plat_base.specs.Cache.{no_places}
use Rattle.plat_base.specs.Cache.{Place as CachePlace}
use Rattle.plat_base.specs.GuestRun.{GuestState, guest_start}
use Rattle.plat_base.specs.declared.items.Item.{Item}
use Rattle.plat_base.specs.declared.items.Translation.{Translation}
use Rattle.plat_base.specs.declared.words.Op.{Op}
use Rattle.plat_base.specs.declared.words.WordName.{WordName}
use Rattle.plat_events.specs.Places.{entry_count, word_count}
use Rattle.plat_events.specs.Privates as events
use Rattle.plat_events.specs.Privates.{NewTurn, Polling, Looking, Applying, Ticking, Switching, Loading, Expecting, Exchanging, Locking}
use Rattle.plat_events.specs.Privates.{InSession, Leaving, Lessening, Gone, LiveLooking, TimeLooking, Over, Private, first_place}
use Rattle.plat_events.specs.Privates.{first_private, is_over, period}
use Rattle.plat_events.specs.Events.{next_of, placed}
use Rattle.plat_words.proofs.PlacesApart.{place_of-below}
use Rattle.plat_ports.specs.Ports.{AreWords}
use Rattle.plat_pmap.specs.Slots.{no_slots}
use Rattle.plat_pmap.specs.declared.atcs.Slot.{Slot}
use Rattle.plat_handler.specs.Phases.{answer_of}
use Rattle.plat_local_laws.specs.Standing.{PlaceOk}
use Rattle.plat_proc.specs.declared.procs.Stepped.{Stepped}
use Rattle.plat_proc.specs.declared.procs.Stepped.TheVariants.{More}
use Rattle.plat_proc.specs.Fits.{EndsBy, Fits}
use Rattle.plat_proc.specs.Followed.{next_named, next_placed}
use Rattle.plat_proc.specs.ProcSeen.{ProcSeen, stepped_to}
use Rattle.plat_proc.proofs.FitsLemmas.{first-fits, names, stands}

-- ---- the place of the word

named-below :
    (m : Machine) (y : ProcSeen) (r : ℕ × Op) (o : Option (WordName × Op)) → IsTrue (is_machine m) → Fits m y → next_named m y ≡ o →
    option_map (placed m) o ≡ Some r → r.0 < word_count m
named-below m y r None valid fits e k = absurd cc
named-below m y r (Some nm) valid fits e k =
    let same : placed m nm ≡ r = cc in
    subst (λ (z : ℕ × Op). z.0 < word_count m) same (place_of-below m nm.0 (names m y nm valid fits e))

pub next-below :
    (m : Machine) (y : ProcSeen) (r : ℕ × Op) → IsTrue (is_machine m) → Fits m y → next_placed m y ≡ Some r → r.0 < word_count m
unfolding next_of
next-below m y r valid fits e = named-below m y r (next_named m y) valid fits refl e

pub within-words :
    (m : Machine) (at : ℕ) (o : Option (List ℕ)) → AreWords m o → at < word_count m → IfSome o (λ ws. at < length ws)
within-words m at None h l = tt
within-words m at (Some ws) h l = rw h l

-- ---- how it leaves the processor

more-live :
    (m : Machine) (y : ProcSeen) (p : events.Place) → y.actor < m.nodes → PlaceOk m (answer_of m) y.actor y.state p →
    stepped_to p ≡ More → is_over p ≡ false
more-live m y (Polling onward) l h e = refl
more-live m y (Looking i moment onward) l h e = refl
more-live m y (Applying i message moment onward) l h e = refl
more-live m y Ticking l h e = refl
more-live m y (Switching space) l h e = refl
more-live m y Loading l h e = refl
more-live m y Expecting l h e = refl
more-live m y (Exchanging seen) l h e = refl
more-live m y (Locking fault) l h e = refl
more-live m y (InSession session) l h e = refl
more-live m y (Leaving end) l h e = refl
more-live m y (Lessening end) l h e = refl
more-live m y (Gone end) l h e = absurd cc
more-live m y LiveLooking l h e = refl
more-live m y TimeLooking l h e = refl
more-live m y Over l h e = absurd (omega arith)

why-ended :
    (m : Machine) (y : ProcSeen) (p : events.Place) → PlaceOk m (answer_of m) y.actor y.state p → EndsBy m y (stepped_to p)
why-ended m y (Polling onward) h = tt
why-ended m y (Looking i moment onward) h = tt
why-ended m y (Applying i message moment onward) h = tt
why-ended m y Ticking h = tt
why-ended m y (Switching space) h = tt
why-ended m y Loading h = tt
why-ended m y Expecting h = tt
why-ended m y (Exchanging seen) h = tt
why-ended m y (Locking fault) h = tt
why-ended m y (InSession session) h = tt
why-ended m y (Leaving end) h = tt
why-ended m y (Lessening end) h = tt
why-ended m y (Gone end) h = h.end
why-ended m y LiveLooking h = tt
why-ended m y TimeLooking h = tt
why-ended m y Over h = tt

pub stepped-live :
    (m : Machine) (y : ProcSeen) (s : Stepped) → IsTrue (is_machine m) → Fits m y → s ≡ stepped_to y.state.place → s ≡ More →
    is_over y.state.place ≡ false
stepped-live m y s valid fits e more =
    more-live m y y.state.place fits.processor (stands m y valid fits).standing.place (sym e ∙ more)

pub stepped-why :
    (m : Machine) (y : ProcSeen) (s : Stepped) → IsTrue (is_machine m) → Fits m y → s ≡ stepped_to y.state.place → EndsBy m y s
stepped-why m y s valid fits e =
    subst (EndsBy m y) (sym e) (why-ended m y y.state.place (stands m y valid fits).standing.place)

-- ---- the start

abbrev pub private_at : GuestState → List (Option Translation) → List (Option CachePlace) → (due : ℕ) → List Item → Private
private_at g pmap atc due journal =
    record { turns = 0; now = 0; guest = g; pmap = pmap; atc = atc; due = due; place = Polling NewTurn; journal = journal }

standing_at : Private → events.Place → Private
standing_at p place = record p { place = place }

first_place-processor : (m : Machine) (q : ℕ) → q < m.nodes → first_place m q ≡ Polling NewTurn
first_place-processor m q h = grind (arith, nat_tests)

pub first-made :
    (m : Machine) (q : ℕ) (g : GuestState) (pmap : List (Option Translation)) (atc : List (Option CachePlace)) (due : ℕ)
    (journal : List Item) → q < m.nodes →
    g ≡ guest_start m q → pmap ≡ replicate (entry_count m) None → atc ≡ no_places → due ≡ period m.policy → journal ≡ [] →
    private_at g pmap atc due journal ≡ first_private m q
unfolding standing_at
first-made m q g pmap atc due journal l eg ep ea ed ej =
    rw (eg, ep, ea, ed, ej)
    (ap (λ (p : events.Place). standing_at (first_private m q) p) (sym (first_place-processor m q l)))

pub starts-well :
    (m : Machine) (a room : ℕ) (p : Private) (slots : List (Option Slot)) → a < m.nodes → processor_room m.budget ≤ room →
    p ≡ first_private m a → slots ≡ no_slots →
    Fits m (record { actor = a; state = p; room = room; slots = slots; handler = None })
starts-well m a room p slots l r e s =
    subst (λ (q : Private). Fits m (record { actor = a; state = q; room = room; slots = slots; handler = None })) (sym e)
    (subst (λ (z : List (Option Slot)). Fits m (record { actor = a; state = first_private m a; room = room; slots = z; handler = None }))
    (sym s) (first-fits m a room l r))
