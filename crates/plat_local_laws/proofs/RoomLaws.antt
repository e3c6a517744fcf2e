-- a journal has no more items than its room
use Rattle.std.proofs.Common.{◌≡◌, ℕ, ◌-◌, ◌*◌, ◌/◌, ◌<◌, ◌≤◌, true, false, length, refl, arith, ap, sym, subst, ◌∙◌, inl, inr, get_or}
use Rattle.std.proofs.Common.{replicate}
use Rattle.std.specs.Prelude.{slice_index}
use Rattle.std.specs.Option.{option_to_list}
use Rattle.std.proofs.lemmas.List.{length-replicate, get_or_append_left, get_or-append_right, get_or-replicate}
use Rattle.plat_base.specs.Verdicts.{Answer}
use Rattle.plat_base.specs.Machine.{Machine}
use Rattle.plat_base.specs.Rules.{has_daemon}
use Rattle.plat_base.specs.Rooms.{processor_room, daemon_room, journal_rooms}
use Rattle.plat_base.specs.declared.policies.PolicyKind.{PolicyKind}
use Rattle.plat_base.specs.declared.policies.PolicyKind.TheVariants as policy
use Rattle.plat_laws.specs.Guests.{IsWithinLimits}
use Rattle.plat_events.specs.Privates.{Place, Polling, Looking, Applying, Ticking, Switching, Loading, Expecting, Exchanging, Locking}
use Rattle.plat_events.specs.Privates.{InSession, Leaving, Lessening, Gone, LiveLooking, TimeLooking, Over, Private, actor_count, period}
use Rattle.plat_events.specs.Shown.{IsReachedAlone}
use Rattle.plat_local_laws.specs.Standing.{PlaceOk}
use Rattle.plat_local_laws.specs.Numbers.{is_faulting, pages_passed}
use Rattle.plat_local_laws.specs.Alone.{PrivateOk}
use Rattle.plat_local_laws.proofs.CourseLaws.{IsActor}
use Rattle.plat_local_laws.proofs.PhaseLaws.{not_daemon}
use Rattle.plat_local_laws.proofs.StandingLaws.{actor-is}
use Rattle.plat_local_laws.proofs.CountLaws.{counts-room}
use Rattle.plat_local_laws.proofs.PassLaws.{period-some, daemon_has, passes-room}
use Rattle.plat_local_laws.proofs.PrivateLaws.{counts-of, private_ok}

-- ---- the room of each actor

processor-room : (m : Machine) (a : ℕ) → a < m.nodes → slice_index (journal_rooms m) a ≡ 4 * m.budget
processor-room m a l =
    get_or_append_left (replicate m.nodes (processor_room m.budget)) (option_to_list (daemon_room m.nodes m.budget m.pages m.policy)) 0 a
    (omega (arith, length-replicate m.nodes (processor_room m.budget)))
    ∙ get_or-replicate m.nodes a (processor_room m.budget) 0 l

daemon-room_of :
    (nodes budget pages : ℕ) (p : PolicyKind) → has_daemon p ≡ true
    → get_or (option_to_list (daemon_room nodes budget pages p)) 0 0 ≡ nodes * budget / period p * pages
daemon-room_of nodes budget pages policy.Place h = absurd cc
daemon-room_of nodes budget pages policy.Replicate h = absurd cc
daemon-room_of nodes budget pages (policy.Platinum t1 t2) h = refl

daemon-room : (m : Machine) → has_daemon m.policy ≡ true → slice_index (journal_rooms m) m.nodes ≡ m.nodes * m.budget / period m.policy
    * m.pages
daemon-room m h =
    let rest = option_to_list (daemon_room m.nodes m.budget m.pages m.policy) in
    let none : m.nodes - m.nodes ≡ 0 = omega arith in
    get_or-append_right (replicate m.nodes (processor_room m.budget)) rest m.nodes m.nodes 0
    (length-replicate m.nodes (processor_room m.budget)) (omega arith)
    ∙ ap (λ i. get_or rest i 0) none ∙ daemon-room_of m.nodes m.budget m.pages m.policy h

-- ---- the pages of the daemon

pages-below :
    (m : Machine) (answer : Answer) (a : ℕ) (p : Private) (place : Place) → a ≡ m.nodes → PlaceOk m answer a p place
    → is_faulting place ≡ true → pages_passed place < m.pages
pages-below m answer a p (Polling onward) e h k = not_daemon m a h.processor e
pages-below m answer a p (Looking i moment onward) e h k = not_daemon m a h.processor e
pages-below m answer a p (Applying i message moment onward) e h k = not_daemon m a h.processor e
pages-below m answer a p Ticking e h k = absurd cc
pages-below m answer a p (Switching space) e h k = absurd cc
pages-below m answer a p Loading e h k = absurd cc
pages-below m answer a p Expecting e h k = absurd cc
pages-below m answer a p (Exchanging seen) e h k = absurd cc
pages-below m answer a p (Locking fault) e h k = h.locks.page
pages-below m answer a p (InSession s) e h k = h.fault.page
pages-below m answer a p (Leaving x) e h k = absurd cc
pages-below m answer a p (Lessening x) e h k = absurd cc
pages-below m answer a p (Gone x) e h k = absurd cc
pages-below m answer a p LiveLooking e h k = absurd cc
pages-below m answer a p TimeLooking e h k = absurd cc
pages-below m answer a p Over e h k = absurd cc

none_passed : (place : Place) → is_faulting place ≡ false → pages_passed place ≡ 0
none_passed (Polling onward) k = refl
none_passed (Looking i moment onward) k = refl
none_passed (Applying i message moment onward) k = refl
none_passed Ticking k = refl
none_passed (Switching space) k = refl
none_passed Loading k = refl
none_passed Expecting k = refl
none_passed (Exchanging seen) k = refl
none_passed (Locking fault) k = absurd cc
none_passed (InSession s) k = absurd cc
none_passed (Leaving x) k = refl
none_passed (Lessening x) k = refl
none_passed (Gone x) k = refl
none_passed LiveLooking k = refl
none_passed TimeLooking k = refl
none_passed Over k = refl

-- ---- the law

has_room :
    (m : Machine) (answer : Answer) (a : ℕ) (p : Private) → IsWithinLimits m → a < actor_count m → PrivateOk m answer a p → IsActor m a
    → length p.journal ≤ slice_index (journal_rooms m) a
has_room m answer a p h l k (inl q) =
    omega (arith, processor-room m a q, counts-room p (counts-of m a p k.numbers q), k.standing.turns_most)
has_room m answer a p h l k (inr q) =
    let room = passes-room m p (period-some m a h l q) (k.numbers.passes q) (pages-below m answer a p p.place q k.standing.place)
    (none_passed p.place) in
    subst (λ i. length p.journal ≤ slice_index (journal_rooms m) i) (sym q)
    (rw (daemon-room m (daemon_has m.nodes a (has_daemon m.policy) l q)) room)

pub journal_fits :
    (m : Machine) (answer : Answer) (a : ℕ) (p : Private) → IsWithinLimits m → a < actor_count m → IsReachedAlone m answer a p
    → length p.journal ≤ slice_index (journal_rooms m) a
journal_fits m answer a p h l r = has_room m answer a p h l (private_ok m answer a p h l r) (actor-is m a l)
