-- a history has room for the items of all journals
use Rattle.std.proofs.Common.{◌≡◌, ℕ, ◌+◌, ◌-◌, ◌*◌, ◌<◌, ◌≤◌, List, [], ◌∷◌, length, get_or, refl, ap, ◌∙◌, subst, arith}
use Rattle.std.proofs.Common.{length-append}
use Rattle.std.specs.Prelude.{IsTrue, replicate, sum_by, Option, Some, None, slice_index}
use Rattle.std.specs.List.{sum}
use Rattle.std.specs.Option.{option_to_list}
use Rattle.std.proofs.lemmas.List.{length-replicate, get_or_append_left, get_or-append_right, get_or-replicate}
use Rattle.std.proofs.lemmas.List.Elements.{All-from_get_or}
use Rattle.std.proofs.lemmas.List.Folds.{sum_by-replicate}
use Rattle.std.proofs.lemmas.List.Sums.{sum_by-append, sum_by-le}
use Rattle.plat_base.specs.Machine.{Machine, is_machine}
use Rattle.plat_base.specs.Roomy.{Roomy}
use Rattle.plat_base.specs.Rooms.{processor_room, daemon_room, journal_rooms}
use Rattle.plat_base.specs.Rules.{has_daemon}
use Rattle.plat_base.specs.Verdicts.{policy_answer}
use Rattle.plat_base.specs.declared.items.Item.{Item}
use Rattle.plat_base.proofs.RoomLemmas.{journal_rooms-most}
use Rattle.plat_events.specs.Events.{with_item}
use Rattle.plat_local_laws.proofs.RoomLaws.{journal_fits}
use Rattle.plat_proc.specs.ProcSeen.{ProcSeen}
use Rattle.plat_proc.specs.Fits.{Fits}
use Rattle.plat_daemon.specs.DaemonSeen.{DaemonSeen, state_of}
use Rattle.plat_fine.specs.Crew.{IsCrew, no_proc, proc_at}
use Rattle.plat_fine.specs.FineSeen.{HasRoomFor, IsSwept, RunsOn, items_of, items_swept, room_of}
use Rattle.plat_daemon.proofs.DaemonLemmas.{actor_by}

-- ---- the rooms of the journals

abbrev rooms_of_processors : Machine → List ℕ
rooms_of_processors m = replicate m.nodes (processor_room m.budget)

-- the daemon's, where there is one
abbrev rooms_of_daemon : Machine → List ℕ
rooms_of_daemon m = option_to_list (daemon_room m.nodes m.budget m.pages m.policy)

rooms-sum : (m : Machine) → sum (journal_rooms m) ≡ m.nodes * processor_room m.budget + sum (rooms_of_daemon m)
rooms-sum m =
    omega (
      arith,
      sum_by-append (λ x. x) (rooms_of_processors m) (rooms_of_daemon m),
      sum_by-replicate (λ x. x) m.nodes (processor_room m.budget),
    )

room-of_processor : (m : Machine) (q : ℕ) → q < m.nodes → slice_index (journal_rooms m) q ≡ processor_room m.budget
room-of_processor m q h =
    get_or_append_left (rooms_of_processors m) (rooms_of_daemon m) 0 q
    (omega (arith, length-replicate m.nodes (processor_room m.budget)))
    ∙ get_or-replicate m.nodes q (processor_room m.budget) 0 h

first-sum : (o : Option ℕ) → get_or (option_to_list o) 0 0 ≡ sum (option_to_list o)
first-sum None = refl
first-sum (Some n) = omega arith

room-of_daemon : (m : Machine) → slice_index (journal_rooms m) m.nodes ≡ sum (rooms_of_daemon m)
room-of_daemon m =
    let none : m.nodes - m.nodes ≡ 0 = omega arith in
    get_or-append_right (rooms_of_processors m) (rooms_of_daemon m) m.nodes m.nodes 0
    (length-replicate m.nodes (processor_room m.budget)) (omega arith)
    ∙ ap (λ i. get_or (rooms_of_daemon m) i 0) none ∙ first-sum (daemon_room m.nodes m.budget m.pages m.policy)

-- ---- no journal is longer than its room

items-few : (m : Machine) (x : ProcSeen) → IsTrue (is_machine m) → Fits m x → items_of x ≤ processor_room m.budget
items-few m x h f =
    let fits = journal_fits m (policy_answer m.policy) x.actor x.state h (omega (arith, f.processor)) f.alone in
    omega (arith, fits, room-of_processor m x.actor f.processor)

swept-few : (m : Machine) (daemon : Option DaemonSeen) → IsTrue (is_machine m) → IsSwept m daemon →
    items_swept daemon ≤ sum (rooms_of_daemon m)
swept-few m None h f = omega arith
swept-few m (Some x) h f =
    let fits = journal_fits m (policy_answer m.policy) m.nodes (state_of m x) h (actor_by m.nodes (has_daemon m.policy) f.there) f.alone in
    omega (arith, fits, room-of_daemon m)

crew-few : (m : Machine) (procs : List ProcSeen) → IsTrue (is_machine m) → IsCrew m procs →
    sum_by items_of procs ≤ length procs * processor_room m.budget
crew-few m procs h c =
    sum_by-le items_of (processor_room m.budget) procs
    (All-from_get_or (λ x. items_of x ≤ processor_room m.budget) procs no_proc (λ k l. items-few m (proc_at procs k) h (c.each k l).fits))

-- nor are they all together
pub items-fit :
    (m : Machine) (procs : List ProcSeen) (daemon : Option DaemonSeen) → IsTrue (is_machine m) → IsCrew m procs → length procs ≡ m.nodes →
    IsSwept m daemon → sum_by items_of procs + items_swept daemon ≤ sum (journal_rooms m)
items-fit m procs daemon h c all s =
    let few : sum_by items_of procs ≤ m.nodes * processor_room m.budget =
    subst (λ (k : ℕ). sum_by items_of procs ≤ k * processor_room m.budget) all (crew-few m procs h c) in
    omega (arith, few, swept-few m daemon h s, rooms-sum m)

-- a history is no longer than a text of one may be
pub history-few :
    (m : Machine) (procs : List ProcSeen) (daemon : Option DaemonSeen) (words : List ℕ) (history : Roomy Item) → IsTrue (is_machine m) →
    RunsOn m procs daemon words history → length history.items ≤ 2621440
history-few m procs daemon words history h r =
    omega (arith, r.items, items-fit m procs daemon h r.crew r.all r.swept, journal_rooms-most m h)

-- ---- one more item

-- it makes two lists longer alike
pub longer-alike : (xs ys : List Item) (o : Option Item) → length (with_item xs o) + length ys ≡ length xs + length (with_item ys o)
longer-alike xs ys None = refl
longer-alike xs ys (Some i) = omega (arith, length-append xs (i ∷ []), length-append ys (i ∷ []))

pub room-for : (history : Roomy Item) (o : Option Item) → length (with_item history.items o) ≤ room_of history → HasRoomFor history o
room-for history None h = record {}
room-for history (Some i) h = omega (arith, h, length-append history.items (i ∷ []))
