use Rattle.std.proofs.Common.{◌≡◌, ◌++◌, true, List, length, map, refl, sym, ap, ◌∙◌, subst, arith}
use Rattle.std.specs.Prelude.{All}
use Rattle.std.specs.List.{range_with_len}
use Rattle.std.proofs.lemmas.List.{length-map}
use Rattle.std.proofs.lemmas.List.Elements.{All-weaker}
use mathlib.Core.Option.{some}
use lib.ListN.{get_elem?}
use Rattle.plat_base.specs.Machine.{Machine}
use Rattle.plat_base.specs.Rooms.{journal_rooms}
use Rattle.plat_base.specs.Seen.{machine}
use Rattle.plat_events.specs.Privates.{actor_count, is_over}
use Rattle.atomic_table.proofs.Lists.{at_map}
use Rattle.plat_table.specs.declared.actors.Actor.{Actor}
use Rattle.plat_table.specs.Actors.{Fits, HasRoomIn, held, ends_in}
use Rattle.plat_table.specs.Closed.{ClosedSeen}
use Rattle.plat_table.specs.Riders.{RiderSeen, BoardSeen, Rides, Rise}
use Rattle.plat_table.specs.Rule.{Held, Kept, crew_of}
use Rattle.plat_table.proofs.ClosedLemmas.{numbers-are, all-numbers, ends-few, has-room, left-by}
use Rattle.plat_table.proofs.boards.Board.close.Given.{Over}
use Rattle.plat_table.proofs.boards.Board.close.Goals.{After-close_with-closed}
use Rattle.plat_table.proofs.boards.Board.close.Goals as goal

-- the machine that the seat knows is the board's
knows : (g : Over) (c : After-close_with-closed g) → c.rider.inside.seat.me.0.machine ≡ machine c.self.inside.cfg
knows g c = ap (λ (r : RiderSeen). r.machine) c.rider.view_is ∙ c.requires.of.1 ∙ sym (ap (λ (b : BoardSeen). b.machine) c.self.view_is)

rides : (g : Over) (c : After-close_with-closed g) → Rides (machine c.self.inside.cfg) c.rider.inside.seat.me c.rider.inside.actors.items
rides g c = subst (λ (m : Machine). Rides m c.rider.inside.seat.me c.rider.inside.actors.items) (knows g c) c.rider.invariant

crew : (g : Over) (c : After-close_with-closed g) →
    c.rider.inside.seat.me.0.crew ≡ map (held (machine c.self.inside.cfg)) c.rider.inside.actors.items
crew g c = ap (λ x. x.0.crew) (rides g c).seat

-- the rider has every actor of the machine
long : (g : Over) (c : After-close_with-closed g) → length c.rider.inside.actors.items ≡ actor_count (machine c.self.inside.cfg)
long g c =
    sym (length-map c.rider.inside.actors.items (held (machine c.self.inside.cfg)))
    ∙ (ap length (sym (crew g c)) ∙ ap (λ (r : RiderSeen). length r.crew) c.rider.view_is ∙ c.requires.over.all
    ∙ ap (λ (r : RiderSeen). actor_count r.machine) (sym c.rider.view_is) ∙ ap actor_count (knows g c))

-- in rising number
order : (g : Over) (c : After-close_with-closed g) →
    map (λ (x : Actor). x.number) c.rider.inside.actors.items ≡ range_with_len 0 (length c.rider.inside.actors.items)
order g c =
    let m = machine c.self.inside.cfg in
    let actors = c.rider.inside.actors.items in
    let numbers = map (λ (x : Actor). x.number) actors in
    let same = length-map actors (λ (x : Actor). x.number) in
    all-numbers (actor_count m) numbers (subst (Rise 0 (actor_count m)) (numbers-are m actors) (rides g c).rise) (same ∙ long g c)
    ∙ ap (range_with_len 0) same

pub free-requires : goal.free-requires
free-requires g c = λ k l. absurd (omega (arith, l, c.close_with-closed.ensures.counts.1, c.self.invariant.no_slot))

pub note_ends-requires : goal.note_ends-requires
note_ends-requires g c =
    let at = (goal.at.note_ends-requires g c).After-close_with-closed in
    omega (
      arith,
      ends-few (machine c.self.inside.cfg) c.rider.inside.actors.items (order g at) (rides g at).fit,
      c.self.invariant.ends_room,
    )

pub hand_over-requires-clause-order : goal.hand_over-requires-clause-order
hand_over-requires-clause-order g c = order g (goal.at.hand_over-requires-clause-order g c).After-close_with-closed

pub hand_over-requires-clause-room : goal.hand_over-requires-clause-room
hand_over-requires-clause-room g c =
    let m = machine c.self.inside.cfg in
    let r = rides g (goal.at.hand_over-requires-clause-room g c).After-close_with-closed in
    subst (λ rooms. All (HasRoomIn rooms) c.rider.inside.actors.items) (sym c.self.invariant.rooms)
    (All-weaker (Fits m) (HasRoomIn (journal_rooms m)) (λ x f. has-room m x r.limits f) c.rider.inside.actors.items r.fit)

pub hand_over-requires-clause-lists : goal.hand_over-requires-clause-lists
hand_over-requires-clause-lists g c =
    c.self.invariant.lists ∙ sym (long g (goal.at.hand_over-requires-clause-lists g c).After-close_with-closed)

pub invariant_of-result : goal.invariant_of-result
invariant_of-result g c =
    let at = (goal.at.invariant_of-result g c).After-close_with-closed in
    let m = machine c.self.inside.cfg in
    let me = c.rider.inside.seat.me in
    let actors = c.rider.inside.actors.items in
    let final = c.close_with-closed.ensures.values.2 in
    let s = final.0 in
    let holds = final.1.0 in
    let who = holds.0 in
    let privates = holds.1 in
    let kept : Kept m s.words (map crew_of s.views) who privates =
    subst (λ k. Kept (machine k) s.words (map crew_of s.views) who privates) c.self.invariant.key_is holds.2 in
    let there : get_elem? (map crew_of s.views) c.rider.inside.seat.id ≡ some (map (held m) actors) =
    at_map crew_of s.views c.rider.inside.seat.id me.0 final.1.1 ∙ ap (λ (hs : List Held). some hs) (crew g at) in
    let over : All (λ (h : Held). is_over h.1.place ≡ true) (map (held m) actors) =
    subst (λ (hs : List Held). All (λ (h : Held). is_over h.1.place ≡ true) hs) (crew g at)
    (subst (λ (r : RiderSeen). All (λ (h : Held). is_over h.1.place ≡ true) r.crew) (sym c.rider.view_is) c.requires.over.over) in
    let left : ClosedSeen = record {
      machine = m;
      words = c.read_words.new.words;
      journals = c.hand_over.new.journals;
      ends = c.note_ends.new.ends.items;
    } in
    record {
      rooms = c.hand_over.ensures.rooms ∙ c.self.invariant.rooms;
      who = who;
      is_run = left-by m s.words
          (map crew_of s.views) who privates c.rider.inside.seat.id actors left (rides g at).limits kept there (rides g at).fit (order g at)
          (long g at) over refl (c.read_words.ensures ∙ sym final.2) c.hand_over.ensures.lists
          (c.note_ends.ensures ∙ ap (λ es. es ++ ends_in actors) c.self.invariant.no_end);
    }

pub returns-clause-run : goal.returns-clause-run
returns-clause-run g c = invariant_of-result g c
