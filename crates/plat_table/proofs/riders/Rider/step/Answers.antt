use Rattle.std.proofs.Common.{◌≡◌, List, length, refl, ap, sym, ◌∙◌, subst}
use Rattle.std.specs.Prelude.{Some, slice_get}
use Rattle.std.proofs.lemmas.Option.{slice_get_read}
use Rattle.plat_base.specs.Machine.{Machine}
use Rattle.plat_base.specs.Seen.{machine}
use Rattle.plat_table.specs.Actors.{Fits, held}
use Rattle.plat_table.specs.Riders.{RiderSeen, BoardSeen, HasMoved, HasStepped, is_live_at, numbers_of}
use Rattle.plat_table.specs.Rule.{Held}
use Rattle.plat_table.proofs.RiderLemmas.{held-at, crew-of, rides-moved, numbers-moved, stepped-by, went-by, goes-on}
use Rattle.plat_table.proofs.riders.Rider.step.Given.{Over}
use Rattle.plat_table.proofs.riders.Rider.step.Goals.{In-Some, After-board, After-make_event}
use Rattle.plat_table.proofs.riders.Rider.step.Goals as goal

-- the actor at the place
there : (g : Over) (c : In-Some g) → slice_get c.self.inside.actors.items c.args.at ≡ Some c.in-Some.actor.now
there g c =
    let actors = c.self.inside.actors.items in
    slice_get_read actors (length actors) c.args.at c.in-Some.actor.now refl (c.in-Some.ensures.variant.0 refl) c.in-Some.ensures.value

-- as the seat knows it
known : (g : Over) (c : In-Some g) →
    slice_get c.self.inside.seat.me.0.crew c.args.at ≡ Some (held c.self.inside.seat.me.0.machine c.in-Some.actor.now)
known g c =
    let me = c.self.inside.seat.me in
    let actors = c.self.inside.actors.items in
    ap (λ (crew : List Held). slice_get crew c.args.at) (crew-of me actors c.self.invariant)
    ∙ held-at me.0.machine actors c.args.at c.in-Some.actor.now (there g c)

-- the machine that the seat knows is the board's
knows : (g : Over) (c : After-board g) → c.self.inside.seat.me.0.machine ≡ machine c.board.inside.cfg
knows g c = ap (λ (r : RiderSeen). r.machine) c.self.view_is ∙ c.requires.of.1 ∙ sym (ap (λ (b : BoardSeen). b.machine) c.board.view_is)

-- its event
moved : (g : Over) (c : After-make_event g) → HasMoved c.args.at c.self.inside.seat.me.0.machine c.self.inside.seat.me
    c.make_event.new.seat.me c.in-Some.actor.now c.make_event.new.actor
moved g c =
    subst (λ (m : Machine). HasMoved c.args.at m c.self.inside.seat.me c.make_event.new.seat.me c.in-Some.actor.now c.make_event.new.actor)
    (sym (knows g (goal.at.After-make_event g c).After-board)) c.make_event.ensures.event

pub make_event-requires-clause-there : goal.make_event-requires-clause-there
make_event-requires-clause-there g c =
    let at = goal.at.make_event-requires-clause-there g c in
    known g at.In-Some ∙ ap (λ (m : Machine). Some (held m c.in-Some.actor.now)) (knows g at.After-board)

pub make_event-requires-clause-live : goal.make_event-requires-clause-live
make_event-requires-clause-live g c =
    let me = c.self.inside.seat.me in
    goes-on me.0.machine me.0.crew c.args.at c.in-Some.actor.now (known g (goal.at.make_event-requires-clause-live g c).In-Some)
    (ap (λ (r : RiderSeen). is_live_at r.crew c.args.at) c.self.view_is ∙ c.requires.live)

pub invariant_of-self : goal.invariant_of-self
invariant_of-self g c =
    let at = goal.at.invariant_of-self g c in
    let y = c.make_event.new.actor in
    rides-moved c.self.inside.seat.me c.make_event.new.seat.me c.self.inside.actors.items c.args.at c.in-Some.actor.now y
    c.self.invariant (there g at.In-Some) (moved g at.After-make_event)
    (subst (λ (m : Machine). Fits m y) (sym (knows g at.After-board)) c.make_event.ensures.fits)

pub returns-clause-event : goal.returns-clause-event
returns-clause-event g c =
    let at = goal.at.returns-clause-event g c in
    let now = c.make_event.new.seat.me in
    let after : RiderSeen = record { table_id = c.make_event.new.seat.table_id; machine = now.0.machine; crew = now.0.crew } in
    subst (λ (r : RiderSeen). HasStepped r after c.args.at) c.self.view_is
    (stepped-by c.self.inside.seat.table_id c.make_event.new.seat.table_id c.self.inside.seat.me now c.self.inside.actors.items c.args.at
    c.in-Some.actor.now c.make_event.new.actor c.self.invariant (there g at.In-Some) (moved g at.After-make_event)
    c.make_event.ensures.seat.0)

pub returns-clause-numbers : goal.returns-clause-numbers
returns-clause-numbers g c =
    let at = goal.at.returns-clause-numbers g c in
    numbers-moved c.self.inside.seat.me c.make_event.new.seat.me c.self.inside.actors.items c.args.at c.in-Some.actor.now
    c.make_event.new.actor c.self.invariant (there g at.In-Some) (moved g at.After-make_event)
    ∙ ap (λ (r : RiderSeen). numbers_of r.crew) c.self.view_is

pub returns-clause-went : goal.returns-clause-went
returns-clause-went g c =
    let at = goal.at.returns-clause-went g c in
    went-by c.self.inside.seat.me c.make_event.new.seat.me c.self.inside.actors.items c.args.at c.in-Some.actor.now
    c.make_event.new.actor c.make_event.result c.self.invariant (there g at.In-Some) (moved g at.After-make_event)
    c.make_event.ensures.went
