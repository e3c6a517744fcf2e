use Rattle.std.proofs.Common.{rules, ◌≡◌, IsSome, Some, slice_get, sym, subst, refl}
use Rattle.std.specs.Prelude.{Option}
use Rattle.plat_base.specs.Seen.{machine}
use Rattle.plat_table.specs.Rule.{Held}
use Rattle.plat_table.specs.Actors.{held}
use Rattle.plat_table.proofs.ActorLemmas.{stays-within_at}
use Rattle.plat_table.proofs.PortLemmas.{event_moves}
use Rattle.plat_table.proofs.riders.make_event.Goals as goal

pub invariant_of-port : goal.invariant_of-port
invariant_of-port g c =
    let m = machine c.args.cfg.now in
    let there : slice_get c.args.seat.now.me.0.crew g.J.Turn.at ≡ Some (held m c.args.actor.now) =
    subst (λ n. slice_get c.args.seat.now.me.0.crew n ≡ Some (held m c.args.actor.now)) c.requires.turn c.requires.there in
    record {
      of = c.requires.of;
      there = subst (λ (o : Option Held). IsSome o) (sym there) refl;
      within = stays-within_at m g.J.Turn.at c.args.seat.now.me.0 c.args.actor.now c.args.cfg.now.limits c.requires.fits
          (sym c.requires.machine) there;
    }

pub returns-clause-event : goal.returns-clause-event
returns-clause-event g c =
    event_moves (machine c.args.cfg.now) c.args.at g.J.Turn.at c.args.seat.now.me _ c.args.actor.now c.step.new.self _ _ c.requires.turn
    c.requires.machine c.requires.there c.step.ensures.event c.step.ensures.number (search rules) (search rules)
