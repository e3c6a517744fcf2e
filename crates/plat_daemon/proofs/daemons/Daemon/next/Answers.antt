use Rattle.std.proofs.Common.{refl, ap, sym, ◌∙◌}
use Rattle.plat_base.specs.Seen.{machine}
use Rattle.plat_base.specs.declared.words.Op.TheVariants as op
use Rattle.plat_base.specs.declared.words.WordName.TheVariants as word
use Rattle.plat_events.specs.Privates.{LiveLooking, TimeLooking}
use Rattle.plat_daemon.specs.declared.daemons.Place.{Place}
use Rattle.plat_daemon.specs.DaemonSeen.{DaemonSeen}
use Rattle.plat_daemon.specs.Places.{place_seen}
use Rattle.plat_daemon.proofs.DaemonLemmas.{next_at-named}
use Rattle.plat_daemon.proofs.daemons.Daemon.next.Goals as goal

pub returns-in-LiveLooking-clause-next : goal.returns-in-LiveLooking-clause-next
returns-in-LiveLooking-clause-next c =
    let there = ap (λ (x : DaemonSeen). x.place) (sym c.self.view_is)
    ∙ ap (λ (place : Place). place_seen c.self.inside.handler place) c.in-LiveLooking.is in
    next_at-named (machine c.args.cfg.now) c.args.self.now LiveLooking (word.Live, op.Load) c.place.result there refl c.place.ensures.at

pub returns-in-TimeLooking-clause-next : goal.returns-in-TimeLooking-clause-next
returns-in-TimeLooking-clause-next c =
    let there = ap (λ (x : DaemonSeen). x.place) (sym c.self.view_is)
    ∙ ap (λ (place : Place). place_seen c.self.inside.handler place) c.in-TimeLooking.is in
    next_at-named (machine c.args.cfg.now) c.args.self.now TimeLooking (word.Time, op.Load) c.place-in-TimeLooking.result there refl
    c.place-in-TimeLooking.ensures.at
