use Rattle.plat_base.specs.Seen.{machine}
use Rattle.plat_daemon.proofs.DaemonLemmas.{Fits-told}
use Rattle.plat_daemon.proofs.daemons.Daemon.after.Goals as goal

pub returns-in-LiveLooking-clause-fits : goal.returns-in-LiveLooking-clause-fits
returns-in-LiveLooking-clause-fits c =
    Fits-told (machine c.args.cfg.now) c.args.self.now _ c.args.found c.requires.fits c.lived.ensures.state c.lived.ensures.room
    c.lived.ensures.sweeping

pub returns-in-TimeLooking-clause-fits : goal.returns-in-TimeLooking-clause-fits
returns-in-TimeLooking-clause-fits c =
    Fits-told (machine c.args.cfg.now) c.args.self.now _ c.args.found c.requires.fits c.timed.ensures.state c.timed.ensures.room
    c.timed.ensures.sweeping

pub returns-in-Sweeping-clause-fits : goal.returns-in-Sweeping-clause-fits
returns-in-Sweeping-clause-fits c =
    Fits-told (machine c.args.cfg.now) c.args.self.now _ c.args.found c.requires.fits c.told.ensures.state c.told.ensures.room
    c.told.ensures.sweeping
