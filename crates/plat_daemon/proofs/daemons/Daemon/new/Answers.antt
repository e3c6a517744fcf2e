use Rattle.plat_base.specs.Seen.{machine}
use Rattle.plat_daemon.proofs.DaemonLemmas.{Fits-first}
use Rattle.plat_daemon.proofs.daemons.Daemon.new.Goals as goal

pub returns-clause-fits : goal.returns-clause-fits
returns-clause-fits c =
    let made = c.in_ok-with_room.ensures in
    Fits-first (machine c.args.cfg.now) c.period-due.result c.in_ok-with_room.field-0 c.requires c.period-due.ensures made.empty made.room
