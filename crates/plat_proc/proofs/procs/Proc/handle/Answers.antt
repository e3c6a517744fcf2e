use Rattle.plat_base.specs.Seen.{machine}
use Rattle.plat_proc.proofs.FitsLemmas.{fits-told}
use Rattle.plat_proc.proofs.StepLemmas.{next-below, within-words}
use Rattle.plat_proc.proofs.procs.Proc.handle.Goals as goal

pub apply-found-requires-clause-within : goal.apply-found-requires-clause-within
apply-found-requires-clause-within g c =
    let m = machine c.args.cfg.now in
    within-words m c.asked-at.result.0 (g.P.WordPort.words c.args.port.now) c.requires.words
    (next-below m c.args.self.now c.asked-at.result c.args.cfg.now.limits c.requires.fits c.asked-at.ensures)

pub returns-clause-event : goal.returns-clause-event
returns-clause-event g c =
    let made = c.apply-found.ensures in (
      c.asked-at.result,
      c.asked-at.ensures,
      (
        c.apply-found.result,
        record { state = c.told.ensures.state; words = made.words; found = made.found; says = made.says },
      ),
    )

pub returns-clause-fits : goal.returns-clause-fits
returns-clause-fits g c =
    let told = c.told.ensures in
    fits-told (machine c.args.cfg.now) c.args.self.now c.told.new.self c.apply-found.result c.args.cfg.now.limits c.requires.fits
    told.actor told.room told.state told.slots told.handling
