use Rattle.plat_base.specs.Seen.{machine}
use Rattle.plat_proc.proofs.AskLemmas.{own-within, grant-within, length-given_up}
use Rattle.plat_proc.proofs.faults.went_on.Goals as goal

pub give_up-requires : goal.give_up-requires
give_up-requires c =
    rw (c.requires.entries, c.after.ensures.own) (own-within (machine c.args.cfg.now) c.args.handler.now c.args.found c.requires.handles)

pub install-requires : goal.install-requires
install-requires c =
    rw (c.give_up.ensures, length-given_up, c.requires.entries, c.installed.ensures)
    (grant-within (machine c.args.cfg.now) c.after.new.self.actor c.after.new.self.now c.after.new.self.stage
    (rw c.after.ensures.actor c.requires.processor) c.after.ensures.fits.fits)
