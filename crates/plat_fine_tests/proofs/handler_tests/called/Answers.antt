use Rattle.plat_base.specs.Seen.{machine}
use Rattle.plat_fine_tests.proofs.handler_tests.called.Goals as goal

pub returns-in-Poll : goal.returns-in-Poll
returns-in-Poll c = c.polled.ensures.fits (machine c.args.cfg.now) c.requires
