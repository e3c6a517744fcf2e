use Rattle.std.proofs.Common.{refl}
use Rattle.plat_base.specs.Seen.{machine}
use Rattle.plat_handler.proofs.LockLemmas.{is_taken-first}
use Rattle.plat_handler.proofs.handlers.Handler.start.Goals as goal

pub returns-clause-fits : goal.returns-clause-fits
returns-clause-fits c = record {
  now = c.requires.now;
  fits = c.requires.fault;
  shoots = refl;
  tried = is_taken-first (machine c.args.cfg.now);
}
