use Rattle.std.proofs.Common.{refl}
use Rattle.plat_fine_tests.proofs.DaemonTriedLemmas.{told-any}
use Rattle.plat_fine_tests.proofs.daemon_tests.ChosenPortWordPort.apply.Goals as goal

pub returns-in_default : goal.returns-in_default
returns-in_default c = record {
  words = refl;
  found = tt;
  says = told-any c.args.op c.args.self.now.found c.in_default.not-Store;
  serves = refl;
  stays = tt;
}
