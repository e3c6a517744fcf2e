use Rattle.std.proofs.Common.{◌≡◌, length}
use Rattle.plat_base.specs.Seen.{machine}
use Rattle.plat_events.specs.Places.{word_count}
use Rattle.plat_daemon.specs.Fits.{Fits}
use Rattle.plat_fine_tests.proofs.daemon_tests.looks_on.Given as goal

abbrev pub invariant-loop : goal.invariant-loop
invariant-loop l = record {
  fits : Fits (machine l.cfg) l.daemon;
  words : length l.port.words ≡ word_count (machine l.cfg);
}
