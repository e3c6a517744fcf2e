use Rattle.std.proofs.Common.{◌≡◌, false, length}
use Rattle.plat_base.specs.Seen.{machine}
use Rattle.plat_events.specs.Places.{word_count}
use Rattle.plat_events.specs.Privates.{is_over}
use Rattle.plat_proc.specs.Fits.{Fits}
use Rattle.plat_fine_tests.proofs.proc_tests.halts_with.Given as goal

abbrev pub invariant-loop : goal.invariant-loop
invariant-loop l = record {
  live : is_over l.proc.state.place ≡ false;
  fits : Fits (machine l.cfg) l.proc;
  words : length l.port.words ≡ word_count (machine l.cfg);
}
