use Rattle.std.proofs.Common.{◌≡◌}
use Rattle.plat_low_tests.proofs.flat_tests.takes_in_the_next_access_alone.Given as goal

abbrev pub invariant-loop-item : goal.invariant-loop-item
invariant-loop-item g l = record { pages : l.flat.pages ≡ 2; words : l.flat.words ≡ 4 }
