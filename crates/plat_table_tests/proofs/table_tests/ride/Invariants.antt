use Rattle.std.proofs.Common.{◌≡◌, [], ◌∷◌}
use Rattle.plat_table.specs.Riders.{IsOf, numbers_of}
use Rattle.plat_table_tests.proofs.table_tests.ride.Given as goal

abbrev pub invariant-loop : goal.invariant-loop
invariant-loop g l = record {
  rider : IsOf l.rider l.board;
  other : IsOf l.other l.board;
  first : numbers_of l.rider.crew ≡ 0 ∷ [];
  second : numbers_of l.other.crew ≡ 1 ∷ [];
}
