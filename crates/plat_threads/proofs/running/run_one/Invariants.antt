use Rattle.std.proofs.Common.{◌≡◌, length}
use Rattle.plat_table.specs.Riders.{IsOf, numbers_of}
use Rattle.plat_threads.proofs.running.run_one.Given as goal

abbrev pub invariant-loop : goal.invariant-loop
invariant-loop g l = record {
  of : IsOf l.rider l.board;
  same : numbers_of l.rider.crew ≡ numbers_of l.fn.rider.crew;
  one : length l.rider.crew ≡ 1;
}
