use Rattle.std.proofs.Common.{◌≡◌}
use Rattle.plat_table.specs.Riders.{IsOf, numbers_of}
use Rattle.plat_table_rows.proofs.runs.step_all.Given as goal

abbrev pub invariant-loop-at : goal.invariant-loop-at
invariant-loop-at l = record {
  of : IsOf l.rider l.board;
  same : numbers_of l.rider.crew ≡ numbers_of l.fn.rider.crew;
}
