use Rattle.std.proofs.Common.{◌≡◌}
use Rattle.plat_table.specs.Riders.{IsOf, numbers_of}
use Rattle.plat_table_rows.proofs.runs.step_listed.Given as goal

abbrev pub invariant-loop-digit : goal.invariant-loop-digit
invariant-loop-digit l = record {
  of : IsOf l.rider l.board;
  same : numbers_of l.rider.crew ≡ numbers_of l.fn.rider.crew;
}
