use Rattle.std.proofs.Common.{◌+◌, ◌≤◌}
use Rattle.plat_text_tests.proofs.parse_tests.proper_prefixes.Given as goal

-- no more lines and columns than bytes
abbrev pub invariant-loop-end : goal.invariant-loop-end
invariant-loop-end g l = record {
  line : l.line ≤ l.end + 1;
  column : l.column ≤ l.end + 1;
}
