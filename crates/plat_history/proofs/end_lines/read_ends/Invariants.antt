use Rattle.std.proofs.Common.{◌≡◌, ◌-◌, [], length}
use Rattle.plat_grammar.specs.HistoryFaults.{ends_from}
use Rattle.plat_history.proofs.end_lines.read_ends.Given as goal

-- what is left reads on as the whole does
abbrev pub invariant-loop-q : goal.invariant-loop-q
invariant-loop-q l = record {
  reads : ends_from (l.nodes - l.q) l.ends.items l.rows ≡ ends_from l.nodes [] l.fn.rows;
  length : length l.ends.items ≡ l.q;
}
