use Rattle.std.proofs.Common.{◌≡◌, ◌-◌, [], length}
use Rattle.plat_base.specs.Seen.{machine}
use Rattle.plat_grammar.specs.HistoryFaults.{items_from}
use Rattle.plat_history.proofs.reading.read_items.Given as goal

-- what is left reads on as the whole does
abbrev pub invariant-loop-item : goal.invariant-loop-item
invariant-loop-item l = record {
  reads : items_from (machine l.cfg) (l.count - l._item) l.items.items l.rows ≡ items_from (machine l.cfg) l.count [] l.fn.rows;
  length : length l.items.items ≡ l._item;
}
