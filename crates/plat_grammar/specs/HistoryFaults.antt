-- the reading of a whole history text over its rows: the history, or the first fault
use Rattle.std.specs.Prelude.{ℕ, zero, suc, nat_lt, if◌then◌else◌, List, [], ◌∷◌, ◌++◌, length, codes, Result, Ok, Err}
use Rattle.plat_base.specs.Machine.{Machine}
use Rattle.plat_grammar.specs.Forms.{◌>>=◌, Rest, rows_of, row_at, refused, nothing, line_at, over}
use Rattle.plat_grammar.specs.FirstFault.{number_line, version_line, machine_at}
use Rattle.plat_grammar.specs.HistoryCanon.{History, most_history_bytes, most_items}
use Rattle.plat_grammar.specs.HistoryForms.{item_line, ended_line}
use Rattle.plat_base.specs.declared.faults.Refused.{Refused}
use Rattle.plat_base.specs.declared.faults.Why.TheVariants as why
use Rattle.plat_base.specs.declared.items.Item.{Item}
use Rattle.plat_base.specs.declared.endings.Ended.{Ended}

-- so many items; what stands before them was seen
unfoldable pub items_from : Machine → ℕ → List Item → Rest → Result (List Item × Rest) Refused
items_from m zero seen rest = Ok (seen, rest)
items_from m (suc count) seen rest = row_at rest >>= λ r. item_line m r.0 >>= λ i. items_from m count (seen ++ i ∷ []) r.1

-- the ends of so many processors; what stands before them was seen, and the next has the number of these
unfoldable pub ends_from : ℕ → List Ended → Rest → Result (List Ended × Rest) Refused
ends_from zero seen rest = Ok (seen, rest)
ends_from (suc count) seen rest =
    line_at (codes "processor") (ended_line (length seen)) rest >>= λ e. ends_from count (seen ++ e.0 ∷ []) e.1

-- the lines from `items` to the last, of a history of this machine
unfoldable pub told_at : Machine → Rest → Result (History × Rest) Refused
told_at m rest = do
  count ← line_at (codes "items") (number_line 0 most_items) rest
  items ← items_from m count.0 [] count.1
  heading ← line_at (codes "ends") nothing items.1
  ends ← ends_from m.nodes [] heading.1
  last ← line_at (codes "end") nothing ends.1
  Ok (record { machine = m; items = items.0; ends = ends.0 }, last.1)

-- a history text from its first line to its last
unfoldable pub lines_at : Rest → Result (History × Rest) Refused
lines_at rest = do
  version ← line_at (codes "history") version_line rest
  machine ← machine_at version.1
  told_at machine.0.0 machine.1

-- the history of a whole history text
unfoldable pub history_at : List ℕ → Result History Refused
history_at bytes =
    if nat_lt most_history_bytes (length bytes)
    then Err (refused 0 0 why.TooLong)
    else (lines_at (rows_of 1 bytes) >>= λ h. over h.1 >>= λ _. Ok h.0)
