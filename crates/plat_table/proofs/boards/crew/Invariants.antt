use Rattle.std.proofs.Common.{◌≡◌, length, map}
use Rattle.std.specs.Prelude.{All}
use Rattle.plat_base.specs.Pages.{numbers}
use Rattle.plat_base.specs.Seen.{machine}
use Rattle.plat_table.specs.Actors.{Fits, held}
use Rattle.plat_table.specs.Rule.{held_first}
use Rattle.plat_table.proofs.boards.crew.Given as goal

abbrev pub invariant-loop-number : goal.invariant-loop-number
invariant-loop-number l = record {
  fit : All (Fits (machine l.fn.cfg)) l.actors.items;
  held : map (held (machine l.fn.cfg)) l.actors.items ≡ map (held_first (machine l.fn.cfg)) (numbers l.number);
  long : length l.actors.items ≡ l.number;
}
