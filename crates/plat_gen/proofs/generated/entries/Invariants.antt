use Rattle.std.proofs.Common.{◌≡◌, ◌+◌, ◌≤◌, map}
use Rattle.plat_base.specs.Pages.{numbers}
use Rattle.plat_gen.specs.Generated.{same_page}
use Rattle.plat_gen.proofs.generated.entries.Given as goal

abbrev pub invariant-loop-i : goal.invariant-loop-i
invariant-loop-i l = record {
  items : l.entries.items ≡ map same_page (numbers l.i);
  room : 33 ≤ l.entries.spare + l.i;
}
