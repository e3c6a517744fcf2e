use Rattle.std.proofs.Common.{◌≡◌, ◌+◌, ◌≤◌, map}
use Rattle.plat_base.specs.Machine.{programs_seen}
use Rattle.plat_base.specs.Pages.{numbers}
use Rattle.plat_gen.specs.Generated.{guest, seed}
use Rattle.plat_gen.proofs.generated.guests.Given as goal

abbrev pub invariant-loop-q : goal.invariant-loop-q
invariant-loop-q l = record {
  items : programs_seen l.guests.items ≡ map (λ q. guest (seed l.fn.n q)) (numbers l.q);
  room : 8 ≤ l.guests.spare + l.q;
}
