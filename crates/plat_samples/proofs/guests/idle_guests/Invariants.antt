use Rattle.std.proofs.Common.{◌≡◌, ◌+◌, ◌≤◌, replicate}
use Rattle.plat_base.specs.Machine.{programs_seen}
use Rattle.plat_samples.specs.Samples.{idle}
use Rattle.plat_samples.proofs.guests.idle_guests.Given as goal

abbrev pub invariant-loop : goal.invariant-loop
invariant-loop l = record {
  idle : programs_seen l.list.items ≡ replicate l.counter idle;
  room : l.count ≤ l.list.spare + l.counter;
}
