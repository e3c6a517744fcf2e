use Rattle.std.proofs.Common.{◌≡◌, ◌+◌, ◌≤◌, length, take}
use Rattle.plat_samples.proofs.guests.listed.Given as goal

abbrev pub invariant-loop-item : goal.invariant-loop-item
invariant-loop-item g l = record {
  items : l.list.items ≡ take l.item-index l.items;
  room : length l.items ≤ l.list.spare + l.item-index;
}
