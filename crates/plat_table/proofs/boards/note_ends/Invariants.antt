use Rattle.std.proofs.Common.{◌≡◌, ◌≤◌, ◌++◌, length}
use Rattle.plat_table.specs.Actors.{ends_in}
use Rattle.plat_table.proofs.boards.note_ends.Given as goal

abbrev pub invariant-loop-actor : goal.invariant-loop-actor
invariant-loop-actor l = record {
  all : l.ends.items ++ ends_in l.actor-iterator.rest.now ≡ l.fn.ends.items ++ ends_in l.fn.actors.items;
  room : length (ends_in l.actor-iterator.rest.now) ≤ l.ends.spare;
}
