use Rattle.std.proofs.Common.{◌≡◌, ◌++◌, take, drop}
use Rattle.plat_table.specs.Actors.{journals_of}
use Rattle.plat_table.proofs.boards.hand_over.Given as goal

abbrev pub invariant-loop : goal.invariant-loop
invariant-loop l = record {
  left : l.actors.items ≡ drop l.counter l.fn.actors.items;
  rooms : l.journals.rooms ≡ l.fn.journals.rooms;
  lists : l.journals.lists ≡ take l.counter (journals_of l.fn.actors.items) ++ drop l.counter l.fn.journals.lists;
}
