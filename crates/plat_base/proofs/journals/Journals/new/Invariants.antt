use Rattle.std.proofs.Common.{◌≡◌, ◌≤◌, [], replicate, vec_len, vec_capacity}
use Rattle.plat_base.specs.Rooms.{lists_seen}
use Rattle.plat_base.proofs.journals.Journals.new.Given as goal

abbrev pub invariant-loop : goal.invariant-loop
invariant-loop l =
    record {
      empty : lists_seen l.lists.items ≡ replicate l.counter [];
      long : vec_len l.lists ≡ l.counter;
      room : l.actors ≤ vec_capacity l.lists;
    }
