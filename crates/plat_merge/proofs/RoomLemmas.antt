-- how many items the journals of a machine may have in all
use Rattle.std.specs.Prelude.{◌≡◌, ℕ, ◌+◌, ◌*◌, ◌≤◌, length, replicate, IsTrue, Option, Some, None}
use Rattle.std.proofs.Common.{arith}
use Rattle.std.specs.List.{sum}
use Rattle.std.specs.Option.{option_to_list}
use Rattle.std.proofs.lemmas.List.{length-append, length-replicate}
use Rattle.std.proofs.lemmas.List.Folds.{sum_by-replicate}
use Rattle.std.proofs.lemmas.List.Sums.{sum_by-append}
use Rattle.plat_base.specs.Machine.{Machine, is_machine}
use Rattle.plat_base.specs.Rooms.{processor_room, daemon_room, journal_rooms}
use Rattle.std.proofs.lemmas.Nat.{mul-le}
use Rattle.plat_base.proofs.LimitLemmas.{Limits, limits_of}

-- those of the processors, and those of the daemon
pub rooms-sum : (m : Machine) →
    sum (journal_rooms m) ≡ m.nodes * (4 * m.budget) + sum (option_to_list (daemon_room m.nodes m.budget m.pages m.policy))
rooms-sum m =
    omega (
      arith,
      sum_by-append (λ x. x) (replicate m.nodes (processor_room m.budget))
          (option_to_list (daemon_room m.nodes m.budget m.pages m.policy)),
      sum_by-replicate (λ x. x) m.nodes (processor_room m.budget),
    )

-- there are at most nine actors
one-most : (o : Option ℕ) → length (option_to_list o) ≤ 1
one-most None = omega arith
one-most (Some x) = omega arith

pub rooms-few : (m : Machine) → IsTrue (is_machine m) → length (journal_rooms m) ≤ 9
rooms-few m h =
    let l : Limits m = limits_of m h in
    let daemon = daemon_room m.nodes m.budget m.pages m.policy in
    omega (
      arith,
      length-append (replicate m.nodes (processor_room m.budget)) (option_to_list daemon),
      length-replicate m.nodes (processor_room m.budget),
      one-most daemon,
      l.nodes_most,
    )
