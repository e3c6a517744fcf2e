use Rattle.plat_base.specs.Seen.{machine}
use Rattle.plat_table_tests.proofs.TableTriedLemmas.{first_half, second_half}
use Rattle.plat_table_tests.proofs.table_tests.two_riders_step_in_turns.Goals as goal

pub ride-requires : goal.ride-requires
ride-requires g c =
    let m = machine c.in_ok-adding.field-0 in
    record {
      rider = c.split-other.ensures.of.0;
      other = c.split-other.ensures.of.1;
      first = first_half m c.in_ok-board.rider.crew c.split-other.new.self.crew c.in_ok-adding.ensures c.in_ok-board.ensures.crew
          c.split-other.ensures.kept;
      second = second_half m c.in_ok-board.rider.crew c.split-other.result.crew c.in_ok-adding.ensures c.in_ok-board.ensures.crew
          c.split-other.ensures.given;
    }
