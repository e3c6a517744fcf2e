use Rattle.plat_threads.proofs.RunLemmas.{behind_run, run_both}
use Rattle.plat_threads.proofs.running.+riders.Goals as goal

pub run_all-join-requires-clause-behind : goal.run_all-join-requires-clause-behind
run_all-join-requires-clause-behind g t c =
    let halves = c.split-other in
    behind_run halves.new.self halves.result c.run_both.new.low c.run_both.new.high c.args.board.now halves.ensures.behind
    c.run_both.ensures.low c.run_both.ensures.high

pub run_all-returns : goal.run_all-returns
run_all-returns g t c =
    let halves = c.split-other in
    record {
      run = run_both c.args.rider.now halves.new.self halves.result c.run_both.new.low c.run_both.new.high c.join.new.self c.args.board.now
          halves.ensures.kept halves.ensures.given c.run_both.ensures.low c.run_both.ensures.high c.join.ensures.of c.join.ensures.crew;
    }
