use Rattle.plat_threads.proofs.RunLemmas.{all_first}
use Rattle.plat_threads.proofs.running.Ready.new.Goals as goal

pub invariant_of-result : goal.invariant_of-result
invariant_of-result g c =
    let made = c.in_ok-board in all_first c.args.cfg made.rider made.board made.ensures.machine made.ensures.of made.ensures.crew
