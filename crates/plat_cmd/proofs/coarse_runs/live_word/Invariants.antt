use Rattle.plat_base.specs.Ends.{is_live}
use Rattle.plat_cmd.proofs.LiveLemmas.{ShowsBelow}
use Rattle.plat_cmd.proofs.coarse_runs.live_word.Given as goal

abbrev pub invariant-loop-q : goal.invariant-loop-q
invariant-loop-q g l = ShowsBelow (is_live l.coarse.run.ends) l.q l.live
