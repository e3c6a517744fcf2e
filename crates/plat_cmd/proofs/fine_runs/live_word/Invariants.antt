use Rattle.plat_fine.specs.FineSeen.{is_live}
use Rattle.plat_cmd.proofs.LiveLemmas.{ShowsBelow}
use Rattle.plat_cmd.proofs.fine_runs.live_word.Given as goal

abbrev pub invariant-loop-actor : goal.invariant-loop-actor
invariant-loop-actor l = ShowsBelow (is_live l.fine.fine.privates) l.actor l.live
