use Rattle.std.proofs.Common.{◌≡◌, ◌<◌, arith, sym, subst, ◌∙◌}
use Rattle.plat_base.specs.Ends.{is_live}
use Rattle.plat_base.specs.Machine.{Machine}
use Rattle.plat_base.specs.Schedule.{live_processors}
use Rattle.plat_base.specs.Seen.{machine}
use Rattle.plat_laws.proofs.Limits.{nodes-most}
use Rattle.plat_sched.specs.Actors.{actors_of}
use Rattle.plat_sched.proofs.ActorsLemmas.{actors_are}
use Rattle.plat_cmd.proofs.LiveLemmas.{ShowsBelow-set, ShowsBelow-clear}
use Rattle.plat_cmd.proofs.coarse_runs.live_word.Goals as goal
use Rattle.plat_cmd.proofs.coarse_runs.live_word.Goals.{then-live, else-live}

pub loop-q-preserved : goal.loop-q-preserved
loop-q-preserved g c =
    let low : c.loop-q.q < 32 =
    omega (arith, nodes-most (machine c.config.result.now) c.config.result.now.limits, c.loop-q-test.true) in
    elim c.if-live.branch [
      | then-live w ↦
          rw w.live-is (ShowsBelow-set _ c.loop-q.q c.loop-q.live c.loop-q.invariant low
          (sym w.if-live.true ∙ c.live.ensures))
      | else-live w ↦
          rw w.live-is (ShowsBelow-clear _ c.loop-q.q c.loop-q.live c.loop-q.invariant low
          (sym w.if-live.false ∙ c.live.ensures))
    ]

pub returns : goal.returns
returns g c =
    let most = nodes-most (machine c.config.result.now) c.config.result.now.limits in
    subst (λ (m : Machine). actors_of c.loop-q.live ≡ live_processors m c.args.coarse.now.run) c.config.ensures
    (actors_are (is_live c.args.coarse.now.run.ends) c.config.result.now.nodes c.loop-q.live (omega (arith, most))
    (λ a l. c.loop-q.invariant.set a (omega arith)) (λ a l m. c.loop-q.invariant.clear a (omega arith) m))
