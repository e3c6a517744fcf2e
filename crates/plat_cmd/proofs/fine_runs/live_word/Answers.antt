use Rattle.std.proofs.Common.{◌<◌, length, arith, sym, ap, ◌∙◌}
use Rattle.plat_base.specs.Machine.{Machine}
use Rattle.plat_base.specs.Seen.{machine}
use Rattle.plat_fine.specs.FineSeen.{is_live}
use Rattle.plat_laws.proofs.Limits.{nodes-most}
use Rattle.plat_sched.proofs.ActorsLemmas.{actors_are}
use Rattle.plat_cmd.proofs.FineRunLemmas.{clear_or_absent, count-most}
use Rattle.plat_cmd.proofs.LiveLemmas.{ShowsBelow-set, ShowsBelow-clear}
use Rattle.plat_cmd.proofs.fine_runs.live_word.Goals as goal
use Rattle.plat_cmd.proofs.fine_runs.live_word.Goals.{then-live, else-live}

pub loop-actor-preserved : goal.loop-actor-preserved
loop-actor-preserved c =
    let low : c.loop-actor.actor < 32 =
    omega (arith, nodes-most (machine c.config.result.now) c.config.result.now.limits, c.loop-actor-test.true) in
    elim c.if-live.branch [
      | then-live w ↦
          rw w.live-is (ShowsBelow-set _ c.loop-actor.actor c.loop-actor.live c.loop-actor.invariant low
          (sym w.if-live.true ∙ c.live.ensures))
      | else-live w ↦
          rw w.live-is (ShowsBelow-clear _ c.loop-actor.actor c.loop-actor.live c.loop-actor.invariant low
          (sym w.if-live.false ∙ c.live.ensures))
    ]

pub returns : goal.returns
returns c =
    let privates = c.args.fine.now.fine.privates in
    let most = nodes-most (machine c.config.result.now) c.config.result.now.limits in
    let same = ap (λ (m : Machine). m.nodes) c.config.ensures in
    let some = count-most c.args.fine.now.machine in
    let count = c.requires in
    actors_are (is_live privates) (length privates) c.loop-actor.live (omega (arith, most, same, some, count))
    (λ a l. c.loop-actor.invariant.set a (omega arith))
    (λ a l m.
    clear_or_absent privates c.loop-actor.live c.loop-actor.actor a (c.loop-actor.invariant.set a)
    (λ behind. c.loop-actor.invariant.clear a behind m) l)
