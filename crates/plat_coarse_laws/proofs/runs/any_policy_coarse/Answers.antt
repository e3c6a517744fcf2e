use Rattle.plat_base.specs.Seen.{machine}
use Rattle.plat_coarse_laws.proofs.CoherentLaws.{scheduled_coherent, run_finds_words}
use Rattle.plat_coarse_laws.proofs.CoarseRunLaws.{coarse_run_coherent}
use Rattle.plat_coarse_laws.proofs.RoomLaws.{coarse_run_room}
use Rattle.plat_coarse_laws.proofs.TurnLaws.{run_not_cut}
use Rattle.plat_coarse_laws.proofs.runs.any_policy_coarse.Goals as goal

-- src/runs.rt:18:1
pub returns-clause-coherent : goal.returns-clause-coherent
returns-clause-coherent g c = coarse_run_coherent (machine c.args.cfg.now) (g.P.Policy.answer c.args.policy.now) c.args.cfg.now.limits

-- src/runs.rt:18:1
pub returns-clause-frames : goal.returns-clause-frames
returns-clause-frames g c = run_finds_words (machine c.args.cfg.now) (g.P.Policy.answer c.args.policy.now) c.args.cfg.now.limits

-- src/runs.rt:18:1
pub returns-clause-between : goal.returns-clause-between
returns-clause-between g c = λ turns. scheduled_coherent (machine c.args.cfg.now) (g.P.Policy.answer c.args.policy.now) turns
    c.args.cfg.now.limits

-- src/runs.rt:18:1
pub returns-clause-over : goal.returns-clause-over
returns-clause-over g c = λ q inside. run_not_cut (machine c.args.cfg.now) (g.P.Policy.answer c.args.policy.now) q c.args.cfg.now.limits
    inside

-- src/runs.rt:18:1
pub returns-clause-bound : goal.returns-clause-bound
returns-clause-bound g c = coarse_run_room (machine c.args.cfg.now) (g.P.Policy.answer c.args.policy.now) c.args.cfg.now.limits
