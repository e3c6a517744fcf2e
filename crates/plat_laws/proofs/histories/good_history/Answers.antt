use Rattle.plat_base.specs.Seen.{machine}
use Rattle.plat_laws.proofs.HistoryLaws.{one_history}
use Rattle.plat_laws.proofs.histories.good_history.Goals as goal

-- src/histories.rt:10:1
pub returns : goal.returns
returns g c = one_history (machine c.args.cfg.now) (g.P.Policy.answer c.args.policy.now) c.args.items.now c.args.ends.now
