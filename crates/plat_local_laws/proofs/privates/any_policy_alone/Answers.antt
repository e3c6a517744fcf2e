use Rattle.plat_base.specs.Seen.{machine}
use Rattle.plat_local_laws.proofs.NameLaws.{names_word}
use Rattle.plat_local_laws.proofs.OrderLaws.{reached_in_order}
use Rattle.plat_local_laws.proofs.PrivateLaws.{private_ok}
use Rattle.plat_local_laws.proofs.RoomLaws.{journal_fits}
use Rattle.plat_local_laws.proofs.WordLaws.{reached_leaves}
use Rattle.plat_local_laws.proofs.privates.any_policy_alone.Goals as goal

-- src/privates.rt:16:1
pub returns-clause-facts : goal.returns-clause-facts
returns-clause-facts g c = λ a p l r. private_ok (machine c.args.cfg.now) (g.P.Policy.answer c.args.policy.now) a p c.args.cfg.now.limits l
    r

-- src/privates.rt:16:1
pub returns-clause-room : goal.returns-clause-room
returns-clause-room g c = λ a p l r. journal_fits (machine c.args.cfg.now) (g.P.Policy.answer c.args.policy.now) a p c.args.cfg.now.limits l
    r

-- src/privates.rt:16:1
pub returns-clause-names : goal.returns-clause-names
returns-clause-names g c = λ a p l r. names_word (machine c.args.cfg.now) (g.P.Policy.answer c.args.policy.now) a p c.args.cfg.now.limits l
    r

-- src/privates.rt:16:1
pub returns-clause-order : goal.returns-clause-order
returns-clause-order g c = λ a p items l r j. reached_in_order (machine c.args.cfg.now) (g.P.Policy.answer c.args.policy.now) a p items
    c.args.cfg.now.limits l r j

-- src/privates.rt:16:1
pub returns-clause-leaves : goal.returns-clause-leaves
returns-clause-leaves g c = λ a p n l r k. reached_leaves (machine c.args.cfg.now) (g.P.Policy.answer c.args.policy.now) a p n
    c.args.cfg.now.limits l r k
