use Rattle.std.proofs.Common.{sym}
use Rattle.plat_base.specs.Seen.{machine}
use Rattle.plat_shoot.specs.Sought.{found_seen}
use Rattle.plat_shoot.proofs.TargetLemmas.{ask_from-some, ask_from-none}
use Rattle.plat_shoot.proofs.orders.ask_from.Goals as goal

pub returns-in-Some-clause-step : goal.returns-in-Some-clause-step
returns-in-Some-clause-step c =
    sym (ask_from-some (machine c.args.cfg.now) c.args.order.actor c.args.order.page c.args.posts.now c.args.k
    (found_seen c.in-Some.found) (sym c.in-Some.ensures.target))

pub returns-in-None-clause-step : goal.returns-in-None-clause-step
returns-in-None-clause-step c =
    sym (ask_from-none (machine c.args.cfg.now) c.args.order.actor c.args.order.page c.args.posts.now c.args.k
    (sym c.in-None.ensures.target))
