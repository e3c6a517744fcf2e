use Rattle.std.proofs.Common.{false, length, arith}
use Rattle.plat_base.specs.Seen.{machine}
use Rattle.plat_cost.proofs.RestLaws.{best_of}
use Rattle.plat_cost.proofs.rests.first_best.Goals as goal
use Rattle.plat_cost.proofs.PageLemmas.{some_there}

pub returns-clause-best : goal.returns-clause-best
returns-clause-best c =
    (best_of (machine c.args.cfg.now) c.args.actors.now c.fill.new.rest c.walk.new.plan
    (some_there (length c.args.actors.now) c.is_empty.result c.is_empty.ensures c.if-is_empty.false) (omega arith) c.fill.ensures.table
    (rw c.requires.plan at c.walk.ensures)).0

pub returns-clause-cost : goal.returns-clause-cost
returns-clause-cost c =
    (best_of (machine c.args.cfg.now) c.args.actors.now c.fill.new.rest c.walk.new.plan
    (some_there (length c.args.actors.now) c.is_empty.result c.is_empty.ensures c.if-is_empty.false) (omega arith) c.fill.ensures.table
    (rw c.requires.plan at c.walk.ensures)).1

pub returns-clause-certified : goal.returns-clause-certified
returns-clause-certified c =
    (best_of (machine c.args.cfg.now) c.args.actors.now c.fill.new.rest c.walk.new.plan
    (some_there (length c.args.actors.now) c.is_empty.result c.is_empty.ensures c.if-is_empty.false) (omega arith) c.fill.ensures.table
    (rw c.requires.plan at c.walk.ensures)).2
