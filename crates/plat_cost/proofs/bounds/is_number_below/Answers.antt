use Rattle.std.proofs.Common.{◌≡◌, ◌+◌, ◌*◌, suc, refl, ap, arith, length}
use Rattle.plat_base.specs.Seen.{machine}
use Rattle.plat_cost.proofs.BoundLaws.{next_row, onward_number}
use Rattle.plat_cost.proofs.bounds.is_number_below.Goals as goal

pub is_onward_below-requires-clause-room : goal.is_onward_below-requires-clause-room
is_onward_below-requires-clause-room c =
    next_row c.args.i (length c.args.actors.now) c.args.cfg.now.nodes (length c.args.rest.now) (omega arith) c.requires.rest

pub returns-else-i-actors : goal.returns-else-i-actors
returns-else-i-actors c =
    let next : c.args.i + 1 ≡ suc c.args.i = omega arith
    in onward_number (machine c.args.cfg.now) c.args.actors.now c.args.rest.now c.args.i c.args.x _ _ _ c.is_onward_below.result
    (omega arith) refl
    c.way-own.ensures.way (ap (λ k. k * c.args.cfg.now.nodes) next) c.is_onward_below.ensures
