use Rattle.std.proofs.Common.{below_more}
use Rattle.plat_base.specs.Seen.{machine}
use Rattle.plat_cost.specs.Certificates.{number_at, IsNumberBelow, IsRowBelow}
use Rattle.plat_cost.proofs.BoundLaws.{refused}
use Rattle.plat_cost.proofs.bounds.is_row_below.Goals as goal

pub returns-then-not-is_number_below : goal.returns-then-not-is_number_below
returns-then-not-is_number_below c =
    let m = machine c.args.cfg.now
    in refused (IsNumberBelow m c.args.actors.now (number_at m c.args.rest.now) c.args.i c.loop-x.x)
    (IsRowBelow m c.args.actors.now (number_at m c.args.rest.now) c.args.i) c.is_number_below.result c.if-not-is_number_below.true
    c.is_number_below.ensures (λ rows. rows c.loop-x.x c.loop-x-test.true)

pub loop-x-preserved : goal.loop-x-preserved
loop-x-preserved c =
    let m = machine c.args.cfg.now
    in below_more (IsNumberBelow m c.args.actors.now (number_at m c.args.rest.now) c.args.i) c.loop-x.x c.loop-x.invariant
    (c.is_number_below.ensures.0 c.if-not-is_number_below.false)
