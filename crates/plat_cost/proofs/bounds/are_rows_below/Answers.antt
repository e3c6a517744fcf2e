use Rattle.std.proofs.Common.{below_more}
use Rattle.plat_base.specs.Seen.{machine}
use Rattle.plat_cost.specs.Certificates.{number_at, IsRowBelow}
use Rattle.plat_cost.proofs.bounds.are_rows_below.Goals as goal

pub loop-i-preserved : goal.loop-i-preserved
loop-i-preserved c =
    let m = machine c.args.cfg.now
    in below_more (IsRowBelow m c.args.actors.now (number_at m c.args.rest.now)) c.loop-i.i c.loop-i.invariant
    (c.is_row_below.ensures.0 c.if-not-is_row_below.false)
