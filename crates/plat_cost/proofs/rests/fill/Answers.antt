use Rattle.std.proofs.Common.{◌≡◌, ◌-◌, suc, arith}
use Rattle.plat_base.specs.Seen.{machine}
use Rattle.plat_cost.proofs.RestLaws.{fill_step}
use Rattle.plat_cost.proofs.rests.fill.Goals as goal

pub loop-i-preserved : goal.loop-i-preserved
loop-i-preserved c =
    let less : suc (c.loop-i.i - 1) ≡ c.loop-i.i = omega arith
    in let h = c.loop-i.invariant
    in let step = fill_step (machine c.args.cfg.now) c.args.actors.now c.loop-i.rest c.fill_row.new.rest c.loop-i.i
    (c.loop-i.i - 1) c.loop-i.base less h.within h.at h.table h.low
    c.fill_row.ensures.row c.fill_row.ensures.kept c.fill_row.ensures.risen
    in record {
      within = omega arith;
      at = step.0;
      table = step.1;
      low = step.2;
    }
