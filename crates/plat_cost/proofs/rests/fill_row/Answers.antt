use Rattle.std.proofs.Common.{◌≡◌, ◌+◌, ◌<◌, length, arith}
use Rattle.plat_base.specs.Pages.{distance}
use Rattle.plat_base.specs.Seen.{machine}
use Rattle.plat_cost.specs.Rests.{onward_at}
use Rattle.plat_cost.proofs.RestLaws.{row_step, risen_step}
use Rattle.plat_cost.proofs.rests.fill_row.Goals as goal

pub loop-x-preserved : goal.loop-x-preserved
loop-x-preserved c =
    let m = machine c.args.cfg.now
    in let next = c.args.base + c.args.cfg.now.nodes
    in let within : c.args.base + c.loop-x.x < length c.loop-x.rest = omega arith
    in let value : c.from.result + c.onward-least.result
    ≡ distance m c.args.actor c.loop-x.x + onward_at m c.loop-x.rest next c.loop-x.x c.first_onward-y.result =
    let own = c.from.ensures in let way = c.way.ensures.way in let rest = c.onward-least.ensures.onward in omega arith
    in let step = row_step m c.args.actor c.args.rest.now c.loop-x.rest c.args.base c.loop-x.x (c.from.result + c.onward-least.result)
    c.first_onward-y.result within c.loop-x-test.true c.loop-x.invariant.kept c.loop-x.invariant.row c.first_onward-y.ensures value
    in record {
      kept = step.0;
      row = step.1;
      risen =
          risen_step m c.args.rest.now c.loop-x.rest next c.args.base c.loop-x.x (c.from.result + c.onward-least.result) within
          c.loop-x.invariant.risen
          (λ top low.
          let most = c.onward-least.ensures.most top (λ k l. let is = c.loop-x.invariant.kept k l in let under = low k l in omega arith)
          in let own = c.from.ensures in let way = c.way.ensures.most in omega arith);
    }

pub returns-clause-risen : goal.returns-clause-risen
returns-clause-risen c = λ top low x l. c.loop-x.invariant.risen top low x (omega arith)
