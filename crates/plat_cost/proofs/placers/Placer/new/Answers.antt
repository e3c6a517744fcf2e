use Rattle.std.proofs.Common.{arith}
use Rattle.plat_base.proofs.LimitLemmas.{nodes_most}
use Rattle.plat_cost.proofs.CostLaws.{room_most}
use Rattle.plat_cost.proofs.placers.Placer.new.Goals as goal

pub invariant_of-result : goal.invariant_of-result
invariant_of-result c = record {
  few = room_most c.args.cfg.now;
  modules = nodes_most c.args.cfg.now;
  within = omega arith;
  actors_size = omega (arith, c.in-Ok-Ok-Ok.ensures.len);
  plan_size = omega (arith, c.in-Ok-Ok-Ok.ensures'.len);
  rest_size = omega (arith, c.in-Ok-Ok-Ok.ensures''.len);
}
