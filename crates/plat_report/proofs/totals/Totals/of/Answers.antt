use Rattle.std.proofs.Common.{arith}
use Rattle.plat_report.proofs.CountLemmas.{total_room}
use Rattle.plat_report.proofs.totals.Totals.of.Goals as goal

pub count-requires : goal.count-requires
count-requires c = rw c.loop-item.invariant (total_room c.args.items.now _ (omega arith) c.requires)
