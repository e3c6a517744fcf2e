use Rattle.std.proofs.Common.{arith}
use Rattle.plat_base.proofs.EntryLists.{page_entries_few}
use Rattle.plat_shoot.proofs.orders.posted.Goals as goal

pub push-requires : goal.push-requires
push-requires c = (omega arith, omega (arith, c.requires, page_entries_few c.args.cfg.now c.args.order.page))
