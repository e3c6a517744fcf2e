use Rattle.std.proofs.Common.{◌/◌}
use Rattle.plat_base.specs.Seen.{machine}
use Rattle.plat_laws.proofs.GuestLaws.{entry_at-found}
use Rattle.plat_proc.proofs.accesses.reach_of.Goals as goal

pub page_of-requires : goal.page_of-requires
page_of-requires c =
    let m = machine c.args.cfg.now in (entry_at-found m c.args.space (c.args.addr / m.words) c.args.entry c.requires).below
