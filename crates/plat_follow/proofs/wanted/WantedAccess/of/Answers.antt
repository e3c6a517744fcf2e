use Rattle.std.proofs.Common.{◌≡◌, ◌∙◌, arith, Some, sym, ◌/◌}
use Rattle.plat_base.specs.Pages.{entry_at}
use Rattle.plat_base.specs.Seen.{machine}
use Rattle.plat_laws.proofs.GuestLaws.{entry_at-found}
use Rattle.plat_follow.proofs.wanted.WantedAccess.of.Goals as goal

pub page_of-requires : goal.page_of-requires
page_of-requires c =
    let m = machine c.args.cfg.now in
    let at : entry_at m c.args.space (c.args.addr / m.words) ≡ Some c.in-Some.entry = sym c.entry_at.ensures ∙ c.in-Some.is in
    let found = entry_at-found m c.args.space (c.args.addr / m.words) c.in-Some.entry at in
    let below = found.below in
    omega arith
