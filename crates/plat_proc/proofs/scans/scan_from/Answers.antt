use Rattle.std.proofs.Common.{◌≤◌, length, sym, subst, arith}
use Rattle.plat_base.specs.Pages.{entries_of_space}
use Rattle.plat_base.specs.Seen.{machine}
use Rattle.plat_proc.specs.Onwards.{LeadsTo}
use Rattle.plat_proc.specs.Places.{onward_seen}
use Rattle.plat_proc.proofs.TurnLemmas.{scan_from-past}
use Rattle.plat_proc.proofs.scans.scan_from.Goals as goal

pub returns-else-i-count_of_space : goal.returns-else-i-count_of_space
returns-else-i-count_of_space c =
    let m = machine c.args.cfg.now in
    let past : length (entries_of_space m c.args.space) ≤ c.args.i =
    omega (arith, c.count_of_space.ensures.count, c.if-i-count_of_space.false) in
    λ h w. subst (LeadsTo h c.go_on.result)
    (sym (scan_from-past m c.args.turns c.args.space c.args.i c.args.moment (onward_seen h c.args.onward) past)) (c.go_on.ensures h w)
