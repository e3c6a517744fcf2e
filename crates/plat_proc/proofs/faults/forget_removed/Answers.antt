use Rattle.std.proofs.Common.{ap, sym, ◌∙◌}
use Rattle.plat_base.specs.Seen.{machine}
use Rattle.plat_pmap.specs.Slots.{places}
use Rattle.plat_proc.proofs.ForgetLemmas.{places-page}
use Rattle.plat_proc.proofs.faults.forget_removed.Goals as goal

pub returns-then-is_some-clause-places : goal.returns-then-is_some-clause-places
returns-then-is_some-clause-places c =
    rw (sym c.is_some.ensures, c.if-is_some.true)
    (ap places c.forget_page.ensures ∙ places-page (machine c.args.cfg.now) c.args.page c.args.atc.now)
