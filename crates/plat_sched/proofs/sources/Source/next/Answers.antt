use Rattle.std.proofs.Common.{arith}
use Rattle.plat_sched.proofs.ListedLemmas.{listed_next}
use Rattle.plat_sched.proofs.sources.Source.next.Goals as goal

pub returns-in-Some-clause-chosen : goal.returns-in-Some-clause-chosen
returns-in-Some-clause-chosen c =
    let e = c.in-Listed.is in
    rw e (listed_next c.in-Listed.actors.items c.in-Listed.used c.listed.new.used c.args.live c.in-Some.actor c.args.last (omega arith)
    c.requires.live (rw (← c.as_slice.ensures) c.in-Some.ensures.chosen))
