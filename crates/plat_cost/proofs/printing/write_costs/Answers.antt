use Rattle.plat_cost.proofs.PageLemmas.{adds-framed}
use Rattle.plat_cost.proofs.printing.write_costs.Goals as goal

pub returns-clause-written : goal.returns-clause-written
returns-clause-written g c =
    rw (← c.in_ok-write_pages.ensures.actual, ← c.in_ok-write_pages.ensures.least)
    (adds-framed g.K.Sink _ _ _ _ _ _ _ _ c.in_ok-write_line.ensures c.in_ok-write_pages.ensures.written c.write_total.ensures)
