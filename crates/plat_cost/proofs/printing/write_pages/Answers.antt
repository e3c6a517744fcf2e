use Rattle.std.proofs.Common.{rules}
use Rattle.plat_io.proofs.LineLemmas.{counted_lines}
use Rattle.plat_cost.proofs.printing.write_pages.Goals as goal

pub returns-in_err-write_next_page-clause-written : goal.returns-in_err-write_next_page-clause-written
returns-in_err-write_next_page-clause-written g c =
    let before = c.loop-page.invariant.added in
    let written = c.in_err-write_next_page.ensures.written in search (rules, counted_lines)
