use Rattle.plat_report.proofs.lines.write_cache.Goals as goal

pub returns : goal.returns
returns g c = rw (c.hits.ensures, c.misses.ensures) at c.write_line.ensures
