use Rattle.plat_report.proofs.SumLemmas.{ShowsSums-start}
use Rattle.plat_report.proofs.sums.Sums.new.Goals as goal

pub returns : goal.returns
returns c = λ m made. ShowsSums-start m c.args.flat c.none-totals.result c.none-counts.result c.none-totals.ensures c.none-counts.ensures
    made
