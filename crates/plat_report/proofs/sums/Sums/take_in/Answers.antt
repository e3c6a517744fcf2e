use Rattle.std.proofs.Common.{◌∙◌}
use Rattle.plat_base.specs.Seen.{machine}
use Rattle.plat_report.proofs.SumLemmas.{ShowsSums-more}
use Rattle.plat_report.proofs.sums.Sums.take_in.Goals as goal

pub returns : goal.returns
returns c = λ items shows legal.
    let m = machine c.args.cfg.now in
    let flat = c.apply.ensures.applied m items shows.flat (c.apply.ensures.answer m items shows.flat ∙ legal) in
    ShowsSums-more m items c.args.self.now c.args.item.now c.apply.new.self c.count.new.self c.take_in.new.counts shows flat c.count.ensures
    c.take_in.ensures.size c.take_in.ensures.at
