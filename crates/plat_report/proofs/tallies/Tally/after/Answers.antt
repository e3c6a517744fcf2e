use Rattle.std.proofs.Common.{take, arith}
use Rattle.std.proofs.lemmas.List.{take_more, take_all}
use Rattle.plat_base.specs.Seen.{machine}
use Rattle.plat_report.proofs.FlatLemmas.{flat_more}
use Rattle.plat_report.proofs.SumLemmas.{sums-total_room, sums-count_room}
use Rattle.plat_report.proofs.tallies.Tally.after.Goals as goal

pub loop-item-init : goal.loop-item-init
loop-item-init c = c.new-sums.ensures (machine c.args.cfg.now) (rw c.self.view_is c.requires.made)

pub take_in-requires-clause-totals : goal.take_in-requires-clause-totals
take_in-requires-clause-totals c =
    sums-total_room (machine c.args.cfg.now) c.args.items.now c.loop-item.item-index c.loop-item.sums (omega arith) c.requires.few
    c.loop-item.invariant

pub take_in-requires-clause-counts : goal.take_in-requires-clause-counts
take_in-requires-clause-counts c =
    sums-count_room (machine c.args.cfg.now) c.args.items.now c.loop-item.item-index c.loop-item.sums (omega arith) c.requires.few
    c.loop-item.invariant

pub loop-item-preserved : goal.loop-item-preserved
loop-item-preserved c =
    let m = machine c.args.cfg.now in
    let items = c.args.items.now in
    let i = c.loop-item.item-index in
    let legal = flat_more m items i c.item-item.result c.loop-item-test.true c.item-item.is c.requires.legal in
    let more = take_more items i c.item-item.result c.loop-item-test.true in
    rw (more, ← c.item-item.is) (c.take_in.ensures (take i items) c.loop-item.invariant legal)

pub returns : goal.returns
returns c = rw (take_all c.loop-item.item-index c.args.items.now c.loop-item-test.false) at c.loop-item.invariant
