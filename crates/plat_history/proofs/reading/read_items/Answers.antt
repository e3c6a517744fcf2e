use Rattle.std.proofs.Common.{sym, ◌∙◌}
use Rattle.std.proofs.lemmas.Result.{err_from_is_err_and}
use Rattle.plat_history.proofs.LoopLemmas.{items-wrong, items-none}
use Rattle.plat_history.proofs.reading.read_items.Goals as goal

pub returns-in_err-row-clause-reads : goal.returns-in_err-row-clause-reads
returns-in_err-row-clause-reads c =
    let p = err_from_is_err_and c.from_residual-in_err-row.result c.from_residual-in_err-row.ensures.1 in
    rw (p.1, p.2) (sym c.loop-item.invariant.reads ∙ items-none _ _ _ _ _ c.loop-item-test.true _ c.in_err-row.ensures)

pub returns-in_err-item-clause-reads : goal.returns-in_err-item-clause-reads
returns-in_err-item-clause-reads c =
    let p = err_from_is_err_and c.from_residual-in_err-item.result c.from_residual-in_err-item.ensures.1 in
    rw (p.1, p.2) (sym c.loop-item.invariant.reads
    ∙ items-wrong _ _ _ _ _ c.loop-item-test.true _ _ _ c.in_ok-row.ensures c.in_err-item.ensures)
