use Rattle.std.proofs.lemmas.Result.{err_from_is_err_and}
use Rattle.plat_machine.proofs.MachineLaws.{machine-wrong, machine-right, read-limits, read-guests, read-short}
use Rattle.plat_machine.proofs.whole.read_machine.Goals as goal

pub has_short_text-requires : goal.has_short_text-requires
has_short_text-requires c = read-guests _ _ _ c.in_ok-front.ensures

pub returns-in_err-next : goal.returns-in_err-next
returns-in_err-next c =
    let p = err_from_is_err_and c.from_residual-in_err-next.result c.from_residual-in_err-next.ensures.1 in
    rw (p.1, p.2) (machine-wrong _ _ _ c.in_ok-front.ensures _ _ c.in_ok-short.ensures c.in_err-next.ensures)

pub invariant_of-config : goal.invariant_of-config
invariant_of-config c = record {
  limits = read-limits _ _ _ c.in_ok-front.ensures;
  short = read-short _ _ _ c.in_ok-front.ensures _ _ _ c.in_ok-short.ensures c.in_ok-next.ensures;
}

pub returns : goal.returns
returns c = machine-right _ _ _ c.in_ok-front.ensures _ _ _ c.in_ok-short.ensures c.in_ok-next.ensures
