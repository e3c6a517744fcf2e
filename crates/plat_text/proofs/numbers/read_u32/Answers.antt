use Rattle.std.proofs.Common.{arith}
use Rattle.plat_text.proofs.NumberLemmas.{number_at_end, number_too_large}
use Rattle.plat_text.proofs.numbers.read_u32.Goals as goal

pub returns-in-None : goal.returns-in-None
returns-in-None c =
    let i = c.loop-digit.invariant in
    number_too_large c.args.word.now c.loop-digit.digit-index c.loop-digit.value i.1 c.loop-digit-test.true i.3
    (omega (arith, c.in-None.ensures))

pub returns : goal.returns
returns c =
    let i = c.loop-digit.invariant in
    number_at_end c.args.word.now c.loop-digit.digit-index c.loop-digit.value i.1 c.loop-digit-test.false i.3 i.0
