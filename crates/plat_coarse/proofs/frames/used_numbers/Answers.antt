use Rattle.std.proofs.Common.{arith}
use Rattle.std.proofs.lemmas.Bool.Decides.{nat_tests}
use Rattle.plat_coarse.proofs.FrameLemmas.{is_used_before-more}
use Rattle.plat_coarse.proofs.frames.used_numbers.Goals as goal
use Rattle.plat_coarse.proofs.frames.used_numbers.Goals.{in-Some, in_default}

pub loop-page-preserved : goal.loop-page-preserved
loop-page-preserved c = λ number within.
    let before = c.loop-page.invariant number within in
    let more = is_used_before-more c.loop-page.page c.args.chronicle.now.items c.args.module number in
    elim c.match-on.branch [
      | in-Some w ↦ grind (arith, nat_tests, before, more, w.with_number-used.ensures number within, w.in-Some.ensures)
      | in_default w ↦ grind (arith, nat_tests, before, more)
    ]
