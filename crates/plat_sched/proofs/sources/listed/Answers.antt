use Rattle.std.proofs.Common.{arith, ◌∙◌}
use Rattle.plat_sched.proofs.ListedLemmas.{passed, taken}
use Rattle.plat_sched.proofs.sources.listed.Goals as goal

pub returns-then-is_live-clause-chosen : goal.returns-then-is_live-clause-chosen
returns-then-is_live-clause-chosen c =
    c.loop-used.invariant.passed ∙ taken c.args.live c.args.actors.now c.loop-used.used (omega arith) cc

pub loop-used-preserved : goal.loop-used-preserved
loop-used-preserved c = record {
  within = omega arith;
  passed = c.loop-used.invariant.passed ∙ passed c.args.live c.args.actors.now c.loop-used.used (omega arith) cc;
}
