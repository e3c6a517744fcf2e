use Rattle.std.proofs.Common.{subst, sym}
use Rattle.std.specs.Prelude.{IsTrue}
use Rattle.plat_base.specs.Canon.{is_short}
use Rattle.plat_base.specs.Machine.{Machine, is_machine}
use Rattle.plat_gen.proofs.GeneratedLimits.{generated-limits, generated-short, generated-seen}
use Rattle.plat_gen.proofs.generated.generate.Goals as goal

-- src/generated.rt:43:5
pub invariant_of-result : goal.invariant_of-result
invariant_of-result c =
    let seen = generated-seen c.args.n c.new.result c.in_ok-entries.field-0 c.new-2.result c.in_ok-guests.field-0 c.new.ensures
    c.in_ok-entries.ensures c.new-2.ensures c.in_ok-guests.ensures
    in record {
      limits = subst (λ (m : Machine). IsTrue (is_machine m)) (sym seen) (generated-limits c.args.n);
      short = subst (λ (m : Machine). IsTrue (is_short m)) (sym seen) (generated-short c.args.n);
    }

-- src/generated.rt:40:1
pub returns : goal.returns
returns c =
    generated-seen c.args.n c.new.result c.in_ok-entries.field-0 c.new-2.result c.in_ok-guests.field-0 c.new.ensures
    c.in_ok-entries.ensures c.new-2.ensures c.in_ok-guests.ensures
