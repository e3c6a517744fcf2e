-- the decision of a fault or a thaw, where it may be asked for
use Rattle.std.specs.Prelude.{ℕ, Option, Some, None, if◌then◌else◌}
use Rattle.plat_base.specs.Verdicts.{Answer}
use Rattle.plat_base.specs.Machine.{Machine}
use Rattle.plat_base.specs.Decide.{decide, may_decide}
use Rattle.plat_base.specs.declared.frames.Dir.{Dir}
use Rattle.plat_base.specs.declared.frames.Frame.{Frame}
use Rattle.plat_base.specs.declared.items.Cause.{Cause}
use Rattle.plat_base.specs.declared.policies.Decision.{Decision}

abbrev pub decided_if_may : Machine → Answer → Dir → Option ℕ → (now node : ℕ) → Cause → Option Frame → Option Decision
decided_if_may m answer dir last now node cause got =
    if may_decide m answer dir last now node cause got then Some (decide m answer dir last now node cause got) else None
