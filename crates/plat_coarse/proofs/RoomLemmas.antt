-- the limits that bound a run's history
use Rattle.std.proofs.Common.{◌*◌, ◌≤◌}
use Rattle.std.proofs.lemmas.Nat.{mul-le}
use Rattle.plat_base.specs.Seen.{machine}
use Rattle.plat_base.specs.declared.configs.Config.{Config}
use Rattle.plat_laws.proofs.Limits.{nodes-most, budget-most}

pub turns_most : (cfg : Config) → cfg.nodes * cfg.budget ≤ 524288
turns_most cfg =
    mul-le cfg.nodes cfg.budget 8 65536 (nodes-most (machine cfg) cfg.limits) (budget-most (machine cfg) cfg.limits)
