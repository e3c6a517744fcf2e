-- the limits of a machine, from those of the Config that describes it
use Rattle.std.proofs.Common.{◌≡◌, subst}
use Rattle.plat_base.specs.Machine.{Machine}
use Rattle.plat_base.specs.Seen.{machine}
use Rattle.plat_base.specs.declared.configs.Config.{Config}
use Rattle.plat_laws.specs.Guests.{IsWithinLimits}

pub limits_of : (cfg : Config) (m : Machine) → machine cfg ≡ m → IsWithinLimits m
limits_of cfg m is = subst IsWithinLimits is cfg.limits
