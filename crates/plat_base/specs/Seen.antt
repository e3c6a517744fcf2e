-- the machine that a Config describes
use Rattle.plat_base.specs.Machine.{Machine, machine_of}
use Rattle.plat_base.specs.declared.configs.Config.{Config}

abbrev pub machine : Config → Machine
machine cfg =
    machine_of cfg.nodes cfg.frames cfg.words cfg.pages cfg.policy cfg.budget cfg.schedule cfg.distances cfg.entries cfg.inits cfg.guests
