use Rattle.plat_base.specs.Machine.{programs_seen}
use Rattle.plat_samples.specs.Samples.{small}
use Rattle.plat_base.proofs.EntryLimits.{entries_most}
use Rattle.plat_samples.proofs.machines.small.Goals as goal

pub new-requires : goal.new-requires
new-requires c =
    let few = entries_most
    (small c.args.sizes c.args.policy c.args.entries.now c.args.inits.now (programs_seen c.args.guests.items)) c.requires.limits
    in record { few = rw c.in_ok-entries.ensures few }
