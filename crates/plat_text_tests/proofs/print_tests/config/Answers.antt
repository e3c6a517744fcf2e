use Rattle.plat_base.proofs.EntryLimits.{entries_most}
use Rattle.plat_base.specs.Machine.{programs_seen, turns_of}
use Rattle.plat_text_tests.specs.PrintTried.{tried}
use Rattle.plat_text_tests.proofs.print_tests.config.Goals as goal

pub new-requires : goal.new-requires
new-requires c =
    let few = entries_most
    (tried c.args.nodes c.args.policy (turns_of c.args.schedule) c.args.distances.now c.args.entries.now c.args.inits.now
    (programs_seen c.args.guests.items)) c.requires.limits
    in record { few = rw c.in_ok-entries.ensures few }
