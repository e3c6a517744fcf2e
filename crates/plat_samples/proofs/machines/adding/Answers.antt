use Rattle.plat_base.specs.Machine.{program_seen}
use Rattle.plat_samples.proofs.SampleLemmas.{adding_limits, adding_short}
use Rattle.plat_samples.proofs.machines.adding.Goals as goal

pub two_nodes-requires-clause-limits : goal.two_nodes-requires-clause-limits
two_nodes-requires-clause-limits c =
    adding_limits (program_seen c.in_ok-first.first) (program_seen c.in_ok-second.second) c.in_ok-first.ensures c.in_ok-second.ensures

pub two_nodes-requires-clause-short : goal.two_nodes-requires-clause-short
two_nodes-requires-clause-short c =
    adding_short (program_seen c.in_ok-first.first) (program_seen c.in_ok-second.second) c.in_ok-first.ensures c.in_ok-second.ensures
