use Rattle.plat_base.specs.Seen.{machine}
use Rattle.plat_fine.proofs.RoomLemmas.{history-few}
use Rattle.plat_fine.proofs.fines.Fine.finish.Goals as goal

pub invariant_of-result : goal.invariant_of-result
invariant_of-result c =
    record {
      within = history-few (machine c.self.inside.cfg) c.self.inside.procs.items c.self.inside.daemon c.self.inside.port
          c.self.inside.history c.self.inside.cfg.limits c.self.invariant.0;
    }
