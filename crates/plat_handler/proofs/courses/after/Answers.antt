use Rattle.std.proofs.Common.{subst, arith}
use Rattle.plat_base.specs.Seen.{machine}
use Rattle.plat_base.proofs.LimitLemmas.{nodes_most}
use Rattle.plat_events.specs.Sessions.{Returning}
use Rattle.plat_handler.specs.Decided.{RunsOn}
use Rattle.plat_handler.specs.Phases.{answer_of, session_seen, stamp_seen, decided}
use Rattle.plat_handler.specs.declared.phases.Phase.{Phase}
use Rattle.plat_handler.proofs.ModuleLemmas.{tried-few}
use Rattle.plat_handler.proofs.DecisionLemmas.{going-few}
use Rattle.plat_handler.proofs.courses.after.Goals as goal

pub pool_found-requires-clause-few : goal.pool_found-requires-clause-few
pool_found-requires-clause-few c =
    let m = machine c.args.cfg.now in let lock = c.args.lock.now in
    let fits = subst (λ (p : Phase). RunsOn m lock p) c.in-Seeking.is c.requires in
    omega (
      arith,
      fits.1.1,
      tried-few m (answer_of m) lock.actor lock.tick (session_seen lock Returning) (stamp_seen c.in-Seeking.stamp)
          (nodes_most c.args.cfg.now),
    )

pub pool_found-requires-else-old-seen-clause-few : goal.pool_found-requires-else-old-seen-clause-few
pool_found-requires-else-old-seen-clause-few c =
    let m = machine c.args.cfg.now in let lock = c.args.lock.now in
    let fits = subst (λ (p : Phase). RunsOn m lock p) c.in-Taking.is c.requires in
    omega (
      arith,
      fits.1.0.1,
      tried-few m (answer_of m) lock.actor lock.tick (session_seen lock Returning) (stamp_seen c.in-Taking.stamp)
          (nodes_most c.args.cfg.now),
    )

pub overflow_add-given : goal.overflow_add-given
overflow_add-given c =
    let m = machine c.args.cfg.now in let lock = c.args.lock.now in
    let fits = subst (λ (p : Phase). RunsOn m lock p) c.in-Giving.is c.requires in
    omega (arith, fits.1.1, going-few lock.dir (decided m lock c.in-Giving.course), c.count-copies.ensures.count)
