use Rattle.std.proofs.Common.{◌≡◌, ◌∙◌, true, false, if◌then◌else◌, ap, sym, arith}
use Rattle.std.specs.Prelude.{◌==◌, ◌&&◌, not}
use Rattle.std.proofs.lemmas.Bool.Decides.{nat_tests}
use Rattle.plat_base.specs.Seen.{machine}
use Rattle.plat_events.specs.Sessions.{Returning, Stamping}
use Rattle.plat_handler.specs.Phases.{fault_seen}
use Rattle.plat_handler.specs.Stages.{Locks, Relocks, Runs}
use Rattle.plat_handler.specs.declared.phases.Found.TheVariants.{Nothing, Taken, Free}
use Rattle.plat_handler.proofs.LockLemmas.{stage-found}
use Rattle.plat_handler.proofs.sessions.locked.Goals as goal

pub returns-in-Nothing-clause-stage : goal.returns-in-Nothing-clause-stage
returns-in-Nothing-clause-stage c =
    let lock = c.args.lock.now in
    stage-found (machine c.args.cfg.now) lock.actor lock.tick c.args.old (fault_seen lock.fault) Nothing c.in-Nothing.ensures.found

pub returns-then-lock-cfg-clause-stage : goal.returns-then-lock-cfg-clause-stage
returns-then-lock-cfg-clause-stage c =
    let m = machine c.args.cfg.now in let lock = c.args.lock.now in let fault = fault_seen lock.fault in
    let daemon : (lock.actor == m.nodes) ≡ true = grind (arith, nat_tests, c.if-lock-cfg.true) in
    ap (λ b. if b then Locks fault else Relocks fault) (sym daemon)
    ∙ stage-found m lock.actor lock.tick c.args.old fault Taken c.in-Taken.ensures.found

pub returns-else-lock-cfg-clause-stage : goal.returns-else-lock-cfg-clause-stage
returns-else-lock-cfg-clause-stage c =
    let m = machine c.args.cfg.now in let lock = c.args.lock.now in let fault = fault_seen lock.fault in
    let processor : (lock.actor == m.nodes) ≡ false = grind (arith, nat_tests, c.if-lock-cfg.false) in
    ap (λ b. if b then Locks fault else Relocks fault) (sym processor)
    ∙ stage-found m lock.actor lock.tick c.args.old fault Taken c.in-Taken.ensures.found

pub returns-then-not-frozen-clause-stage : goal.returns-then-not-frozen-clause-stage
returns-then-not-frozen-clause-stage c =
    let m = machine c.args.cfg.now in let lock = c.args.lock.now in let fault = fault_seen lock.fault in
    let dir = c.in-Free.dir in
    let idle : (lock.actor == m.nodes && not dir.frozen) ≡ true =
    grind (arith, nat_tests, c.if-lock-cfg-2.true, c.if-not-frozen.true) in
    ap (λ b. Runs (record { fault = fault; dir = dir; phase = if b then Returning else Stamping })) (sym idle)
    ∙ stage-found m lock.actor lock.tick c.args.old fault (Free dir) c.in-Free.ensures.found

pub returns-else-lock-cfg-2-clause-stage : goal.returns-else-lock-cfg-2-clause-stage
returns-else-lock-cfg-2-clause-stage c =
    let m = machine c.args.cfg.now in let lock = c.args.lock.now in let fault = fault_seen lock.fault in
    let dir = c.in-Free.dir in
    let stamps : (lock.actor == m.nodes && not dir.frozen) ≡ false = grind (arith, nat_tests, c.else-lock-cfg-2.either) in
    ap (λ b. Runs (record { fault = fault; dir = dir; phase = if b then Returning else Stamping })) (sym stamps)
    ∙ stage-found m lock.actor lock.tick c.args.old fault (Free dir) c.in-Free.ensures.found
