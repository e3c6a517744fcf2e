use Rattle.std.proofs.Common.{◌≡◌, sym}
use Rattle.plat_base.specs.Seen.{machine}
use Rattle.plat_handler.specs.Phases.{answer_of, decided}
use Rattle.plat_handler.proofs.FaultLemmas.{frame-decide, got-decide}
use Rattle.plat_handler.proofs.operations.taken.Goals as goal

got_is : (c : goal.In-Some) → (decided (machine c.args.cfg.now) c.args.lock.now c.args.course.now).frame ≡ c.in-Some.frame
got_is c =
    let m = machine c.args.cfg.now in let lock = c.args.lock.now in let course = c.args.course.now in
    got-decide m (answer_of m) lock.dir course.stamp.last lock.tick lock.actor lock.fault.cause course.got c.in-Some.frame
    c.requires.dir c.requires.fits c.in-Some.is

pub returns-in-Some-clause-frame : goal.returns-in-Some-clause-frame
returns-in-Some-clause-frame c = sym (got_is c)

pub returns-in-Some-clause-within : goal.returns-in-Some-clause-within
returns-in-Some-clause-within c =
    let m = machine c.args.cfg.now in let lock = c.args.lock.now in let course = c.args.course.now in
    rw (← got_is c)
    (frame-decide m (answer_of m) lock.dir course.stamp.last lock.tick lock.actor lock.fault.cause course.got c.requires.dir
    c.requires.fits)

pub returns-in-None-clause-within : goal.returns-in-None-clause-within
returns-in-None-clause-within c =
    let m = machine c.args.cfg.now in let lock = c.args.lock.now in let course = c.args.course.now in
    rw c.decision.ensures
    (frame-decide m (answer_of m) lock.dir course.stamp.last lock.tick lock.actor lock.fault.cause course.got c.requires.dir
    c.requires.fits)
