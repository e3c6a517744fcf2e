use Rattle.std.proofs.Common.{◌∙◌, ap, sym}
use Rattle.std.specs.Prelude.{slice_get}
use Rattle.plat_base.specs.Seen.{machine}
use Rattle.plat_base.specs.declared.policies.Decision.{Decision}
use Rattle.plat_events.specs.Sessions.{Returning}
use Rattle.plat_handler.specs.Decided.{going_to}
use Rattle.plat_handler.specs.Phases.{session_seen, course_seen}
use Rattle.plat_handler.proofs.DecisionLemmas.{give_from-some, give_from-none}
use Rattle.plat_handler.proofs.courses.give_from.Goals as goal

pub returns-in-Some : goal.returns-in-Some
returns-in-Some c = λ posts.
    let lock = c.args.lock.now in
    let found = ap (λ (d : Decision). slice_get (going_to lock.dir d.after) c.args.given) (sym c.decision-decision.ensures)
    ∙ sym c.in-Some.ensures in
    sym (give_from-some (machine c.args.cfg.now) lock.actor lock.tick (session_seen lock Returning) (course_seen posts c.args.course)
    c.args.given c.in-Some.field-0 found)

pub returns-in-None : goal.returns-in-None
returns-in-None c = λ posts.
    let lock = c.args.lock.now in
    let none = ap (λ (d : Decision). slice_get (going_to lock.dir d.after) c.args.given) (sym c.decision-decision.ensures)
    ∙ sym c.in-None.ensures in
    sym (give_from-none (machine c.args.cfg.now) lock.actor lock.tick (session_seen lock Returning) (course_seen posts c.args.course)
    c.args.given none)
