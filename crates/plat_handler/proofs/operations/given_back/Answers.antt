use Rattle.std.proofs.Common.{◌∙◌, ap}
use Rattle.std.specs.Prelude.{slice_get}
use Rattle.plat_base.specs.Seen.{machine}
use Rattle.plat_base.specs.declared.policies.Decision.{Decision}
use Rattle.plat_handler.specs.Decided.{going_to}
use Rattle.plat_handler.specs.Phases.{decided}
use Rattle.plat_handler.proofs.DecisionLemmas.{going-none, going-some, going-frame}
use Rattle.plat_handler.proofs.operations.given_back.Goals as goal

pub unreachable-requires : goal.unreachable-requires
unreachable-requires c =
    let lock = c.args.lock.now in
    going-none lock.dir (decided (machine c.args.cfg.now) lock c.args.course.now) c.args.given c.requires.more
    (c.in-None.ensures ∙ ap (λ (d : Decision). slice_get (going_to lock.dir d.after) c.args.given) c.decision-after.ensures)

pub returns-clause-frame : goal.returns-clause-frame
returns-clause-frame c =
    let lock = c.args.lock.now in
    going-some lock.dir (decided (machine c.args.cfg.now) lock c.args.course.now) c.args.given c.in-Some.frame
    (c.in-Some.ensures ∙ ap (λ (d : Decision). slice_get (going_to lock.dir d.after) c.args.given) c.decision-after.ensures)

pub returns-clause-within : goal.returns-clause-within
returns-clause-within c =
    going-frame (machine c.args.cfg.now) c.args.lock.now.dir c.decision-after.result.after c.args.given c.in-Some.frame
    c.requires.decides.dir
    c.in-Some.ensures
