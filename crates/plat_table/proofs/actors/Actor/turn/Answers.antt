use Rattle.std.proofs.Common.{arith, subst}
use Rattle.plat_base.proofs.LimitLemmas.{limits_of}
use Rattle.plat_base.specs.Seen.{machine}
use Rattle.plat_table.specs.declared.actors.Part.TheVariants as part
use Rattle.plat_table.specs.Actors.{PartFits}
use Rattle.plat_table.proofs.ActorLemmas.{turns-most}
use Rattle.plat_table.proofs.actors.Actor.turn.Goals as goal

pub overflow_add-result : goal.overflow_add-result
overflow_add-result c =
    let m = machine c.args.cfg.now in
    let fits : PartFits m c.args.self.now.number (part.Processor c.in-Processor.proc) =
    subst (PartFits m c.args.self.now.number) c.in-Processor.is c.requires.fits in
    let few = turns-most m c.args.self.now.number (part.Processor c.in-Processor.proc) c.args.cfg.now.limits fits in
    let budget = (limits_of m c.args.cfg.now.limits).budget_most in
    omega (arith, few, budget, c.turns.ensures)
