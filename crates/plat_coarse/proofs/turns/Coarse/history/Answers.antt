use Rattle.std.proofs.Common.{ap, sym, subst, ◌∙◌, List}
use Rattle.plat_base.specs.Rules.{Good}
use Rattle.plat_base.specs.declared.items.Item.{Item}
use Rattle.plat_coarse_laws.proofs.TurnLaws.{good_of_sound}
use Rattle.plat_coarse.specs.CoarseSeen.{CoarseSeen}
use Rattle.plat_coarse.specs.Running.{state_of}
use Rattle.plat_coarse.proofs.turns.Coarse.history.Goals as goal

-- src/turns.rt:149:5
pub returns-clause-good : goal.returns-clause-good
returns-clause-good g c =
    let inside = c.self.inside.chronicle in
    let good = good_of_sound inside.machine (g.P.Policy.answer c.self.inside.policy) (state_of inside c.self.inside.ends.items)
    c.self.invariant.0.sound in
    let seen = subst (λ (s : CoarseSeen _). Good s.machine (g.P.Policy.answer s.policy) s.run.history s.run.ends) c.self.view_is good in
    subst (λ (is : List Item). Good c.args.self.now.machine (g.P.Policy.answer c.args.self.now.policy) is c.args.self.now.run.ends)
    (sym (c.items.ensures.items ∙ ap (λ (s : CoarseSeen _). s.run.history) c.self.view_is)) seen
