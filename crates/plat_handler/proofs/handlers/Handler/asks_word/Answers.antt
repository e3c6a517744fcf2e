use Rattle.std.proofs.Common.{◌≡◌, ◌∙◌, Option, ap, sym, subst}
use Rattle.plat_shoot.specs.ShootSeen.{ShootSeen}
use Rattle.plat_handler.specs.Phases.{stage_seen, shooting_seen, GoesOn, IsUnderWay, ShootsWell}
use Rattle.plat_handler.specs.HandlerSeen.{HandlerSeen, ask_of, is_word_asked}
use Rattle.plat_handler.specs.declared.phases.Stage.{Stage}
use Rattle.plat_handler.proofs.HandlerLemmas.{asks-shooting}
use Rattle.plat_handler.proofs.handlers.Handler.asks_word.Goals as goal

pub returns-in-Some : goal.returns-in-Some
returns-in-Some c = λ m.
    let it = c.self.inside in let course = c.in-Shooting.field-0 in let shoot : ShootSeen = c.in-Some.shoot in
    let goes : GoesOn shoot.shoot =
    subst (λ (o : Option ShootSeen). IsUnderWay o) c.in-Some.is
    (subst (λ (st : Stage). ShootsWell it.shoot st) c.in-Shooting.is c.self.invariant) in
    subst (λ (h : HandlerSeen). c.needs_word.result ≡ is_word_asked (ask_of m h.actor h.now h.stage)) c.self.view_is
    (c.needs_word.ensures m ∙ asks-shooting m it.lock course shoot goes
    ∙ ap (λ (o : Option ShootSeen). is_word_asked (ask_of m it.lock.actor it.lock.tick (shooting_seen it.lock course o)))
    (sym c.in-Some.is)
    ∙ ap (λ (st : Stage). is_word_asked (ask_of m it.lock.actor it.lock.tick (stage_seen it.lock it.shoot st))) (sym c.in-Shooting.is))
