use Rattle.std.proofs.Common.{◌≡◌, ◌∙◌, ap, sym, subst}
use Rattle.plat_base.specs.Seen.{machine}
use Rattle.plat_handler.specs.Phases.{stage_seen, posts_in}
use Rattle.plat_handler.specs.HandlerSeen.{HandlerSeen, ask_of}
use Rattle.plat_handler.specs.declared.asks.Ask.TheVariants as ask
use Rattle.plat_handler.specs.declared.phases.Stage.{Stage}
use Rattle.plat_handler.proofs.HandlerLemmas.{ask-thawed}
use Rattle.plat_handler.proofs.handlers.Handler.next.Goals as goal

pub returns-then-self-cfg-2 : goal.returns-then-self-cfg-2
returns-then-self-cfg-2 c =
    let m = machine c.args.cfg.now in let it = c.self.inside in
    subst (λ (h : HandlerSeen). ask.Thawed c.change-change.result ≡ ask_of m h.actor h.now h.stage) c.self.view_is
    (ask-thawed m it.lock (posts_in it.shoot) c.in-Changed.course c.change-change.result c.change-change.ensures c.if-self-cfg-2.true
    ∙ ap (λ (st : Stage). ask_of m it.lock.actor it.lock.tick (stage_seen it.lock it.shoot st)) (sym c.in-Changed.is))
