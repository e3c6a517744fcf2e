use Rattle.std.proofs.Common.{◌≡◌, ◌∙◌, ap, sym, subst, None}
use Rattle.std.specs.Prelude.{◌==◌, if◌then◌else◌, Option}
use Rattle.plat_base.specs.Seen.{machine}
use Rattle.plat_events.specs.Events.{at}
use Rattle.plat_events.specs.Privates as events
use Rattle.plat_handler.specs.HandlerSeen.{HandlerSeen}
use Rattle.plat_daemon.specs.Places.{place_seen}
use Rattle.plat_daemon.specs.DaemonSeen.{DaemonSeen, state_of}
use Rattle.plat_daemon.specs.Fits.{told_to}
use Rattle.plat_daemon.proofs.StageLemmas.{told-kept}
use Rattle.plat_daemon.proofs.DaemonLemmas.{seen_at, told-live}
use Rattle.plat_daemon.proofs.daemons.Daemon.lived.Goals as goal

pub returns-then-is_word-clause-state : goal.returns-then-is_word-clause-state
returns-then-is_word-clause-state c =
    let m = machine c.args.cfg.now in let it = c.self.inside in let n = c.args.found in
    let x = seen_at it.tick it.due it.page it.place it.handler it.journal in
    let there = ap (λ (y : DaemonSeen). y.place) c.self.view_is ∙ c.requires.place in
    let none : it.handler ≡ None = ap (λ (y : DaemonSeen). y.handler) c.self.view_is ∙ c.requires.handler in
    let seen = subst
    (λ (o : Option HandlerSeen). place_seen o c.after_live-self-inside.result ≡ (if n == 0 then events.Over else events.TimeLooking))
    (sym none)
    c.after_live-self-inside.ensures in
    subst
    (λ (y : DaemonSeen). state_of m (seen_at it.tick it.due it.page c.after_live-self-inside.result it.handler it.journal) ≡ told_to m y n)
    c.self.view_is
    (ap (λ (place : events.Place). at (state_of m x) place) seen ∙ sym (told-live m x n there (sym c.is_word.ensures ∙ c.if-is_word.true)))

pub returns-else-is_word-clause-state : goal.returns-else-is_word-clause-state
returns-else-is_word-clause-state c =
    told-kept (machine c.args.cfg.now) c.args.self.now c.args.found events.LiveLooking c.requires.place
    (sym c.is_word.ensures ∙ c.if-is_word.false)
