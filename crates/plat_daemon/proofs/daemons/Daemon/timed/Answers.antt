use Rattle.std.proofs.Common.{◌≡◌, ◌≤◌, ◌∙◌, ap, sym, subst, arith}
use Rattle.plat_base.specs.Seen.{machine}
use Rattle.plat_events.specs.Privates as events
use Rattle.plat_daemon.specs.declared.daemons.Place.TheVariants as place
use Rattle.plat_daemon.specs.DaemonSeen.{DaemonSeen, state_of}
use Rattle.plat_daemon.specs.Fits.{told_to}
use Rattle.plat_daemon.proofs.StageLemmas.{told-kept}
use Rattle.plat_daemon.proofs.DaemonLemmas.{seen_at, told-early, told-due}
use Rattle.plat_daemon.proofs.daemons.Daemon.timed.Goals as goal

pub returns-then-not-is_word-clause-state : goal.returns-then-not-is_word-clause-state
returns-then-not-is_word-clause-state c =
    told-kept (machine c.args.cfg.now) c.args.self.now c.args.found events.TimeLooking c.requires.place
    (sym c.is_word.ensures ∙ c.if-not-is_word.true)

pub returns-then-found-from-clause-state : goal.returns-then-found-from-clause-state
returns-then-found-from-clause-state c =
    let m = machine c.args.cfg.now in let it = c.self.inside in let n = c.args.found in
    let x = seen_at it.tick it.due it.page it.place it.handler it.journal in
    let there = ap (λ (y : DaemonSeen). y.place) c.self.view_is ∙ c.requires.place in
    subst
    (λ (y : DaemonSeen). state_of m (seen_at it.tick it.due it.page place.LiveLooking it.handler it.journal) ≡ told_to m y n)
    c.self.view_is
    (sym (told-early m x n there (sym c.is_word.ensures ∙ c.if-not-is_word.false) (omega (arith, c.if-found-from.true, c.from.ensures))))

pub returns-else-found-from-clause-state : goal.returns-else-found-from-clause-state
returns-else-found-from-clause-state c =
    let m = machine c.args.cfg.now in let it = c.self.inside in let n = c.args.found in
    let x = seen_at it.tick it.due it.page it.place it.handler it.journal in
    let there = ap (λ (y : DaemonSeen). y.place) c.self.view_is ∙ c.requires.place in
    let late : it.due ≤ n = omega (arith, c.if-found-from.false, c.from.ensures) in
    subst (λ (y : DaemonSeen). state_of m c.sweep.new.self ≡ told_to m y n) c.self.view_is
    (c.sweep.ensures.state ∙ sym (told-due m x n there (sym c.is_word.ensures ∙ c.if-not-is_word.false) late))
