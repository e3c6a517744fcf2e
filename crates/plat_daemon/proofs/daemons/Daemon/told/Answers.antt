use Rattle.std.proofs.Common.{◌≡◌, ◌<◌, ◌≤◌, ◌*◌, ◌∙◌, ◌++◌, ◌∷◌, [], refl, ap, sym, subst, Some}
use Rattle.plat_base.specs.Seen.{machine}
use Rattle.plat_base.specs.declared.items.Item.TheVariants as item
use Rattle.plat_events.specs.Events.{at, page_done}
use Rattle.plat_events.specs.Privates.{Private}
use Rattle.plat_handler.specs.HandlerSeen.{asked, is_word_asked}
use Rattle.plat_handler.specs.declared.asks.Ask.TheVariants as ask
use Rattle.plat_daemon.specs.declared.daemons.Place.{Place}
use Rattle.plat_daemon.specs.Places.{place_seen, HandlesWell}
use Rattle.plat_daemon.specs.DaemonSeen.{DaemonSeen, state_of}
use Rattle.plat_daemon.specs.Fits.{Fits, told_to}
use Rattle.plat_handler.proofs.HandlerLemmas.{is_word_asked-word}
use Rattle.plat_daemon.proofs.StageLemmas.{told-asks, not_asked, page_done-made}
use Rattle.plat_daemon.proofs.DaemonLemmas.{seen_at, at_page, page-below, now-most, thaw-room}
use Rattle.plat_daemon.proofs.daemons.Daemon.told.Goals as goal

pub invariant_of-self : goal.invariant_of-self
invariant_of-self c =
    let m = machine c.args.cfg.now in let it = c.self.inside in
    let x = seen_at it.tick it.due it.page it.place it.handler it.journal in let h = c.in-Some.handler in let k = c.after.new.self in
    let page = at_page m x h it.handler it.place c.in-Some.is refl refl c.self.invariant
    (subst (Fits m) (sym c.self.view_is) c.requires.fits) in
    let word = is_word_asked-word (asked m k) (sym (c.asks_word.ensures m) ∙ c.if-asks_word.true) in
    let asks = told-asks m x h k c.args.found (ask.Word word.0 word.1) page.1 c.after.ensures.after c.after.ensures.actor
    c.after.ensures.now word.2 in
    subst (λ (place : Place). HandlesWell (Some k) place) (sym page.0) asks.3

pub note-requires : goal.note-requires
note-requires c =
    let m = machine c.args.cfg.now in let it = c.self.inside in
    let x = seen_at it.tick it.due it.page it.place it.handler it.journal in let h = c.in-Some.handler in let k = c.after.new.self in
    let fits = subst (Fits m) (sym c.self.view_is) c.requires.fits in
    let page = at_page m x h it.handler it.place c.in-Some.is refl refl c.self.invariant fits in
    let asks = told-asks m x h k c.args.found (ask.Thawed c.in-Thawed.change) page.1 c.after.ensures.after c.after.ensures.actor
    c.after.ensures.now c.in-Thawed.ensures in
    let room = thaw-room m x c.args.found (item.Change c.in-Thawed.change) c.args.cfg.now.limits fits
    (ap (λ (q : Private). q.journal) asks) in
    room

pub page_done-requires-clause-page : goal.page_done-requires-clause-page
page_done-requires-clause-page c =
    let m = machine c.args.cfg.now in let it = c.self.inside in
    let x = seen_at it.tick it.due it.page it.place it.handler it.journal in
    let page = at_page m x c.in-Some.handler it.handler it.place c.in-Some.is refl refl c.self.invariant
    (subst (Fits m) (sym c.self.view_is) c.requires.fits) in
    subst (λ (y : DaemonSeen). y.page < m.pages) (sym c.note.ensures) (page-below m x c.in-Some.handler page.1)

pub page_done-requires-clause-now : goal.page_done-requires-clause-now
page_done-requires-clause-now c =
    let m = machine c.args.cfg.now in let it = c.self.inside in
    let x = seen_at it.tick it.due it.page it.place it.handler it.journal in
    subst (λ (y : DaemonSeen). y.now ≤ m.nodes * m.budget) (sym c.note.ensures)
    (now-most m x c.args.cfg.now.limits (subst (Fits m) (sym c.self.view_is) c.requires.fits))

pub page_done-requires-in-NotFrozen-clause-page : goal.page_done-requires-in-NotFrozen-clause-page
page_done-requires-in-NotFrozen-clause-page c =
    let m = machine c.args.cfg.now in let it = c.self.inside in
    let x = seen_at it.tick it.due it.page it.place it.handler it.journal in
    let page = at_page m x c.in-Some.handler it.handler it.place c.in-Some.is refl refl c.self.invariant
    (subst (Fits m) (sym c.self.view_is) c.requires.fits) in
    page-below m x c.in-Some.handler page.1

pub page_done-requires-in-NotFrozen-clause-now : goal.page_done-requires-in-NotFrozen-clause-now
page_done-requires-in-NotFrozen-clause-now c =
    let m = machine c.args.cfg.now in let it = c.self.inside in
    let x = seen_at it.tick it.due it.page it.place it.handler it.journal in
    now-most m x c.args.cfg.now.limits (subst (Fits m) (sym c.self.view_is) c.requires.fits)

pub unreachable-requires-in-Word : goal.unreachable-requires-in-Word
unreachable-requires-in-Word c =
    let m = machine c.args.cfg.now in let it = c.self.inside in
    let x = seen_at it.tick it.due it.page it.place it.handler it.journal in let h = c.in-Some.handler in let k = c.after.new.self in
    let page = at_page m x h it.handler it.place c.in-Some.is refl refl c.self.invariant
    (subst (Fits m) (sym c.self.view_is) c.requires.fits) in
    let asks = told-asks m x h k c.args.found c.next.result page.1 c.after.ensures.after c.after.ensures.actor c.after.ensures.now
    c.next.ensures in
    not_asked m x (told_to m x c.args.found) k.stage c.next.result asks
    (ap is_word_asked c.next.ensures ∙ sym (c.asks_word.ensures m) ∙ c.if-asks_word.false) c.in-Word.is

pub returns-then-asks_word-clause-state : goal.returns-then-asks_word-clause-state
returns-then-asks_word-clause-state c =
    let m = machine c.args.cfg.now in let it = c.self.inside in
    let x = seen_at it.tick it.due it.page it.place it.handler it.journal in let h = c.in-Some.handler in let k = c.after.new.self in
    let fits = subst (Fits m) (sym c.self.view_is) c.requires.fits in
    let page = at_page m x h it.handler it.place c.in-Some.is refl refl c.self.invariant fits in
    let word = is_word_asked-word (asked m k) (sym (c.asks_word.ensures m) ∙ c.if-asks_word.true) in
    let asks = told-asks m x h k c.args.found (ask.Word word.0 word.1) page.1 c.after.ensures.after c.after.ensures.actor
    c.after.ensures.now word.2 in
    subst
    (λ (y : DaemonSeen). state_of m (seen_at it.tick it.due it.page it.place (Some k) it.journal) ≡ told_to m y c.args.found)
    c.self.view_is
    (ap (λ (place : Place). at (state_of m x) (place_seen (Some k) place)) page.0 ∙ sym asks.0)

pub returns-then-asks_word-clause-sweeping : goal.returns-then-asks_word-clause-sweeping
returns-then-asks_word-clause-sweeping c =
    let m = machine c.args.cfg.now in let it = c.self.inside in
    let x = seen_at it.tick it.due it.page it.place it.handler it.journal in let h = c.in-Some.handler in let k = c.after.new.self in
    let fits = subst (Fits m) (sym c.self.view_is) c.requires.fits in
    let page = at_page m x h it.handler it.place c.in-Some.is refl refl c.self.invariant fits in
    let word = is_word_asked-word (asked m k) (sym (c.asks_word.ensures m) ∙ c.if-asks_word.true) in
    let asks = told-asks m x h k c.args.found (ask.Word word.0 word.1) page.1 c.after.ensures.after c.after.ensures.actor
    c.after.ensures.now word.2 in
    record {
      actor = c.after.ensures.actor ∙ page.1.sweeps.actor;
      now = c.after.ensures.now ∙ page.1.sweeps.now;
      page = asks.1;
      stands = asks.2;
      on = c.after.ensures.fits;
    }

pub returns-in-Thawed-clause-state : goal.returns-in-Thawed-clause-state
returns-in-Thawed-clause-state c =
    let m = machine c.args.cfg.now in let it = c.self.inside in
    let x = seen_at it.tick it.due it.page it.place it.handler it.journal in let h = c.in-Some.handler in let k = c.after.new.self in
    let fits = subst (Fits m) (sym c.self.view_is) c.requires.fits in
    let page = at_page m x h it.handler it.place c.in-Some.is refl refl c.self.invariant fits in
    let asks = told-asks m x h k c.args.found (ask.Thawed c.in-Thawed.change) page.1 c.after.ensures.after c.after.ensures.actor
    c.after.ensures.now c.in-Thawed.ensures in
    subst (λ (y : DaemonSeen). state_of m c.page_done.new.self ≡ told_to m y c.args.found) c.self.view_is
    (c.page_done.ensures.state
    ∙ ap (λ (y : DaemonSeen). page_done m (state_of m y) y.page) c.note.ensures
    ∙ page_done-made m (state_of m x) (place_seen (Some k) it.place) (it.journal.items ++ item.Change c.in-Thawed.change ∷ []) it.page
    ∙ sym asks)

pub returns-in-NotFrozen-clause-state : goal.returns-in-NotFrozen-clause-state
returns-in-NotFrozen-clause-state c =
    let m = machine c.args.cfg.now in let it = c.self.inside in
    let x = seen_at it.tick it.due it.page it.place it.handler it.journal in let h = c.in-Some.handler in let k = c.after.new.self in
    let fits = subst (Fits m) (sym c.self.view_is) c.requires.fits in
    let page = at_page m x h it.handler it.place c.in-Some.is refl refl c.self.invariant fits in
    let asks = told-asks m x h k c.args.found ask.NotFrozen page.1 c.after.ensures.after c.after.ensures.actor c.after.ensures.now
    c.in-NotFrozen.ensures in
    subst (λ (y : DaemonSeen). state_of m c.page_done-in-NotFrozen.new.self ≡ told_to m y c.args.found) c.self.view_is
    (c.page_done-in-NotFrozen.ensures.state
    ∙ page_done-made m (state_of m x) (place_seen (Some k) it.place) it.journal.items it.page
    ∙ sym (page_done-made m (state_of m x) (place_seen it.handler it.place) it.journal.items it.page)
    ∙ sym asks)
