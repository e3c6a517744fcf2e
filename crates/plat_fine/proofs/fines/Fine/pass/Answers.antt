use Rattle.std.proofs.Common.{Option, Some, ap, sym, ◌∙◌, subst}
use Rattle.std.specs.Prelude.{not, Bool}
use Rattle.plat_base.specs.Seen.{machine}
use Rattle.plat_base.specs.Verdicts.{policy_answer}
use Rattle.plat_events.specs.Runs.{event as event_of}
use Rattle.plat_daemon.specs.DaemonSeen.{DaemonSeen, went_to}
use Rattle.plat_fine.specs.Crew.{privates_of}
use Rattle.plat_fine.specs.FineSeen.{FineSeen, RunsOn, is_live}
use Rattle.plat_fine.proofs.EventLemmas.{fine_of}
use Rattle.plat_fine.proofs.ActorLemmas.{live-daemon}
use Rattle.plat_fine.proofs.RunLemmas.{HasSwept, room-left_swept, RunsOn-swept, event-swept}
use Rattle.plat_fine.proofs.fines.Fine.pass.Goals.{After-sweep-made}
use Rattle.plat_fine.proofs.fines.Fine.pass.Goals as goal

-- the event that the daemon made
swept : (c : After-sweep-made) → HasSwept (machine c.self.inside.cfg) c.in-Some.daemon c.sweep-made.new.daemon c.self.inside.port
    c.sweep-made.new.port c.sweep-made.result
swept c =
    let made = c.sweep-made.ensures in
    record { event = made.event; item = made.item; fits = made.fits; count = made.words }

-- the run before it
runs : (c : After-sweep-made) → RunsOn (machine c.self.inside.cfg) c.self.inside.procs.items (Some c.in-Some.daemon) c.self.inside.port
    c.self.inside.history
runs c =
    let m = machine c.self.inside.cfg in
    subst (λ (d : Option DaemonSeen). RunsOn m c.self.inside.procs.items d c.self.inside.port c.self.inside.history) c.in-Some.is
    c.self.invariant.0

pub keep-requires : goal.keep-requires
keep-requires c =
    let at = (goal.at.keep-requires c).After-sweep-made in room-left_swept (swept at) c.self.inside.cfg.limits (runs at)

pub invariant_of-self : goal.invariant_of-self
invariant_of-self c =
    let at = (goal.at.invariant_of-self c).After-sweep-made
    in (RunsOn-swept (swept at) (runs at) c.keep.ensures.items c.keep.ensures.room, c.self.invariant.1)

pub returns-clause-event : goal.returns-clause-event
returns-clause-event c =
    let m = machine c.self.inside.cfg in
    let procs = c.self.inside.procs.items in
    event-swept (swept (goal.at.returns-clause-event c).After-sweep-made) procs c.self.inside.history.items c.self.invariant.0.all
    c.keep.ensures.items
    ∙ ap (λ (d : Option DaemonSeen). event_of m (policy_answer m.policy)
    (fine_of c.self.inside.port (privates_of m procs d) c.self.inside.history.items) m.nodes) (sym c.in-Some.is)
    ∙ ap (λ (s : FineSeen). event_of s.machine (policy_answer s.machine.policy) s.fine s.machine.nodes) c.self.view_is

pub returns-clause-went : goal.returns-clause-went
returns-clause-went c =
    let m = machine c.self.inside.cfg in
    let procs = c.self.inside.procs.items in
    let y = c.sweep-made.new.daemon in
    c.went_by.ensures ∙ ap (λ (b : Bool). went_to (not b)) c.is_over.ensures
    ∙ ap went_to (sym (live-daemon m procs y c.self.invariant.0.all))
    ∙ ap (λ (s : FineSeen). went_to (is_live (privates_of m procs (Some y)) s.machine.nodes)) c.self.view_is
