use Rattle.std.proofs.Common.{◌≡◌, ap, sym, ◌∙◌, arith}
use Rattle.std.specs.Prelude.{not, Bool}
use Rattle.plat_base.specs.Seen.{machine}
use Rattle.plat_base.specs.Verdicts.{policy_answer}
use Rattle.plat_events.specs.Privates.{is_over}
use Rattle.plat_events.specs.Runs.{ended_by, event as event_of}
use Rattle.plat_proc.specs.ProcSeen.{ProcSeen}
use Rattle.plat_daemon.specs.DaemonSeen.{went_to}
use Rattle.plat_fine.specs.Crew.{proc_at}
use Rattle.plat_fine.specs.FineSeen.{FineSeen}
use Rattle.plat_fine.proofs.RunLemmas.{HasStepped, proc-now, live-now, room-left, RunsOn-event, HasEnds-event, event-now}
use Rattle.plat_fine.proofs.fines.Fine.turn.Goals.{After-step-made, After-index-proc}
use Rattle.plat_fine.proofs.fines.Fine.turn.Goals as goal

-- the event that the processor made
stepped : (c : After-step-made) → HasStepped (machine c.self.inside.cfg) c.args.q c.self.inside.procs.items c.step-made.new.procs.items
    c.self.inside.port c.step-made.new.port c.step-made.result
stepped c =
    let made = c.step-made.ensures in
    record {
      there = omega (arith, c.requires.processor, ap (λ (s : FineSeen). s.machine.nodes) c.self.view_is, c.self.invariant.0.all);
      others = made.others;
      event = made.event;
      item = made.item;
      crew = made.crew;
      count = made.words;
    }

-- the processor after it
stands : (c : After-index-proc) → c.index-proc.result.now ≡ proc_at c.step-made.new.procs.items c.args.q
stands c = proc-now (stepped (goal.at.After-index-proc c).After-step-made) c.index-proc.ensures

pub keep-requires : goal.keep-requires
keep-requires c = room-left (stepped (goal.at.keep-requires c).After-step-made) c.self.inside.cfg.limits c.self.invariant.0

pub invariant_of-self : goal.invariant_of-self
invariant_of-self c =
    let made = stepped (goal.at.invariant_of-self c).After-step-made in
    let ended = c.ended.ensures ∙ ap (λ (x : ProcSeen). ended_by x.state) (stands (goal.at.invariant_of-self c).After-index-proc) in (
      RunsOn-event made c.self.invariant.0 c.keep.ensures.items c.keep.ensures.room,
      HasEnds-event made c.self.invariant.0.all c.self.invariant.1 ended,
    )

pub returns-clause-event : goal.returns-clause-event
returns-clause-event c =
    let made = stepped (goal.at.returns-clause-event c).After-step-made in
    event-now made c.self.inside.daemon c.self.inside.history.items c.keep.ensures.items
    ∙ ap (λ (s : FineSeen). event_of s.machine (policy_answer s.machine.policy) s.fine c.args.q) c.self.view_is

pub returns-clause-went : goal.returns-clause-went
returns-clause-went c =
    let at = goal.at.returns-clause-went c in
    c.went_by.ensures ∙ ap (λ (b : Bool). went_to (not b)) c.is_over.ensures
    ∙ ap (λ (x : ProcSeen). went_to (not (is_over x.state.place))) (stands at.After-index-proc)
    ∙ ap went_to (sym (live-now (stepped at.After-step-made) c.self.inside.daemon))
