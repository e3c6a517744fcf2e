-- what the parts of a command do
use Rattle.std.specs.Prelude.{◌≡◌, ℕ, List, [], Option, None, IfSome, Result, Ok, Err}
use Rattle.plat_base.specs.Machine.{Machine}
use Rattle.plat_base.specs.Schedule.{Scheduled}
use Rattle.plat_base.specs.Verdicts.{policy_answer}
use Rattle.plat_base.specs.Statuses.{status_of}
use Rattle.plat_base.specs.declared.endings.Ended.{Ended}
use Rattle.plat_base.specs.declared.items.Item.{Item}
use Rattle.plat_base.specs.declared.statuses.Status.{Status}
use Rattle.plat_base.specs.declared.statuses.Status.TheVariants as status
use Rattle.plat_io.specs.Streams.{HasRisen}
use Rattle.plat_io.specs.declared.faults.WriteFault.{WriteFault}
use Rattle.plat_io.specs.declared.sinks.Sink.{Ghosts}
use Rattle.plat_coarse.specs.CoarseSeen.{CoarseSeen}
use Rattle.plat_events.specs.Runs.{ScheduledFine, scheduled_event, scheduled_events}
use Rattle.plat_fine.specs.FineSeen.{FineSeen}
use Rattle.plat_sched.specs.ScheduleSeen.{ScheduleSeen}
use Rattle.plat_cmd.specs.Inputs.{Input, machine_text, history_text, nothing, IsFault}
use Rattle.plat_table.specs.Closed.{ClosedSeen}
use Rattle.plat_cmd.specs.Works.{IsWritten, IsOrWriteFault, is_limited, output_of}
use Rattle.plat_cmd.specs.declared.words.Grain.{Grain}
use Rattle.plat_cmd.specs.declared.words.Output.{Output}
use Rattle.plat_cmd.specs.declared.outcomes.Outcome.{Outcome}
use Rattle.plat_cmd.specs.declared.outcomes.Stop.{Stop}
use Rattle.plat_cmd.specs.declared.outcomes.Stop.TheVariants as stop

-- ---- reading a text

-- why nothing was read of the bytes that a source told, if it told them
abbrev pub IsStop : Input → Option (List ℕ) → (faults_before faults_after : ℕ) → Stop → Type 0
IsStop i told before after (stop.Refused r) = IfSome told (λ bytes. IsFault i bytes r)
IsStop i told before after stop.ReadFault = HasRisen before after
IsStop i told before after stop.OutOfMemory = Unit {0}

-- a command that reads nothing stops for want of memory alone, and leaves its source as it was
abbrev pub StopsAs : {S : Type 0} → Input → (before after : S) → Stop → Type 0
StopsAs machine_text before after s = Unit {0}
StopsAs history_text before after s = Unit {0}
StopsAs nothing before after (stop.Refused r) = ⊥
StopsAs nothing before after stop.ReadFault = ⊥
StopsAs nothing before after stop.OutOfMemory = after ≡ before

-- a text of this is not refused, and nothing else is read
abbrev pub AcceptsAs : {X : Type 0} → X → Result X Stop → Type 0
AcceptsAs it (Ok read) = read ≡ it
AcceptsAs it (Err (stop.Refused r)) = ⊥
AcceptsAs it (Err stop.ReadFault) = Unit {0}
AcceptsAs it (Err stop.OutOfMemory) = Unit {0}

abbrev pub read_as : {X Y E : Type 0} → (X → Y) → Result X E → Result Y E
read_as view (Ok x) = Ok (view x)
read_as view (Err e) = Err e

abbrev pub stop_status : Stop → Status
stop_status (stop.Refused r) = status.Refused r
stop_status stop.ReadFault = status.ReadFault
stop_status stop.OutOfMemory = status.OutOfMemory

-- a command stopped before it wrote anything
pub record HasStopped {K : Type 0} (stopped : Stop) (old new : K) (out : Outcome) : Type 0 where
  pub ended : out.status ≡ stop_status stopped
  pub history : out.kept.items ≡ []
  pub no_threads : out.ran ≡ None
  pub sink : new ≡ old

-- ---- a coarse run

-- a run and its schedule as they stand, as the definition of the coarse run has them
abbrev pub standing : {P : Type 0} → CoarseSeen P → ScheduleSeen → Scheduled
standing k s = record { coarse = k.run; chooser = s.chooser }

-- ---- a run of single operations

-- a run and its schedule as they stand, as the definition of the simulated run has them
abbrev pub standing_fine : FineSeen → ScheduleSeen → ScheduledFine
standing_fine x s = record { fine = x.fine; chooser = s.chooser }

-- one more event, by the schedule and the policy of the machine
abbrev pub own_event : Machine → ScheduledFine → ScheduledFine
own_event m x = scheduled_event m (policy_answer m.policy) x

-- the simulated run after so many events
abbrev pub after_events : Machine → ℕ → ScheduledFine
after_events m events = scheduled_events m (policy_answer m.policy) events

-- ---- writing

-- the status of a command that has this one once all is written
abbrev pub status_after : Status → Result (Unit {0}) WriteFault → Status
status_after complete (Ok _) = complete
status_after complete (Err _) = status.WriteFault

-- what a run writes of these items and ends was written, and the items were kept
pub record HasShown {K : Type 0} (g : Grain) (o : Output) (sink : Ghosts K) (m : Machine) (items : List Item) (ends : List Ended)
    (old new : K) (now : Status) (kept : List Item) (ran : Option ClosedSeen) : Type 0 where
  pub history : kept ≡ items
  pub written : IsWritten sink old new now (output_of o m items ends)
  pub ended : IsOrWriteFault (status_of ends (is_limited g)) now
  pub no_threads : ran ≡ None
