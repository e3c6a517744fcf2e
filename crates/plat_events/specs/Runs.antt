-- runs of single events: over a list of actors, and by the schedule of the machine
use Rattle.std.specs.Prelude.{◌≡◌, ℕ, zero, suc, not, false, List, [], ◌∷◌, map, filter, length, take, Option, Some, None, slice_get}
use Rattle.std.specs.Prelude.{slice_set, slice_index}
use Rattle.std.specs.List.{fold}
use Rattle.std.specs.Option.{option_map_or}
use Rattle.plat_base.specs.Verdicts.{Answer}
use Rattle.plat_base.specs.Machine.{Machine}
use Rattle.plat_base.specs.Pages.{numbers}
use Rattle.plat_base.specs.Schedule.{Chooser, chooser_start, choose}
use Rattle.plat_base.specs.declared.items.Item.{Item}
use Rattle.plat_base.specs.declared.endings.End.{End}
use Rattle.plat_base.specs.declared.endings.End.TheVariants as end
use Rattle.plat_base.specs.declared.endings.Ended.{Ended}
use Rattle.plat_base.specs.declared.words.Op.{Op}
use Rattle.plat_events.specs.Places.{first_words}
use Rattle.plat_events.specs.Operations.{written, told}
use Rattle.plat_events.specs.Privates.{Place, Polling, Looking, Applying, Ticking, Switching, Loading, Expecting, Exchanging, Locking}
use Rattle.plat_events.specs.Privates.{InSession, Leaving, Lessening, Gone, LiveLooking, TimeLooking, Over, Private, first_privates}
use Rattle.plat_events.specs.Privates.{is_over}
use Rattle.plat_events.specs.Events.{next_of, after, item_of, with_item}

-- the shared words, the private state of each actor, and the history
pub record Fine : Type 0 where
  pub words : List ℕ
  pub privates : List Private
  pub history : List Item

abbrev pub fine_start : Machine → Fine
fine_start m = record { words = first_words m; privates = first_privates m; history = [] }

-- ---- one event

abbrev pub event_at : Machine → Answer → Fine → (a : ℕ) → Private → Option (ℕ × Op) → Fine
event_at m answer s a p (Some x) =
    let n = slice_index s.words x.0
    in record {
      words = slice_set s.words x.0 (written x.1 n);
      privates = slice_set s.privates a (after m answer a p (told x.1 n));
      history = with_item s.history (item_of m answer a p (told x.1 n));
    }
event_at m answer s a p None = s

abbrev pub event_by : Machine → Answer → Fine → (a : ℕ) → Option Private → Fine
event_by m answer s a (Some p) = event_at m answer s a p (next_of m answer a p)
event_by m answer s a None = s

-- the next event of an actor; nothing changes where it has ended
abbrev pub event : Machine → Answer → Fine → ℕ → Fine
event m answer s a = event_by m answer s a (slice_get s.privates a)

-- ---- runs

abbrev pub run_from : Machine → Answer → Fine → List ℕ → Fine
run_from m answer s who = fold (event m answer) s who

-- the events of a list of actors, from the start
unfoldable pub run : Machine → Answer → List ℕ → Fine
run m answer who = run_from m answer (fine_start m) who

-- the actor has a next event
abbrev pub IsLive : Machine → Answer → Fine → ℕ → Type 0
IsLive m answer s a = (p : Private) × (slice_get s.privates a ≡ Some p) × (x : ℕ × Op) × (next_of m answer a p ≡ Some x)

-- each actor of the list has one when it comes
abbrev pub AllLive : Machine → Answer → Fine → List ℕ → Type 0
AllLive m answer s [] = Unit {0}
AllLive m answer s (a ∷ who) = IsLive m answer s a × AllLive m answer (event m answer s a) who

-- the events of this list of actors lead to these words and private states
pub record Reached (m : Machine) (answer : Answer) (words : List ℕ) (privates : List Private) (who : List ℕ) : Type 0 where
  pub words_are : (run m answer who).words ≡ words
  pub privates_are : (run m answer who).privates ≡ privates
  pub live : AllLive m answer (fine_start m) who

-- ---- ends

abbrev pub end_at : Place → End
end_at (Polling onward) = end.Cut
end_at (Looking i moment onward) = end.Cut
end_at (Applying i message moment onward) = end.Cut
end_at Ticking = end.Cut
end_at (Switching space) = end.Cut
end_at Loading = end.Cut
end_at Expecting = end.Cut
end_at (Exchanging seen) = end.Cut
end_at (Locking fault) = end.Cut
end_at (InSession session) = end.Cut
end_at (Leaving e) = end.Cut
end_at (Lessening e) = end.Cut
end_at (Gone e) = e
end_at LiveLooking = end.Cut
end_at TimeLooking = end.Cut
end_at Over = end.Cut

abbrev pub ended_by : Private → Ended
ended_by p = record { end = end_at p.place; turns = p.turns }

-- the ends of the processors; Cut where one has not ended
abbrev pub ends_of : Machine → List Private → List Ended
ends_of m privates = map ended_by (take m.nodes privates)

-- ---- the run by the schedule

-- actors that have not ended, in rising number
abbrev pub live_actors : List Private → List ℕ
live_actors privates =
    filter (λ a. option_map_or (λ (p : Private). not (is_over p.place)) (slice_get privates a) false) (numbers (length privates))

pub record ScheduledFine : Type 0 where
  pub fine : Fine
  pub chooser : Chooser

abbrev pub with_chosen : Machine → Answer → ScheduledFine → Option (ℕ × Chooser) → ScheduledFine
with_chosen m answer x None = x
with_chosen m answer x (Some c) = record { fine = event m answer x.fine c.0; chooser = c.1 }

abbrev pub scheduled_event : Machine → Answer → ScheduledFine → ScheduledFine
scheduled_event m answer x = with_chosen m answer x (choose m.schedule (live_actors x.fine.privates) x.chooser)

abbrev pub fine_schedule_start : Machine → ScheduledFine
fine_schedule_start m = record { fine = fine_start m; chooser = chooser_start m.schedule }

-- the run after so many events, or as it ended before
abbrev pub scheduled_events : Machine → Answer → ℕ → ScheduledFine
scheduled_events m answer zero = fine_schedule_start m
scheduled_events m answer (suc k) = scheduled_event m answer (scheduled_events m answer k)

-- the most events of a simulated run
abbrev pub most_events : ℕ
most_events = 4194304

-- the simulated run of single events: it ends where every actor has ended, or after the most events
unfoldable pub fine_run : Machine → Answer → Fine
fine_run m answer = (scheduled_events m answer most_events).fine
