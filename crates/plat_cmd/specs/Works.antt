-- what each command does with what it read
use Rattle.std.specs.Prelude.{◌≡◌, ◌≢◌, ◌⊎◌, ℕ, ◌<◌, ◌≤◌, Bool, true, false, List, [], Option, Some, None, IsTrue, Ok, replicate}
use Rattle.plat_base.specs.Machine.{Machine}
use Rattle.plat_base.specs.Schedule.{coarse_run}
use Rattle.plat_base.specs.Verdicts.{Answer, policy_answer}
use Rattle.plat_base.specs.Runs.{IsCoherentRun, IsOver, GuestsEnd}
use Rattle.plat_base.specs.Histories.{AtEachAccess, IsLegalMemory}
use Rattle.plat_base.specs.Coherent.{FindsFrameWord}
use Rattle.plat_base.specs.Rules.{first_bad, Good}
use Rattle.plat_base.specs.Report.{report, summary}
use Rattle.plat_base.specs.Canon.{canon_text}
use Rattle.plat_base.specs.Statuses.{status_of, ends_as}
use Rattle.plat_grammar.specs.Grammar.{IsTextOf}
use Rattle.plat_grammar.specs.FirstFault.{text_at}
use Rattle.plat_grammar.specs.HistoryCanon.{History, history_text}
use Rattle.plat_base.specs.declared.items.Item.{Item}
use Rattle.plat_base.specs.declared.endings.End.TheVariants as end
use Rattle.plat_base.specs.declared.endings.Ended.{Ended}
use Rattle.plat_base.specs.declared.statuses.Bad.{Bad}
use Rattle.plat_base.specs.declared.statuses.Status.{Status}
use Rattle.plat_base.specs.declared.statuses.Status.TheVariants as status
use Rattle.plat_events.specs.Runs.{most_events, fine_run}
use Rattle.plat_events.specs.Runs.{ends_of as fine_ends}
use Rattle.plat_event_laws.specs.Scheduled.{IsRunWithin}
use Rattle.plat_events.specs.Merges.{merged}
use Rattle.plat_table.specs.Closed.{ClosedSeen, IsRun}
use Rattle.plat_io.specs.Adds.{is_part}
use Rattle.plat_io.specs.Streams.{HasRisen, added}
use Rattle.plat_io.specs.declared.sinks.Sink.{Ghosts}
use Rattle.plat_cmd.specs.declared.words.Command.{Command}
use Rattle.plat_cmd.specs.declared.words.Command.TheVariants as command
use Rattle.plat_cmd.specs.declared.words.Grain.{Grain}
use Rattle.plat_cmd.specs.declared.words.Grain.TheVariants as grain
use Rattle.plat_cmd.specs.declared.words.Output.{Output}
use Rattle.plat_cmd.specs.declared.words.Output.TheVariants as output
use Rattle.plat_gen.specs.Generated.{generated}
use Rattle.plat_gen_laws.specs.Halts.{halted_in}
use Rattle.plat_cost.specs.CostLines.{cost_text}
use Rattle.plat_race.specs.Orders.{KeepsOrder, items_at}
use Rattle.plat_race.specs.Races.{first_race}
use Rattle.plat_cmd.specs.Races.{race_text}
use Rattle.plat_cmd.specs.Inputs.{Told, input_of, reads_some}

-- ---- what was written

-- the bytes were added to the sink, or, where the status is WriteFault, a part of them from the front, and its count of
-- faults has risen
pub record IsWritten {K : Type 0} (sink : Ghosts K) (old new : K) (now : Status) (bytes : List ℕ) : Type 0 where
  pub whole : now ≢ status.WriteFault → sink.holds new ≡ added (sink.holds old) bytes
  pub part : now ≡ status.WriteFault → IsTrue (is_part (sink.holds old) bytes (sink.holds new))
  pub risen : now ≡ status.WriteFault → HasRisen (sink.faults old) (sink.faults new)
  pub count : sink.faults old ≤ sink.faults new
  pub size : sink.size new ≡ sink.size old

-- the status is this one, or WriteFault
abbrev pub IsOrWriteFault : Status → Status → Type 0
IsOrWriteFault complete now = (now ≡ complete) ⊎ (now ≡ status.WriteFault)

-- ---- check

-- the canonical text of m was written; it is a text of m, and is read as m again
pub record HasPrinted {K : Type 0} (sink : Ghosts K) (m : Machine)
    (old new : K) (now : Status) (kept : List Item) (ran : Option ClosedSeen) : Type 0 where
  pub written : IsWritten sink old new now (canon_text m)
  pub ended : IsOrWriteFault status.Done now
  pub text : IsTextOf (canon_text m) m
  pub read_again : text_at (canon_text m) ≡ Ok m
  pub history : kept ≡ []
  pub no_threads : ran ≡ None

-- ---- sim

-- the history of the run by whole instructions, or by single operations, under a policy that answers so
abbrev pub history_under : Grain → Machine → Answer → List Item
history_under grain.Coarse m answer = (coarse_run m answer).history
history_under grain.Fine m answer = (fine_run m answer).history

abbrev pub ends_under : Grain → Machine → Answer → List Ended
ends_under grain.Coarse m answer = (coarse_run m answer).ends
ends_under grain.Fine m answer = fine_ends m (fine_run m answer).privates

-- the same under the policy that the text of the machine names
abbrev pub history_of : Grain → Machine → List Item
history_of g m = history_under g m (policy_answer m.policy)

abbrev pub ends_of : Grain → Machine → List Ended
ends_of g m = ends_under g m (policy_answer m.policy)

-- the run ends at a limit of events, whoever is live then
abbrev pub is_limited : Grain → Bool
is_limited grain.Coarse = false
is_limited grain.Fine = true

-- what a run writes
abbrev pub output_of : Output → Machine → List Item → List Ended → List ℕ
output_of output.Report m items ends = report m items ends
output_of output.Trace m items ends = history_text (record { machine = m; items = items; ends = ends })

-- what is known of the coarse run alone
pub record IsWholeRun (m : Machine) (answer : Answer) (kept : List Item) : Type 0 where
  -- each access finds its value in the frame that it goes to
  pub frames : AtEachAccess kept (FindsFrameWord m)
  -- every processor ended
  pub over : IsOver m (ends_under grain.Coarse m answer)

-- how the run of a grain came to its end: a run of single operations is one of live actors, and an end is cut only where the
-- most events were made
abbrev pub IsRunOf : Grain → Machine → Answer → List Item → Type 0
IsRunOf grain.Coarse m answer kept = IsWholeRun m answer kept
IsRunOf grain.Fine m answer kept = IsRunWithin m answer most_events (fine_run m answer)

-- the run of m of this grain under a policy that answers so was made and kept, and its output was written
pub record HasRun {K : Type 0} (answer : Answer) (g : Grain) (o : Output) (sink : Ghosts K) (m : Machine)
    (old new : K) (now : Status) (kept : List Item) (ran : Option ClosedSeen) : Type 0 where
  -- the history that is kept is that of the run
  pub history : kept ≡ history_under g m answer
  -- it breaks no rule and is one history of flat memory; nobody is spent, or lacks a frame, without need
  pub coherent : IsCoherentRun m answer kept (ends_under g m answer)
  pub run : IsRunOf g m answer kept
  -- printed values, final memory and counts are this history's
  pub written : IsWritten sink old new now (output_of o m kept (ends_under g m answer))
  -- EventLimit where the most events were made and some end is cut, else the status of the ends
  pub ended : IsOrWriteFault (status_of (ends_under g m answer) (is_limited g)) now
  pub no_threads : ran ≡ None

-- ---- run

-- a run of m on threads, what it left, and the history that was kept of it
pub record IsThreadRun (m : Machine) (left : ClosedSeen) (kept : List Item) : Type 0 where
  pub machine : left.machine ≡ m
  -- single operations of live actors lead to what was left, and after them every actor has ended
  pub run : IsRun left
  -- the history that is kept is the merge of what each actor did
  pub history : kept ≡ merged left.journals.lists
  -- it breaks no rule and is one history of flat memory; nobody is spent, or lacks a frame, without need
  pub coherent : IsCoherentRun m (policy_answer m.policy) kept left.ends
  -- every processor ended
  pub over : IsOver m left.ends

-- a run of m on threads was made, its history and what it left were kept, and its output was written
pub record HasThreaded {K : Type 0} (o : Output) (sink : Ghosts K) (m : Machine)
    (old new : K) (now : Status) (kept : List Item) (ran : Option ClosedSeen) : Type 0 where
  pub left : ClosedSeen
  pub threads : ran ≡ Some left
  pub run : IsThreadRun m left kept
  -- printed values, final memory and counts are this history's
  pub written : IsWritten sink old new now (output_of o m kept left.ends)
  pub ended : IsOrWriteFault (status_of left.ends false) now

-- ---- replay

-- the first bad item of a history, with its rule
abbrev pub first_bad_of : History → Option Bad
first_bad_of h = first_bad h.machine (policy_answer h.machine.policy) h.items h.ends

-- the history h was kept, and its report was written
pub record HasReplayed {K : Type 0} (sink : Ghosts K) (h : History)
    (old new : K) (now : Status) (kept : List Item) (ran : Option ClosedSeen) : Type 0 where
  pub history : kept ≡ h.items
  -- it breaks no rule and is one history of flat memory; nobody is spent, or lacks a frame, without need
  pub coherent : IsCoherentRun h.machine (policy_answer h.machine.policy) kept h.ends
  -- printed values, final memory and counts are this history's
  pub written : IsWritten sink old new now (report h.machine kept h.ends)
  pub ended : IsOrWriteFault (status_of h.ends false) now
  pub no_threads : ran ≡ None

-- no item and no end breaks a rule, and no processor was spent or lacked a frame
pub record IsDoneHistory (h : History) : Type 0 where
  pub good : Good h.machine (policy_answer h.machine.policy) h.items h.ends
  pub unspent : ends_as end.Spent h.ends ≡ false
  pub framed : ends_as end.NoFrames h.ends ≡ false

-- ---- race

-- the first race of the history h was written, or that it has none
pub record HasRaced {K : Type 0} (sink : Ghosts K) (h : History)
    (old new : K) (now : Status) (kept : List Item) (ran : Option ClosedSeen) : Type 0 where
  -- it breaks no rule and is one history of flat memory; nobody is spent, or lacks a frame, without need
  pub coherent : IsCoherentRun h.machine (policy_answer h.machine.policy) h.items h.ends
  -- the race is the first one of this history
  pub written : IsWritten sink old new now (race_text h.items)
  -- without a race every list of the same accesses, each once and none behind one that it is before, is legal
  pub free :
      first_race h.items ≡ None → (places : List ℕ) → KeepsOrder h.items places → IsLegalMemory h.machine (items_at h.items places)
  pub ended : IsOrWriteFault status.Done now
  pub history : kept ≡ []
  pub no_threads : ran ≡ None

-- ---- cost

-- the costs of the history h were written, page by page, and their sums
pub record HasCosted {K : Type 0} (sink : Ghosts K) (h : History)
    (old new : K) (now : Status) (kept : List Item) (ran : Option ClosedSeen) : Type 0 where
  -- it breaks no rule and is one history of flat memory; nobody is spent, or lacks a frame, without need
  pub coherent : IsCoherentRun h.machine (policy_answer h.machine.policy) h.items h.ends
  -- each page's plan is the first of those that cost least
  pub written : IsWritten sink old new now (cost_text h.machine h.items)
  pub ended : IsOrWriteFault status.Done now
  pub history : kept ≡ []
  pub no_threads : ran ≡ None

-- ---- big

-- the coarse run of the n-th generated machine was made and kept, and its summary was written
pub record HasSummed {K : Type 0} (n : ℕ) (sink : Ghosts K) (m : Machine)
    (old new : K) (now : Status) (kept : List Item) (ran : Option ClosedSeen) : Type 0 where
  -- the history that is kept is that of the coarse run
  pub history : kept ≡ history_of grain.Coarse m
  -- it breaks no rule and is one history of flat memory; nobody lacks a frame
  pub coherent : IsCoherentRun m (policy_answer m.policy) kept (ends_of grain.Coarse m)
  -- each access finds its value in the frame that it goes to
  pub frames : AtEachAccess kept (FindsFrameWord m)
  -- every processor halted in the same turn
  pub halted : ends_of grain.Coarse m ≡ replicate 8 (halted_in 40008)
  pub written : IsWritten sink old new now (summary n m kept (ends_of grain.Coarse m))
  pub ended : IsOrWriteFault status.Done now
  pub no_threads : ran ≡ None

-- ---- each command

-- what a command does with what it read
abbrev pub HasDone : {K : Type 0} (c : Command) → Ghosts K → Told (input_of c) → K → K → Status → List Item → Option ClosedSeen → Type 0
HasDone command.Check sink m old new now kept ran = HasPrinted sink m old new now kept ran
HasDone (command.Sim g o) sink m old new now kept ran = HasRun (policy_answer m.policy) g o sink m old new now kept ran
HasDone (command.Run o) sink m old new now kept ran = HasThreaded o sink m old new now kept ran
HasDone (command.Gen n) sink it old new now kept ran = HasPrinted sink (generated n) old new now kept ran
HasDone (command.Big n) sink it old new now kept ran = HasSummed n sink (generated n) old new now kept ran
HasDone command.Replay sink h old new now kept ran = HasReplayed sink h old new now kept ran
HasDone command.Race sink h old new now kept ran = HasRaced sink h old new now kept ran
HasDone command.Cost sink h old new now kept ran = HasCosted sink h old new now kept ran

-- how the processors ended, by what threads left
abbrev pub ends_left : Option ClosedSeen → List Ended
ends_left None = []
ends_left (Some left) = left.ends

-- all that a command writes of what it read, with the history that it kept and what its threads left
abbrev pub whole_output : (c : Command) → Told (input_of c) → List Item → Option ClosedSeen → List ℕ
whole_output command.Check m kept ran = canon_text m
whole_output (command.Sim g o) m kept ran = output_of o m kept (ends_of g m)
whole_output (command.Run o) m kept ran = output_of o m kept (ends_left ran)
whole_output (command.Gen n) it kept ran = canon_text (generated n)
whole_output (command.Big n) it kept ran = summary n (generated n) kept (ends_of grain.Coarse (generated n))
whole_output command.Replay h kept ran = report h.machine kept h.ends
whole_output command.Race h kept ran = race_text h.items
whole_output command.Cost h kept ran = cost_text h.machine h.items

-- what is bad of a history, where the status says it
abbrev pub bad_of : Status → Option Bad
bad_of status.Done = None
bad_of (status.HistoryBad bad) = Some bad
bad_of (status.Refused refused) = None
bad_of status.NoFrames = None
bad_of status.Spent = None
bad_of status.EventLimit = None
bad_of status.ReadFault = None
bad_of status.WriteFault = None
bad_of status.OutOfMemory = None
bad_of status.BadWords = None

-- what a command read is a history whose first bad item is this
abbrev pub IsFirstBad : (c : Command) → Told (input_of c) → Bad → Type 0
IsFirstBad command.Check m bad = ⊥
IsFirstBad (command.Sim g o) m bad = ⊥
IsFirstBad (command.Run o) m bad = ⊥
IsFirstBad (command.Gen n) it bad = ⊥
IsFirstBad (command.Big n) it bad = ⊥
IsFirstBad command.Replay h bad = first_bad_of h ≡ Some bad
IsFirstBad command.Race h bad = first_bad_of h ≡ Some bad
IsFirstBad command.Cost h bad = first_bad_of h ≡ Some bad

-- done, but for want of memory
abbrev pub IsDoneWithMemory : Status → Type 0
IsDoneWithMemory now = (now ≡ status.Done) ⊎ (now ≡ status.OutOfMemory)

-- some processor found no frame, and there are too few
abbrev pub LacksFrames : Machine → Status → Type 0
LacksFrames m now = (m.frames < m.pages) × (now ≡ status.NoFrames)

-- the most events were made, and some processor had not ended
abbrev pub ReachesLimit : Grain → Machine → Status → Type 0
ReachesLimit grain.Coarse m now = ⊥
ReachesLimit grain.Fine m now = (ends_as end.Cut (ends_of grain.Fine m) ≡ true) × (now ≡ status.EventLimit)

-- what a command comes to where no read and no write fails: to its end, but for want of memory. A run of guests that halt or
-- trap within the budget, on the values that they get in the history, can come to want of frames too, if there are too few, and
-- a run of single operations to its limit of events
abbrev pub ComesToEnd : (c : Command) → Told (input_of c) → Status → List Item → Type 0
ComesToEnd command.Check m now kept = IsDoneWithMemory now
ComesToEnd (command.Sim g o) m now kept = GuestsEnd m kept → IsDoneWithMemory now ⊎ LacksFrames m now ⊎ ReachesLimit g m now
ComesToEnd (command.Run o) m now kept = GuestsEnd m kept → IsDoneWithMemory now ⊎ LacksFrames m now
ComesToEnd (command.Gen n) it now kept = IsDoneWithMemory now
ComesToEnd (command.Big n) it now kept = IsDoneWithMemory now
ComesToEnd command.Replay h now kept = IsDoneHistory h → IsDoneWithMemory now
ComesToEnd command.Race h now kept = first_bad_of h ≡ None → IsDoneWithMemory now
ComesToEnd command.Cost h now kept = first_bad_of h ≡ None → IsDoneWithMemory now

-- a command whose guests may spend their budgets, or lack a frame
abbrev pub is_run : Command → Bool
is_run command.Check = false
is_run (command.Sim g o) = true
is_run (command.Run o) = true
is_run (command.Gen n) = false
is_run (command.Big n) = false
is_run command.Replay = true
is_run command.Race = false
is_run command.Cost = false

abbrev pub is_judge : Command → Bool
is_judge command.Check = false
is_judge (command.Sim g o) = false
is_judge (command.Run o) = false
is_judge (command.Gen n) = false
is_judge (command.Big n) = false
is_judge command.Replay = true
is_judge command.Race = true
is_judge command.Cost = true

-- a command whose run may reach its limit of events
abbrev pub may_reach_limit : Command → Bool
may_reach_limit command.Check = false
may_reach_limit (command.Sim g o) = is_limited g
may_reach_limit (command.Run o) = false
may_reach_limit (command.Gen n) = false
may_reach_limit (command.Big n) = false
may_reach_limit command.Replay = false
may_reach_limit command.Race = false
may_reach_limit command.Cost = false

-- the statuses that a command can end with
abbrev pub may_end : Command → Status → Bool
may_end c status.Done = true
may_end c (status.HistoryBad bad) = is_judge c
may_end c (status.Refused refused) = reads_some (input_of c)
may_end c status.NoFrames = is_run c
may_end c status.Spent = is_run c
may_end c status.EventLimit = may_reach_limit c
may_end c status.ReadFault = reads_some (input_of c)
may_end c status.WriteFault = true
may_end c status.OutOfMemory = true
may_end c status.BadWords = false
