-- what a command promises follows from what it did, or from why it stopped
use Rattle.std.proofs.Common.{◌≡◌, ◌⊎◌, inl, inr, ℕ, ◌≤◌, true, false, Bool, List, [], refl, sym, ap, subst, ◌∙◌, ⊎_elim, arith}
use Rattle.std.specs.Prelude.{Option, None, Some, IfSome, IsSomeAnd, IfOk, IfErr, Result, Ok, Err}
use Rattle.plat_base.specs.Statuses.{status_of, ends_as, is_silent, refusal_of}
use Rattle.plat_base.specs.declared.endings.End.TheVariants as end
use Rattle.plat_base.specs.declared.endings.Ended.{Ended}
use Rattle.plat_base.specs.declared.items.Item.{Item}
use Rattle.plat_base.specs.Verdicts.{policy_answer}
use Rattle.plat_base.specs.declared.statuses.Bad.{Bad}
use Rattle.plat_base.specs.declared.statuses.Status.{Status}
use Rattle.plat_base.specs.declared.statuses.Status.TheVariants as status
use Rattle.plat_grammar.specs.HistoryCanon.{History}
use Rattle.plat_io.specs.Streams.{HasRisen, added}
use Rattle.plat_io.specs.Takes.{TakesCount}
use Rattle.plat_io.specs.declared.sinks.Sink.{Ghosts}
use Rattle.plat_io.specs.declared.sources.Source.{Ghosts as Reader}
use Rattle.plat_gen.specs.Generated.{generated}
use Rattle.plat_table.specs.Closed.{ClosedSeen}
use Rattle.plat_cmd.specs.Inputs.{Input, machine_text, history_text, nothing, input_of, reads_some, Told, IsRead}
use Rattle.plat_cmd.specs.Inputs.{HasRead, IfTold, IsFault, TakesText, too_long}
use Rattle.plat_cmd.specs.Works.{HasPrinted, HasSummed, HasDone, bad_of, first_bad_of, IsFirstBad, ComesToEnd, IsWritten, whole_output}
use Rattle.plat_cmd.specs.Works.{ends_left, output_of, ends_of, is_limited, is_run, is_judge, may_reach_limit, may_end}
use Rattle.plat_cmd.specs.Judgings.{HasFailed}
use Rattle.plat_cmd.specs.Promises.{IsNoRefusal, IsQuiet, IsEnded, CompletesWith, IsComplete, PromisesDoing, Promises}
use Rattle.plat_cmd.specs.Steps.{IsStop, StopsAs, HasStopped, stop_status}
use Rattle.plat_cmd.specs.declared.words.Command.{Command}
use Rattle.plat_cmd.specs.declared.words.Command.TheVariants as command
use Rattle.plat_cmd.specs.declared.words.WordsFault.{WordsFault}
use Rattle.plat_cmd.specs.declared.words.WordsFault.TheVariants as words
use Rattle.plat_cmd.specs.declared.outcomes.Outcome.{Outcome}
use Rattle.plat_cmd.specs.declared.outcomes.Stop.{Stop}
use Rattle.plat_cmd.specs.declared.outcomes.Stop.TheVariants as stop
use Rattle.plat_cmd.proofs.EndingLemmas.{is_run_status, run_status, unlimited_status, silent_run, told_no_refusal, told_no_bad}
use Rattle.plat_cmd.proofs.EndingLemmas.{uncut_status, finished_status, done_status}

-- ---- a command that did its work

pub may_run : (c : Command) → is_run c ≡ true → (s : Status) → is_run_status s ≡ true → (s ≡ status.EventLimit → may_reach_limit c ≡ true) →
    may_end c s ≡ true
may_run c runs status.Done h limit = refl
may_run c runs (status.HistoryBad bad) h limit = absurd cc
may_run c runs (status.Refused refused) h limit = absurd cc
may_run c runs status.NoFrames h limit = runs
may_run c runs status.Spent h limit = runs
may_run c runs status.EventLimit h limit = limit refl
may_run c runs status.ReadFault h limit = absurd cc
may_run c runs status.WriteFault h limit = refl
may_run c runs status.OutOfMemory h limit = refl
may_run c runs status.BadWords h limit = absurd cc

-- a run that is limited may reach its limit
pub may_be_limited : (ends : List Ended) (limit : Bool) → status_of ends limit ≡ status.EventLimit → limit ≡ true
may_be_limited ends true is = refl
may_be_limited ends false is = absurd (unlimited_status ends is)

module _ {K : Type 0} (sink : Ghosts K) (old new : K) (now : Status) (kept : List Item) (ran : Option ClosedSeen) where
  done_is_told : (c : Command) (it : Told (input_of c)) → HasDone c sink it old new now kept ran → is_silent now ≡ false
  done_is_told command.Check m done = ⊎_elim (λ is. ap is_silent is) (λ is. ap is_silent is) done.ended
  done_is_told (command.Sim g o) m done =
      ⊎_elim (λ is. ap is_silent is ∙ silent_run (status_of (ends_of g m) (is_limited g)) (run_status (ends_of g m) (is_limited g)))
      (λ is. ap is_silent is) done.ended
  done_is_told (command.Run o) m done =
      ⊎_elim (λ is. ap is_silent is ∙ silent_run (status_of done.left.ends false) (run_status done.left.ends false)) (λ is. ap is_silent is)
      done.ended
  done_is_told (command.Gen n) it done = ⊎_elim (λ is. ap is_silent is) (λ is. ap is_silent is) done.ended
  done_is_told (command.Big n) it done = ⊎_elim (λ is. ap is_silent is) (λ is. ap is_silent is) done.ended
  done_is_told command.Race h done = ⊎_elim (λ is. ap is_silent is) (λ is. ap is_silent is) done.ended
  done_is_told command.Cost h done = ⊎_elim (λ is. ap is_silent is) (λ is. ap is_silent is) done.ended
  done_is_told command.Replay h done =
      ⊎_elim (λ is. ap is_silent is ∙ silent_run (status_of h.ends false) (run_status h.ends false)) (λ is. ap is_silent is) done.ended

  done_may_end : (c : Command) (it : Told (input_of c)) → HasDone c sink it old new now kept ran → may_end c now ≡ true
  done_may_end command.Check m done = ⊎_elim (λ is. ap (may_end command.Check) is) (λ is. ap (may_end command.Check) is) done.ended
  done_may_end (command.Sim g o) m done =
      ⊎_elim
      (λ is. ap (may_end (command.Sim g o)) is
      ∙ may_run (command.Sim g o) refl (status_of (ends_of g m) (is_limited g)) (run_status (ends_of g m) (is_limited g))
      (may_be_limited (ends_of g m) (is_limited g)))
      (λ is. ap (may_end (command.Sim g o)) is) done.ended
  done_may_end (command.Run o) m done =
      ⊎_elim
      (λ is. ap (may_end (command.Run o)) is
      ∙ may_run (command.Run o) refl (status_of done.left.ends false) (run_status done.left.ends false)
      (may_be_limited done.left.ends false))
      (λ is. ap (may_end (command.Run o)) is) done.ended
  done_may_end (command.Gen n) it done = ⊎_elim (λ is. ap (may_end (command.Gen n)) is) (λ is. ap (may_end (command.Gen n)) is) done.ended
  done_may_end (command.Big n) it done = ⊎_elim (λ is. ap (may_end (command.Big n)) is) (λ is. ap (may_end (command.Big n)) is) done.ended
  done_may_end command.Race h done = ⊎_elim (λ is. ap (may_end command.Race) is) (λ is. ap (may_end command.Race) is) done.ended
  done_may_end command.Cost h done = ⊎_elim (λ is. ap (may_end command.Cost) is) (λ is. ap (may_end command.Cost) is) done.ended
  done_may_end command.Replay h done =
      ⊎_elim (λ is. ap (may_end command.Replay) is
      ∙ may_run command.Replay refl (status_of h.ends false) (run_status h.ends false) (may_be_limited h.ends false))
      (λ is. ap (may_end command.Replay) is) done.ended

  -- where no write fails, all was written
  all_of : (bytes : List ℕ) → IsWritten sink old new now bytes → IsQuiet (sink.faults old) (sink.faults new) →
      sink.holds new ≡ added (sink.holds old) bytes
  all_of bytes written quiet = written.whole (λ fault. quiet (written.risen fault))

  done_whole :
      (c : Command) (it : Told (input_of c)) → HasDone c sink it old new now kept ran → IsQuiet (sink.faults old) (sink.faults new)
      → sink.holds new ≡ added (sink.holds old) (whole_output c it kept ran)
  done_whole command.Check m done quiet = all_of _ done.written quiet
  done_whole (command.Sim g o) m done quiet = all_of _ done.written quiet
  done_whole (command.Run o) m done quiet =
      subst (λ (x : Option ClosedSeen). sink.holds new ≡ added (sink.holds old) (output_of o m kept (ends_left x))) (sym done.threads)
      (all_of (output_of o m kept done.left.ends) done.written quiet)
  done_whole (command.Gen n) it done quiet = all_of _ done.written quiet
  done_whole (command.Big n) it done quiet = all_of _ done.written quiet
  done_whole command.Replay h done quiet = all_of _ done.written quiet
  done_whole command.Race h done quiet = all_of _ done.written quiet
  done_whole command.Cost h done quiet = all_of _ done.written quiet

  pub done_complete : (c : Command) (it : Told (input_of c)) → HasDone c sink it old new now kept ran →
      IsQuiet (sink.faults old) (sink.faults new) → ComesToEnd c it now kept
  done_complete command.Check m done quiet = ⊎_elim (λ is. inl is) (λ fault. absurd (quiet (done.written.risen fault))) done.ended
  done_complete (command.Sim g o) m done quiet = λ guests.
      ⊎_elim (λ is. finished_status g m kept done.coherent guests now is) (λ fault. absurd (quiet (done.written.risen fault))) done.ended
  done_complete (command.Run o) m done quiet = λ guests.
      ⊎_elim (λ is. uncut_status m (policy_answer m.policy) kept done.left.ends done.run.coherent guests now is)
      (λ fault. absurd (quiet (done.written.risen fault))) done.ended
  done_complete (command.Gen n) it done quiet = ⊎_elim (λ is. inl is) (λ fault. absurd (quiet (done.written.risen fault))) done.ended
  done_complete (command.Big n) it done quiet = ⊎_elim (λ is. inl is) (λ fault. absurd (quiet (done.written.risen fault))) done.ended
  done_complete command.Race h done quiet = λ good. ⊎_elim (λ is. inl is) (λ fault. absurd (quiet (done.written.risen fault))) done.ended
  done_complete command.Cost h done quiet = λ good. ⊎_elim (λ is. inl is) (λ fault. absurd (quiet (done.written.risen fault))) done.ended
  done_complete command.Replay h done quiet = λ whole.
      ⊎_elim (λ is. inl (is ∙ done_status (ends_as end.NoFrames h.ends) (ends_as end.Spent h.ends) whole.framed whole.unspent))
      (λ fault. absurd (quiet (done.written.risen fault))) done.ended

-- ---- a command that found a bad history

found_judges : (c : Command) (it : Told (input_of c)) (bad : Bad) → IsFirstBad c it bad → is_judge c ≡ true
found_judges command.Check m bad first = absurd first
found_judges (command.Sim g o) m bad first = absurd first
found_judges (command.Run o) m bad first = absurd first
found_judges (command.Gen n) it bad first = absurd first
found_judges (command.Big n) it bad first = absurd first
found_judges command.Replay h bad first = refl
found_judges command.Race h bad first = refl
found_judges command.Cost h bad first = refl

bad_is_not_good : (h : History) (bad : Bad) → first_bad_of h ≡ Some bad → first_bad_of h ≡ None → ⊥
bad_is_not_good h bad first good = some_is_not_none bad (sym first ∙ good)
  where
    some_is_not_none : (bad : Bad) → Some bad ≡ None → ⊥
    some_is_not_none bad is = cc

-- a history that is bad is not one of a run that is done
found_complete : (c : Command) (it : Told (input_of c)) (bad : Bad) (now : Status) (kept : List Item) → IsFirstBad c it bad →
    ComesToEnd c it now kept
found_complete command.Check m bad now kept first = absurd first
found_complete (command.Sim g o) m bad now kept first = absurd first
found_complete (command.Run o) m bad now kept first = absurd first
found_complete (command.Gen n) it bad now kept first = absurd first
found_complete (command.Big n) it bad now kept first = absurd first
found_complete command.Replay h bad now kept first = λ whole. absurd (bad_is_not_good h bad first whole.good)
found_complete command.Race h bad now kept first = λ good. absurd (bad_is_not_good h bad first good)
found_complete command.Cost h bad now kept first = λ good. absurd (bad_is_not_good h bad first good)

bad_is_no_read_fault : (bad : Bad) → status.HistoryBad bad ≡ status.ReadFault → ⊥
bad_is_no_read_fault bad is = cc

-- ---- a command that stopped

stop_is_silent : (s : Stop) → is_silent (stop_status s) ≡ true
stop_is_silent (stop.Refused r) = refl
stop_is_silent stop.ReadFault = refl
stop_is_silent stop.OutOfMemory = refl

stop_may_end : {S : Type 0} (c : Command) (before after : S) (s : Stop) → StopsAs (input_of c) before after s →
    may_end c (stop_status s) ≡ true
stop_may_end command.Check before after (stop.Refused r) may = refl
stop_may_end command.Check before after stop.ReadFault may = refl
stop_may_end command.Check before after stop.OutOfMemory may = refl
stop_may_end (command.Sim g o) before after (stop.Refused r) may = refl
stop_may_end (command.Sim g o) before after stop.ReadFault may = refl
stop_may_end (command.Sim g o) before after stop.OutOfMemory may = refl
stop_may_end (command.Run o) before after (stop.Refused r) may = refl
stop_may_end (command.Run o) before after stop.ReadFault may = refl
stop_may_end (command.Run o) before after stop.OutOfMemory may = refl
stop_may_end command.Replay before after (stop.Refused r) may = refl
stop_may_end command.Replay before after stop.ReadFault may = refl
stop_may_end command.Replay before after stop.OutOfMemory may = refl
stop_may_end command.Race before after (stop.Refused r) may = refl
stop_may_end command.Race before after stop.ReadFault may = refl
stop_may_end command.Race before after stop.OutOfMemory may = refl
stop_may_end command.Cost before after (stop.Refused r) may = refl
stop_may_end command.Cost before after stop.ReadFault may = refl
stop_may_end command.Cost before after stop.OutOfMemory may = refl
stop_may_end (command.Gen n) before after (stop.Refused r) may = absurd may
stop_may_end (command.Gen n) before after stop.ReadFault may = absurd may
stop_may_end (command.Gen n) before after stop.OutOfMemory may = refl
stop_may_end (command.Big n) before after (stop.Refused r) may = absurd may
stop_may_end (command.Big n) before after stop.ReadFault may = absurd may
stop_may_end (command.Big n) before after stop.OutOfMemory may = refl

-- the source of a command that reads nothing
stop_unread : {S : Type 0} (i : Input) (before after : S) (s : Stop) → StopsAs i before after s → reads_some i ≡ false → after ≡ before
stop_unread machine_text before after s may none = absurd cc
stop_unread history_text before after s may none = absurd cc
stop_unread nothing before after (stop.Refused r) may none = absurd may
stop_unread nothing before after stop.ReadFault may none = absurd may
stop_unread nothing before after stop.OutOfMemory may none = may

read_unread : {S : Type 0} (i : Input) (source : Reader S) (before after : S) (it : Told i) → IsRead i source before after it →
    reads_some i ≡ false → after ≡ before
read_unread machine_text source before after it read none = absurd cc
read_unread history_text source before after it read none = absurd cc
read_unread nothing source before after it read none = read

stop_refusal : (i : Input) (told : Option (List ℕ)) (before after : ℕ) (s : Stop) → IsStop i told before after s
    → IfSome (refusal_of (stop_status s)) (λ refused. IfSome told (λ bytes. IsFault i bytes refused))
stop_refusal i told before after (stop.Refused r) is = is
stop_refusal i told before after stop.ReadFault is = tt
stop_refusal i told before after stop.OutOfMemory is = tt

stop_read_fault : (i : Input) (told : Option (List ℕ)) (before after : ℕ) (s : Stop) → IsStop i told before after s →
    stop_status s ≡ status.ReadFault → HasRisen before after
stop_read_fault i told before after (stop.Refused r) is fault = absurd cc
stop_read_fault i told before after stop.ReadFault is fault = is
stop_read_fault i told before after stop.OutOfMemory is fault = absurd cc

stop_no_bad : (s : Stop) (P : Bad → Type 0) → IfSome (bad_of (stop_status s)) P
stop_no_bad (stop.Refused r) P = tt
stop_no_bad stop.ReadFault P = tt
stop_no_bad stop.OutOfMemory P = tt

-- want of memory is free
want_complete : (c : Command) (it : Told (input_of c)) (now : Status) (kept : List Item) → now ≡ status.OutOfMemory →
    ComesToEnd c it now kept
want_complete command.Check m now kept want = inr want
want_complete (command.Sim g o) m now kept want = λ guests. inl (inr want)
want_complete (command.Run o) m now kept want = λ guests. inl (inr want)
want_complete (command.Gen n) it now kept want = inr want
want_complete (command.Big n) it now kept want = inr want
want_complete command.Replay h now kept want = λ whole. inr want
want_complete command.Race h now kept want = λ good. inr want
want_complete command.Cost h now kept want = λ good. inr want

-- ---- both

pub true_or_false : (b : Bool) → b ≡ true → b ≡ false → ⊥
true_or_false true h k = absurd cc
true_or_false false h k = absurd cc

pub told_more : (i : Input) (told : Option (List ℕ)) (P Q : Told i → Type 0) → ((it : Told i) → P it → Q it) → IfTold i told P
    → IfTold i told Q
told_more machine_text None P Q h holds = tt
told_more machine_text (Some bytes) P Q h holds = λ m within text. h m (holds m within text)
told_more history_text None P Q h holds = tt
told_more history_text (Some bytes) P Q h holds = λ it within text. h it (holds it within text)
told_more nothing told P Q h holds = h (tt {0}) holds

pub told_all : (i : Input) (told : Option (List ℕ)) (P : Told i → Type 0) → ((it : Told i) → P it) → IfTold i told P
told_all machine_text None P h = tt
told_all machine_text (Some bytes) P h = λ m within text. h m
told_all history_text None P h = tt
told_all history_text (Some bytes) P h = λ it within text. h it
told_all nothing told P h = h (tt {0})

-- how a command ended, whatever its source

module _ {K : Type 0} (c : Command) (sink : Ghosts K) (old new : K) (out : Outcome) where
  pub did_end : (it : Told (input_of c)) → HasDone c sink it old new out.status out.kept.items out.ran → IsEnded c sink old new out
  did_end it works =
      let told = done_is_told sink old new out.status out.kept.items out.ran c it works in
      record {
        ends = done_may_end sink old new out.status out.kept.items out.ran c it works;
        silent = λ silent. absurd (true_or_false (is_silent out.status) silent told);
        nothing_kept = λ silent. absurd (true_or_false (is_silent out.status) silent told);
        nothing_ran = λ silent. absurd (true_or_false (is_silent out.status) silent told);
      }

  pub stopped_end : (s : Stop) → may_end c (stop_status s) ≡ true → HasStopped s old new out → IsEnded c sink old new out
  stopped_end s may has = record {
    ends = ap (may_end c) has.ended ∙ may;
    silent = λ h. has.sink;
    nothing_kept = λ h. has.history;
    nothing_ran = λ h. has.no_threads;
  }

  pub stopped_silent : (s : Stop) → HasStopped s old new out → is_silent out.status ≡ false → ⊥
  stopped_silent s has told = true_or_false (is_silent out.status) (ap is_silent has.ended ∙ stop_is_silent s) told

  pub did_complete :
      (it : Told (input_of c)) → HasDone c sink it old new out.status out.kept.items out.ran → IsQuiet (sink.faults old) (sink.faults new)
      → IsComplete c it sink old new out
  did_complete it works quiet = record {
    ends = done_complete sink old new out.status out.kept.items out.ran c it works quiet;
    whole = λ told. done_whole sink old new out.status out.kept.items out.ran c it works quiet;
  }

  -- with a status that writes nothing
  pub silent_complete :
      (it : Told (input_of c)) (output : List ℕ) → is_silent out.status ≡ true → ComesToEnd c it out.status out.kept.items →
      CompletesWith c it output sink old new out
  silent_complete it output silent ends = record { ends = ends; whole = λ told. absurd (true_or_false (is_silent out.status) silent told) }

  wanting_with : (it : Told (input_of c)) (output : List ℕ) → out.status ≡ status.OutOfMemory → CompletesWith c it output sink old new out
  wanting_with it output want = silent_complete it output (ap is_silent want) (want_complete c it out.status out.kept.items want)

  pub wanting_complete : (it : Told (input_of c)) → out.status ≡ status.OutOfMemory → IsComplete c it sink old new out
  wanting_complete it want = wanting_with it (whole_output c it out.kept.items out.ran) want

-- ---- how much was taken

-- the text is too long by either of two sayings
pub takes_as : (i : Input) (told left : Option (List ℕ)) (P Q : Type 0) → (P → Q) → (Q → P) → TakesText i told left P →
    TakesText i told left Q
takes_as i told left P Q there back taken =
    (taken.0, taken.1, taken.2, (λ long. taken.3.0 (back long), λ all. there (taken.3.1 all)))

-- a text that is not too long
pub takes_short : (i : Input) (told left : Option (List ℕ)) (P Q : Type 0) → (P → ⊥) → (Q → ⊥) → TakesText i told left P →
    TakesText i told left Q
takes_short i told left P Q unsaid other = takes_as i told left P Q (λ long. absurd (unsaid long)) (λ long. absurd (other long))

-- where nothing is read
takes_nothing : (i : Input) (told : Option (List ℕ)) (P : Type 0) → (P → ⊥) → TakesText i told told P
takes_nothing i told P unsaid = (0, still told, omega arith, (λ long. absurd (unsaid long), λ all. absurd (omega arith)))
  where
    still : (told : Option (List ℕ)) → TakesCount 0 told told
    still None = tt
    still (Some bytes) = (omega arith, refl)

-- by what the reading of a text answered
pub takes_ok :
    {X E : Type 0} {e : E} (i : Input) (told left : Option (List ℕ)) (result : Result X E) (x : X) → result ≡ Ok x
    → TakesText i told left (result ≡ Err e) → TakesText i told left ⊥
takes_ok {e = e} i told left result x is = takes_short i told left (result ≡ Err e) ⊥ (λ long. ok_or_err result is long) (λ f. f)
  where
    ok_or_err : {X E : Type 0} {x : X} {e : E} (r : Result X E) → r ≡ Ok x → r ≡ Err e → ⊥
    ok_or_err r is other = cc

pub takes_err :
    {X E : Type 0} {e : E} (i : Input) (told left : Option (List ℕ)) (result : Result X E) (s : E) → result ≡ Err s
    → TakesText i told left (result ≡ Err e) → TakesText i told left (s ≡ e)
takes_err {e = e} i told left result s is =
    takes_as i told left (result ≡ Err e) (s ≡ e) (λ long. same_err result is long) (λ same. is ∙ ap (λ x. Err x) same)
  where
    same_err : {X E : Type 0} {s e : E} (r : Result X E) → r ≡ Err s → r ≡ Err e → s ≡ e
    same_err r is other = cc

told_not_long : (s : Status) → is_silent s ≡ false → s ≡ status.Refused too_long → ⊥
told_not_long s told long = true_or_false (is_silent s) (ap is_silent long) told

bad_not_long : (bad : Bad) → status.HistoryBad bad ≡ status.Refused too_long → ⊥
bad_not_long bad is = cc

pub stop_long : (s : Stop) → stop_status s ≡ status.Refused too_long → s ≡ stop.Refused too_long
stop_long (stop.Refused r) is = cc
stop_long stop.ReadFault is = absurd cc
stop_long stop.OutOfMemory is = absurd cc

-- ---- what was read, or why nothing was

-- this was read, and it is all that the source can tell
pub record HasReadAll {S : Type 0} (i : Input) (source : Reader S) (before after : S) (it : Told i) : Type 0 where
  pub read : IsRead i source before after it
  pub only : IfTold i (source.left before) (λ other. it ≡ other)
  pub count : source.faults before ≤ source.faults after
  -- what a text may have was taken, and not the byte above
  pub short : TakesText i (source.left before) (source.left after) ⊥

-- this is why nothing was read, or nothing done with it, and it is not the text if that is one
pub record HasReadNone {S : Type 0} (i : Input) (source : Reader S) (before after : S) (why : Stop) : Type 0 where
  pub stopped : IsStop i (source.left before) (source.faults before) (source.faults after) why
  pub may : StopsAs i before after why
  pub free : IfTold i (source.left before) (λ other. IsNoRefusal (stop_status why))
  pub count : source.faults before ≤ source.faults after
  pub taken : TakesText i (source.left before) (source.left after) (why ≡ stop.Refused too_long)

module _ {S : Type 0} (source : Reader S) where
  -- there was no memory to do something with what was read
  pub wants_memory : (i : Input) (before after : S) (it : Told i) → HasReadAll i source before after it →
      StopsAs i before after stop.OutOfMemory → HasReadNone i source before after stop.OutOfMemory
  wants_memory i before after it all may = record {
    stopped = tt;
    may = may;
    free = told_all i (source.left before) (λ it. IsNoRefusal (stop_status stop.OutOfMemory)) (λ it. inr refl);
    count = all.count;
    taken = takes_short i (source.left before) (source.left after) ⊥ (stop.OutOfMemory ≡ stop.Refused too_long) (λ f. f) (λ is. cc)
        all.short;
  }

  -- nothing had to be read
  pub reads_nothing : (x : S) → HasReadAll nothing source x x tt
  reads_nothing x = record {
    read = refl;
    only = refl;
    count = omega arith;
    short = takes_nothing nothing (source.left x) ⊥ (λ f. f);
  }

  -- there was no memory to begin with
  wants_at_once : (i : Input) (x : S) → HasReadNone i source x x stop.OutOfMemory
  wants_at_once i x = record {
    stopped = tt;
    may = may i;
    free = told_all i (source.left x) (λ it. IsNoRefusal (stop_status stop.OutOfMemory)) (λ it. inr refl);
    count = omega arith;
    taken = takes_nothing i (source.left x) (stop.OutOfMemory ≡ stop.Refused too_long) (λ is. cc);
  }
    where
      may : (i : Input) → StopsAs i x x stop.OutOfMemory
      may machine_text = tt
      may history_text = tt
      may nothing = refl

module _ {S K : Type 0} (c : Command) (Does : Told (input_of c) → K → K → Status → List Item → Option ClosedSeen → Type 0)
    (output : Told (input_of c) → List Item → Option ClosedSeen → List ℕ)
    (source : Reader S) (sink : Ghosts K) (before after : S) (old new : K) (out : Outcome) where
  abbrev Works : Told (input_of c) → Type 0
  Works it = Does it old new out.status out.kept.items out.ran

  -- what is accepted of what was read
  abbrev Accepted : Told (input_of c) → Type 0
  Accepted it = Works it ⊎ IsSomeAnd (bad_of out.status) (IsFirstBad c it) ⊎ IsNoRefusal out.status

  abbrev Comes : Told (input_of c) → Type 0
  Comes it = IsQuiet (source.faults before) (source.faults after) → IsQuiet (sink.faults old) (sink.faults new) →
      CompletesWith c it (output it out.kept.items out.ran) sink old new out

  -- a call that did its work with what it read, which is all that the source can tell
  pub did_so :
      (it : Told (input_of c)) → HasReadAll (input_of c) source before after it → Works it → is_silent out.status ≡ false →
      IsEnded c sink old new out
      → ((other : Told (input_of c)) → Works other → IsQuiet (sink.faults old) (sink.faults new)
      → CompletesWith c other (output other out.kept.items out.ran) sink old new out)
      → PromisesDoing c Does output source sink before after old new out
  did_so it all works told ended comes =
      record {
        done = λ not_silent. (it, all.read, works);
        bad = told_no_bad out.status (λ bad. HasRead (input_of c) source before after (λ other. IsFirstBad c other bad)) told;
        accepted = told_more (input_of c) (source.left before) (λ other. it ≡ other) Accepted (λ other same. inl (subst Works same works))
            all.only;
        complete = told_more (input_of c) (source.left before) (λ other. it ≡ other) Comes
            (λ other same read_quiet quiet. comes other (subst Works same works) quiet) all.only;
        ended = ended;
        refused = told_no_refusal out.status (λ refused. IfSome (source.left before) (λ bytes. IsFault (input_of c) bytes refused)) told;
        read_fault = λ fault. absurd (true_or_false (is_silent out.status) (ap is_silent fault) told);
        taken = takes_short (input_of c) (source.left before) (source.left after) ⊥ (out.status ≡ status.Refused too_long) (λ f. f)
            (told_not_long out.status told) all.short;
        unread = read_unread (input_of c) source before after it all.read;
        count = all.count;
      }

  -- a command that found what it read bad, which is all that the source can tell
  found :
      (it : Told (input_of c)) (bad : Bad) → HasReadAll (input_of c) source before after it → IsFirstBad c it bad
      → out.status ≡ status.HistoryBad bad → out.kept.items ≡ [] → out.ran ≡ None → new ≡ old
      → PromisesDoing c Does output source sink before after old new out
  found it bad all first ends kept none written = record {
    done = λ told. absurd (true_or_false (is_silent out.status) (ap is_silent ends) told);
    bad = subst (λ (now : Status). IfSome (bad_of now) (λ bad. HasRead (input_of c) source before after (λ it. IsFirstBad c it bad)))
        (sym ends)
        (it, all.read, first);
    accepted = told_more (input_of c) (source.left before) (λ other. it ≡ other) Accepted (λ other same. inr (inl (is_bad other same)))
        all.only;
    complete = told_more (input_of c) (source.left before) (λ other. it ≡ other) Comes
        (λ other same quiet wrote. silent_complete c sink old new out other (output other out.kept.items out.ran) (ap is_silent ends)
        (found_complete c other bad out.status out.kept.items (subst (λ it. IsFirstBad c it bad) same first))) all.only;
    ended = record {
      ends = ap (may_end c) ends ∙ found_judges c it bad first;
      silent = λ h. written;
      nothing_kept = λ h. kept;
      nothing_ran = λ h. none;
    };
    refused = subst (λ (now : Status).
        IfSome (refusal_of now) (λ refused. IfSome (source.left before) (λ bytes. IsFault (input_of c) bytes refused))) (sym ends) tt;
    read_fault = λ fault. absurd (bad_is_no_read_fault bad (sym ends ∙ fault));
    taken = takes_short (input_of c) (source.left before) (source.left after) ⊥ (out.status ≡ status.Refused too_long) (λ f. f)
        (λ long. bad_not_long bad (sym ends ∙ long)) all.short;
    unread = read_unread (input_of c) source before after it all.read;
    count = all.count;
  }
    where
      is_bad : (other : Told (input_of c)) → it ≡ other → IsSomeAnd (bad_of out.status) (IsFirstBad c other)
      is_bad other same =
          subst (λ (now : Status). IsSomeAnd (bad_of now) (IsFirstBad c other)) (sym ends) (subst (λ it. IsFirstBad c it bad) same first)

  -- a command that stopped, and not because of its text if that is one
  pub stopped_so :
      (s : Stop) → HasReadNone (input_of c) source before after s → HasStopped s old new out
      → PromisesDoing c Does output source sink before after old new out
  stopped_so s none has =
      let silent : is_silent out.status ≡ true = ap is_silent has.ended ∙ stop_is_silent s in
      let why = subst IsNoRefusal (sym has.ended) in
      record {
        done = λ told. absurd (true_or_false (is_silent out.status) silent told);
        bad = subst (λ (now : Status). IfSome (bad_of now) (λ bad. HasRead (input_of c) source before after (λ it. IsFirstBad c it bad)))
            (sym has.ended)
            (stop_no_bad s (λ bad. HasRead (input_of c) source before after (λ it. IsFirstBad c it bad)));
        accepted = told_more (input_of c) (source.left before) (λ other. IsNoRefusal (stop_status s)) Accepted
            (λ other no_refusal. inr (inr (why no_refusal))) none.free;
        complete = told_more (input_of c) (source.left before) (λ other. IsNoRefusal (stop_status s)) Comes
            (λ other no_refusal. comes other (why no_refusal)) none.free;
        ended = stopped_end c sink old new out s (stop_may_end c before after s none.may) has;
        refused = subst (λ (now : Status).
            IfSome (refusal_of now) (λ refused. IfSome (source.left before) (λ bytes. IsFault (input_of c) bytes refused))) (sym has.ended)
            (stop_refusal (input_of c) (source.left before) (source.faults before) (source.faults after) s none.stopped);
        read_fault = λ fault. stop_read_fault (input_of c) (source.left before) (source.faults before) (source.faults after) s
            none.stopped (sym has.ended ∙ fault);
        taken = takes_as (input_of c) (source.left before) (source.left after) (s ≡ stop.Refused too_long)
            (out.status ≡ status.Refused too_long)
            (λ long. has.ended ∙ ap stop_status long) (λ long. stop_long s (sym has.ended ∙ long)) none.taken;
        unread = stop_unread (input_of c) before after s none.may;
        count = none.count;
      }
    where
      comes : (other : Told (input_of c)) → IsNoRefusal out.status → Comes other
      comes other (inl fault) = λ quiet wrote.
          absurd (quiet (stop_read_fault (input_of c) (source.left before) (source.faults before) (source.faults after) s none.stopped
          (sym has.ended ∙ fault)))
      comes other (inr want) = λ quiet wrote. wanting_with c sink old new out other (output other out.kept.items out.ran) want

  -- a command that ended before it did its work
  pub failed_so :
      (now : Status) → HasFailed (input_of c) source (IsFirstBad c) before after now → out.status ≡ now →
      ((s : Stop) → StopsAs (input_of c) before after s)
      → out.kept.items ≡ [] → out.ran ≡ None → new ≡ old → source.faults before ≤ source.faults after
      → TakesText (input_of c) (source.left before) (source.left after) (now ≡ status.Refused too_long) →
      PromisesDoing c Does output source sink before after old new out
  failed_so now has is may kept none unwritten count taken =
      ⊎_elim
      (λ why. stopped_so why.why
      (record {
        stopped = why.stopped;
        may = may why.why;
        free = why.no_refusal;
        count = count;
        taken =
            takes_as (input_of c) (source.left before) (source.left after) (now ≡ status.Refused too_long) (why.why ≡ stop.Refused too_long)
            (λ long. stop_long why.why (sym why.ended ∙ long)) (λ long. why.ended ∙ ap stop_status long) taken;
      })
      (record { ended = is ∙ why.ended; history = kept; no_threads = none; sink = unwritten }))
      (λ bad. found bad.it bad.bad
      (record {
        read = bad.read;
        only = bad.only;
        count = count;
        short =
            takes_short (input_of c) (source.left before) (source.left after) (now ≡ status.Refused too_long) ⊥
            (λ long. bad_not_long bad.bad (sym bad.ended ∙ long)) (λ f. f) taken;
      })
      bad.first (is ∙ bad.ended) kept none unwritten) has

module _ {S K : Type 0} (c : Command) (source : Reader S) (sink : Ghosts K) (before after : S) (old new : K) (out : Outcome) where
  -- the same for what the commands do
  pub did :
      (it : Told (input_of c)) → HasReadAll (input_of c) source before after it
      → HasDone c sink it old new out.status out.kept.items out.ran → Promises c source sink before after old new out
  did it all works =
      did_so c (HasDone c sink) (whole_output c) source sink before after old new out it all works
      (done_is_told sink old new out.status out.kept.items out.ran c it works) (did_end c sink old new out it works)
      (λ other done quiet. did_complete c sink old new out other done quiet)

  pub stopped :
      (s : Stop) → HasReadNone (input_of c) source before after s → HasStopped s old new out
      → Promises c source sink before after old new out
  stopped = stopped_so c (HasDone c sink) (whole_output c) source sink before after old new out

  -- a command that did its work with what it read, or had no memory for it
  pub did_or_not :
      (it : Told (input_of c)) → HasReadAll (input_of c) source before after it → StopsAs (input_of c) before after stop.OutOfMemory
      → HasDone c sink it old new out.status out.kept.items out.ran ⊎ HasStopped stop.OutOfMemory old new out
      → Promises c source sink before after old new out
  did_or_not it all may =
      ⊎_elim (λ done. did it all done) (λ has. stopped stop.OutOfMemory (wants_memory source (input_of c) before after it all may) has)

  pub failed :
      (now : Status) → HasFailed (input_of c) source (IsFirstBad c) before after now → out.status ≡ now →
      ((s : Stop) → StopsAs (input_of c) before after s)
      → out.kept.items ≡ [] → out.ran ≡ None → new ≡ old → source.faults before ≤ source.faults after
      → TakesText (input_of c) (source.left before) (source.left after) (now ≡ status.Refused too_long) →
      Promises c source sink before after old new out
  failed = failed_so c (HasDone c sink) (whole_output c) source sink before after old new out

-- ---- reading nothing

module _ {S K : Type 0} (source : Reader S) (sink : Ghosts K) (x : S) (old new : K) (out : Outcome) where
  -- a command for which there was no memory before it read
  pub wanting : (c : Command) → HasStopped stop.OutOfMemory old new out → Promises c source sink x x old new out
  wanting c = stopped c source sink x x old new out stop.OutOfMemory (wants_at_once source (input_of c) x)

  -- commands on generated machines
  pub printed_or_not :
      (n : ℕ) → HasPrinted sink (generated n) old new out.status out.kept.items out.ran ⊎ HasStopped stop.OutOfMemory old new out
      → Promises (command.Gen n) source sink x x old new out
  printed_or_not n = did_or_not (command.Gen n) source sink x x old new out tt (reads_nothing source x) refl

  pub summed_or_not :
      (n : ℕ) → HasSummed n sink (generated n) old new out.status out.kept.items out.ran ⊎ HasStopped stop.OutOfMemory old new out
      → Promises (command.Big n) source sink x x old new out
  summed_or_not n = did_or_not (command.Big n) source sink x x old new out tt (reads_nothing source x) refl

-- ---- words

-- a command that was read of the words is the one that they name
pub it_is :
    (read named : Result Command WordsFault) (c : Command) → read ≡ Ok c
    → IfOk named (λ d. (read ≡ Ok d) ⊎ (read ≡ Err words.OutOfMemory)) → IfErr named (λ f. read ≡ Err words.BadWords) → named ≡ Ok c
it_is read named c is = by named
  where
    by :
        (r : Result Command WordsFault) → IfOk r (λ d. (read ≡ Ok d) ⊎ (read ≡ Err words.OutOfMemory))
        → IfErr r (λ f. read ≡ Err words.BadWords) → r ≡ Ok c
    by (Ok d) (inl same) bad = sym same ∙ is
    by (Ok d) (inr want) bad = absurd cc
    by (Err f) good bad = absurd cc

module _ {named : Result Command WordsFault} {c : Command} (is : named ≡ Ok c) where
  pub named_by : (P : Command → Type 0) → P c → IfOk named P
  named_by P h = subst (λ (r : Result Command WordsFault). IfOk r P) (sym is) h

  pub not_bad : (P : WordsFault → Type 0) → IfErr named P
  not_bad P = subst (λ (r : Result Command WordsFault). IfErr r P) (sym is) tt

-- what holds of each command holds of the one that is named, if one is
pub any_command : (named : Result Command WordsFault) (P : Command → Type 0) → ((c : Command) → P c) → IfOk named P
any_command (Ok c) P all = all c
any_command (Err f) P all = tt

-- no command ends as bad words
pub never_bad_words : {S K : Type 0} {c : Command} {source : Reader S} {sink : Ghosts K} {before after : S} {old new : K} {out : Outcome}
    → Promises c source sink before after old new out → out.status ≡ status.BadWords → ⊥
never_bad_words {c = c} {out = out} p bad = true_or_false (may_end c out.status) p.ended.ends (ap (may_end c) bad)
