-- what is promised of a run under a given policy follows from what was done, or from why it stopped
use Rattle.std.proofs.Common.{◌≡◌, ◌⊎◌, inl, inr, true, false, refl, ap, ◌∙◌, ⊎_elim}
use Rattle.plat_base.specs.Machine.{Machine}
use Rattle.plat_base.specs.Runs.{GuestsEnd}
use Rattle.plat_base.specs.Statuses.{status_of, is_silent}
use Rattle.plat_base.specs.Verdicts.{Answer}
use Rattle.plat_io.specs.Streams.{added}
use Rattle.plat_io.specs.declared.sinks.Sink.{Ghosts}
use Rattle.plat_io.specs.declared.sources.Source.{Ghosts as Reader}
use Rattle.plat_cmd.specs.Inputs.{machine_text}
use Rattle.plat_cmd.specs.Promises.{IsQuiet, IsEnded}
use Rattle.plat_cmd.specs.Steps.{HasStopped}
use Rattle.plat_cmd.specs.Trials.{output_under, PromisesUnder}
use Rattle.plat_cmd.specs.Works.{HasRun, ends_under, may_end, IsDoneWithMemory, LacksFrames}
use Rattle.plat_cmd.specs.declared.words.Command.{Command}
use Rattle.plat_cmd.specs.declared.words.Command.TheVariants as command
use Rattle.plat_cmd.specs.declared.words.Grain.TheVariants as grain
use Rattle.plat_cmd.specs.declared.words.Output.{Output}
use Rattle.plat_cmd.specs.declared.outcomes.Outcome.{Outcome}
use Rattle.plat_cmd.specs.declared.outcomes.Stop.{Stop}
use Rattle.plat_cmd.specs.declared.outcomes.Stop.TheVariants as stop
use Rattle.plat_cmd.proofs.EndingLemmas.{run_status, silent_run, uncut_status}
use Rattle.plat_cmd.proofs.PromiseLemmas.{may_run, may_be_limited, true_or_false, HasReadAll, HasReadNone, wants_memory, did_so, stopped_so}

module _ {S K : Type 0} (answer : Answer) (o : Output) (source : Reader S) (sink : Ghosts K) (before after : S) (old new : K)
    (out : Outcome) where
  -- the command that the run promises as
  abbrev like : Command
  like = command.Sim grain.Coarse o

  abbrev Ran : Machine → Type 0
  Ran m = HasRun answer grain.Coarse o sink m old new out.status out.kept.items out.ran

  ran_is_told : (m : Machine) → Ran m → is_silent out.status ≡ false
  ran_is_told m ran =
      let ends = ends_under grain.Coarse m answer in
      ⊎_elim (λ is. ap is_silent is ∙ silent_run (status_of ends false) (run_status ends false)) (λ is. ap is_silent is) ran.ended

  ran_may_end : (m : Machine) → Ran m → may_end like out.status ≡ true
  ran_may_end m ran =
      let ends = ends_under grain.Coarse m answer in
      ⊎_elim (λ is. ap (may_end like) is ∙ may_run like refl (status_of ends false) (run_status ends false) (may_be_limited ends false))
      (λ is. ap (may_end like) is) ran.ended

  ran_end : (m : Machine) → Ran m → IsEnded like sink old new out
  ran_end m ran =
      let told = ran_is_told m ran in
      record {
        ends = ran_may_end m ran;
        silent = λ silent. absurd (true_or_false (is_silent out.status) silent told);
        nothing_kept = λ silent. absurd (true_or_false (is_silent out.status) silent told);
        nothing_ran = λ silent. absurd (true_or_false (is_silent out.status) silent told);
      }

  ran_comes : (m : Machine) → Ran m → IsQuiet (sink.faults old) (sink.faults new) → GuestsEnd m out.kept.items
      → IsDoneWithMemory out.status ⊎ LacksFrames m out.status ⊎ ⊥
  ran_comes m ran quiet guests =
      ⊎_elim
      (λ is. ⊎_elim (λ done. inl done) (λ few. inr (inl few))
      (uncut_status m answer out.kept.items (ends_under grain.Coarse m answer) ran.coherent guests out.status is))
      (λ fault. absurd (quiet (ran.written.risen fault))) ran.ended

  ran_whole : (m : Machine) → Ran m → IsQuiet (sink.faults old) (sink.faults new)
      → sink.holds new ≡ added (sink.holds old) (output_under answer o m out.kept.items out.ran)
  ran_whole m ran quiet = ran.written.whole (λ fault. quiet (ran.written.risen fault))

  pub stopped_under : (s : Stop) → HasReadNone machine_text source before after s → HasStopped s old new out
      → PromisesUnder answer o source sink before after old new out
  stopped_under = stopped_so like (HasRun answer grain.Coarse o sink) (output_under answer o) source sink before after old new out

  -- the run was made of the machine that was read, or there was no memory for it
  pub did_or_not_under : (m : Machine) → HasReadAll machine_text source before after m → Ran m ⊎ HasStopped stop.OutOfMemory old new out
      → PromisesUnder answer o source sink before after old new out
  did_or_not_under m all =
      ⊎_elim
      (λ ran. did_so like (HasRun answer grain.Coarse o sink) (output_under answer o) source sink before after old new out m all ran
      (ran_is_told m ran) (ran_end m ran)
      (λ other done quiet. record { ends = λ guests. ran_comes other done quiet guests; whole = λ told. ran_whole other done quiet }))
      (λ has. stopped_under stop.OutOfMemory (wants_memory source machine_text before after m all tt) has)
