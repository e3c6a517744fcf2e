-- what a command knows by what the reading of its text answered
use Rattle.std.proofs.Common.{◌≡◌, ℕ, ◌≤◌, List, [], inl, inr, refl, subst, ◌∙◌}
use Rattle.std.specs.Prelude.{Option, None, IfSome, IfOk, IfErr, IsErrOf, OnOk, Result, Ok, Err}
use Rattle.plat_base.specs.Seen.{machine}
use Rattle.plat_base.specs.declared.configs.Config.{Config}
use Rattle.plat_base.specs.declared.statuses.Status.{Status}
use Rattle.plat_grammar.specs.FirstFault.{text_at}
use Rattle.plat_grammar.specs.Grammar.{IsTextOf}
use Rattle.plat_grammar.specs.HistoryFaults.{history_at}
use Rattle.plat_grammar.specs.HistoryGrammar.{IsHistory, IsHistoryTextOf}
use Rattle.plat_history.specs.Shown.{seen}
use Rattle.plat_history.specs.declared.histories.History.{History as Read}
use Rattle.plat_io.specs.Streams.{IsAtEnd}
use Rattle.plat_io.specs.declared.sources.Source.{Ghosts as Reader}
use Rattle.plat_cmd.specs.Inputs.{Input, machine_text, Told, IsToldAs, IsToldHistory, IfTold, TakesText, too_long}
use Rattle.plat_cmd.specs.Promises.{IsNoRefusal}
use Rattle.plat_cmd.specs.Steps.{IsStop, AcceptsAs, read_as, HasStopped, stop_status}
use Rattle.plat_cmd.specs.declared.outcomes.Outcome.{Outcome}
use Rattle.plat_cmd.specs.declared.outcomes.Stop.{Stop}
use Rattle.plat_cmd.specs.declared.outcomes.Stop.TheVariants as stop
use Rattle.plat_cmd.proofs.PromiseLemmas.{told_more, takes_ok, takes_err, HasReadAll, HasReadNone}

module _ (told left : Option (List ℕ)) (result : Result Config Stop) where
  pub told_as :
      (cfg : Config) → result ≡ Ok cfg → IfOk result (λ cfg. IfSome told (λ bytes. IsTextOf bytes (machine cfg)))
      → IfOk result (λ cfg. IfSome told (λ bytes. text_at bytes ≡ Ok (machine cfg))) → OnOk result (IsAtEnd left)
      → IsToldAs told left (machine cfg)
  told_as cfg is found exact all = record {
    machine = cfg.limits;
    short = cfg.short;
    text = subst (λ (r : Result Config Stop). IfOk r (λ cfg. IfSome told (λ bytes. IsTextOf bytes (machine cfg)))) is found;
    read = subst (λ (r : Result Config Stop). IfOk r (λ cfg. IfSome told (λ bytes. text_at bytes ≡ Ok (machine cfg)))) is exact;
    all = subst (λ (r : Result Config Stop). OnOk r (IsAtEnd left)) is all;
  }

module _ (told left : Option (List ℕ)) (result : Result Read Stop) where
  pub told_history :
      (h : Read) → result ≡ Ok h → IfOk result (λ h. IsHistory (seen h)) →
      IfOk result (λ h. IfSome told (λ bytes. IsHistoryTextOf bytes (seen h)))
      → IfOk result (λ h. IfSome told (λ bytes. history_at bytes ≡ Ok (seen h))) → OnOk result (IsAtEnd left)
      → IsToldHistory told left (seen h)
  told_history h is ranges found exact all = record {
    ranges = subst (λ (r : Result Read Stop). IfOk r (λ h. IsHistory (seen h))) is ranges;
    text = subst (λ (r : Result Read Stop). IfOk r (λ h. IfSome told (λ bytes. IsHistoryTextOf bytes (seen h)))) is found;
    read = subst (λ (r : Result Read Stop). IfOk r (λ h. IfSome told (λ bytes. history_at bytes ≡ Ok (seen h)))) is exact;
    all = subst (λ (r : Result Read Stop). OnOk r (IsAtEnd left)) is all;
  }

module _ {X : Type 0} (i : Input) (told : Option (List ℕ)) (result : Result X Stop) where
  pub stop_is : (before after : ℕ) (s : Stop) → result ≡ Err s → IfErr result (IsStop i told before after) → IsStop i told before after s
  stop_is before after s is why = subst (λ (r : Result X Stop). IfErr r (IsStop i told before after)) is why

  module _ (view : X → Told i) (only : IfTold i told (λ it. AcceptsAs it (read_as view result))) where
    pub only_it : (x : X) → result ≡ Ok x → IfTold i told (λ it. view x ≡ it)
    only_it x is =
        told_more i told (λ it. AcceptsAs it (read_as view result)) (λ it. view x ≡ it)
        (λ it h. subst (λ (r : Result X Stop). AcceptsAs it (read_as view r)) is h) only

    pub not_refused : (s : Stop) → result ≡ Err s → IfTold i told (λ it. IsNoRefusal (stop_status s))
    not_refused s is =
        told_more i told (λ it. AcceptsAs it (read_as view result)) (λ it. IsNoRefusal (stop_status s))
        (λ it h. by it s (subst (λ (r : Result X Stop). AcceptsAs it (read_as view r)) is h)) only
      where
        by : (it : Told i) (s : Stop) → AcceptsAs it (Err s) → IsNoRefusal (stop_status s)
        by it (stop.Refused r) h = absurd h
        by it stop.ReadFault h = inl refl
        by it stop.OutOfMemory h = inr refl

-- ---- a command on a machine text

module _ {S : Type 0} (source : Reader S) (before after : S) (read : Result Config Stop) where
  pub machine_read :
      (cfg : Config) → read ≡ Ok cfg → IfOk read (λ cfg. IfSome (source.left before) (λ bytes. IsTextOf bytes (machine cfg)))
      → IfOk read (λ cfg. IfSome (source.left before) (λ bytes. text_at bytes ≡ Ok (machine cfg)))
      → OnOk read (IsAtEnd (source.left after)) → source.faults before ≤ source.faults after
      → IfTold machine_text (source.left before) (λ m. AcceptsAs m (read_as machine read))
      → TakesText machine_text (source.left before) (source.left after) (IsErrOf read (stop.Refused too_long))
      → HasReadAll machine_text source before after (machine cfg)
  machine_read cfg is found exact all count only taken = record {
    read = told_as (source.left before) (source.left after) read cfg is found exact all;
    only = only_it machine_text (source.left before) read machine only cfg is;
    count = count;
    short = takes_ok machine_text (source.left before) (source.left after) read cfg is taken;
  }

  pub no_machine :
      (why : Stop) → read ≡ Err why → IfErr read (IsStop machine_text (source.left before) (source.faults before) (source.faults after))
      → source.faults before ≤ source.faults after
      → IfTold machine_text (source.left before) (λ m. AcceptsAs m (read_as machine read))
      → TakesText machine_text (source.left before) (source.left after) (IsErrOf read (stop.Refused too_long))
      → HasReadNone machine_text source before after why
  no_machine why is stopped count only taken = record {
    stopped = stop_is machine_text (source.left before) read (source.faults before) (source.faults after) why is stopped;
    may = tt;
    free = not_refused machine_text (source.left before) read machine only why is;
    count = count;
    taken = takes_err machine_text (source.left before) (source.left after) read why is taken;
  }

-- it ends without a run
pub ends_so : {K : Type 0} (sink : K) (why : Stop) (now : Status) (out : Outcome) → out.status ≡ now → now ≡ stop_status why
    → out.kept.items ≡ [] → out.ran ≡ None → HasStopped why sink sink out
ends_so sink why now out ended is kept none = record { ended = ended ∙ is; history = kept; no_threads = none; sink = refl }
