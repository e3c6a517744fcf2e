-- what was read and not judged good is a failure of the command
use Rattle.std.proofs.Common.{◌≡◌, inl, inr, refl, sym, subst, ⊎_elim}
use Rattle.std.specs.Prelude.{Some, IsSomeAnd, IfOk, IfErr, Result, Ok, Err}
use Rattle.plat_grammar.specs.HistoryCanon.{History}
use Rattle.plat_base.specs.declared.statuses.Bad.{Bad}
use Rattle.plat_base.specs.declared.statuses.Status.{Status}
use Rattle.plat_base.specs.declared.statuses.Status.TheVariants as status
use Rattle.plat_io.specs.declared.sources.Source.{Ghosts}
use Rattle.plat_cmd.specs.Inputs.{IsRead, IfTold, history_text}
use Rattle.plat_cmd.specs.Judgings.{HasFailed, IsNotJudged}
use Rattle.plat_cmd.specs.Promises.{IsNoRefusal}
use Rattle.plat_cmd.specs.Steps.{stop_status}
use Rattle.plat_cmd.specs.Works.{bad_of, first_bad_of}
use Rattle.plat_cmd.specs.declared.outcomes.Stop.TheVariants as stop
use Rattle.plat_cmd.proofs.PromiseLemmas.{told_all}

-- what holds of a value holds of a part that is this value
pub of_same :
    {X Y E : Type 0} (result : Result X E) (part : X → Y) (y : Y) (P : Y → Type 0) → IfOk result (λ x. part x ≡ y) → P y
    → IfOk result (λ x. P (part x))
of_same (Ok x) part y P same holds = subst P (sym same) holds
of_same (Err e) part y P same holds = tt

-- only one status tells what is bad
bad_status : (now : Status) (P : Bad → Type 0) → IsSomeAnd (bad_of now) P → (bad : Bad) × (now ≡ status.HistoryBad bad) × P bad
bad_status status.Done P h = absurd h
bad_status (status.HistoryBad bad) P h = (bad, refl, h)
bad_status (status.Refused refused) P h = absurd h
bad_status status.NoFrames P h = absurd h
bad_status status.Spent P h = absurd h
bad_status status.EventLimit P h = absurd h
bad_status status.ReadFault P h = absurd h
bad_status status.WriteFault P h = absurd h
bad_status status.OutOfMemory P h = absurd h
bad_status status.BadWords P h = absurd h

module _ {S : Type 0} (source : Ghosts S) (before after : S) (h : History)
    (read : IsRead history_text source before after h) (only : IfTold history_text (source.left before) (λ other. h ≡ other)) where
  abbrev Fails : Status → Type 0
  Fails now = HasFailed history_text source (λ it bad. first_bad_of it ≡ Some bad) before after now

  not_judged : (now : Status) → IsNotJudged h now → Fails now
  not_judged now =
      ⊎_elim
      (λ want. inl (record {
        why = stop.OutOfMemory;
        ended = want;
        stopped = tt;
        no_refusal = told_all history_text (source.left before) (λ it. IsNoRefusal (stop_status stop.OutOfMemory)) (λ it. inr refl);
      }))
      (λ found. let bad = bad_status now (λ bad. first_bad_of h ≡ Some bad) found in
      inr (record { it = h; bad = bad.0; ended = bad.1; read = read; only = only; first = bad.2 }))

  pub all_not_judged : {X : Type 0} (result : Result X Status) → IfErr result (IsNotJudged h) → IfErr result Fails
  all_not_judged (Ok x) failed = tt
  all_not_judged (Err now) failed = not_judged now failed
