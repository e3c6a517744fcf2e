-- why a command on a history ended before it did its work
use Rattle.std.specs.Prelude.{◌≡◌, ◌⊎◌, Some, IsSomeAnd}
use Rattle.plat_grammar.specs.HistoryCanon.{History}
use Rattle.plat_base.specs.declared.statuses.Bad.{Bad}
use Rattle.plat_base.specs.declared.statuses.Status.{Status}
use Rattle.plat_base.specs.declared.statuses.Status.TheVariants as status
use Rattle.plat_io.specs.declared.sources.Source.{Ghosts}
use Rattle.plat_cmd.specs.Inputs.{Input, Told, IsRead, IfTold}
use Rattle.plat_cmd.specs.Promises.{IsNoRefusal}
use Rattle.plat_cmd.specs.Steps.{IsStop, stop_status}
use Rattle.plat_cmd.specs.Works.{bad_of, first_bad_of}
use Rattle.plat_cmd.specs.declared.outcomes.Stop.{Stop}

-- no memory was left, or the history is bad, and the status says it
abbrev pub IsNotJudged : History → Status → Type 0
IsNotJudged h now = (now ≡ status.OutOfMemory) ⊎ IsSomeAnd (bad_of now) (λ bad. first_bad_of h ≡ Some bad)

-- the status of a command that stopped, and not because of its text if that is one
pub record HasStoppedOn {S : Type 0} (i : Input) (source : Ghosts S) (before after : S) (now : Status) : Type 0 where
  pub why : Stop
  pub ended : now ≡ stop_status why
  pub stopped : IsStop i (source.left before) (source.faults before) (source.faults after) why
  pub no_refusal : IfTold i (source.left before) (λ it. IsNoRefusal (stop_status why))

-- the status of a command that found what it read bad, which is all that the source can tell
pub record HasReadBad {S : Type 0} (i : Input) (source : Ghosts S) (Is : Told i → Bad → Type 0) (before after : S) (now : Status)
    : Type 0 where
  pub it : Told i
  pub bad : Bad
  pub ended : now ≡ status.HistoryBad bad
  pub read : IsRead i source before after it
  pub only : IfTold i (source.left before) (λ other. it ≡ other)
  pub first : Is it bad

abbrev pub HasFailed : {S : Type 0} (i : Input) → Ghosts S → (Told i → Bad → Type 0) → (before after : S) → Status → Type 0
HasFailed i source Is before after now = HasStoppedOn i source before after now ⊎ HasReadBad i source Is before after now
