-- what a run under a given policy promises
use Rattle.std.specs.Prelude.{ℕ, List, Option}
use Rattle.plat_base.specs.Machine.{Machine}
use Rattle.plat_base.specs.Verdicts.{Answer}
use Rattle.plat_base.specs.declared.items.Item.{Item}
use Rattle.plat_table.specs.Closed.{ClosedSeen}
use Rattle.plat_io.specs.declared.sinks.Sink.{Ghosts}
use Rattle.plat_io.specs.declared.sources.Source.{Ghosts as Reader}
use Rattle.plat_cmd.specs.Promises.{PromisesDoing}
use Rattle.plat_cmd.specs.Works.{HasRun, ends_under, output_of}
use Rattle.plat_cmd.specs.declared.words.Command.TheVariants as command
use Rattle.plat_cmd.specs.declared.words.Grain.TheVariants as grain
use Rattle.plat_cmd.specs.declared.words.Output.{Output}
use Rattle.plat_cmd.specs.declared.outcomes.Outcome.{Outcome}

-- what is written of the run
abbrev pub output_under : Answer → Output → Machine → List Item → Option ClosedSeen → List ℕ
output_under answer o m kept ran = output_of o m kept (ends_under grain.Coarse m answer)

-- what `sim coarse` promises, but of the run under a policy that answers so, in the place of the policy that the text names
abbrev pub PromisesUnder : {S K : Type 0} → Answer → Output → Reader S → Ghosts K → S → S → K → K → Outcome → Type 0
PromisesUnder answer o source sink before after old new out =
    PromisesDoing (command.Sim grain.Coarse o) (HasRun answer grain.Coarse o sink) (output_under answer o)
    source sink before after old new out
