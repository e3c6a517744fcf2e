-- the coarse run is that of a coherent memory
use Rattle.std.specs.Prelude.{IsTrue}
use Rattle.plat_base.specs.Verdicts.{Answer}
use Rattle.plat_base.specs.Machine.{Machine, is_machine}
use Rattle.plat_base.specs.Runs.{IsCoherentRun}
use Rattle.plat_base.specs.Schedule.{coarse_run}
use Rattle.plat_laws.proofs.FinishLaws.{coherent_run}
use Rattle.plat_coarse_laws.proofs.TurnLaws.{run_good, run_no_frames}

-- the coarse run of a machine within its limits
pub coarse_run_coherent : (m : Machine) (answer : Answer) → IsTrue (is_machine m) →
    IsCoherentRun m answer (coarse_run m answer).history (coarse_run m answer).ends
coarse_run_coherent m answer limits =
    coherent_run m answer (coarse_run m answer).history (coarse_run m answer).ends (run_good m answer limits)
    (λ enough q inside. run_no_frames m answer q limits enough inside)
