-- the simulated run, as one of the runs of live actors
use Rattle.std.specs.Prelude.{◌≡◌, ℕ, ◌≤◌, true, List, length}
use Rattle.plat_base.specs.Verdicts.{Answer}
use Rattle.plat_base.specs.Machine.{Machine}
use Rattle.plat_base.specs.Statuses.{ends_as}
use Rattle.plat_base.specs.declared.endings.End.TheVariants as end
use Rattle.plat_events.specs.Runs.{Fine, fine_start, run, ends_of, IsLive, AllLive}

-- the state s is that of a run of live actors with at most `limit` events; where an actor is still live, or a processor has not
-- ended, just so many events were made
pub record IsRunWithin (m : Machine) (answer : Answer) (limit : ℕ) (s : Fine) : Type 0 where
  pub who : List ℕ
  pub all_live : AllLive m answer (fine_start m) who
  pub is_run : s ≡ run m answer who
  pub most : length who ≤ limit
  pub whole : (a : ℕ) → IsLive m answer s a → length who ≡ limit
  pub cut : ends_as end.Cut (ends_of m s.privates) ≡ true → length who ≡ limit
