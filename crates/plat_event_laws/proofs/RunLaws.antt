-- every run of live actors has the invariant of the shared state, and its history is good with the ends so far
use Rattle.std.specs.Prelude.{ℕ, ◌<◌, List, [], ◌∷◌}
use Rattle.std.proofs.Common.{refl, subst}
use Rattle.std.proofs.lemmas.Option.{slice_get_within}
use Rattle.plat_base.specs.Verdicts.{Answer}
use Rattle.plat_base.specs.Machine.{Machine}
use Rattle.plat_base.specs.Rules.{Good}
use Rattle.plat_laws.specs.Guests.{IsWithinLimits}
use Rattle.plat_events.specs.Privates.{actor_count}
use Rattle.plat_events.specs.Kept.{private_of}
use Rattle.plat_events.specs.Runs.{Fine, fine_start, event, run_from, run, ends_of, IsLive, AllLive}
use Rattle.plat_events.specs.Shown.{Shows}
use Rattle.plat_fine_laws.proofs.StartLaws.{shows-start}
use Rattle.plat_event_laws.proofs.EventLaws.{keeps_event}

module _ (m : Machine) (answer : Answer) (limits : IsWithinLimits m) where
  live-below : (s : Fine) (a : ℕ) → Shows m answer s → IsLive m answer s a → a < actor_count m
  live-below s a shows live = subst (λ n. a < n) shows.all_privates (slice_get_within s.privates a live.0 live.1)

  from-shows : (who : List ℕ) (s : Fine) → Shows m answer s → AllLive m answer s who → Shows m answer (run_from m answer s who)
  from-shows [] s shows live = shows
  from-shows (a ∷ who) s shows live =
      from-shows who (event m answer s a)
      (keeps_event m answer s a limits shows (live-below s a shows live.0) (private_of m s a).place refl) live.1

  pub run-shows : (who : List ℕ) → AllLive m answer (fine_start m) who → Shows m answer (run m answer who)
  unfolding run
  run-shows who live = from-shows who (fine_start m) (shows-start m answer limits) live

  pub run-good :
      (who : List ℕ) → AllLive m answer (fine_start m) who →
      Good m answer (run m answer who).history (ends_of m (run m answer who).privates)
  run-good who live = (run-shows who live).history_good
