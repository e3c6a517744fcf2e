use Rattle.std.proofs.Common.{◌≡◌, ◌<◌, ℕ, None}
use Rattle.plat_race.specs.Races.{race_at}
use Rattle.plat_race.specs.Searches.{HaveMet, Suits}
use Rattle.plat_race.proofs.racers.Racer.first.Given as goal

-- the tables have met the items below the place, and no race ends at one of those
abbrev pub invariant-loop-place : goal.invariant-loop-place
invariant-loop-place l = record {
  suits : Suits l.tables l.items;
  met : HaveMet l.tables l.items l.place;
  none : (j : ℕ) → j < l.place → race_at l.items j ≡ None;
}
