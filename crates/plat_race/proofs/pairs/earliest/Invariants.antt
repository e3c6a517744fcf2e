use Rattle.std.proofs.Common.{◌≡◌, ◌<◌, ℕ, false}
use Rattle.plat_race.specs.Races.{is_race}
use Rattle.plat_race.proofs.pairs.earliest.Given as goal

abbrev pub invariant-loop-first : goal.invariant-loop-first
invariant-loop-first l = (i : ℕ) → i < l.first → is_race l.items i l.place ≡ false
