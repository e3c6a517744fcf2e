-- what a schedule keeps, as the plan and where it stands
use Rattle.std.specs.Prelude.{◌≡◌, ℕ, ◌^◌, ◌<◌, ◌≤◌, [], length, drop, Option, Some}
use Rattle.std.specs.Option.{ForSome, option_map}
use Rattle.plat_base.specs.Machine.{robin, random, listed}
use Rattle.plat_base.specs.Schedule.{Chooser, increment}
use Rattle.plat_sched.specs.ScheduleSeen.{ScheduleSeen}
use Rattle.plat_sched.specs.declared.sources.Source.{Source}
use Rattle.plat_sched.specs.declared.sources.Source.TheVariants as kept

abbrev pub schedule_seen : Source → Option ℕ → ScheduleSeen
schedule_seen kept.Robin last = record { turns = robin; chooser = record { last = last; left = []; random = 0 } }
schedule_seen (kept.Random a b words) last =
    record { turns = random a b; chooser = record { last = last; left = []; random = words.state } }
schedule_seen (kept.Listed actors used) last =
    record { turns = listed actors.items; chooser = record { last = last; left = drop used actors.items; random = 0 } }

-- an actor that was chosen, with where the schedule stands then
abbrev pub with_place : Source → Option ℕ → Option (ℕ × Chooser)
with_place s chosen = option_map (λ a. (a, (schedule_seen s (Some a)).chooser)) chosen

-- the generator keeps the plan's stream, and a list is not passed
abbrev pub IsSource : Source → Type 0
IsSource kept.Robin = Unit {0}
IsSource (kept.Random a b words) = (words.increment ≡ increment b) × (words.state < 2 ^ 64)
IsSource (kept.Listed actors used) = used ≤ length actors.items

pub record IsSchedule (s : Source) (last : Option ℕ) : Type 0 where
  pub source : IsSource s
  pub chosen : ForSome last (λ a. a < 32)
