-- a schedule as its contracts see it: the plan, and where it stands
use Rattle.std.specs.Prelude.{ℕ, Option, Some, None}
use Rattle.plat_base.specs.Machine.{Turns}
use Rattle.plat_base.specs.Schedule.{Chooser, chooser_start, choose}
use Rattle.plat_sched.specs.Actors.{actors_of}

pub record ScheduleSeen : Type 0 where
  pub turns : Turns
  pub chooser : Chooser

-- a schedule before its first choice
abbrev pub new_schedule : Turns → ScheduleSeen
new_schedule turns = record { turns = turns; chooser = chooser_start turns }

-- the choice among the live actors, if there are any, with where the schedule stands then
abbrev pub choice : ScheduleSeen → ℕ → Option (ℕ × Chooser)
choice s live = choose s.turns (actors_of live) s.chooser

abbrev pub actor_chosen : Option (ℕ × Chooser) → Option ℕ
actor_chosen None = None
actor_chosen (Some c) = Some c.0

-- the schedule after a choice
abbrev pub after_choice : ScheduleSeen → Option (ℕ × Chooser) → ScheduleSeen
after_choice s None = s
after_choice s (Some c) = record { turns = s.turns; chooser = c.1 }
