-- schedules: which live actor is next
use Rattle.std.specs.Prelude.{ℕ, zero, suc, ◌+◌, ◌-◌, ◌*◌, ◌/◌, ◌%◌, ◌^◌, ◌==◌, nat_lt, bit_xor, if◌then◌else◌, List, [], ◌∷◌, length, find}
use Rattle.std.specs.Prelude.{filter, Option, Some, None, slice_get}
use Rattle.std.specs.List.{list_any}
use Rattle.plat_base.specs.Verdicts.{Answer}
use Rattle.plat_base.specs.Machine.{Machine, Turns, robin, random, listed}
use Rattle.plat_base.specs.Pages.{numbers}
use Rattle.plat_base.specs.Ends.{is_live}
use Rattle.plat_base.specs.Coarse.{Coarse, coarse_start}
use Rattle.plat_base.specs.Turns.{turn}

-- where a schedule stands: the actor chosen last, what is left of a list, and the state of the random generator
pub record Chooser : Type 0 where
  pub last : Option ℕ
  pub left : List ℕ
  pub random : ℕ

-- ---- the random generator of 64 bits with outputs of 32

abbrev pub two_64 : ℕ
two_64 = 18446744073709551616

abbrev pub multiplier : ℕ
multiplier = 6364136223846793005

abbrev pub increment : ℕ → ℕ
increment b = 2 * b + 1

abbrev pub next_random : ℕ → ℕ → ℕ
next_random b s = (s * multiplier + increment b) % two_64

abbrev pub first_random : ℕ → ℕ → ℕ
first_random a b = next_random b ((a + increment b) % two_64)

abbrev pub rotate_right : ℕ → ℕ → ℕ
rotate_right x r = x / 2 ^ r + (x % 2 ^ r) * 2 ^ (32 - r)

abbrev pub random_word : ℕ → ℕ
random_word s = rotate_right ((bit_xor (s / 2 ^ 18) s / 2 ^ 27) % 2 ^ 32) (s / 2 ^ 59)

-- ---- choices

abbrev pub chooser_start : Turns → Chooser
chooser_start robin = record { last = None; left = []; random = 0 }
chooser_start (random a b) = record { last = None; left = []; random = first_random a b }
chooser_start (listed actors) = record { last = None; left = actors; random = 0 }

abbrev pub or_else : Option ℕ → Option ℕ → Option ℕ
or_else None other = other
or_else (Some a) other = Some a

-- the lowest live actor above the last one chosen, else the lowest
abbrev pub robin_choice : Option ℕ → List ℕ → Option ℕ
robin_choice None live = slice_get live 0
robin_choice (Some last) live = or_else (find (λ a. nat_lt last a) live) (slice_get live 0)

-- the next number of a list that is a live actor, and what is left behind it
abbrev pub listed_choice : List ℕ → List ℕ → Option (ℕ × List ℕ)
listed_choice live [] = None
listed_choice live (a ∷ more) = if list_any (λ b. b == a) live then Some (a, more) else listed_choice live more

abbrev pub chosen : List ℕ → ℕ → Option ℕ → Option (ℕ × Chooser)
chosen left seed None = None
chosen left seed (Some a) = Some (a, record { last = Some a; left = left; random = seed })

abbrev pub listed_or_robin : Chooser → List ℕ → Option (ℕ × List ℕ) → Option (ℕ × Chooser)
listed_or_robin c live None = chosen [] c.random (robin_choice c.last live)
listed_or_robin c live (Some x) = chosen x.1 c.random (Some x.0)

-- the next actor of a schedule among the live ones, which stand in rising number; none where nobody is live
abbrev pub choose : Turns → List ℕ → Chooser → Option (ℕ × Chooser)
choose robin live c = chosen [] c.random (robin_choice c.last live)
choose (random a b) live c = chosen [] (next_random b c.random) (slice_get live (random_word c.random % length live))
choose (listed actors) [] c = None
choose (listed actors) (a ∷ more) c = listed_or_robin c (a ∷ more) (listed_choice (a ∷ more) c.left)

-- ---- the coarse run of a machine

pub record Scheduled : Type 0 where
  pub coarse : Coarse
  pub chooser : Chooser

abbrev pub live_processors : Machine → Coarse → List ℕ
live_processors m s = filter (is_live s.ends) (numbers m.nodes)

abbrev pub with_choice : Machine → Answer → Scheduled → Option (ℕ × Chooser) → Scheduled
with_choice m answer x None = x
with_choice m answer x (Some c) = record { coarse = turn m answer x.coarse c.0; chooser = c.1 }

abbrev pub scheduled_turn : Machine → Answer → Scheduled → Scheduled
scheduled_turn m answer x = with_choice m answer x (choose m.schedule (live_processors m x.coarse) x.chooser)

abbrev pub schedule_start : Machine → Scheduled
schedule_start m = record { coarse = coarse_start m; chooser = chooser_start m.schedule }

-- the run after so many turns, or as it ended before
abbrev pub scheduled : Machine → Answer → ℕ → Scheduled
scheduled m answer zero = schedule_start m
scheduled m answer (suc k) = scheduled_turn m answer (scheduled m answer k)

-- the coarse run; each turn counts towards one processor's budget, so after nodes * budget turns nobody is live
unfoldable pub coarse_run : Machine → Answer → Coarse
coarse_run m answer = (scheduled m answer (m.nodes * m.budget)).coarse
