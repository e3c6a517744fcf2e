-- what running a rider does
use Rattle.std.specs.Prelude.{◌≡◌, ◌<◌, true, List, length, All}
use Rattle.plat_base.specs.Pages.{numbers}
use Rattle.plat_events.specs.Privates.{actor_count, is_over}
use Rattle.plat_table.specs.Riders.{BoardSeen, RiderSeen, IsOf, numbers_of}
use Rattle.plat_table.specs.Rule.{Held}

-- the rider is of this board, and has every actor of its machine
pub record HasAll (x : RiderSeen) (b : BoardSeen) : Type 0 where
  pub of : IsOf x b
  pub some : 0 < length x.crew
  pub all : numbers_of x.crew ≡ numbers (actor_count b.machine)

abbrev pub HaveEnded : List Held → Type 0
HaveEnded crew = All (λ (h : Held). is_over h.1.place ≡ true) crew

-- it is still of this board, with the same actors, and each of them has ended
pub record HasRun (x y : RiderSeen) (b : BoardSeen) : Type 0 where
  pub of : IsOf y b
  pub same : numbers_of y.crew ≡ numbers_of x.crew
  pub over : HaveEnded y.crew
