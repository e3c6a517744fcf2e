-- what a law says of the operations at places of one kind: they keep the invariant of the shared state
use Rattle.std.specs.Prelude.{ℕ, ◌<◌}
use Rattle.plat_base.specs.Machine.{Machine}
use Rattle.plat_base.specs.Verdicts.{Answer}
use Rattle.plat_events.specs.Privates.{Place, actor_count}
use Rattle.plat_events.specs.Kept.{private_of}
use Rattle.plat_events.specs.Runs.{Fine, event}
use Rattle.plat_events.specs.Shown.{Shows}

-- from every state with the invariant, the event of an actor at such a place leaves a state with it
abbrev pub KeepsShown : Machine → Answer → (Place → Type 0) → Type 0
KeepsShown m answer Is = (s : Fine) (a : ℕ) → Shows m answer s → a < actor_count m
    → Is (private_of m s a).place → Shows m answer (event m answer s a)
