-- an access as the engine keeps it during a turn
use Rattle.std.specs.Prelude.{ℕ, Option, Some, None, if◌then◌else◌}
use Rattle.plat_base.specs.Verdicts.{Answer}
use Rattle.plat_base.specs.Machine.{Machine}
use Rattle.plat_base.specs.GuestRun.{Reach}
use Rattle.plat_base.specs.Frames.{is_starved}
use Rattle.plat_base.specs.Turns.{decided}
use Rattle.plat_base.specs.declared.items.Cause.{Cause}
use Rattle.plat_base.specs.declared.items.Item.{Item}
use Rattle.plat_base.specs.declared.policies.Decision.{Decision}
use Rattle.plat_coarse.specs.declared.accesses.Reached.{Reached}
use Rattle.std.specs.Prelude.{List}

abbrev pub reach_seen : Reached → Reach
reach_seen r = record { kind = r.kind; space = r.space; addr = r.addr; page = r.page; word = r.word; operand = r.operand }

-- the decision of a fault, or none where no frame is free for an empty page
abbrev pub decided_if_fed : Machine → Answer → List Item → (q page now : ℕ) → Cause → Option Decision
decided_if_fed m answer items q page now cause =
    if is_starved m items q page then None else Some (decided m answer items q page now cause)
