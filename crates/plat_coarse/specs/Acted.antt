-- what a turn found, and what it makes
use Rattle.std.specs.Prelude.{◌≢◌, ℕ, ◌/◌, ◌==◌, Bool, true, false, List, None, if◌then◌else◌}
use Rattle.plat_base.specs.Machine.{Machine}
use Rattle.plat_base.specs.Pages.{entry_at}
use Rattle.plat_base.specs.GuestRun.{reach_of}
use Rattle.plat_base.specs.Done.{reads_word}
use Rattle.plat_base.specs.Flat.{flat_value}
use Rattle.plat_base.specs.Held.{held}
use Rattle.plat_base.specs.Turns.{Made, access_made}
use Rattle.plat_base.specs.Verdicts.{Answer}
use Rattle.plat_base.specs.declared.guests.Want.{Want}
use Rattle.plat_base.specs.declared.guests.Want.TheVariants as want
use Rattle.plat_base.specs.declared.endings.End.{End}
use Rattle.plat_base.specs.declared.endings.End.TheVariants as end
use Rattle.plat_base.specs.declared.endings.Ended.{Ended}
use Rattle.plat_base.specs.declared.items.Item.{Item}
use Rattle.plat_chronicle.specs.Chronicle.{Chronicled}
use Rattle.plat_coarse.specs.Running.{state_of}
use Rattle.plat_coarse.specs.Reached.{reach_seen}
use Rattle.plat_coarse.specs.declared.accesses.Reached.{Reached}

-- the word that a turn found, 0 where it looks for none
abbrev pub value_found : Machine → List Item → Want → ℕ
value_found m items want.Local = 0
value_found m items (want.Access kind space addr operand) =
    if reads_word kind then flat_value m items (reach_of m kind space addr operand).page (reach_of m kind space addr operand).word else 0
value_found m items (want.Switch space) = 0
value_found m items (want.Print value) = 0
value_found m items want.Halted = 0
value_found m items want.Trap = 0

-- an access that is wanted is of an address that has an entry
abbrev pub IsReachable : Machine → Want → Type 0
IsReachable m want.Local = Unit {0}
IsReachable m (want.Access kind space addr operand) = entry_at m space (addr / m.words) ≢ None
IsReachable m (want.Switch space) = Unit {0}
IsReachable m (want.Print value) = Unit {0}
IsReachable m want.Halted = Unit {0}
IsReachable m want.Trap = Unit {0}

-- what an access through an entry makes
abbrev pub made_through : Chronicled → Answer → List Ended → (q now entry : ℕ) → Reached → Made
made_through chronicle answer ends q now entry reach =
    access_made chronicle.machine answer (state_of chronicle ends) q now entry (reach_seen reach)
    (held chronicle.machine chronicle.items q entry)

-- a processor whose guest goes on is spent once it has made the budget
abbrev pub end_within : (budget turns : ℕ) → End → End
end_within budget turns end.Halted = end.Halted
end_within budget turns end.Trapped = end.Trapped
end_within budget turns end.Spent = end.Spent
end_within budget turns end.NoFrames = end.NoFrames
end_within budget turns end.Cut = if turns == budget then end.Spent else end.Cut

-- a want that the guest's instruction goes on from
abbrev pub wants_more : Want → Bool
wants_more want.Local = true
wants_more (want.Access kind space addr operand) = true
wants_more (want.Switch space) = true
wants_more (want.Print value) = true
wants_more want.Halted = false
wants_more want.Trap = false
