-- what a guest wants of its next turn, as its follower keeps it
use Rattle.std.specs.Prelude.{◌≡◌, ◌/◌, Bool, true, false, Some}
use Rattle.plat_base.specs.Machine.{Machine}
use Rattle.plat_base.specs.Pages.{entry_at}
use Rattle.plat_base.specs.GuestRun.{Operation, Reaches, Switches, Reach, reach_of}
use Rattle.plat_base.specs.declared.guests.Want.{Want}
use Rattle.plat_base.specs.declared.guests.Want.TheVariants as want
use Rattle.plat_follow.specs.declared.wanted.WantedAccess.{WantedAccess}
use Rattle.plat_follow.specs.declared.wanted.Wanted.{Wanted}
use Rattle.plat_follow.specs.declared.wanted.Wanted.TheVariants.{Access, Switch}

-- a wanted access without the number of its entry
abbrev pub reach_seen : WantedAccess → Reach
reach_seen a = record { kind = a.kind; space = a.space; addr = a.addr; page = a.page; word = a.word; operand = a.operand }

abbrev pub operation_seen : Wanted → Operation
operation_seen (Access a) = Reaches (reach_seen a)
operation_seen (Switch space) = Switches space

-- the turn makes no operation, and the guest goes on
abbrev pub is_quiet : Want → Bool
is_quiet want.Local = true
is_quiet (want.Access kind space addr operand) = false
is_quiet (want.Switch space) = false
is_quiet (want.Print value) = true
is_quiet want.Halted = false
is_quiet want.Trap = false

-- a wanted access names the entry that its address leads through
abbrev pub IsThroughEntry : Machine → Wanted → Type 0
IsThroughEntry m (Access a) = entry_at m a.space (a.addr / m.words) ≡ Some a.entry
IsThroughEntry m (Switch space) = Unit {0}

-- this operation, through its entry, is what the guest wants
abbrev pub IsWanted : Machine → Want → Wanted → Type 0
IsWanted m w (Access a) =
    (w ≡ want.Access a.kind a.space a.addr a.operand) × (reach_seen a ≡ reach_of m a.kind a.space a.addr a.operand)
    × (entry_at m a.space (a.addr / m.words) ≡ Some a.entry)
IsWanted m w (Switch space) = w ≡ want.Switch space
