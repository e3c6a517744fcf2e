-- polls, scans and the end of a turn: which place follows
use Rattle.std.specs.Prelude.{ℕ, ◌+◌, ◌==◌, nat_lt, if◌then◌else◌, length, slice_index}
use Rattle.plat_base.specs.Machine.{Machine}
use Rattle.plat_base.specs.Pages.{entries_of_space}
use Rattle.plat_base.specs.declared.items.Message.TheVariants as message
use Rattle.plat_base.specs.declared.items.Moment.{Moment}
use Rattle.plat_base.specs.declared.items.Moment.TheVariants as moment
use Rattle.plat_base.specs.declared.endings.End.TheVariants as end
use Rattle.plat_events.specs.Words.{has_bit, has_invalidate, has_restrict}
use Rattle.plat_events.specs.Privates.{Onward, NewTurn, TurnOver, Relock, Rewait, Place, Polling, Looking, Applying, Ticking, Locking}
use Rattle.plat_events.specs.Privates.{InSession, Leaving, Private}

-- the entry that a scan of the active space looks at
abbrev pub entry_scanned : Machine → Private → ℕ → ℕ
entry_scanned m p i = slice_index (entries_of_space m p.guest.space) i

-- a processor that has made its budget is spent, and another begins its next turn
abbrev pub turn_over : Machine → (turns : ℕ) → Place
turn_over m turns = if turns == m.budget then Leaving end.Spent else Polling NewTurn

abbrev pub go_on : Machine → (turns : ℕ) → Onward → Place
go_on m turns NewTurn = Ticking
go_on m turns TurnOver = turn_over m turns
go_on m turns (Relock fault) = Locking fault
go_on m turns (Rewait session) = InSession session

-- the next entry of the space, in rising number, or what follows the scan
abbrev pub scan_from : Machine → (turns space i : ℕ) → Moment → Onward → Place
scan_from m turns space i moment onward =
    if nat_lt i (length (entries_of_space m space)) then Looking i moment onward else go_on m turns onward

-- a poll: an interrupt for the active space leads to a scan, and others are dropped
abbrev pub poll_place : Machine → Private → Onward → ℕ → Place
poll_place m p onward n =
    if has_bit n p.guest.space
    then scan_from m p.turns p.guest.space 0 moment.Interrupt onward
    else go_on m p.turns onward

-- a look at a mask: an invalidate goes before a restrict, and without either the scan goes on
abbrev pub look_place : Machine → (a : ℕ) → Private → ℕ → Moment → Onward → ℕ → Place
look_place m a p i moment onward n =
    if has_invalidate n a then Applying i message.Invalidate moment onward
    else if has_restrict n a then Applying i message.Restrict moment onward
    else scan_from m p.turns p.guest.space (i + 1) moment onward
