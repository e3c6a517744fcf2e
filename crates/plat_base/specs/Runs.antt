-- what is promised of the history and the ends of a run, whatever made it
use Rattle.std.specs.Prelude.{◌≢◌, ℕ, ◌<◌, List}
use Rattle.plat_base.specs.Verdicts.{Answer}
use Rattle.plat_base.specs.Machine.{Machine}
use Rattle.plat_base.specs.GuestRun.{guest_run, GoesOn}
use Rattle.plat_base.specs.Done.{values_of}
use Rattle.plat_base.specs.Ends.{ended_of}
use Rattle.plat_base.specs.Rules.{Good, HasEnoughFrames}
use Rattle.plat_base.specs.Histories.{IsOneHistory}
use Rattle.plat_base.specs.declared.endings.End.TheVariants as end
use Rattle.plat_base.specs.declared.endings.Ended.{Ended}
use Rattle.plat_base.specs.declared.items.Item.{Item}

-- every processor ended
abbrev pub IsOver : Machine → List Ended → Type 0
IsOver m ends = (q : ℕ) → q < m.nodes → (ended_of ends q).end ≢ end.Cut

-- guest q halts or traps within its budget, on the values that it gets in this history
abbrev pub GuestEnds : Machine → List Item → ℕ → Type 0
GuestEnds m items q = (guest_run m q (values_of q items) m.budget).outcome ≢ GoesOn

abbrev pub GuestsEnd : Machine → List Item → Type 0
GuestsEnd m items = (q : ℕ) → q < m.nodes → GuestEnds m items q

-- the history and the ends of a run are those of a coherent memory
pub record IsCoherentRun (m : Machine) (answer : Answer) (items : List Item) (ends : List Ended) : Type 0 where
  -- no item and no end breaks a rule
  pub good : Good m answer items ends
  -- one history of flat memory: each processor's accesses in program order, each by a translation that nothing removed, and
  -- with the value of the copy that it goes to
  pub one : IsOneHistory m items ends
  -- no processor is spent whose guest halts or traps within the budget
  pub unspent : (q : ℕ) → q < m.nodes → GuestEnds m items q → (ended_of ends q).end ≢ end.Spent
  -- none ended for want of a frame, where there are enough
  pub framed : HasEnoughFrames m → (q : ℕ) → q < m.nodes → (ended_of ends q).end ≢ end.NoFrames
