-- guests that halt in a known turn, whatever they read
use Rattle.std.specs.Prelude.{◌≡◌, ℕ, ◌<◌, ◌≤◌, List, length}
use Rattle.plat_base.specs.GuestRun.{guest_run, GoesOn, HasHalted}
use Rattle.plat_base.specs.Machine.{Machine}
use Rattle.plat_base.specs.declared.endings.End.TheVariants.{Halted}
use Rattle.plat_base.specs.declared.endings.Ended.{Ended}

-- guest q halts in turn `last`, whatever values its loads and fetch-and-adds get; `enough` values are enough for it
pub record HaltsIn (m : Machine) (q last enough : ℕ) : Type 0 where
  -- with enough values it makes each of these turns
  pub made : (values : List ℕ) (t : ℕ) → enough ≤ length values → t ≤ last → (guest_run m q values t).turns ≡ t
  -- on any values it makes no more of them
  pub over : (values : List ℕ) (t : ℕ) → (guest_run m q values t).turns ≡ t → t ≤ last
  -- in each but the last it goes on
  pub goes : (values : List ℕ) (t : ℕ) → (guest_run m q values t).turns ≡ t → t < last → (guest_run m q values t).outcome ≡ GoesOn
  -- and in the last it halts
  pub halts : (values : List ℕ) (t : ℕ) → (guest_run m q values t).turns ≡ t → t ≡ last → (guest_run m q values t).outcome ≡ HasHalted

-- a processor that halted in this turn
abbrev pub halted_in : ℕ → Ended
halted_in turns = record { end = Halted; turns = turns }
