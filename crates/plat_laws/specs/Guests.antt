-- a guest in the middle of a history, on a machine within its limits
use Rattle.std.specs.Prelude.{◌≡◌, ℕ, true, List, length, IsTrue}
use Rattle.plat_base.specs.Machine.{Machine, is_machine}
use Rattle.plat_base.specs.GuestRun.{guest_run, GoesOn}
use Rattle.plat_base.specs.Done.{values_of, operations_of, are_done}
use Rattle.plat_base.specs.Held.{active}
use Rattle.plat_base.specs.declared.items.Item.{Item}

-- a machine within the limits of a machine text
abbrev pub IsWithinLimits : Machine → Type 0
IsWithinLimits m = IsTrue (is_machine m)

-- q's guest after so many turns on the values that it got in these items: it made them all, its operations are those of
-- the items, and it goes on
pub record IsGuest (m : Machine) (items : List Item) (turns q : ℕ) : Type 0 where
  pub made : (guest_run m q (values_of q items) turns).turns ≡ turns
  pub goes : (guest_run m q (values_of q items) turns).outcome ≡ GoesOn
  pub used : (guest_run m q (values_of q items) turns).used ≡ length (values_of q items)
  pub done : are_done (guest_run m q (values_of q items) turns).operations (operations_of q items) ≡ true
  pub space : (guest_run m q (values_of q items) turns).state.space ≡ active m items q
