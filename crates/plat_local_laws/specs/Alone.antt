-- the local facts of a private state: what its own operations make true, whatever numbers of their kinds the words were
use Rattle.std.specs.Prelude.{ℕ, IsTrue}
use Rattle.std.specs.List.{list_all}
use Rattle.plat_base.specs.Verdicts.{Answer}
use Rattle.plat_base.specs.Machine.{Machine, is_number}
use Rattle.plat_events.specs.Privates.{Private}
use Rattle.plat_local_laws.specs.Standing.{StandingOk}
use Rattle.plat_local_laws.specs.Numbers.{GuestOk, NumbersOk}

pub record PrivateOk (m : Machine) (answer : Answer) (a : ℕ) (p : Private) : Type 0 where
  -- its place, with the session and the access under way, and its translations
  pub standing : StandingOk m answer a p
  -- its guest and its journal
  pub guest : GuestOk m a p
  -- each register of its guest is a number of 32 bits
  pub registers : IsTrue (list_all is_number p.guest.registers)
  -- how many items it made
  pub numbers : NumbersOk m a p
