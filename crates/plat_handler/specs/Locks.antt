-- what a try of a lock finds
use Rattle.std.specs.Prelude.{ℕ, if◌then◌else◌, IsTrue}
use Rattle.plat_base.specs.Machine.{Machine}
use Rattle.plat_events.specs.Words.{dir_read, is_locked}
use Rattle.plat_events.specs.Places.{is_dir_word}
use Rattle.plat_handler.specs.declared.phases.Found.{Found}
use Rattle.plat_handler.specs.declared.phases.Found.TheVariants.{Nothing, Taken, Free}

-- the word of a directory of the machine whose page is locked
pub record IsTaken (m : Machine) (n : ℕ) : Type 0 where
  pub word : IsTrue (is_dir_word m n)
  pub locked : IsTrue (is_locked n)

abbrev pub found_in : Machine → ℕ → Found
found_in m n = if is_dir_word m n then (if is_locked n then Taken else Free (dir_read n)) else Nothing
