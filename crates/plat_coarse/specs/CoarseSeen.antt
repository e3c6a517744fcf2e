-- a coarse run as its callers see it, and what the engine keeps of it
use Rattle.std.specs.Prelude.{◌≡◌, ℕ, ◌+◌, ◌<◌, ◌≤◌, true, List, length, slice_index_or}
use Rattle.plat_base.specs.Machine.{Machine}
use Rattle.plat_base.specs.Ends.{is_live, time_of}
use Rattle.plat_base.specs.Coarse.{Coarse}
use Rattle.plat_base.specs.Turns.{guest_now}
use Rattle.plat_base.specs.Verdicts.{Answer}
use Rattle.plat_base.specs.declared.endings.End.{End}
use Rattle.plat_base.specs.declared.endings.End.TheVariants as end
use Rattle.plat_base.specs.declared.endings.Ended.{Ended}
use Rattle.plat_guest.specs.GuestSeen.{GuestSeen}
use Rattle.plat_laws.specs.Guests.{IsWithinLimits}
use Rattle.plat_coarse_laws.specs.Sound.{Sound}
use Rattle.plat_coarse_laws.specs.Room.{room, IsRoomy}
use Rattle.plat_chronicle.specs.Chronicle.{Chronicled}
use Rattle.plat_coarse.specs.Advanced.{no_guest}
use Rattle.plat_coarse.specs.Running.{state_of}
use Rattle.plat_coarse.specs.declared.turns.Turned.{Turned}
use Rattle.plat_coarse.specs.declared.turns.Turned.TheVariants.{Ran, Ended as HasEnded}

-- a machine, the policy that its faults ask, and its run so far
pub record CoarseSeen (P : Type 0) : Type 0 where
  pub machine : Machine
  pub policy : P
  pub run : Coarse

-- what the engine keeps beside the history, under a policy with this answer
pub record RunsOn (chronicle : Chronicled) (answer : Answer) (ends : List Ended) (states_now : List GuestSeen) (ticks : ℕ) : Type 0 where
  pub machine : IsWithinLimits chronicle.machine
  pub sound : Sound chronicle.machine answer (state_of chronicle ends)
  pub roomy : IsRoomy chronicle.machine (state_of chronicle ends)
  pub time : ticks ≡ time_of ends
  pub guests : length states_now ≡ chronicle.machine.nodes
  pub nodes : (q : ℕ) → q < chronicle.machine.nodes → (slice_index_or states_now q no_guest).node ≡ q
  pub states :
      (q : ℕ) → is_live ends q ≡ true
      → (slice_index_or states_now q no_guest).state ≡ (guest_now chronicle.machine (state_of chronicle ends) q).state
  pub room : room chronicle.machine ≤ length chronicle.items + chronicle.spare

-- how a turn left its processor
abbrev pub turned_of : End → Turned
turned_of end.Halted = HasEnded end.Halted
turned_of end.Trapped = HasEnded end.Trapped
turned_of end.Spent = HasEnded end.Spent
turned_of end.NoFrames = HasEnded end.NoFrames
turned_of end.Cut = Ran
