-- a guest as its contracts see it: the node that it runs on, and its state
use Rattle.std.specs.Prelude.{ℕ}
use Rattle.plat_base.specs.Machine.{Machine}
use Rattle.plat_base.specs.GuestRun.{GuestState, guest_start, want_of, guest_after}
use Rattle.plat_base.specs.declared.guests.Want.{Want}

pub record GuestSeen : Type 0 where
  pub node : ℕ
  pub state : GuestState

-- the guest of node q before its first turn
abbrev pub new_guest : Machine → ℕ → GuestSeen
new_guest m q = record { node = q; state = guest_start m q }

-- what the guest wants of its next turn
abbrev pub wanted_by : Machine → GuestSeen → Want
wanted_by m g = want_of m g.node g.state

-- the same guest after its next instruction; value is what a load or fetch-and-add found
abbrev pub stepped : Machine → GuestSeen → ℕ → GuestSeen
stepped m g value = record { node = g.node; state = guest_after m g.node g.state value }

-- the same guest in another state
abbrev pub in_state : GuestSeen → GuestState → GuestSeen
in_state g state = record { node = g.node; state = state }
