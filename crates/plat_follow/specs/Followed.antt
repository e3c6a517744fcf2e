-- a guest as its follower knows it, and what that says of the items of a history
use Rattle.std.specs.Prelude.{◌≡◌, ℕ, ◌+◌, ◌/◌, ◌<◌, ◌≤◌, ◌==◌, nat_lt, nat_le, ◌&&◌, not, Bool, true, false, List, [], length, Option}
use Rattle.std.specs.Prelude.{Some, None, slice_index_or}
use Rattle.plat_base.specs.Machine.{Machine}
use Rattle.plat_base.specs.Pages.{entry_at}
use Rattle.plat_base.specs.GuestRun.{Operation, Reaches, Switches, guest_run, want_of}
use Rattle.plat_base.specs.Done.{values_of, reads_word}
use Rattle.plat_base.specs.Held.{held_through, has_right}
use Rattle.plat_base.specs.Rules.{next_operation, is_access_next, is_switch_next, is_ordered_access, is_ordered_switch, wants_operation}
use Rattle.plat_base.specs.Rules.{is_end}
use Rattle.plat_base.specs.declared.guests.Want.{Want}
use Rattle.plat_base.specs.declared.guests.Want.TheVariants as want
use Rattle.plat_base.specs.declared.items.Item.{Item}
use Rattle.plat_base.specs.declared.items.Item.TheVariants as item
use Rattle.plat_base.specs.declared.endings.End.{End}
use Rattle.plat_base.specs.declared.endings.End.TheVariants as end
use Rattle.plat_base.specs.declared.endings.Ended.{Ended}
use Rattle.plat_laws.specs.Guests.{IsGuest}
use Rattle.plat_guest.specs.GuestSeen.{GuestSeen, wanted_by}
use Rattle.plat_follow.specs.Wanted.{IsWanted}
use Rattle.plat_follow.specs.declared.stops.Stop.{Stop}
use Rattle.plat_follow.specs.declared.stops.Stop.TheVariants as stop

-- the guest where it stops, its turns when it had made its last operation, its turns so far, and why it is not run on
pub record FollowerSeen : Type 0 where
  pub guest : GuestSeen
  pub last : ℕ
  pub turns : ℕ
  pub stop : Stop

-- a guest that wants this after so many turns is not run on
abbrev pub IsStop : Machine → (turns : ℕ) → Want → Stop → Type 0
IsStop m turns w (stop.Wants wanted) = (turns < m.budget) × IsWanted m w wanted
IsStop m turns w stop.Halts = (turns < m.budget) × (w ≡ want.Halted)
IsStop m turns w stop.Traps = (turns < m.budget) × (w ≡ want.Trap)
IsStop m turns w stop.Spent = turns ≡ m.budget

-- it is one of the machine's guests, within its budget, and has stopped for a reason
pub record Stands (m : Machine) (f : FollowerSeen) : Type 0 where
  pub node : f.guest.node < m.nodes
  pub within : f.turns ≤ m.budget
  pub last : f.last ≤ f.turns
  pub stop : IsStop m f.turns (wanted_by m f.guest) f.stop

-- the guest of q after so many turns on the values that it got in these items: its operations are those of the items, and
-- it made the last one in the turn of this number, or none at all
pub record IsAt (m : Machine) (items : List Item) (q : ℕ) (guest : GuestSeen) (last turns : ℕ) : Type 0 where
  pub node : guest.node ≡ q
  pub made : IsGuest m items turns q
  pub state : guest.state ≡ (guest_run m q (values_of q items) turns).state
  pub latest : (t : ℕ) → last ≡ t + 1 → wants_operation (want_of m q (guest_run m q (values_of q items) t).state) ≡ true
  pub quiet :
      (t : ℕ) → last ≤ t → t < turns → wants_operation (want_of m q (guest_run m q (values_of q items) t).state) ≡ false

-- a follower of q that has followed these items
pub record Follows (m : Machine) (items : List Item) (q : ℕ) (f : FollowerSeen) : Type 0 where
  pub stands : Stands m f
  pub at : IsAt m items q f.guest f.last f.turns

-- ---- the next operation

abbrev pub is_wanting : Stop → Bool
is_wanting (stop.Wants wanted) = true
is_wanting stop.Halts = false
is_wanting stop.Traps = false
is_wanting stop.Spent = false

-- its guest has a next operation
abbrev pub is_waiting : FollowerSeen → Bool
is_waiting f = is_wanting f.stop

-- the item is the next operation of q, and found this value if it is a load or a fetch-and-add
abbrev pub IsMade : Machine → List Item → (q old : ℕ) → Item → Type 0
IsMade m items q old (item.Access a) =
    (a.actor ≡ q) × (reads_word a.kind ≡ true → a.old ≡ old) × (is_access_next (next_operation m items q) a ≡ true)
IsMade m items q old (item.Change c) = ⊥
IsMade m items q old (item.Applied x) = ⊥
IsMade m items q old (item.Switch s) = (s.actor ≡ q) × (is_switch_next (next_operation m items q) s.space ≡ true)

-- the next operation of q is an access for which it holds no translation with enough right
abbrev pub lacks_right_for : Machine → List Item → ℕ → Option Operation → Bool
lacks_right_for m items q None = false
lacks_right_for m items q (Some (Reaches r)) =
    not (has_right r.kind (held_through m items q (entry_at m r.space (r.addr / m.words))))
lacks_right_for m items q (Some (Switches space)) = false

abbrev pub lacks_right : Machine → List Item → ℕ → Bool
lacks_right m items q = lacks_right_for m items q (next_operation m items q)

-- ---- ends

-- these turns and this end are those of the guest of q
abbrev pub is_ended : Machine → List Item → ℕ → Ended → Bool
is_ended m items q e = nat_le e.turns m.budget && is_end m items q e.end e.turns

abbrev pub is_halting : Stop → Bool
is_halting (stop.Wants wanted) = false
is_halting stop.Halts = true
is_halting stop.Traps = false
is_halting stop.Spent = false

abbrev pub is_trapping : Stop → Bool
is_trapping (stop.Wants wanted) = false
is_trapping stop.Halts = false
is_trapping stop.Traps = true
is_trapping stop.Spent = false

abbrev pub is_spending : Stop → Bool
is_spending (stop.Wants wanted) = false
is_spending stop.Halts = false
is_spending stop.Traps = false
is_spending stop.Spent = true

-- a guest that stands so can have ended so, after so many turns
abbrev pub can_end : Machine → FollowerSeen → (lacks : Bool) → End → (turns : ℕ) → Bool
can_end m f lacks end.Halted turns = is_halting f.stop && turns == f.turns + 1
can_end m f lacks end.Trapped turns = is_trapping f.stop && turns == f.turns + 1
can_end m f lacks end.Spent turns = is_spending f.stop && turns == f.turns
can_end m f lacks end.NoFrames turns = nat_lt m.frames m.pages && lacks && turns == f.turns + 1
can_end m f lacks end.Cut turns = nat_le f.last turns && nat_le turns (f.turns + 1) && nat_le turns m.budget

-- ---- all processors

abbrev pub no_follower : FollowerSeen
no_follower =
    record { guest = record { node = 0; state = record { registers = []; at = 0; space = 0 } }; last = 0; turns = 0; stop = stop.Spent }

-- one for each node, all of them in a place to stop
pub record AllStand (m : Machine) (fs : List FollowerSeen) : Type 0 where
  pub count : length fs ≡ m.nodes
  pub each : (q : ℕ) → q < m.nodes → Stands m (slice_index_or fs q no_follower)

-- one for each node, all of which have followed these items
pub record AllFollow (m : Machine) (items : List Item) (fs : List FollowerSeen) : Type 0 where
  pub count : length fs ≡ m.nodes
  pub each : (q : ℕ) → q < m.nodes → Follows m items q (slice_index_or fs q no_follower)

-- an item that is an access or a switch is in its place
abbrev pub IsNextItem : Machine → List Item → Item → Type 0
IsNextItem m items (item.Access a) = is_ordered_access m items a ≡ true
IsNextItem m items (item.Change c) = Unit {0}
IsNextItem m items (item.Applied x) = Unit {0}
IsNextItem m items (item.Switch s) = is_ordered_switch m items s ≡ true
