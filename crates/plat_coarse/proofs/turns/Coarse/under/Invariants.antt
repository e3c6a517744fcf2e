use Rattle.std.proofs.Common.{◌≡◌, ℕ, ◌<◌, ◌≤◌, length}
use Rattle.std.specs.Prelude.{slice_index_or, replicate, vec_capacity}
use Rattle.plat_base.specs.Seen.{machine}
use Rattle.plat_base.specs.Ends.{cut_at}
use Rattle.plat_guest.specs.GuestSeen.{new_guest}
use Rattle.plat_coarse.specs.Advanced.{no_guest}
use Rattle.plat_coarse.proofs.turns.Coarse.under.Given as goal

abbrev pub invariant-loop-q : goal.invariant-loop-q
invariant-loop-q g l = record {
  guests : length l.guests.items ≡ l.q;
  guests_room : l.nodes ≤ vec_capacity l.guests;
  ends_room : l.nodes ≤ vec_capacity l.ends;
  states : (q : ℕ) → q < l.q → slice_index_or l.guests.items q no_guest ≡ new_guest (machine l.cfg) q;
  ends : l.ends.items ≡ replicate l.q (cut_at 0);
}
