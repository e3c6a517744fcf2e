use Rattle.std.proofs.Common.{◌≡◌, ℕ, ◌<◌, ◌≤◌, [], length, get_or, vec_capacity}
use Rattle.plat_base.specs.Seen.{machine}
use Rattle.plat_follow.specs.Followed.{Follows, no_follower}
use Rattle.plat_follow.proofs.processors.Followers.new.Given as goal

abbrev pub invariant-loop-q : goal.invariant-loop-q
invariant-loop-q l = record {
  count : length l.followers.items ≡ l.q;
  room : l.cfg.nodes ≤ vec_capacity l.followers;
  each : (r : ℕ) → r < l.q → Follows (machine l.cfg) [] r (get_or l.followers.items r no_follower);
}
