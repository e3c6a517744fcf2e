use Rattle.std.proofs.Common.{◌≡◌, ℕ, List}
use Rattle.plat_base.specs.Seen.{machine}
use Rattle.plat_base.specs.declared.items.Item.{Item}
use Rattle.plat_follow.specs.Followed.{IsAt}
use Rattle.plat_follow.proofs.followers.Follower.run_on.Given as goal

abbrev pub invariant-loop-turns : goal.invariant-loop-turns
invariant-loop-turns l = record {
  node : l.guest.node ≡ l.fn.guest.node;
  at :
      (items : List Item) (q : ℕ) → IsAt (machine l.cfg) items q l.fn.guest l.last l.last
      → IsAt (machine l.cfg) items q l.guest l.last l.turns;
}
