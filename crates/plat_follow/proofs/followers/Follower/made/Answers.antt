use Rattle.std.proofs.Common.{◌+◌, ◌++◌, [], ◌∷◌, sym, subst}
use Rattle.plat_base.specs.Seen.{machine}
use Rattle.plat_guest.specs.GuestSeen.{stepped}
use Rattle.plat_follow.specs.Followed.{FollowerSeen, IsAt}
use Rattle.plat_follow.proofs.FollowLemmas.{IsAt-made}
use Rattle.plat_follow.proofs.followers.Follower.made.Goals as goal

pub returns-clause-follows : goal.returns-clause-follows
returns-clause-follows c = λ items q i h made.
    let m = machine c.args.cfg.now in
    let at_next : FollowerSeen → Type 0 =
    λ f. IsAt m (items ++ i ∷ []) q (stepped m f.guest c.args.old) (f.turns + 1) (f.turns + 1) in
    let next = subst at_next (sym c.self.view_is) (IsAt-made m items q c.args.old c.args.self.now i h made) in
    rw c.self-2.view_is (c.run_on.ensures.follows (items ++ i ∷ []) q (rw c.after.ensures next))
