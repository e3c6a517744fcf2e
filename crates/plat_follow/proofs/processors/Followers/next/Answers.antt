use Rattle.std.proofs.Common.{◌<◌, List, length, ap, sym, subst, arith}
use Rattle.plat_follow.specs.Followed.{FollowerSeen, AllStand, AllFollow}
use Rattle.plat_follow.proofs.ProcessorLemmas.{Stands-at, Follows-at}
use Rattle.plat_follow.proofs.processors.Followers.next.Goals as goal

-- the processor is one of them
below : (c : goal.After-next) → c.args.q < length c.self.inside.followers.items
below c = omega (arith, ap (λ (fs : List FollowerSeen). length fs) c.self.view_is, c.requires)

pub returns-clause-next : goal.returns-clause-next
returns-clause-next c = λ m items h.
    let fs = c.self.inside.followers.items in
    let all = subst (λ (fs : List FollowerSeen). AllFollow m items fs) (sym c.self.view_is) h
    in c.next.ensures.next m items c.args.q (Follows-at m items fs c.args.q c.index.result.now all c.index.ensures (below c))

pub returns-clause-entry : goal.returns-clause-entry
returns-clause-entry c = λ m h.
    let fs = c.self.inside.followers.items in
    let all = subst (λ (fs : List FollowerSeen). AllStand m fs) (sym c.self.view_is) h
    in c.next.ensures.entry m (Stands-at m fs c.args.q c.index.result.now all c.index.ensures (below c))
