use Rattle.std.proofs.Common.{◌<◌, List, length, sym, subst, arith}
use Rattle.plat_base.specs.Seen.{machine}
use Rattle.plat_follow.specs.Followed.{FollowerSeen, AllStand, AllFollow}
use Rattle.plat_follow.proofs.ProcessorLemmas.{Stands-at, Follows-at}
use Rattle.plat_follow.proofs.processors.Followers.ends_so.Goals as goal

pub ends_so-requires : goal.ends_so-requires
ends_so-requires c =
    let m = machine c.args.cfg.now in
    let fs = c.self.inside.followers.items in
    let all = subst (λ (fs : List FollowerSeen). AllStand m fs) (sym c.self.view_is) c.requires.stand
    in Stands-at m fs c.args.q c.index.result.now all c.index.ensures (omega (arith, all.count, c.requires.processor))

pub returns : goal.returns
returns c = λ items h same.
    let m = machine c.args.cfg.now in
    let fs = c.self.inside.followers.items in
    let all = subst (λ (fs : List FollowerSeen). AllFollow m items fs) (sym c.self.view_is) h in
    let below : c.args.q < length fs = omega (arith, all.count, c.requires.processor)
    in c.ends_so.ensures items c.args.q (Follows-at m items fs c.args.q c.index.result.now all c.index.ensures below) same
