use Rattle.std.proofs.Common.{[]}
use Rattle.plat_base.specs.Seen.{machine}
use Rattle.plat_follow.proofs.FollowLemmas.{IsAt-start}
use Rattle.plat_follow.proofs.followers.Follower.new.Goals as goal

pub returns-clause-follows : goal.returns-clause-follows
returns-clause-follows c = c.run_on.ensures.follows [] c.args.q (rw c.new.ensures (IsAt-start (machine c.args.cfg.now) c.args.q))
