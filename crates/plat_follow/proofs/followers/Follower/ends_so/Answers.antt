use Rattle.std.proofs.Common.{◌∙◌}
use Rattle.plat_base.specs.Seen.{machine}
use Rattle.plat_follow.proofs.EndLemmas.{is_ended-stands}
use Rattle.plat_follow.proofs.followers.Follower.ends_so.Goals as goal

pub returns : goal.returns
returns c = λ items q h same.
    c.can_end.ensures ∙ is_ended-stands (machine c.args.cfg.now) items q c.args.self.now h c.args.lacks_right c.args.ended same
