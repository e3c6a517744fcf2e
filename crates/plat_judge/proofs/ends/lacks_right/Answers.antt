use Rattle.std.proofs.Common.{ap, ◌∙◌}
use Rattle.plat_base.specs.Seen.{machine}
use Rattle.plat_follow.specs.Followed.{lacks_right_for}
use Rattle.plat_judge.proofs.ends.lacks_right.Goals as goal

pub lacks_right_for-requires-clause-entry : goal.lacks_right_for-requires-clause-entry
lacks_right_for-requires-clause-entry c = c.in-Some.ensures.entry (machine c.args.cfg.now) c.requires.stand

pub returns-in-Some : goal.returns-in-Some
returns-in-Some c = λ items shows follow.
    let m = machine c.args.cfg.now in
    c.lacks_right_for.ensures items shows ∙ ap (lacks_right_for m items c.args.q) (c.in-Some.ensures.next m items follow)

pub returns-in-None : goal.returns-in-None
returns-in-None c = λ items shows follow.
    let m = machine c.args.cfg.now in
    ap (lacks_right_for m items c.args.q) (c.in-None.ensures.next m items follow)
