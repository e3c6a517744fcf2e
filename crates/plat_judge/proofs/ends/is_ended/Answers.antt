use Rattle.plat_judge.proofs.ends.is_ended.Goals as goal

pub returns : goal.returns
returns c = λ items shows follow. c.ends_so.ensures items follow (c.lacks_right-lacks_right.ensures items shows follow)
