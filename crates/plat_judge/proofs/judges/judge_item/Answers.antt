use Rattle.plat_judge.proofs.judges.judge_item.Goals as goal

pub returns-in-Access : goal.returns-in-Access
returns-in-Access g c = record {
  rule = λ items shows follow. rw c.in-Access.is (c.judge_access.ensures.rule (g.P.Policy.answer c.args.policy.now) items shows follow);
  taken = λ items shows none. rw c.in-Access.is (c.judge_access.ensures.taken items shows none);
}

pub returns-in-Change : goal.returns-in-Change
returns-in-Change g c = record {
  rule = λ items shows follow. rw c.in-Change.is (c.judge_change.ensures.rule items shows follow);
  taken = λ items shows none. rw c.in-Change.is (c.judge_change.ensures.taken items shows none);
}

pub returns-in-Applied : goal.returns-in-Applied
returns-in-Applied g c = record {
  rule = λ items shows follow. rw c.in-Applied.is (c.judge_applied.ensures.rule (g.P.Policy.answer c.args.policy.now) items shows);
  taken = λ items shows none. rw c.in-Applied.is (c.judge_applied.ensures.taken items shows none);
}

pub returns-in-Switch : goal.returns-in-Switch
returns-in-Switch g c = record {
  rule = λ items shows follow. rw c.in-Switch.is (c.judge_switch.ensures.rule (g.P.Policy.answer c.args.policy.now) items follow);
  taken = λ items shows none. rw c.in-Switch.is (c.judge_switch.ensures.taken items shows none);
}
