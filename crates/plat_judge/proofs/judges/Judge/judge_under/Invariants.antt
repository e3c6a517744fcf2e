use Rattle.std.proofs.Common.{◌≡◌, [], take, drop}
use Rattle.plat_base.specs.Seen.{machine}
use Rattle.plat_base.specs.Rules.{bad_after}
use Rattle.plat_judge.specs.Judged.{HasTaken}
use Rattle.plat_judge.proofs.judges.Judge.judge_under.Given as goal

-- the items before the next one are taken in, and a bad one is among the rest
abbrev pub invariant-loop-number : goal.invariant-loop-number
invariant-loop-number g l = record {
  taken : HasTaken (machine l.cfg) (take l.number l.items) l.judge;
  rest :
      bad_after (machine l.cfg) (g.P.Policy.answer l.policy) [] 0 l.items
      ≡ bad_after (machine l.cfg) (g.P.Policy.answer l.policy) (take l.number l.items) l.number (drop l.number l.items);
}
