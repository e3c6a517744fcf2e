use Rattle.std.proofs.Common.{subst, sym, ◌∙◌}
use Rattle.plat_base.specs.Seen.{machine}
use Rattle.plat_judge.specs.Judged.{HasTaken}
use Rattle.plat_judge.proofs.RuleLemmas.{next-of}
use Rattle.plat_judge.proofs.judges.Judge.take_in.Goals as goal

pub returns-then-is_none-clause-rule : goal.returns-then-is_none-clause-rule
returns-then-is_none-clause-rule g c = λ items taken.
    let before = subst (HasTaken (machine c.args.cfg.now) items) (sym c.self.view_is) taken in
    c.judge_item-rule.ensures.rule items before.shows before.follow

pub returns-then-is_none-clause-taken : goal.returns-then-is_none-clause-taken
returns-then-is_none-clause-taken g c = λ items taken none.
    let m = machine c.args.cfg.now in
    let before = subst (HasTaken m items) (sym c.self.view_is) taken in
    let rule = c.judge_item-rule.ensures.rule items before.shows before.follow in
    let next = next-of m (g.P.Policy.answer c.args.policy.now) items c.args.item.now (sym rule ∙ none) in
    record {
      shows = c.judge_item-rule.ensures.taken items before.shows none;
      stand = c.add.ensures.stand;
      follow = c.add.ensures.follow items before.follow next;
    }

pub returns-else-is_none-clause-rule : goal.returns-else-is_none-clause-rule
returns-else-is_none-clause-rule g c = λ items taken.
    let before = subst (HasTaken (machine c.args.cfg.now) items) (sym c.self.view_is) taken in
    c.judge_item-rule.ensures.rule items before.shows before.follow
