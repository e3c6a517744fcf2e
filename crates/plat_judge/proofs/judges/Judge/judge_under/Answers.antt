use Rattle.std.proofs.Common.{◌<◌, ◌≤◌, length, take, refl, subst, sym, ◌∙◌, arith}
use Rattle.std.proofs.lemmas.List.{take_all}
use Rattle.plat_base.specs.Seen.{machine}
use Rattle.plat_base.specs.declared.items.Item.{Item}
use Rattle.std.specs.Prelude.{List}
use Rattle.plat_judge.specs.Judged.{HasTaken}
use Rattle.plat_judge.proofs.JudgeLemmas.{found-bad, found-none, among-more, taken-more}
use Rattle.plat_judge.proofs.judges.Judge.judge_under.Goals as goal

pub returns-in-Some : goal.returns-in-Some
returns-in-Some g c =
    let m = machine c.args.cfg.now in
    let items = c.args.items.now in
    let n = c.loop-number.number in
    let inside : n < length items = omega arith in
    found-bad m (g.P.Policy.answer c.args.policy.now) items c.args.ends.now n c.index-items-number.result c.in-Some.rule inside
    c.index-items-number.is
    c.loop-number.invariant.rest (c.in-Some.ensures.rule (take n items) c.loop-number.invariant.taken)

pub loop-number-preserved : goal.loop-number-preserved
loop-number-preserved g c =
    let m = machine c.args.cfg.now in
    let items = c.args.items.now in
    let n = c.loop-number.number in
    let i = c.index-items-number.result in
    let inside : n < length items = omega arith in
    let before = c.loop-number.invariant.taken in
    let more = taken-more items n i inside c.index-items-number.is in
    record {
      taken = subst (λ (xs : List Item). HasTaken m xs c.take_in.new.self) (sym more)
          (c.in_default.ensures.taken (take n items) before refl);
      rest = among-more m (g.P.Policy.answer c.args.policy.now) items n i inside c.index-items-number.is c.loop-number.invariant.rest
          (c.in_default.ensures.rule (take n items) before);
    }

pub returns : goal.returns
returns g c =
    let m = machine c.args.cfg.now in
    let items = c.args.items.now in
    let n = c.loop-number.number in
    let past : length items ≤ n = omega arith in
    let all = take_all n items past in
    let taken = subst (λ (xs : List Item). HasTaken m xs c.loop-number.judge) all c.loop-number.invariant.taken in
    c.bad_ends.ensures items taken refl
    ∙ found-none m (g.P.Policy.answer c.args.policy.now) items c.args.ends.now n past c.loop-number.invariant.rest
