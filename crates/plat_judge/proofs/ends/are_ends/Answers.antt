use Rattle.std.proofs.Common.{◌<◌, ◌≡◌, length, sym, ◌∙◌, below_more, arith}
use Rattle.plat_base.specs.Seen.{machine}
use Rattle.plat_judge.proofs.EndLemmas.{in_order-at, ends-true, ends-out_of_order}
use Rattle.plat_judge.proofs.ends.are_ends.Goals as goal

pub returns-then-not-is_ended : goal.returns-then-not-is_ended
returns-then-not-is_ended c = λ items shows follow.
    let m = machine c.args.cfg.now in
    let inside : c.loop-q.q < m.nodes = omega arith in
    let here : c.loop-q.q < length c.args.ends.now = omega arith in
    ends-out_of_order m items c.args.ends.now c.loop-q.q inside
    (in_order-at m items c.args.ends.now c.loop-q.q _ here ∙ (sym (c.is_ended.ensures items shows follow) ∙ c.if-not-is_ended.true))

pub loop-q-preserved : goal.loop-q-preserved
loop-q-preserved c = λ items shows follow.
    let m = machine c.args.cfg.now in
    let here : c.loop-q.q < length c.args.ends.now = omega arith in
    below_more _ _ (c.loop-q.invariant items shows follow)
    (in_order-at m items c.args.ends.now c.loop-q.q _ here ∙ (sym (c.is_ended.ensures items shows follow) ∙ c.if-not-is_ended.false))

pub returns : goal.returns
returns c = λ items shows follow.
    let m = machine c.args.cfg.now in
    let count : length c.args.ends.now ≡ m.nodes = omega arith in
    ends-true m items c.args.ends.now count (λ k l. c.loop-q.invariant items shows follow k (omega arith))
