use Rattle.std.proofs.Common.{◌≡◌, ◌∙◌, true, sym, below_more, get_or}
use Rattle.std.proofs.lemmas.List.{get_or_default}
use Rattle.plat_base.specs.Seen.{machine}
use Rattle.plat_base.specs.declared.items.Item.{Item}
use Rattle.plat_cost.specs.Costs.{can_cost}
use Rattle.plat_coarse_tests.proofs.cost_tests.can_cost_all.Goals as goal

pub loop-item-preserved : goal.loop-item-preserved
loop-item-preserved c = λ k d l.
    let items = c.args.items.now
    in let m = machine c.args.cfg.now
    in below_more (λ k. (d : Item) → can_cost m 0 (get_or items k d) ≡ true) c.loop-item.item-index (λ k l d. c.loop-item.invariant k d l)
    (λ d.
    let is : get_or items c.loop-item.item-index d ≡ c.item-item.result =
    get_or_default items c.loop-item.item-index d c.item-item.result c.loop-item-test.true ∙ sym c.item-item.is
    in rw is (c.can_cost.ensures c.if-not-can_cost.false))
    k l d
