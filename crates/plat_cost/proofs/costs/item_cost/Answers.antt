use Rattle.std.proofs.Common.{◌≡◌, true, arith}
use Rattle.std.specs.Prelude.{◌==◌}
use Rattle.std.proofs.lemmas.Bool.Decides.{nat_tests}
use Rattle.plat_cost.proofs.costs.item_cost.Goals as goal

pub returns-in-Access-clause-cost : goal.returns-in-Access-clause-cost
returns-in-Access-clause-cost c =
    let same : (c.in-Access.access.page == c.args.page) ≡ true = grind (arith, nat_tests, c.if-access-page.true)
    in rw (c.in-Access.is, same) c.way.ensures.way
