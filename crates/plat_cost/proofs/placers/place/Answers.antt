use Rattle.std.proofs.Common.{◌<◌, take}
use Rattle.std.proofs.lemmas.List.Elements.{All-same}
use Rattle.plat_base.specs.Seen.{machine}
use Rattle.plat_cost.specs.Costs.{actors_on}
use Rattle.plat_cost.proofs.CostLaws.{actors_few}
use Rattle.plat_cost.proofs.placers.place.Goals as goal

pub first_best-least-requires-clause-nodes : goal.first_best-least-requires-clause-nodes
first_best-least-requires-clause-nodes c =
    All-same (λ a. a < c.args.cfg.now.nodes) (take c.collect-count.result c.collect-count.new.actors)
    (actors_on c.args.items.now c.args.page)
    c.collect-count.ensures.actors (actors_few (machine c.args.cfg.now) c.args.page c.args.items.now c.requires.costs)
