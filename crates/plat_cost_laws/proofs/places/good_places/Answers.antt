use Rattle.plat_base.specs.Seen.{machine}
use Rattle.plat_cost_laws.proofs.PlaceLaws.{can_place}
use Rattle.plat_cost_laws.proofs.places.good_places.Goals as goal

pub returns : goal.returns
returns g c = can_place (machine c.args.cfg.now) (g.P.Policy.answer c.args.policy.now) c.args.items.now c.args.ends.now
