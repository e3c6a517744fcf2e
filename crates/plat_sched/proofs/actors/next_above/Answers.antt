use Rattle.plat_sched.proofs.ActorsLemmas.{next_behind, nobody_behind}
use Rattle.plat_sched.proofs.actors.next_above.Goals as goal

pub returns-then-above-eq0 : goal.returns-then-above-eq0
returns-then-above-eq0 c = nobody_behind c.args.live c.args.actor c.requires c.if-above-eq0.true

pub returns-else-above-eq0 : goal.returns-else-above-eq0
returns-else-above-eq0 c = next_behind c.args.live c.args.actor c.requires c.ranges.live.fits c.if-above-eq0.false
