use Rattle.std.proofs.lemmas.List.{get_or_default}
use Rattle.plat_report.specs.Actors.{no_counts}
use Rattle.plat_report.proofs.actors.take_in.Goals as goal

pub take_in-requires : goal.take_in-requires
take_in-requires c =
    let counts = c.args.counts.now in
    rw (get_or_default counts c.actor_of-actor.result c.index-counts-at.result no_counts c.if-at-counts.true)
    (c.requires c.actor_of-actor.result)
