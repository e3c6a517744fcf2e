use Rattle.std.proofs.Common.{◌≡◌, Bool, true, false, length}
use Rattle.plat_base.specs.Seen.{machine}
use Rattle.plat_cost.proofs.BoundLaws.{first_row, certificate_rows, certificate_least}
use Rattle.plat_cost.proofs.PlanLaws.{certified}
use Rattle.plat_cost.proofs.bounds.check_bound.Goals as goal
use Rattle.plat_cost.proofs.PageLemmas.{some_there}

pub is_least-requires : goal.is_least-requires
is_least-requires c =
    first_row (length c.args.actors.now) c.args.cfg.now.nodes (length c.args.rest.now)
    (some_there (length c.args.actors.now) c.is_empty.result c.is_empty.ensures c.if-is_empty.false) c.requires.rest

pub returns-then-are_rows_below-clause-exact : goal.returns-then-are_rows_below-clause-exact
returns-then-are_rows_below-clause-exact c =
    certificate_least (machine c.args.cfg.now) c.args.rest.now c.args.least c.args.actors.now c.is_least.result
    (some_there (length c.args.actors.now) c.is_empty.result c.is_empty.ensures c.if-is_empty.false)
    (c.are_rows_below.ensures.0 c.if-are_rows_below.true) c.is_least.ensures

pub returns-then-are_rows_below-clause-sound : goal.returns-then-are_rows_below-clause-sound
returns-then-are_rows_below-clause-sound c = λ t plan p.
    certified (machine c.args.cfg.now) c.args.actors.now c.args.rest.now c.args.least plan
    ((certificate_least (machine c.args.cfg.now) c.args.rest.now c.args.least c.args.actors.now c.is_least.result
    (some_there (length c.args.actors.now) c.is_empty.result c.is_empty.ensures c.if-is_empty.false)
    (c.are_rows_below.ensures.0 c.if-are_rows_below.true) c.is_least.ensures).0 t) p

pub returns-else-are_rows_below-clause-exact : goal.returns-else-are_rows_below-clause-exact
returns-else-are_rows_below-clause-exact c =
    let there = some_there (length c.args.actors.now) c.is_empty.result c.is_empty.ensures c.if-is_empty.false
    in (
      (λ t. absurd (neither c.are_rows_below.result c.if-are_rows_below.false t)),
      (λ cert. c.are_rows_below.ensures.1 (certificate_rows
          (machine c.args.cfg.now) c.args.rest.now c.args.least c.args.actors.now there cert)),
    )
  where
    neither : (b : Bool) → b ≡ false → b ≡ true → ⊥
    neither true f t = cc
    neither false f t = cc
