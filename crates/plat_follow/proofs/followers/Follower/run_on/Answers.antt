use Rattle.std.proofs.Common.{◌≡◌, refl, arith}
use Rattle.plat_base.specs.Seen.{machine}
use Rattle.plat_follow.specs.Followed.{Stands}
use Rattle.plat_follow.proofs.FollowLemmas.{IsAt-quiet}
use Rattle.plat_follow.proofs.followers.Follower.run_on.Goals as goal

pub stop_of-requires : goal.stop_of-requires
stop_of-requires c = omega (arith, c.loop-turns.invariant.node)

stands : (c : goal.In-Some) → Stands (machine c.args.cfg.now)
    (record { guest = c.loop-turns.guest; last = c.args.last; turns = c.loop-turns.turns; stop = c.in-Some.stop })
stands c = record {
  node = omega (arith, c.loop-turns.invariant.node);
  within = omega arith;
  last = omega arith;
  stop = c.in-Some.ensures.stop c.loop-turns.turns c.loop-turns-test.true;
}

pub returns-in-Some-clause-stands : goal.returns-in-Some-clause-stands
returns-in-Some-clause-stands c = stands c

pub returns-in-Some-clause-follows : goal.returns-in-Some-clause-follows
returns-in-Some-clause-follows c = λ items q at. record { stands = stands c; at = c.loop-turns.invariant.at items q at }

pub loop-turns-preserved : goal.loop-turns-preserved
loop-turns-preserved c =
    let m = machine c.args.cfg.now in
    let guest = c.loop-turns.guest in
    let turns = c.loop-turns.turns
    in record {
      node = rw c.after.ensures c.loop-turns.invariant.node;
      at = λ items q at.
          let here = c.loop-turns.invariant.at items q at
          in rw c.after.ensures (IsAt-quiet m items q guest c.args.last turns here c.in_default.ensures.quiet);
    }

pub returns-clause-follows : goal.returns-clause-follows
returns-clause-follows c = λ items q at. record {
  stands = record { node = omega (arith, c.loop-turns.invariant.node); within = omega arith; last = c.requires.within; stop = refl };
  at = let e : c.loop-turns.turns ≡ c.args.cfg.now.budget = omega arith in rw e at (c.loop-turns.invariant.at items q at);
}
