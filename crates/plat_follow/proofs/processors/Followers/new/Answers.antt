use Rattle.std.proofs.Common.{length-append, arith}
use Rattle.plat_base.specs.Seen.{machine}
use Rattle.plat_follow.proofs.ProcessorLemmas.{Follows-push}
use Rattle.plat_follow.proofs.processors.Followers.new.Goals as goal

pub loop-q-preserved : goal.loop-q-preserved
loop-q-preserved c = record {
  count = rw (c.push_reserved.ensures.items, length-append) (omega (arith, c.loop-q.invariant.count));
  room = omega (arith, c.push_reserved.ensures.capacity, c.loop-q.invariant.room);
  each =
      rw c.push_reserved.ensures.items
      (Follows-push (machine c.args.cfg.now) c.loop-q.followers.items c.loop-q.q c.new.result c.loop-q.invariant.count
      c.loop-q.invariant.each c.new.ensures.follows);
}
