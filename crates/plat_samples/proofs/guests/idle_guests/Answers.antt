use Rattle.std.proofs.Common.{arith}
use Rattle.plat_samples.proofs.SampleLemmas.{idle-push}
use Rattle.plat_samples.proofs.guests.idle_guests.Goals as goal

pub loop-preserved : goal.loop-preserved
loop-preserved c = record {
  idle = rw c.push.ensures.items (idle-push c.loop.list.items c.idle.result c.loop.counter c.loop.invariant.idle c.idle.ensures);
  room = omega (arith, c.loop.invariant.room, c.push.ensures.spare, c.loop-test.true);
}
