use Rattle.std.proofs.Common.{arith}
use Rattle.std.proofs.lemmas.List.FromFn.{map-range_with_len_more}
use Rattle.plat_gen.specs.Generated.{guest, seed}
use Rattle.plat_base.proofs.LimitLemmas.{programs_seen-push}
use Rattle.plat_gen.proofs.generated.guests.Goals as goal

-- src/generated.rt:32:5
pub loop-q-preserved : goal.loop-q-preserved
loop-q-preserved c =
    let one_more = map-range_with_len_more (λ q. guest (seed c.args.n q)) 0 c.loop-q.q c.loop-q.q (omega arith)
    in record {
      items = rw (c.push.ensures.items, programs_seen-push, c.in_ok-guest.ensures, c.loop-q.invariant.items, one_more) (cc c.seed.ensures);
      room = omega arith;
    }
