use Rattle.std.proofs.Common.{refl, arith}
use Rattle.std.proofs.lemmas.List.FromFn.{map-range_with_len_more}
use Rattle.plat_gen.specs.Generated.{same_page}
use Rattle.plat_gen.proofs.generated.entries.Goals as goal

-- src/generated.rt:17:5
pub loop-i-preserved : goal.loop-i-preserved
loop-i-preserved c = record {
  items = rw (c.push.ensures.items, c.loop-i.invariant.items, map-range_with_len_more same_page 0 c.loop-i.i c.loop-i.i (omega arith)) refl;
  room = omega arith;
}
