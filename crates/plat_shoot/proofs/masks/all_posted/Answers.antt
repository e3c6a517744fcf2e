use Rattle.std.proofs.Common.{◌<◌, ◌^◌, arith}
use Rattle.std.proofs.lemmas.Nat.{or_lt}
use Rattle.std.specs.Prelude.{bit_or}
use Rattle.plat_shoot.proofs.PostLemmas.{shifted_out, posted_all}
use Rattle.plat_shoot.proofs.masks.all_posted.Goals as goal

pub returns : goal.returns
returns c =
    let mask = c.args.mask in
    let joined : bit_or mask.invalidate mask.reference < 2 ^ 8 = or_lt 8 mask.invalidate mask.reference mask.invalidates mask.references in
    posted_all mask.reference mask.invalidate mask.restrict c.without.result c.without-2.result c.without-3.result c.args.actor
    (record { references = mask.references; invalidates = mask.invalidates; restricts = mask.restricts })
    (record {
      references = omega (arith, c.without.ensures.less, mask.references);
      invalidates = omega (arith, c.without-2.ensures.less, joined);
      restricts = omega (arith, c.without-3.ensures.less, mask.restricts);
    })
    (shifted_out _ c.args.actor _ c.requires c.without.ensures.bits) (shifted_out _ c.args.actor _ c.requires c.without-2.ensures.bits)
    (shifted_out _ c.args.actor _ c.requires c.without-3.ensures.bits)
