use Rattle.std.proofs.Common.{◌<◌, ◌^◌, arith}
use Rattle.std.proofs.lemmas.Nat.{or_lt}
use Rattle.plat_shoot.proofs.PostLemmas.{shifted_out, posted_writes}
use Rattle.plat_shoot.proofs.masks.writes_posted.Goals as goal

pub returns : goal.returns
returns c =
    let mask = c.args.mask in let others = c.without-others.result in let sent = c.without.result in
    let small : sent < 2 ^ 8 = omega (arith, c.without.ensures.less, c.without-others.ensures.less, mask.references) in
    posted_writes mask.reference mask.invalidate mask.restrict others sent c.args.actor
    (record { references = mask.references; invalidates = mask.invalidates; restricts = mask.restricts })
    (record { references = mask.references; invalidates = mask.invalidates; restricts = or_lt 8 mask.restrict sent mask.restricts small })
    (shifted_out _ c.args.actor _ c.requires c.without-others.ensures.bits) (record { bits = c.without.ensures.bits })
