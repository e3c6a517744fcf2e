use Rattle.std.proofs.Common.{ap, ◌∙◌, arith}
use Rattle.plat_base.specs.Copies.{with_frame}
use Rattle.plat_base.proofs.SlotLemmas.{AreSlots-set, frames_from-set}
use Rattle.plat_base.proofs.frames.Copies.with.Goals as goal

pub invariant_of-result : goal.invariant_of-result
invariant_of-result c = AreSlots-set _ _ _ (omega arith) c.self.invariant

pub returns : goal.returns
returns c =
    frames_from-set 0 _ _ c.args.frame.module c.self.inside.slots (omega arith) (omega arith) c.requires.number
    ∙ ap (with_frame c.args.frame) c.self.view_is
