use Rattle.std.proofs.Common.{ap, ◌∙◌, arith}
use Rattle.plat_base.specs.Copies.{without_module}
use Rattle.plat_base.proofs.SlotLemmas.{AreSlots-set, frames_from-clear}
use Rattle.plat_base.proofs.frames.Copies.without.Goals as goal

pub invariant_of-result : goal.invariant_of-result
invariant_of-result c = AreSlots-set _ _ _ (omega arith) c.self.invariant

pub returns : goal.returns
returns c =
    frames_from-clear 0 _ c.args.node c.self.inside.slots (omega arith) (omega arith) ∙ ap (without_module c.args.node) c.self.view_is
