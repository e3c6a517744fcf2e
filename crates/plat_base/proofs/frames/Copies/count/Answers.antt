use Rattle.std.proofs.Common.{nat_lt, subst, rules, tests, length, List, ap, ◌∙◌, sym}
use Rattle.std.proofs.lemmas.Iterator.{YieldsList-from_slice}
use Rattle.std.proofs.lemmas.Iterator.Consumers.{YieldsList-from_filter, count_from_yields_List}
use Rattle.plat_base.specs.Copies.{AreCopies}
use Rattle.plat_base.specs.declared.frames.Frame.{Frame}
use Rattle.plat_base.proofs.SlotLemmas.{AreCopies-slots, length-frames_from}
use Rattle.plat_base.proofs.frames.Copies.count.Goals as goal

pub returns-clause-count : goal.returns-clause-count
returns-clause-count c =
    count_from_yields_List c.filter.result _ c.count.ensures.ran
    (YieldsList-from_filter _ (λ s. nat_lt s 64) (YieldsList-from_slice c.self.inside.slots cc) c.filter.ensures.closure
    (λ x r q k. search (rules, tests)))
    ∙ sym (length-frames_from 0 c.self.inside.slots) ∙ ap (λ (fs : List Frame). length fs) c.self.view_is

pub returns-clause-rising : goal.returns-clause-rising
returns-clause-rising c = subst AreCopies c.self.view_is (AreCopies-slots c.self.inside.slots c.self.invariant)
