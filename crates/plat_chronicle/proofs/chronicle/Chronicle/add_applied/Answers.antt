use Rattle.plat_base.specs.Seen.{machine}
use Rattle.plat_base.specs.declared.items.Item.TheVariants as item
use Rattle.plat_chronicle.proofs.PresentLemmas.{Follows-more}
use Rattle.plat_chronicle.proofs.chronicle.Chronicle.add_applied.Goals as goal

pub invariant_of-self : goal.invariant_of-self
invariant_of-self c =
    let m = machine c.self.inside.cfg in
    let items = c.self.inside.items.items in
    let few = rw (← c.self.view_is) at c.requires.room.few in
    rw c.push.ensures.items
    (Follows-more m items c.applied.new.self (item.Applied c.args.applied) few (c.applied.ensures m items c.self.invariant.shows))
