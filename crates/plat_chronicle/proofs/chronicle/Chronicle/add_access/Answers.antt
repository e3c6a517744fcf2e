use Rattle.plat_base.specs.Seen.{machine}
use Rattle.plat_base.specs.declared.items.Item.TheVariants as item
use Rattle.plat_chronicle.proofs.PresentLemmas.{Follows-more}
use Rattle.plat_chronicle.proofs.chronicle.Chronicle.add_access.Goals as goal

pub invariant_of-self : goal.invariant_of-self
invariant_of-self c =
    let m = machine c.self.inside.cfg in
    let items = c.self.inside.items.items in
    let legal = rw (← c.self.view_is) at c.requires.legal in
    let few = rw (← c.self.view_is) at c.requires.room.few in
    let shows = c.self.invariant.shows in
    let answer = c.access.ensures.answer m items shows in
    rw c.push.ensures.items
    (Follows-more m items c.access.new.self (item.Access c.args.access) few (c.access.ensures.taken m items shows (cc (answer, legal))))
