use Rattle.std.proofs.Common.{arith}
use Rattle.plat_base.specs.Seen.{machine}
use Rattle.plat_base.specs.declared.items.Item.TheVariants as item
use Rattle.plat_laws.proofs.Limits.{guests-count}
use Rattle.plat_chronicle.proofs.PresentLemmas.{Follows-more}
use Rattle.plat_chronicle.proofs.chronicle.Chronicle.add_switch.Goals as goal

pub switch-requires : goal.switch-requires
switch-requires c =
    let node = rw (← c.self.view_is) at c.requires.processor in
    omega (arith, node, c.self.invariant.shows.spaces.size, guests-count (machine c.self.inside.cfg) c.self.inside.cfg.limits)

pub invariant_of-self : goal.invariant_of-self
invariant_of-self c =
    let m = machine c.self.inside.cfg in
    let items = c.self.inside.items.items in
    let few = rw (← c.self.view_is) at c.requires.room.few in
    rw c.push.ensures.items
    (Follows-more m items c.switch.new.self (item.Switch c.args.switch) few (c.switch.ensures m items c.self.invariant.shows))
