use Rattle.std.proofs.Common.{arith, ap, ◌≡◌}
use Rattle.plat_base.specs.Seen.{machine}
use Rattle.plat_base.specs.Directories.{seq_of}
use Rattle.plat_base.specs.declared.items.Item.TheVariants as item
use Rattle.plat_chronicle.specs.Present.{seq_at}
use Rattle.plat_chronicle.specs.declared.pages.PageState.{PageState}
use Rattle.plat_chronicle.proofs.PresentLemmas.{Follows-more, Shows-fits, seq_of-at_most}
use Rattle.plat_chronicle.proofs.chronicle.Chronicle.add_change.Goals as goal

pub change-requires-clause-fits : goal.change-requires-clause-fits
change-requires-clause-fits c =
    Shows-fits (machine c.self.inside.cfg) c.self.inside.items.items c.self.inside.present c.self.invariant.shows

pub change-requires-clause-count : goal.change-requires-clause-count
change-requires-clause-count c =
    let few = rw (← c.self.view_is) at c.requires.room.few in
    let inside = rw (← c.self.view_is) at c.requires.page in
    let items = c.self.inside.items.items in
    let at : seq_at c.self.inside.present c.args.change.page ≡ seq_of items c.args.change.page =
    ap (λ (p : PageState). p.seq) (c.self.invariant.shows.pages.at c.args.change.page inside) in
    omega (arith, at, seq_of-at_most items c.args.change.page, few)

pub invariant_of-self : goal.invariant_of-self
invariant_of-self c =
    let m = machine c.self.inside.cfg in
    let items = c.self.inside.items.items in
    let few = rw (← c.self.view_is) at c.requires.room.few in
    rw c.push.ensures.items
    (Follows-more m items c.change.new.self (item.Change c.args.change) few (c.change.ensures items c.self.invariant.shows))
