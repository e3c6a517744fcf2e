use Rattle.std.proofs.Common.{refl, subst}
use Rattle.plat_base.specs.Seen.{machine}
use Rattle.plat_base.specs.declared.items.Item.{Item}
use Rattle.plat_base.specs.declared.items.Item.TheVariants as item
use Rattle.plat_follow.specs.Followed.{IsNextItem}
use Rattle.plat_follow.proofs.ProcessorLemmas.{AllFollow-none, IsMade-access, IsMade-switch}
use Rattle.plat_follow.proofs.processors.Followers.add.Goals as goal

pub returns-in-Access-clause-follow : goal.returns-in-Access-clause-follow
returns-in-Access-clause-follow c = λ items h next.
    let m = machine c.args.cfg.now in
    let access = c.in-Access.access in
    let this = subst (λ (i : Item). IsNextItem m items i) c.in-Access.is next
    in rw c.in-Access.is (c.made.ensures.follow items (item.Access access) h (IsMade-access m items access this))

pub returns-in-Switch-clause-follow : goal.returns-in-Switch-clause-follow
returns-in-Switch-clause-follow c = λ items h next.
    let m = machine c.args.cfg.now in
    let switch = c.in-Switch.switch in
    let this = subst (λ (i : Item). IsNextItem m items i) c.in-Switch.is next
    in rw c.in-Switch.is (c.made-in-Switch.ensures.follow items (item.Switch switch) h (IsMade-switch m items switch 0 this))

pub returns-in-Change-clause-follow : goal.returns-in-Change-clause-follow
returns-in-Change-clause-follow c = λ items h next.
    let m = machine c.args.cfg.now in
    rw c.in-Change.is (AllFollow-none m items (item.Change c.in-Change.field-0) c.args.self.now h (λ r l. refl))

pub returns-in-Applied-clause-follow : goal.returns-in-Applied-clause-follow
returns-in-Applied-clause-follow c = λ items h next.
    let m = machine c.args.cfg.now in
    rw c.in-Applied.is (AllFollow-none m items (item.Applied c.in-Applied.field-0) c.args.self.now h (λ r l. refl))
