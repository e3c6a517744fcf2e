use Rattle.std.proofs.Common.{subst, sym}
use Rattle.plat_chronicle.specs.Present.{Shows}
use Rattle.plat_chronicle.proofs.PresentLemmas.{Shows-switch}
use Rattle.plat_chronicle.proofs.present.Present.switch.Goals as goal

pub returns : goal.returns
returns c = λ m items shows.
    let before = subst (Shows m items) (sym c.self.view_is) shows
    in Shows-switch m items _ c.switch.new.self.active.items c.args.switch before (c.switch.ensures m items before.spaces)
