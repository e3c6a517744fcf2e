use Rattle.std.proofs.Common.{subst, sym}
use Rattle.plat_base.specs.Seen.{machine}
use Rattle.plat_chronicle.specs.Present.{Shows}
use Rattle.plat_chronicle.proofs.PresentLemmas.{Shows-change}
use Rattle.plat_chronicle.proofs.present.Present.change.Goals as goal

pub returns : goal.returns
returns c = λ items shows.
    let m = machine c.args.cfg.now
    in let before = subst (Shows m items) (sym c.self.view_is) shows
    in Shows-change m items _ c.change.new.self.states.items c.change-2.new.self.pages.items c.change-3.new.self.pmaps.items
    c.args.change.now before
    (c.change.ensures m.pages items before.pages)
    (c.change-2.ensures m.pages items before.removals)
    (c.change-3.ensures items before.translations)
