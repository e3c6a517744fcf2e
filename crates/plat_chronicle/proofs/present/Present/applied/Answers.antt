use Rattle.std.proofs.Common.{subst, sym}
use Rattle.plat_chronicle.specs.Present.{Shows}
use Rattle.plat_chronicle.proofs.PresentLemmas.{Shows-applied}
use Rattle.plat_chronicle.proofs.present.Present.applied.Goals as goal

pub returns : goal.returns
returns c = λ m items shows.
    let before = subst (Shows m items) (sym c.self.view_is) shows
    in Shows-applied m items _ c.applied.new.self.pmaps.items c.args.applied before (c.applied.ensures m items before.translations)
