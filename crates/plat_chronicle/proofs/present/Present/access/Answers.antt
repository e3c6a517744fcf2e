use Rattle.std.proofs.Common.{subst, sym}
use Rattle.plat_chronicle.specs.Present.{Shows}
use Rattle.plat_chronicle.proofs.PresentLemmas.{Shows-access}
use Rattle.plat_chronicle.proofs.present.Present.access.Goals as goal

pub returns-clause-taken : goal.returns-clause-taken
returns-clause-taken c = λ m items shows legal.
    let before = subst (Shows m items) (sym c.self.view_is) shows
    in Shows-access m items _ c.apply.new.self c.args.access.now before (c.apply.ensures.applied m items before.flat legal)
