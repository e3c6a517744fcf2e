use Rattle.plat_base.specs.Flat.{is_write}
use Rattle.plat_pmap.proofs.SlotLemmas.{accessed-missed}
use Rattle.plat_pmap.proofs.atcs.Atc.find.Goals as goal

pub returns-in-Some-found-clause-counted : goal.returns-in-Some-found-clause-counted
returns-in-Some-found-clause-counted c = λ _.
    accessed-missed c.args.entry c.args.vpage (is_write c.args.kind) c.in-Some-found.translation c.args.self.now c.fill.new.self
    c.served.result (cc) c.in_default.is (cc)
