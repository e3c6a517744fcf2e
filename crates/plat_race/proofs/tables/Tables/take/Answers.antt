use Rattle.std.proofs.Common.{◌≡◌, ◌+◌, suc, ap, arith}
use Rattle.plat_base.specs.Flat.{is_write}
use Rattle.plat_race.specs.Races.{is_add}
use Rattle.plat_race.proofs.Steps.{after-load, after-store, after-add}
use Rattle.plat_race.proofs.tables.Tables.take.Goals as goal

pub returns-in-Load-clause-met : goal.returns-in-Load-clause-met
returns-in-Load-clause-met c = λ items met here heard.
    let t = c.args.self.now
    in let a = c.args.access.now
    in let next : c.args.place + 1 ≡ suc c.args.place = omega arith
    in rw (c.set_mark.ensures.set, next, c.row-row.ensures.row)
    (after-load items c.args.place a here c.requires.actor c.args.clock.now c.told-clock heard t.pages t.words t.clocks.items t.adds.items
    t.accesses.items t.writes.items
    t.fits c.requires.page c.requires.word met (rw c.row-row.ensures.row at c.set_mark.ensures.length) (ap is_add c.in-Load.is)
    (ap is_write c.in-Load.is))

pub returns-in-Store-clause-met : goal.returns-in-Store-clause-met
returns-in-Store-clause-met c = λ items met here heard.
    let t = c.args.self.now
    in let a = c.args.access.now
    in let next : c.args.place + 1 ≡ suc c.args.place = omega arith
    in rw (c.set_mark.ensures.set, c.set_mark-in-Store.ensures.set, next, c.row-row.ensures.row)
    (after-store items c.args.place a here c.requires.actor c.args.clock.now c.told-clock heard t.pages t.words t.clocks.items
    t.adds.items t.accesses.items t.writes.items
    t.fits c.requires.page c.requires.word met (rw c.row-row.ensures.row at c.set_mark.ensures.length) (ap is_add c.in-Store.is)
    (ap is_write c.in-Store.is)
    (rw c.row-row.ensures.row at c.set_mark-in-Store.ensures.length))

pub returns-in-Add-clause-met : goal.returns-in-Add-clause-met
returns-in-Add-clause-met c = λ items met here heard.
    let t = c.args.self.now
    in let a = c.args.access.now
    in let next : c.args.place + 1 ≡ suc c.args.place = omega arith
    in rw (c.set_mark.ensures.set, c.set_mark-in-Add.ensures.set, next, c.row-row.ensures.row)
    (after-add items c.args.place a here c.requires.actor c.args.clock.now c.told-clock heard t.pages t.words t.clocks.items t.adds.items
    t.accesses.items t.writes.items
    t.fits c.requires.page c.requires.word met (rw c.row-row.ensures.row at c.set_mark.ensures.length) (ap is_add c.in-Add.is)
    (ap is_write c.in-Add.is)
    (rw c.row-row.ensures.row at c.set_mark-in-Add.ensures.length))
