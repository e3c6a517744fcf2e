use Rattle.std.proofs.Common.{◌≡◌, ◌<◌, true, ap, arith, length, subst, ⊎_elim}
use Rattle.plat_base.specs.Flat.{is_write}
use Rattle.plat_race.specs.Marks.{uses, writes, AreLasts}
use Rattle.plat_race.specs.Tabled.{word_row}
use Rattle.plat_race.proofs.Racing.{racing, meets-uses, meets-writes}
use Rattle.plat_race.proofs.Steps.{row_read}
use Rattle.plat_race.proofs.tables.Tables.is_racing.Goals as goal

pub returns-in-Load : goal.returns-in-Load
returns-in-Load c = λ items n met suits here heard.
    let t = c.args.self.now
    in let a = c.args.access.now
    in let inside : c.row-row.result < length t.writes.items = let size = t.fits.stores_size
    in let r = c.row-row.ensures.within in omega arith
    in racing items n a here (writes a.page a.word) (meets-writes items n a here
    (ap is_write c.in-Load.is)) c.index.result.now c.args.clock.now
    (subst (AreLasts items (writes a.page a.word) n)
    (row_read t.writes.items (word_row t.words a.page a.word) c.index.result.now (rw c.row-row.ensures.row at c.index.ensures)
    (rw c.row-row.ensures.row at inside))
    (met.written a.page a.word c.requires.page c.requires.word))
    heard suits.actor c.is_above.result c.is_above.ensures.above c.is_above.ensures.below

pub returns-in-Store : goal.returns-in-Store
returns-in-Store c = λ items n met suits here heard.
    let t = c.args.self.now
    in let a = c.args.access.now
    in let write : is_write a.kind ≡ true = ⊎_elim (λ e. ap is_write e) (λ e. ap is_write e) c.in-Store.is
    in let inside : c.row-row.result < length t.accesses.items = let size = t.fits.accesses_size
    in let r = c.row-row.ensures.within in omega arith
    in racing items n a here (uses a.page a.word) (meets-uses items n a here write) c.index-in-Store.result.now c.args.clock.now
    (subst (AreLasts items (uses a.page a.word) n)
    (row_read t.accesses.items (word_row t.words a.page a.word) c.index-in-Store.result.now
    (rw c.row-row.ensures.row at c.index-in-Store.ensures) (rw c.row-row.ensures.row at inside))
    (met.used a.page a.word c.requires.page c.requires.word))
    heard suits.actor c.is_above-in-Store.result c.is_above-in-Store.ensures.above c.is_above-in-Store.ensures.below
