use Rattle.std.proofs.Common.{◌≡◌, ◌<◌, false, ap, arith, length, subst}
use Rattle.std.proofs.Common.{⊎_elim}
use Rattle.plat_race.specs.Races.{is_add}
use Rattle.plat_race.specs.Tabled.{word_row}
use Rattle.plat_race.specs.Marks.{is_by, adds_to, AreMarks}
use Rattle.plat_race.proofs.Steps.{clocks-alone, clocks-joined, row_read}
use Rattle.plat_race.proofs.tables.Tables.clock.Goals as goal

pub returns-in-Load : goal.returns-in-Load
returns-in-Load c = λ items n met here.
    let rows = c.args.self.now.clocks.items
    in let a = c.args.access.now
    in let within : a.actor < length rows = let size = c.args.self.now.fits.clocks_size in omega arith
    in let alone : is_add a.kind ≡ false = ⊎_elim (λ e. ap is_add e) (λ e. ap is_add e) c.in-Load.is
    in clocks-alone items n a here c.requires.actor c.index-own.result.now alone
    (subst (AreMarks items (is_by a.actor) n) (row_read rows a.actor c.index-own.result.now c.index-own.ensures within)
    (met.own a.actor c.requires.actor))

pub returns-in-Add : goal.returns-in-Add
returns-in-Add c = λ items n met here.
    let t = c.args.self.now
    in let a = c.args.access.now
    in let within : a.actor < length t.clocks.items = let size = t.fits.clocks_size in omega arith
    in let inside : c.row.result < length t.adds.items = let size = t.fits.adds_size in let r = c.row.ensures.within in omega arith
    in clocks-joined items n a here c.requires.actor c.index-own.result.now c.index.result.now c.joined.result (ap is_add c.in-Add.is)
    (subst (AreMarks items (is_by a.actor) n) (row_read t.clocks.items a.actor c.index-own.result.now c.index-own.ensures within)
    (met.own a.actor c.requires.actor))
    (subst (AreMarks items (adds_to a.page a.word) n)
    (row_read t.adds.items (word_row t.words a.page a.word) c.index.result.now (rw c.row.ensures.row at c.index.ensures)
    (rw c.row.ensures.row at inside))
    (met.added a.page a.word c.requires.page c.requires.word))
    c.joined.ensures
