use Rattle.std.proofs.Common.{arith}
use Rattle.plat_chronicle.proofs.PresentLemmas.{flat_writes-at_most}
use Rattle.plat_chronicle.proofs.chronicle.Chronicle.version.Goals as goal

pub returns-clause-few : goal.returns-clause-few
returns-clause-few c =
    let page = rw (← c.self.view_is) at c.requires.page in
    let word = rw (← c.self.view_is) at c.requires.word in
    let flat = c.self.invariant.shows.flat in
    let at = flat.version c.args.page c.args.word page word in
    let words = flat.words in
    let few = flat_writes-at_most c.self.inside.items.items c.args.page c.args.word in
    let most = c.self.invariant.few in
    grind (arith, at, words, few, most, c.version.ensures)
