use Rattle.std.proofs.Common.{arith}
use Rattle.std.proofs.lemmas.List.{get_or_default}
use Rattle.plat_chronicle.specs.Removals.{no_removal}
use Rattle.plat_chronicle.proofs.RemovalLemmas.{ShowsRemovals-writes, ShowsRemovals-all}
use Rattle.plat_chronicle.proofs.removals.Removals.change.Goals as goal

-- the page that was read is that of the list, at any default
pub returns-in-Writes : goal.returns-in-Writes
returns-in-Writes c = λ pages items shows.
    let inside = c.requires.page in
    let read = get_or_default c.args.self.now.pages.items c.args.change.now.page c.index_mut-highest.result.now no_removal inside in
    let here = shows.size in
    let kept = ShowsRemovals-writes pages items c.args.change.now c.args.self.now.pages.items shows c.in-Writes.is (omega arith)
    c.requires.actor in
    grind (arith, kept, read)

pub returns-in-All : goal.returns-in-All
returns-in-All c = λ pages items shows.
    let inside = c.requires.page in
    let read = get_or_default c.args.self.now.pages.items c.args.change.now.page c.index_mut-highest.result.now no_removal inside in
    let here = shows.size in
    let kept = ShowsRemovals-all pages items c.args.change.now c.args.self.now.pages.items shows c.in-All.is (omega arith)
    c.requires.actor in
    grind (arith, kept, read)
