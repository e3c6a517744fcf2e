use Rattle.std.proofs.Common.{◌/◌, ◌<◌, length, ◌∙◌, arith}
use Rattle.plat_base.specs.Seen.{machine}
use Rattle.plat_laws.proofs.GuestLaws.{entry_at-found}
use Rattle.plat_judge.proofs.EndLemmas.{lacks-access}
use Rattle.plat_judge.proofs.ends.lacks_right_for.Goals as goal

pub held-requires-clause-entry : goal.held-requires-clause-entry
held-requires-clause-entry c =
    let m = machine c.args.cfg.now in
    let reach = c.in-Access.reach in
    let entry = rw c.in-Access.is at c.requires.entry in
    let found = entry_at-found m reach.space (reach.addr / m.words) reach.entry entry in
    let below : reach.entry < length m.entries = found.below in
    omega (arith, below, c.requires.fits.entries c.args.q c.requires.processor)

pub returns-in-Access : goal.returns-in-Access
returns-in-Access c = λ items shows.
    let m = machine c.args.cfg.now in
    let reach = c.in-Access.reach in
    let entry = rw c.in-Access.is at c.requires.entry in
    let found = entry_at-found m reach.space (reach.addr / m.words) reach.entry entry in
    rw c.in-Access.is
    (lacks-access m items c.args.q reach c.held.result c.has_right.result entry
    (c.held.ensures ∙ shows.translations.at c.args.q reach.entry c.requires.processor found.below)
    c.has_right.ensures)
