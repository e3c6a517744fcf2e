use Rattle.std.proofs.Common.{◌<◌, ◌/◌, length, sym, ap, ◌∙◌, arith}
use Rattle.plat_base.specs.Seen.{machine}
use Rattle.plat_base.specs.Alike.{same_cause}
use Rattle.plat_laws.proofs.GuestLaws.{entry_at-found}
use Rattle.plat_judge.proofs.ChangeLemmas.{fault-by}
use Rattle.plat_judge.proofs.changes.is_fault_of.Goals as goal

pub held-requires-clause-entry : goal.held-requires-clause-entry
held-requires-clause-entry c =
    let m = machine c.args.cfg.now in
    let reach = c.in-Access.reach in
    let entry = rw c.in-Access.is at c.requires.entry in
    let found = entry_at-found m reach.space (reach.addr / m.words) reach.entry entry in
    let below : reach.entry < length m.entries = found.below in
    omega (arith, below, c.requires.fits.entries c.args.change.now.actor c.requires.processor)

pub returns : goal.returns
returns c = λ items shows.
    let m = machine c.args.cfg.now in
    let change = c.args.change.now in
    let grant = c.args.grant in
    let reach = c.in-Access.reach in
    let entry = rw c.in-Access.is at c.requires.entry in
    let found = entry_at-found m reach.space (reach.addr / m.words) reach.entry entry in
    let below : grant.entry < length m.entries = omega (arith, found.below) in
    let cause = ap (λ k. same_cause k change.cause) (sym c.cause.ensures) ∙ (sym c.same_cause.ensures ∙ c.if-not-same_cause.false) in
    rw c.in-Access.is
    (fault-by m items change grant reach c.held.result c.has_right.result entry found.below (omega arith) (omega arith) cause
    (c.held.ensures ∙ shows.translations.at change.actor grant.entry c.requires.processor below)
    c.has_right.ensures)
