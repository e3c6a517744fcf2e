use Rattle.std.proofs.Common.{◌≡◌, ◌∙◌, Some, ap, subst, sym, false}
use Rattle.std.specs.Prelude.{IsTrue}
use Rattle.plat_base.specs.Machine.{Machine}
use Rattle.plat_base.specs.Frames.{is_starved}
use Rattle.plat_base.specs.Decide.{decide, fits_cause}
use Rattle.plat_coarse.proofs.FaultLemmas.{starved-got, fits-fed, decided-fed}
use Rattle.plat_coarse.proofs.faults.decision_of.Given as given
use Rattle.plat_coarse.proofs.faults.decision_of.Goals as goal

fed : (g : given.Over) (c : goal.After-last g) → is_starved c.args.chronicle.now.machine c.args.chronicle.now.items c.args.q c.args.page
    ≡ false
fed g c =
    let m = c.args.chronicle.now.machine in
    let starved = starved-got m (g.P.Policy.answer c.args.policy.now) c.args.chronicle.now.items c.args.q c.args.page c.args.now
    c.args.cause in
    cc (starved, c.is_starved.ensures, c.if-is_starved.false, c.got_frame-got.ensures, c.dir-dir.ensures)

pub decide-requires-clause-fits : goal.decide-requires-clause-fits
decide-requires-clause-fits g c =
    let m = c.args.chronicle.now.machine in
    let fits = fits-fed m (g.P.Policy.answer c.args.policy.now) c.args.chronicle.now.items c.args.q c.args.page c.args.now c.args.cause
    c.requires.dirs c.requires.processor (fed g c) c.requires.fault in
    let P : Machine → Type 0 = λ m.
    IsTrue (fits_cause m (g.P.Policy.answer c.args.policy.now) c.dir-dir.result c.last.result c.args.now c.args.q c.args.cause
    c.got_frame-got.result) in
    subst P (sym c.config.ensures) (rw (c.dir-dir.ensures, c.last.ensures, c.got_frame-got.ensures) fits)

pub returns : goal.returns
returns g c =
    let m = c.args.chronicle.now.machine in
    let P : Machine → Type 0 = λ m. c.decide.result ≡ decide m (g.P.Policy.answer c.args.policy.now) c.dir-dir.result c.last.result
    c.args.now c.args.q c.args.cause c.got_frame-got.result in
    let here : P m = subst P c.config.ensures c.decide.ensures in
    let is = rw (c.dir-dir.ensures, c.last.ensures, c.got_frame-got.ensures) at here in
    ap Some is ∙ sym (decided-fed m (g.P.Policy.answer c.args.policy.now) c.args.chronicle.now.items c.args.q c.args.page c.args.now
    c.args.cause (fed g c.before))
