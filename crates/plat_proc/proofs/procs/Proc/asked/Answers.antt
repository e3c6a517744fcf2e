use Rattle.std.proofs.Common.{◌≡◌, true, refl, sym, ap, ◌∙◌, subst}
use Rattle.plat_base.specs.Seen.{machine}
use Rattle.plat_proc.specs.contracts.procs.Proc.{the_view}
use Rattle.plat_proc.specs.Fits.{Fits}
use Rattle.plat_proc.specs.Followed.{next_placed}
use Rattle.plat_proc.specs.Places.{is_faulting}
use Rattle.plat_proc.specs.ProcSeen.{ProcSeen}
use Rattle.plat_proc.proofs.ToldLemmas.{faults-of, faults-next}
use Rattle.plat_proc.proofs.procs.Proc.asked.Goals as goal

pub returns : goal.returns
returns c =
    let m = machine c.args.cfg.now in
    let y = the_view c.self.inside in
    let h = c.in-Some.handler in
    let fits = subst (Fits m) (sym c.self.view_is) c.requires.fits in
    let faulting = subst (λ (z : ProcSeen). is_faulting z.state.place ≡ true) (sym c.self.view_is) c.requires.faulting in
    let faults = faults-of m y h c.self.inside.place fits c.in-Some.is refl faulting in
    ap (next_placed m) (sym c.self.view_is) ∙ faults-next m y h c.in-Word.at c.in-Word.op faults (sym c.in-Word.ensures)
