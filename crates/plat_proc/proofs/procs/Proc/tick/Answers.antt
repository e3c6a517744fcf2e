use Rattle.std.proofs.Common.{ℕ, ap, sym, ◌∙◌, ◌≡◌, length, subst, arith}
use Rattle.plat_base.specs.Flat.{is_write}
use Rattle.plat_base.specs.GuestRun.{want_of}
use Rattle.plat_base.specs.Seen.{machine}
use Rattle.plat_events.specs.Events.{reach_now}
use Rattle.plat_events.specs.Places.{entry_count}
use Rattle.plat_events.specs.Privates.{Ticking}
use Rattle.plat_laws.proofs.Limits.{budget-most}
use Rattle.plat_local_laws.proofs.TurnLaws.{WantsAccess-from}
use Rattle.plat_pmap.specs.Slots.{Agrees}
use Rattle.plat_proc.specs.ProcSeen.{ProcSeen}
use Rattle.plat_proc.proofs.AccessLemmas.{agrees-reached}
use Rattle.plat_proc.proofs.FitsLemmas.{stands}
use Rattle.plat_proc.proofs.TurnLemmas.{place-stands}
use Rattle.plat_local_laws.proofs.WordLaws.{turns-few}
use Rattle.plat_proc.proofs.procs.Proc.tick.Goals as goal

pub overflow_add-self : goal.overflow_add-self
overflow_add-self c =
    let m = machine c.args.cfg.now in
    let left = (place-stands m c.args.self.now Ticking c.args.cfg.now.limits c.requires.fits c.requires.at).left in
    let same = ap (λ (y : ProcSeen). y.state.turns) c.self.view_is in
    omega (arith, left, same, budget-most m c.args.cfg.now.limits)

pub overflow_cast-self : goal.overflow_cast-self
overflow_cast-self c = omega (arith, c.requires.found, turns-few (machine c.args.cfg.now) c.args.cfg.now.limits)

pub overflow_add-self-2 : goal.overflow_add-self-2
overflow_add-self-2 c = omega (arith, c.requires.found, turns-few (machine c.args.cfg.now) c.args.cfg.now.limits)

pub look_up-requires-clause-now : goal.look_up-requires-clause-now
look_up-requires-clause-now c = omega (arith, c.requires.found, turns-few (machine c.args.cfg.now) c.args.cfg.now.limits)

pub look_up-requires-clause-entry : goal.look_up-requires-clause-entry
look_up-requires-clause-entry c =
    let m = machine c.args.cfg.now in
    let x = c.args.self.now in
    let all : length x.state.pmap ≡ entry_count m = (stands m x c.args.cfg.now.limits c.requires.fits).standing.all_entries in
    let same = ap (λ (y : ProcSeen). length y.state.pmap) c.self.view_is in
    omega (arith, all, same, c.reach-reach.ensures.leads.within)

pub look_up-requires-clause-agrees : goal.look_up-requires-clause-agrees
look_up-requires-clause-agrees c =
    let m = machine c.args.cfg.now in
    let x = c.args.self.now in
    let r = c.reach-reach.result in
    let a = c.in-Access in
    let node : c.self.inside.guest.node ≡ c.self.inside.q = c.self.invariant.0 in
    let known = ap (λ (y : ProcSeen). want_of m y.actor y.state.guest) c.self.view_is in
    let want =
    sym known ∙ ap (λ (q : ℕ). want_of m q c.self.inside.guest.state) (sym node) ∙ (sym c.next.ensures ∙ a.is) in
    let is = c.reach-reach.ensures.reach ∙ ap (λ (y : ProcSeen). reach_now m y.actor y.state) c.self.view_is in
    subst (λ (y : ProcSeen). Agrees y.slots y.state.pmap r.entry r.vpage (is_write r.kind)) (sym c.self.view_is)
    (agrees-reached m x r c.requires.fits c.requires.at
    (WantsAccess-from m x.actor x.state a.kind a.space a.addr a.operand want) is c.reach-reach.ensures.leads)
