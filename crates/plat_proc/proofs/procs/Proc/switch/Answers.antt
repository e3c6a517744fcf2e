use Rattle.std.proofs.Common.{ℕ, ◌≡◌, None, refl, sym, ap, subst, ◌∙◌}
use Rattle.std.specs.Prelude.{Option}
use Rattle.plat_base.specs.GuestRun.{guest_after, want_of}
use Rattle.plat_base.specs.Seen.{machine}
use Rattle.plat_base.specs.declared.guests.Want.TheVariants as want
use Rattle.plat_events.specs.Privates.{Switching}
use Rattle.plat_guest.specs.GuestSeen.{GuestSeen}
use Rattle.plat_handler.specs.HandlerSeen.{HandlerSeen}
use Rattle.plat_proc.specs.Followed.{followed_next}
use Rattle.plat_proc.specs.Places.{HandlesWell, place_seen}
use Rattle.plat_proc.specs.ProcSeen.{ProcSeen}
use Rattle.plat_proc.specs.contracts.procs.Proc.{the_view}
use Rattle.plat_proc.proofs.TurnLemmas.{handler_at-none, may-none, place-stands, switched-here}
use Rattle.plat_proc.proofs.procs.Proc.switch.Goals.{After-self}
use Rattle.plat_proc.proofs.procs.Proc.switch.Goals as goal

-- its guest wants the switch
wants : (c : After-self) → want.Switch c.args.space ≡ want_of (machine c.args.cfg.now) c.self.inside.guest.node c.self.inside.guest.state
wants c =
    let m = machine c.args.cfg.now in
    let known = ap (λ (y : ProcSeen). want_of m y.actor y.state.guest) c.self.view_is in
    let node = ap (λ (q : ℕ). want_of m q c.self.inside.guest.state) c.self.invariant.0 in
    sym (place-stands m c.args.self.now (Switching c.args.space) c.args.cfg.now.limits c.requires.fits c.requires.at).wants
    ∙ sym known ∙ sym node

-- and no fault is under way
handler : (c : After-self) → c.self.inside.handler ≡ None
handler c = ap (λ (y : ProcSeen). y.handler) c.self.view_is ∙ c.requires.handler

pub after-requires-clause-not_halted : goal.after-requires-clause-not_halted
after-requires-clause-not_halted c = λ e.
    let both : want.Switch c.args.space ≡ want.Halted = wants (goal.at.after-requires-clause-not_halted c).After-self ∙ e in absurd cc

pub after-requires-clause-not_trapped : goal.after-requires-clause-not_trapped
after-requires-clause-not_trapped c = λ e.
    let both : want.Switch c.args.space ≡ want.Trap = wants (goal.at.after-requires-clause-not_trapped c).After-self ∙ e in absurd cc

pub invariant_of-self : goal.invariant_of-self
invariant_of-self c =
    let there = c.scan_from-self-inside.result in
    let handler = handler (goal.at.invariant_of-self c).After-self in (
      ap (λ (g : GuestSeen). g.node) c.after.ensures ∙ c.self.invariant.0,
      subst (λ (h : Option HandlerSeen). HandlesWell h there) (sym handler)
          (may-none there (c.scan_from-self-inside.ensures None refl).may),
    )

pub returns-clause-state : goal.returns-clause-state
returns-clause-state c =
    let m = machine c.args.cfg.now in
    let s = c.self.inside in
    let there = c.scan_from-self-inside.result in
    let p = (the_view c.self.inside).state in
    let handler = handler (goal.at.returns-clause-state c).After-self in
    let at = ap (λ (y : ProcSeen). y.state.place) c.self.view_is ∙ c.requires.at in
    let guest = ap (λ (g : GuestSeen). g.state) c.after.ensures ∙ ap (λ (q : ℕ). guest_after m q s.guest.state 0) c.self.invariant.0 in
    let is =
    ap (λ (h : Option HandlerSeen). place_seen h there) (handler ∙ sym (handler_at-none there))
    ∙ (c.scan_from-self-inside.ensures None refl).is in
    λ n. switched-here m s.q n c.args.space p _ _ _ _ at guest (cc) is c.push.ensures.items
    ∙ ap (λ (y : ProcSeen). followed_next m y n) c.self.view_is
