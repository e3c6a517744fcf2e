-- the next operation of a guest that stops
use Rattle.std.proofs.Common.{◌≡◌, ℕ, suc, ◌+◌, ◌-◌, ◌<◌, List, [], ◌∷◌, ◌++◌, length, Option, Some, None, refl, arith, ap, sym}
use Rattle.std.proofs.lemmas.Option.{slice_get_past}
use Rattle.plat_base.specs.Machine.{Machine}
use Rattle.plat_base.specs.GuestRun.{Operation, GoesOn, want_of, guest_does, guest_run}
use Rattle.plat_base.specs.Done.{values_of, operations_of}
use Rattle.plat_base.specs.Rules.{next_operation}
use Rattle.plat_base.specs.declared.guests.Want.{Want}
use Rattle.plat_base.specs.declared.guests.Want.TheVariants as want
use Rattle.plat_base.specs.declared.items.Item.{Item}
use Rattle.plat_laws.specs.Guests.{IsGuest}
use Rattle.plat_laws.proofs.GuestLaws.{more_values, guest_run-next, are_done-length, next_operation-access, next_operation-switch}
use Rattle.plat_guest.specs.GuestSeen.{GuestSeen, wanted_by}
use Rattle.plat_follow.specs.Wanted.{operation_seen}
use Rattle.plat_follow.specs.Followed.{FollowerSeen, IsStop, IsAt, Follows}
use Rattle.plat_follow.specs.declared.stops.Stop.{Stop}
use Rattle.plat_follow.specs.declared.stops.Stop.TheVariants as stop
use Rattle.plat_follow.specs.declared.wanted.Wanted.TheVariants as wanted
use Rattle.plat_follow.proofs.RunLemmas.{guest_run-ended}

-- the operation that a guest waits for
abbrev pub awaited : Stop → Option Operation
awaited (stop.Wants w) = Some (operation_seen w)
awaited stop.Halts = None
awaited stop.Traps = None
awaited stop.Spent = None

module _ (m : Machine) (items : List Item) (q : ℕ) where
  -- no more operations in the whole budget than the items have
  none_left :
      (t : ℕ) → IsGuest m items t q
      → (guest_run m q (values_of q items ++ 0 ∷ []) m.budget).operations ≡ (guest_run m q (values_of q items) t).operations
      → next_operation m items q ≡ None
  none_left t g e =
      let n = are_done-length (guest_run m q (values_of q items) t).operations (operations_of q items) g.done in
      rw e (slice_get_past (guest_run m q (values_of q items) t).operations (length (operations_of q items)) (omega arith))

  pub next_operation-spent : (t : ℕ) → IsGuest m items t q → t ≡ m.budget → next_operation m items q ≡ None
  next_operation-spent t g b =
      let e = more_values m q (values_of q items) (0 ∷ []) t g.made in
      none_left t g (rw (← b) (ap (λ r. r.operations) e))

  -- the guest's next turn is its last
  next_operation-last :
      (t : ℕ) (w : Want) → IsGuest m items t q → t < m.budget → want_of m q (guest_run m q (values_of q items) t).state ≡ w
      → ((guest_does m q (values_of q items ++ 0 ∷ []) (guest_run m q (values_of q items) t) w).outcome ≡ GoesOn → ⊥)
      → (guest_does m q (values_of q items ++ 0 ∷ []) (guest_run m q (values_of q items) t) w).operations
      ≡ (guest_run m q (values_of q items) t).operations
      → next_operation m items q ≡ None
  next_operation-last t w g l e ends same =
      let vs = values_of q items ++ 0 ∷ [] in
      let one = guest_run-next m q (values_of q items) (0 ∷ []) t w g.made g.goes e in
      let b : m.budget ≡ suc t + (m.budget - suc t) = omega arith in
      let rest = guest_run-ended m q vs (suc t) (m.budget - suc t) (rw one ends) in
      none_left t g (rw (b, rest, one) same)

  pub next_operation-halted :
      (t : ℕ) → IsGuest m items t q → t < m.budget → want_of m q (guest_run m q (values_of q items) t).state ≡ want.Halted
      → next_operation m items q ≡ None
  next_operation-halted t g l e = next_operation-last t want.Halted g l e (λ h. absurd cc) refl

  pub next_operation-trapped :
      (t : ℕ) → IsGuest m items t q → t < m.budget → want_of m q (guest_run m q (values_of q items) t).state ≡ want.Trap
      → next_operation m items q ≡ None
  next_operation-trapped t g l e = next_operation-last t want.Trap g l e (λ h. absurd cc) refl

  -- what the guest wants where it stands
  pub IsAt-want :
      (guest : GuestSeen) (last turns : ℕ) → IsAt m items q guest last turns
      → wanted_by m guest ≡ want_of m q (guest_run m q (values_of q items) turns).state
  IsAt-want guest last turns a = rw (a.node, a.state)

  next_at :
      (turns : ℕ) (s : Stop) → IsGuest m items turns q → IsStop m turns (want_of m q (guest_run m q (values_of q items) turns).state) s
      → awaited s ≡ next_operation m items q
  next_at turns (stop.Wants (wanted.Access a)) g h =
      let e = next_operation-access m items turns q a.kind a.space a.addr a.operand g h.0 h.1.0 in sym (rw h.1.1 e)
  next_at turns (stop.Wants (wanted.Switch space)) g h = sym (next_operation-switch m items turns q space g h.0 h.1)
  next_at turns stop.Halts g h = sym (next_operation-halted turns g h.0 h.1)
  next_at turns stop.Traps g h = sym (next_operation-trapped turns g h.0 h.1)
  next_at turns stop.Spent g h = sym (next_operation-spent turns g h)

  -- why the guest that has followed these items is not run on
  pub stop-at :
      (f : FollowerSeen) → Follows m items q f → IsStop m f.turns (want_of m q (guest_run m q (values_of q items) f.turns).state) f.stop
  stop-at f h = rw (IsAt-want f.guest f.last f.turns h.at) at h.stands.stop

  -- what it waits for is the next operation
  pub awaited-next : (f : FollowerSeen) → Follows m items q f → awaited f.stop ≡ next_operation m items q
  awaited-next f h = next_at f.turns f.stop h.at.made (stop-at f h)
