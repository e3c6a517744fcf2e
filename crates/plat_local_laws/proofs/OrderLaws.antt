-- accesses and switches of a processor are in order at every private state that it comes to, where its journal is its part of
-- the history; and what its guest does next
use Rattle.std.proofs.Common.{◌≡◌, ℕ, suc, ◌+◌, ◌<◌, ◌≤◌, Bool, true, false, List, Some, refl, arith, add-one, ap, sym, subst, ◌∙◌, ◌⊎◌}
use Rattle.std.proofs.Common.{inl, inr}
use Rattle.std.specs.Prelude.{◌==◌, ◌&&◌, ◌||◌}
use Rattle.std.proofs.lemmas.Bool.{eq-eqb, and_from, or_right, or_left}
use Rattle.plat_base.specs.Verdicts.{Answer}
use Rattle.plat_base.specs.Machine.{Machine}
use Rattle.plat_base.specs.GuestRun.{GuestRun, guest_run, want_of, Reaches, Switches, GoesOn}
use Rattle.plat_base.specs.Done.{values_of}
use Rattle.plat_base.specs.Held.{held, held_through, has_right}
use Rattle.plat_base.specs.Rules.{next_operation, stands, same_outcome, has_made, wants_operation, is_end}
use Rattle.plat_base.specs.declared.items.Item.{Item}
use Rattle.plat_base.specs.declared.endings.End.{End}
use Rattle.plat_base.specs.declared.endings.End.TheVariants as end
use Rattle.plat_base.specs.declared.guests.Want.{Want}
use Rattle.plat_base.specs.declared.guests.Want.TheVariants as want
use Rattle.plat_laws.specs.Guests.{IsGuest, IsWithinLimits}
use Rattle.plat_laws.proofs.GuestLaws.{guest_run-next_same, next_operation-access, next_operation-switch, IsReach-wanted}
use Rattle.plat_laws.proofs.EndLaws.{is_end-halted, is_end-trapped, is_end-spent, is_end-cut, is_end-no_frames}
use Rattle.plat_events.specs.Privates.{Onward, NewTurn, TurnOver, Relock, Rewait, Place, Polling, Looking, Applying, Ticking, Switching}
use Rattle.plat_events.specs.Privates.{Loading, Expecting, Exchanging, Locking, InSession, Leaving, Lessening, Gone, LiveLooking}
use Rattle.plat_events.specs.Privates.{TimeLooking, Over, Private}
use Rattle.plat_events.specs.Events.{reach_now, entry_of}
use Rattle.plat_events.specs.Shown.{IsReachedAlone, items_by, goes_to}
use Rattle.plat_local_laws.specs.Faults.{WantsAccess}
use Rattle.plat_local_laws.specs.Standing.{OnwardOk, EndingOk, PlaceOk}
use Rattle.plat_local_laws.specs.Numbers.{faults_behind, ticks_behind, is_undone, is_in_turn, is_before_tick, turns_done, GuestOk}
use Rattle.plat_local_laws.specs.Alone.{PrivateOk}
use Rattle.plat_local_laws.proofs.TurnLaws.{reach_now-wanted}
use Rattle.plat_local_laws.proofs.GuestTurnLaws.{done-in_turn}
use Rattle.plat_local_laws.proofs.PrivateLaws.{private_ok}
use Rattle.plat_local_laws.proofs.JournalLaws.{values_of-items_by, IsGuest-items_by}

-- ---- the guest in the history

guest-in :
    (m : Machine) (a : ℕ) (p : Private) (items : List Item) → GuestOk m a p → p.journal ≡ items_by a items
    → IsGuest m items (turns_done p) a
guest-in m a p items g j = IsGuest-items_by m items (turns_done p) a (subst (λ x. IsGuest m x (turns_done p) a) j g.run)

state-in :
    (m : Machine) (a : ℕ) (p : Private) (items : List Item) → GuestOk m a p → p.journal ≡ items_by a items
    → (guest_run m a (values_of a items) (turns_done p)).state ≡ p.guest
state-in m a p items g j =
    sym (g.guest ∙ ap (λ v. (guest_run m a v (turns_done p)).state) (ap (values_of a) j ∙ values_of-items_by a items))

-- ---- what a guest wants in the turn under way

abbrev pub IsWanting : Machine → (a : ℕ) → Private → Type 0
IsWanting m a p =
    (wants_operation (want_of m a p.guest) ≡ true) ⊎ ((want_of m a p.guest ≡ want.Halted) ⊎ (want_of m a p.guest ≡ want.Trap))

wants-access : (m : Machine) (a : ℕ) (p : Private) → WantsAccess m a p → IsWanting m a p
wants-access m a p w = inl (ap wants_operation w)

onward-wants :
    (m : Machine) (answer : Answer) (a : ℕ) (p : Private) (onward : Onward) → a < m.nodes → OnwardOk m answer a p onward
    → faults_behind onward ≡ true → IsWanting m a p
onward-wants m answer a p NewTurn l h k = absurd cc
onward-wants m answer a p TurnOver l h k = absurd cc
onward-wants m answer a p (Relock fault) l h k = wants-access m a p (h.locks.access l).wants
onward-wants m answer a p (Rewait s) l h k = wants-access m a p (h.session.fault.access l).wants

end-wants : (m : Machine) (a : ℕ) (p : Private) (e : End) → EndingOk m a p e → is_undone e ≡ true → IsWanting m a p
end-wants m a p end.Halted h k = inr (inl h.end)
end-wants m a p end.Trapped h k = inr (inr h.end)
end-wants m a p end.Spent h k = absurd cc
end-wants m a p end.NoFrames h k = wants-access m a p h.end.0
end-wants m a p end.Cut h k = absurd h.end

place-wants :
    (m : Machine) (answer : Answer) (a : ℕ) (p : Private) (place : Place) → a < m.nodes → PlaceOk m answer a p place
    → is_in_turn place ≡ true → IsWanting m a p
place-wants m answer a p (Polling onward) l h k = onward-wants m answer a p onward l h.behind k
place-wants m answer a p (Looking i moment onward) l h k = onward-wants m answer a p onward l h.behind k
place-wants m answer a p (Applying i message moment onward) l h k = onward-wants m answer a p onward l h.behind k
place-wants m answer a p Ticking l h k = absurd cc
place-wants m answer a p (Switching space) l h k = inl (ap wants_operation h.wants)
place-wants m answer a p Loading l h k = wants-access m a p h.wants
place-wants m answer a p Expecting l h k = wants-access m a p h.wants
place-wants m answer a p (Exchanging seen) l h k = wants-access m a p h.access.wants
place-wants m answer a p (Locking fault) l h k = wants-access m a p (h.locks.access l).wants
place-wants m answer a p (InSession s) l h k = wants-access m a p (h.fault.access l).wants
place-wants m answer a p (Leaving e) l h k = end-wants m a p e h k
place-wants m answer a p (Lessening e) l h k = end-wants m a p e h k
place-wants m answer a p (Gone e) l h k = end-wants m a p e h k
place-wants m answer a p LiveLooking l h k = absurd cc
place-wants m answer a p TimeLooking l h k = absurd cc
place-wants m answer a p Over l h k = absurd cc

faults-ticks : (onward : Onward) → faults_behind onward ≡ true → ticks_behind onward ≡ false
faults-ticks NewTurn k = absurd cc
faults-ticks TurnOver k = refl
faults-ticks (Relock fault) k = refl
faults-ticks (Rewait s) k = refl

in_turn-ticked : (place : Place) → is_in_turn place ≡ true → is_before_tick place ≡ false
in_turn-ticked (Polling onward) k = faults-ticks onward k
in_turn-ticked (Looking i moment onward) k = faults-ticks onward k
in_turn-ticked (Applying i message moment onward) k = faults-ticks onward k
in_turn-ticked Ticking k = absurd cc
in_turn-ticked (Switching space) k = refl
in_turn-ticked Loading k = refl
in_turn-ticked Expecting k = refl
in_turn-ticked (Exchanging seen) k = refl
in_turn-ticked (Locking fault) k = refl
in_turn-ticked (InSession s) k = refl
in_turn-ticked (Leaving e) k = refl
in_turn-ticked (Lessening e) k = refl
in_turn-ticked (Gone e) k = refl
in_turn-ticked LiveLooking k = refl
in_turn-ticked TimeLooking k = refl
in_turn-ticked Over k = refl

-- ---- a processor that has not ended

goes_stands : (r : GuestRun) (t : ℕ) → r.turns ≡ t → r.outcome ≡ GoesOn → stands r t GoesOn ≡ true
goes_stands r t h k = and_from (r.turns == t) (same_outcome r.outcome GoesOn) (eq-eqb r.turns t h) (rw k refl)

is_end-cut_wanting :
    (m : Machine) (items : List Item) (t q : ℕ) → IsGuest m items t q
    → wants_operation (want_of m q (guest_run m q (values_of q items) t).state) ≡ true → is_end m items q end.Cut (t + 1) ≡ true
is_end-cut_wanting m items t q g w =
    let before = guest_run m q (values_of q items) t in
    let whole = guest_run m q (values_of q items) (suc t) in
    let wanting = wants_operation (want_of m q before.state) in
    rw add-one
    (and_from (stands before t GoesOn) (has_made items q whole || (wanting && has_made items q before)) (goes_stands before t g.made g.goes)
    (or_right (has_made items q whole) (wanting && has_made items q before) (and_from wanting (has_made items q before) w g.done)))

is_end-cut_ending :
    (m : Machine) (items : List Item) (t q : ℕ) (w : Want) → IsGuest m items t q → (w ≡ want.Halted) ⊎ (w ≡ want.Trap)
    → want_of m q (guest_run m q (values_of q items) t).state ≡ w → is_end m items q end.Cut (t + 1) ≡ true
is_end-cut_ending m items t q w g k e =
    let before = guest_run m q (values_of q items) t in
    let whole = guest_run m q (values_of q items) (suc t) in
    let wanting = wants_operation (want_of m q before.state) in
    rw add-one
    (and_from (stands before t GoesOn) (has_made items q whole || (wanting && has_made items q before)) (goes_stands before t g.made g.goes)
    (or_left (has_made items q whole) (wanting && has_made items q before) (made k)))
  where
    made : (w ≡ want.Halted) ⊎ (w ≡ want.Trap) → has_made items q (guest_run m q (values_of q items) (suc t)) ≡ true
    made (inl h) = rw (guest_run-next_same m q (values_of q items) t want.Halted g.goes (e ∙ h)) g.done
    made (inr h) = rw (guest_run-next_same m q (values_of q items) t want.Trap g.goes (e ∙ h)) g.done

cut-wanting :
    (m : Machine) (a : ℕ) (p : Private) (items : List Item) → GuestOk m a p → p.journal ≡ items_by a items → IsWanting m a p
    → is_end m items a end.Cut (turns_done p + 1) ≡ true
cut-wanting m a p items g j (inl w) =
    is_end-cut_wanting m items (turns_done p) a (guest-in m a p items g j)
    (ap (λ s. wants_operation (want_of m a s)) (state-in m a p items g j) ∙ w)
cut-wanting m a p items g j (inr w) =
    is_end-cut_ending m items (turns_done p) a (want_of m a p.guest) (guest-in m a p items g j) w
    (ap (want_of m a) (state-in m a p items g j))

-- its turns and its accesses and switches are those of its guest, wherever it stands
pub cut_in_order :
    (m : Machine) (answer : Answer) (a : ℕ) (p : Private) (items : List Item) → PrivateOk m answer a p → a < m.nodes
    → p.journal ≡ items_by a items → is_end m items a end.Cut p.turns ≡ true
cut_in_order m answer a p items h l j = by (is_in_turn p.place) refl
  where
    by : (b : Bool) → is_in_turn p.place ≡ b → is_end m items a end.Cut p.turns ≡ true
    by true e =
        let some = h.guest.turns_some l (in_turn-ticked p.place e) in
        subst (λ t. is_end m items a end.Cut t ≡ true) (done-in_turn p e some)
        (cut-wanting m a p items h.guest j (place-wants m answer a p p.place l h.standing.place e))
    by false e =
        let done : turns_done p ≡ p.turns = rw e in
        subst (λ t. is_end m items a end.Cut t ≡ true) done (is_end-cut m items (turns_done p) a (guest-in m a p items h.guest j))

-- the same of every private state that is reached alone
pub reached_in_order :
    (m : Machine) (answer : Answer) (a : ℕ) (p : Private) (items : List Item) → IsWithinLimits m → a < m.nodes
    → IsReachedAlone m answer a p → p.journal ≡ items_by a items → is_end m items a end.Cut p.turns ≡ true
reached_in_order m answer a p items h l r j =
    cut_in_order m answer a p items (private_ok m answer a p h (omega arith) r) l j

-- ---- a processor that ends

record EndsSo (m : Machine) (a : ℕ) (p : Private) (place : Place) (e : End) : Type 0 where
  ending : EndingOk m a p e
  in_turn : is_in_turn place ≡ is_undone e
  ticked : is_before_tick place ≡ false

ends-same : (m : Machine) (a : ℕ) (p : Private) (place : Place) (x e : End) → EndsSo m a p place x → Some x ≡ Some e → EndsSo m a p place e
ends-same m a p place x e h k = let same : x ≡ e = cc in subst (EndsSo m a p place) same h

ends-so :
    (m : Machine) (answer : Answer) (a : ℕ) (p : Private) (place : Place) (e : End) → PlaceOk m answer a p place
    → goes_to place ≡ Some e → EndsSo m a p place e
ends-so m answer a p (Polling onward) e h k = absurd cc
ends-so m answer a p (Looking i moment onward) e h k = absurd cc
ends-so m answer a p (Applying i message moment onward) e h k = absurd cc
ends-so m answer a p Ticking e h k = absurd cc
ends-so m answer a p (Switching space) e h k = absurd cc
ends-so m answer a p Loading e h k = absurd cc
ends-so m answer a p Expecting e h k = absurd cc
ends-so m answer a p (Exchanging seen) e h k = absurd cc
ends-so m answer a p (Locking fault) e h k = absurd cc
ends-so m answer a p (InSession s) e h k = absurd cc
ends-so m answer a p (Leaving x) e h k = ends-same m a p (Leaving x) x e (record { ending = h; in_turn = refl; ticked = refl }) k
ends-so m answer a p (Lessening x) e h k = ends-same m a p (Lessening x) x e (record { ending = h; in_turn = refl; ticked = refl }) k
ends-so m answer a p (Gone x) e h k = ends-same m a p (Gone x) x e (record { ending = h; in_turn = refl; ticked = refl }) k
ends-so m answer a p LiveLooking e h k = absurd cc
ends-so m answer a p TimeLooking e h k = absurd cc
ends-so m answer a p Over e h k = absurd cc

last-turn :
    (m : Machine) (answer : Answer) (a : ℕ) (p : Private) (e : End) → PrivateOk m answer a p → a < m.nodes → EndsSo m a p p.place e
    → is_undone e ≡ true → turns_done p + 1 ≡ p.turns
last-turn m answer a p e h l s u = done-in_turn p (s.in_turn ∙ u) (h.guest.turns_some l s.ticked)

-- for want of frames a processor ends in order where it holds no translation with enough right, and there are too few frames
abbrev pub LacksFrames : Machine → List Item → (a : ℕ) → Private → Type 0
LacksFrames m items a p = (has_right (reach_now m a p).kind (held m items a (entry_of m (reach_now m a p))) ≡ false) × (m.frames < m.pages)

end-in_order :
    (m : Machine) (answer : Answer) (a : ℕ) (p : Private) (items : List Item) (e : End) → PrivateOk m answer a p → a < m.nodes
    → p.journal ≡ items_by a items → EndsSo m a p p.place e → (e ≡ end.NoFrames → LacksFrames m items a p)
    → is_end m items a e p.turns ≡ true
end-in_order m answer a p items end.Halted h l j s k =
    subst (λ t. is_end m items a end.Halted t ≡ true) (last-turn m answer a p end.Halted h l s refl)
    (is_end-halted m items (turns_done p) a (guest-in m a p items h.guest j)
    (ap (want_of m a) (state-in m a p items h.guest j) ∙ s.ending.end))
end-in_order m answer a p items end.Trapped h l j s k =
    subst (λ t. is_end m items a end.Trapped t ≡ true) (last-turn m answer a p end.Trapped h l s refl)
    (is_end-trapped m items (turns_done p) a (guest-in m a p items h.guest j)
    (ap (want_of m a) (state-in m a p items h.guest j) ∙ s.ending.end))
end-in_order m answer a p items end.Spent h l j s k =
    let done : turns_done p ≡ p.turns = rw s.in_turn in
    subst (λ t. is_end m items a end.Spent t ≡ true) done
    (is_end-spent m items (turns_done p) a (guest-in m a p items h.guest j) (done ∙ s.ending.end))
end-in_order m answer a p items end.NoFrames h l j s k =
    let r = reach_now m a p in
    let lacks = k refl in
    let reach = IsReach-wanted m a p.guest r.kind r.space r.addr r.operand s.ending.end.0 in
    subst (λ t. is_end m items a end.NoFrames t ≡ true) (last-turn m answer a p end.NoFrames h l s refl)
    (is_end-no_frames m items (turns_done p) a r.kind r.space r.addr r.operand (guest-in m a p items h.guest j)
    (ap (want_of m a) (state-in m a p items h.guest j) ∙ s.ending.end.0)
    (ap (λ x. has_right r.kind (held_through m items a x)) reach.found ∙ lacks.0) lacks.1)
end-in_order m answer a p items end.Cut h l j s k = absurd s.ending.end

-- how a processor ends is how its guest does
pub ends_in_order :
    (m : Machine) (answer : Answer) (a : ℕ) (p : Private) (items : List Item) (e : End) → PrivateOk m answer a p → a < m.nodes
    → p.journal ≡ items_by a items → goes_to p.place ≡ Some e → (e ≡ end.NoFrames → LacksFrames m items a p)
    → is_end m items a e p.turns ≡ true
ends_in_order m answer a p items e h l j g k =
    end-in_order m answer a p items e h l j (ends-so m answer a p p.place e h.standing.place g) k

-- ---- what the guest does next

turn-left : (m : Machine) (p : Private) → is_in_turn p.place ≡ true → 1 ≤ p.turns → p.turns ≤ m.budget → turns_done p < m.budget
turn-left m p e l b = omega (arith, done-in_turn p e l)

-- the access under way is the next operation of the guest
pub next_access :
    (m : Machine) (answer : Answer) (a : ℕ) (p : Private) (items : List Item) → PrivateOk m answer a p → a < m.nodes
    → p.journal ≡ items_by a items → is_in_turn p.place ≡ true → WantsAccess m a p
    → next_operation m items a ≡ Some (Reaches (reach_now m a p))
next_access m answer a p items h l j e w =
    let r = reach_now m a p in
    let some = h.guest.turns_some l (in_turn-ticked p.place e) in
    next_operation-access m items (turns_done p) a r.kind r.space r.addr r.operand (guest-in m a p items h.guest j)
    (turn-left m p e some h.standing.turns_most) (ap (want_of m a) (state-in m a p items h.guest j) ∙ w)
    ∙ ap (λ x. Some (Reaches x)) (sym (reach_now-wanted m a p r.kind r.space r.addr r.operand w))

-- and so is the switch under way
pub next_switch :
    (m : Machine) (answer : Answer) (a : ℕ) (p : Private) (items : List Item) (space : ℕ) → PrivateOk m answer a p → a < m.nodes
    → p.journal ≡ items_by a items → is_in_turn p.place ≡ true → want_of m a p.guest ≡ want.Switch space
    → next_operation m items a ≡ Some (Switches space)
next_switch m answer a p items space h l j e w =
    let some = h.guest.turns_some l (in_turn-ticked p.place e) in
    next_operation-switch m items (turns_done p) a space (guest-in m a p items h.guest j)
    (turn-left m p e some h.standing.turns_most) (ap (want_of m a) (state-in m a p items h.guest j) ∙ w)
