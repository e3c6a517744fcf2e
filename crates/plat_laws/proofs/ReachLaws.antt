-- each access that a guest makes is of an entry, and of that entry's page
use Rattle.std.specs.Prelude.{◌≡◌, ℕ, zero, suc, ◌/◌, List, [], ◌∷◌, ◌++◌, Option, Some, None, slice_get}
use Rattle.std.proofs.Common.{refl, sym, subst, ◌⊎◌, inl, inr}
use Rattle.std.proofs.lemmas.List.{append-nil}
use Rattle.plat_base.specs.Machine.{Machine}
use Rattle.plat_base.specs.Pages.{entry_at, page_of, entry_reached}
use Rattle.plat_base.specs.GuestRun.{GuestRun, Outcome, GoesOn, HasHalted, HasTrapped, Operation, Reaches, Switches, Reach, reach_of}
use Rattle.plat_base.specs.GuestRun.{value_for, want_of, with_access, guest_does, guest_more, guest_run}
use Rattle.plat_base.specs.declared.guests.Want.{Want}
use Rattle.plat_base.specs.declared.guests.Want.TheVariants as want
use Rattle.plat_laws.proofs.GuestLaws.{IsReach-wanted}

-- what an access reaches is a word of this entry's page
pub record IsOfEntry (m : Machine) (space addr page e : ℕ) : Type 0 where
  pub found : entry_at m space (addr / m.words) ≡ Some e
  pub of_page : page_of m e ≡ page

-- an access reaches an entry
abbrev pub HasEntry : Machine → Operation → Type 0
HasEntry m (Reaches r) = (e : ℕ) × IsOfEntry m r.space r.addr r.page e
HasEntry m (Switches s) = Unit {0}

-- the last place of a list, or one before
slice_get-push : {A : Type 0} (xs : List A) (x o : A) (i : ℕ) → slice_get (xs ++ x ∷ []) i ≡ Some o → (slice_get xs i ≡ Some o) ⊎ (x ≡ o)
slice_get-push [] x o zero h = inr cc
slice_get-push [] x o (suc i) h = absurd cc
slice_get-push (y ∷ ys) x o zero h = inl h
slice_get-push (y ∷ ys) x o (suc i) h = slice_get-push ys x o i h

pushed : (m : Machine) (xs : List Operation) (x o : Operation) (i : ℕ) → HasEntry m x → slice_get (xs ++ x ∷ []) i ≡ Some o
    → (slice_get xs i ≡ Some o → HasEntry m o) → HasEntry m o
pushed m xs x o i new h k = by (slice_get-push xs x o i h)
  where
    by : (slice_get xs i ≡ Some o) ⊎ (x ≡ o) → HasEntry m o
    by (inl old) = k old
    by (inr same) = subst (HasEntry m) same new

with_access-entry : (m : Machine) (q : ℕ) (r : GuestRun) (reach : Reach) (v : Option ℕ) (o : Operation) (i : ℕ) → HasEntry m (Reaches reach)
    → slice_get (with_access m q r reach v).operations i ≡ Some o → (slice_get r.operations i ≡ Some o → HasEntry m o) → HasEntry m o
with_access-entry m q r reach None o i new h k = k h
with_access-entry m q r reach (Some v) o i new h k = pushed m r.operations (Reaches reach) o i new h k

guest_does-entry : (m : Machine) (q : ℕ) (vs : List ℕ) (r : GuestRun) (w : Want) (o : Operation) (i : ℕ) → want_of m q r.state ≡ w
    → slice_get (guest_does m q vs r w).operations i ≡ Some o → (slice_get r.operations i ≡ Some o → HasEntry m o) → HasEntry m o
guest_does-entry m q vs r want.Local o i e h k = k (rw append-nil at h)
guest_does-entry m q vs r (want.Access kind sp a operand) o i e h k =
    let reach = IsReach-wanted m q r.state kind sp a operand e
    in with_access-entry m q r (reach_of m kind sp a operand) (value_for kind vs r.used) o i
    (entry_reached m sp a, record { found = reach.found; of_page = sym reach.page }) h k
guest_does-entry m q vs r (want.Switch s) o i e h k = pushed m r.operations (Switches s) o i tt h k
guest_does-entry m q vs r (want.Print v) o i e h k = k (rw append-nil at h)
guest_does-entry m q vs r want.Halted o i e h k = k h
guest_does-entry m q vs r want.Trap o i e h k = k h

guest_more-entry : (m : Machine) (q : ℕ) (vs : List ℕ) (r : GuestRun) (x : Outcome) (o : Operation) (i : ℕ)
    → slice_get (guest_more m q vs r x).operations i ≡ Some o → (slice_get r.operations i ≡ Some o → HasEntry m o) → HasEntry m o
guest_more-entry m q vs r GoesOn o i h k = guest_does-entry m q vs r (want_of m q r.state) o i refl h k
guest_more-entry m q vs r HasHalted o i h k = k h
guest_more-entry m q vs r HasTrapped o i h k = k h

-- the operations of a guest's run
pub guest_run-entry : (m : Machine) (q : ℕ) (vs : List ℕ) (t i : ℕ) (o : Operation)
    → slice_get (guest_run m q vs t).operations i ≡ Some o → HasEntry m o
guest_run-entry m q vs zero i o h = absurd cc
guest_run-entry m q vs (suc t) i o h =
    let r = guest_run m q vs t
    in guest_more-entry m q vs r r.outcome o i h (guest_run-entry m q vs t i o)
