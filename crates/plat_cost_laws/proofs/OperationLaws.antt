-- a processor of a good history makes no more accesses and switches than its budget has turns
use Rattle.std.specs.Prelude.{◌≡◌, ℕ, zero, suc, ◌+◌, ◌≤◌, ◌==◌, nat_lt, nat_le, ◌&&◌, ◌||◌, Bool, true, false, List, [], ◌∷◌, ◌++◌, length}
use Rattle.std.specs.Prelude.{Option, Some, None}
use Rattle.std.proofs.Common.{refl, sym, ◌∙◌, arith}
use Rattle.std.proofs.lemmas.Bool.{and_parts}
use Rattle.std.proofs.lemmas.Bool.Decides.{nat_tests}
use Rattle.std.proofs.lemmas.List.{length-append}
use Rattle.plat_base.specs.Machine.{Machine}
use Rattle.plat_base.specs.GuestRun.{GuestRun, Operation, Outcome, GoesOn, HasHalted, HasTrapped, Reach, reach_of, value_for, want_of}
use Rattle.plat_base.specs.GuestRun.{with_access, guest_does, guest_more, guest_run}
use Rattle.plat_base.specs.Done.{values_of, operations_of}
use Rattle.plat_base.specs.Ends.{ended_of}
use Rattle.plat_base.specs.Rules.{stands, has_made, wants_right, wants_operation, is_end, is_in_order}
use Rattle.plat_base.specs.declared.endings.End.{End}
use Rattle.plat_base.specs.declared.endings.End.TheVariants as end
use Rattle.plat_base.specs.declared.endings.Ended.{Ended}
use Rattle.plat_base.specs.declared.guests.Want.{Want}
use Rattle.plat_base.specs.declared.guests.Want.TheVariants as want
use Rattle.plat_base.specs.declared.items.Item.{Item}
use Rattle.plat_laws.proofs.GuestLaws.{are_done-length}

-- ---- a turn makes one operation at most

one_more : (os : List Operation) (o : Operation) → length (os ++ o ∷ []) ≤ length os + 1
one_more os o = rw length-append (omega arith)

none_more : (os : List Operation) → length (os ++ []) ≤ length os + 1
none_more os = rw length-append (omega arith)

with_access-operations : (m : Machine) (q : ℕ) (r : GuestRun) (reach : Reach) (v : Option ℕ) →
    length (with_access m q r reach v).operations ≤ length r.operations + 1
with_access-operations m q r reach None = omega arith
with_access-operations m q r reach (Some v) = one_more r.operations _

guest_does-operations : (m : Machine) (q : ℕ) (vs : List ℕ) (r : GuestRun) (w : Want) →
    length (guest_does m q vs r w).operations ≤ length r.operations + 1
guest_does-operations m q vs r want.Local = none_more r.operations
guest_does-operations m q vs r (want.Access k sp a o) = with_access-operations m q r (reach_of m k sp a o) (value_for k vs r.used)
guest_does-operations m q vs r (want.Switch s) = one_more r.operations _
guest_does-operations m q vs r (want.Print v) = none_more r.operations
guest_does-operations m q vs r want.Halted = omega arith
guest_does-operations m q vs r want.Trap = omega arith

guest_more-operations : (m : Machine) (q : ℕ) (vs : List ℕ) (r : GuestRun) (o : Outcome) →
    length (guest_more m q vs r o).operations ≤ length r.operations + 1
guest_more-operations m q vs r GoesOn = guest_does-operations m q vs r (want_of m q r.state)
guest_more-operations m q vs r HasHalted = omega arith
guest_more-operations m q vs r HasTrapped = omega arith

guest_run-operations : (m : Machine) (q : ℕ) (vs : List ℕ) (t : ℕ) → length (guest_run m q vs t).operations ≤ t
guest_run-operations m q vs zero = omega arith
guest_run-operations m q vs (suc t) =
    let r = guest_run m q vs t
    in omega (arith, guest_run-operations m q vs t, guest_more-operations m q vs r r.outcome)

-- ---- the ends

made_few :
    (m : Machine) (items : List Item) (q t : ℕ) → has_made items q (guest_run m q (values_of q items) t) ≡ true
    → length (operations_of q items) ≤ t
made_few m items q t h =
    let same = are_done-length (guest_run m q (values_of q items) t).operations (operations_of q items) h
    in let few = guest_run-operations m q (values_of q items) t in omega arith

cut_few :
    (m : Machine) (items : List Item) (q t : ℕ) (a wants : Bool)
    → (a && (has_made items q (guest_run m q (values_of q items) (suc t))
    || (wants && has_made items q (guest_run m q (values_of q items) t)))) ≡ true
    → length (operations_of q items) ≤ suc t
cut_few m items q t a wants h =
    by (has_made items q (guest_run m q (values_of q items) (suc t))) (has_made items q (guest_run m q (values_of q items) t)) refl refl
    (and_parts a _ h).1
  where
    by : (x y : Bool) → has_made items q (guest_run m q (values_of q items) (suc t)) ≡ x
        → has_made items q (guest_run m q (values_of q items) t) ≡ y → (x || (wants && y)) ≡ true → length (operations_of q items) ≤ suc t
    by true y e f k = made_few m items q (suc t) e
    by false true e f k = let few = made_few m items q t f in omega arith
    by false false e f k = absurd (none wants k)
      where
        none : (b : Bool) → (b && false) ≡ true → ⊥
        none true k = absurd cc
        none false k = absurd cc

is_end-few : (m : Machine) (items : List Item) (q : ℕ) (e : End) (t : ℕ) → is_end m items q e t ≡ true → length (operations_of q items) ≤ t
is_end-few m items q end.Halted t h = made_few m items q t (and_parts (stands (guest_run m q (values_of q items) t) t HasHalted) _ h).1
is_end-few m items q end.Trapped t h = made_few m items q t (and_parts (stands (guest_run m q (values_of q items) t) t HasTrapped) _ h).1
is_end-few m items q end.Spent t h =
    made_few m items q t (and_parts (t == m.budget && stands (guest_run m q (values_of q items) t) t GoesOn) _ h).1
is_end-few m items q end.NoFrames zero h = absurd cc
is_end-few m items q end.NoFrames (suc t) h =
    let r = guest_run m q (values_of q items) t in
    let three = and_parts (nat_lt m.frames m.pages && stands r t GoesOn && has_made items q r) _ h in
    let two = and_parts (nat_lt m.frames m.pages && stands r t GoesOn) (has_made items q r) three.0 in
    let few = made_few m items q t two.1 in omega arith
is_end-few m items q end.Cut zero h = made_few m items q 0 h
is_end-few m items q end.Cut (suc t) h =
    cut_few m items q t (stands (guest_run m q (values_of q items) t) t GoesOn)
    (wants_operation (want_of m q (guest_run m q (values_of q items) t).state)) h

-- what is in order has no more operations than the budget
pub few_operations :
    (m : Machine) (items : List Item) (ends : List Ended) (q : ℕ) → is_in_order m items ends q ≡ true
    → length (operations_of q items) ≤ m.budget
few_operations m items ends q h =
    let both = and_parts (nat_le (ended_of ends q).turns m.budget) (is_end m items q (ended_of ends q).end (ended_of ends q).turns) h in
    let few = is_end-few m items q (ended_of ends q).end (ended_of ends q).turns both.1 in
    let within : (ended_of ends q).turns ≤ m.budget = grind (arith, nat_tests, both.0) in
    omega arith
