-- the run of one guest: fewer and more turns, more values, the next operation, one more turn of it, and what an access reaches
use Rattle.std.proofs.Common.{◌≡◌, ℕ, zero, suc, ◌+◌, ◌<◌, ◌≤◌, Bool, true, false, List, [], ◌∷◌, ◌++◌, length, Option, Some, None, refl}
use Rattle.std.proofs.Common.{arith, add-one, add-zero, add-suc, append_assoc, sym, ◌-◌, if◌then◌else◌, get_or}
use Rattle.std.specs.Prelude.{slice_get, slice_index_or, is_some, ◌/◌, ◌%◌, ◌==◌, ◌&&◌, unwrap_or}
use Rattle.std.specs.List.{position_from}
use Rattle.std.proofs.lemmas.List.{append-nil, length-append}
use Rattle.std.proofs.lemmas.Bool.Decides.{nat_tests}
use Rattle.plat_base.specs.Machine.{Machine, Program}
use Rattle.plat_base.specs.Pages.{program_of, entry_at, page_of, space_of, no_entry, entry_reached}
use Rattle.plat_base.specs.GuestRun.{GuestRun, GuestState, Reach, Operation, Reaches, Switches, Outcome, GoesOn, HasHalted, HasTrapped}
use Rattle.plat_base.specs.GuestRun.{want_of, guest_after, values_taken, value_for, reach_of, with_turn, with_access, guest_does}
use Rattle.plat_base.specs.GuestRun.{guest_more, guest_run, passed, gone, executed, executed_next, wanted, wanted_next, address, register}
use Rattle.plat_base.specs.GuestRun.{target}
use Rattle.plat_base.specs.Done.{Done, Accessed, Switched, values_of, operations_of, is_done_access, are_done}
use Rattle.plat_base.specs.Done.{reads_word}
use Rattle.plat_base.specs.Held.{active}
use Rattle.plat_base.specs.Rules.{next_operation}
use Rattle.plat_laws.specs.Guests.{IsGuest, IsWithinLimits}
use Rattle.plat_laws.proofs.Limits.{page_of-below, words-some}
use Rattle.plat_base.specs.declared.items.Access.{Access}
use Rattle.plat_base.specs.declared.items.Item.{Item}
use Rattle.plat_base.specs.declared.configs.Entry.{Entry}
use Rattle.plat_base.specs.declared.guests.Instr.{Instr}
use Rattle.plat_base.specs.declared.guests.Instr.TheVariants as instr
use Rattle.plat_base.specs.declared.guests.Want.{Want}
use Rattle.plat_base.specs.declared.guests.Want.TheVariants as want
use Rattle.plat_base.specs.declared.items.Kind.{Kind}
use Rattle.plat_base.specs.declared.items.Kind.TheVariants as kind
use Rattle.plat_laws.proofs.ItemLaws.{operations_of-append, values_of-append}
use Rattle.plat_base.proofs.ListLemmas.{slice_get-append}

-- ---- one turn

with_access-turns : (m : Machine) (q : ℕ) (r : GuestRun) (reach : Reach) (v : Option ℕ) → (with_access m q r reach v).turns ≤ r.turns + 1
with_access-turns m q r reach None = omega arith
with_access-turns m q r reach (Some v) = omega arith

guest_does-turns : (m : Machine) (q : ℕ) (vs : List ℕ) (r : GuestRun) (w : Want) → (guest_does m q vs r w).turns ≤ r.turns + 1
guest_does-turns m q vs r want.Local = omega arith
guest_does-turns m q vs r (want.Access k sp a o) = with_access-turns m q r (reach_of m k sp a o) (value_for k vs r.used)
guest_does-turns m q vs r (want.Switch s) = omega arith
guest_does-turns m q vs r (want.Print v) = omega arith
guest_does-turns m q vs r want.Halted = omega arith
guest_does-turns m q vs r want.Trap = omega arith

guest_more-turns : (m : Machine) (q : ℕ) (vs : List ℕ) (r : GuestRun) (o : Outcome) → (guest_more m q vs r o).turns ≤ r.turns + 1
guest_more-turns m q vs r GoesOn = guest_does-turns m q vs r (want_of m q r.state)
guest_more-turns m q vs r HasHalted = omega arith
guest_more-turns m q vs r HasTrapped = omega arith

guest_more-goes_on : (m : Machine) (q : ℕ) (vs : List ℕ) (r : GuestRun) (o : Outcome) → (guest_more m q vs r o).turns ≡ r.turns + 1 →
    o ≡ GoesOn
guest_more-goes_on m q vs r GoesOn h = refl
guest_more-goes_on m q vs r HasHalted h = absurd (omega arith)
guest_more-goes_on m q vs r HasTrapped h = absurd (omega arith)

-- ---- fewer turns

pub guest_run-turns : (m : Machine) (q : ℕ) (vs : List ℕ) (t : ℕ) → (guest_run m q vs t).turns ≤ t
guest_run-turns m q vs zero = omega arith
guest_run-turns m q vs (suc t) =
    let r = guest_run m q vs t
    in omega (arith, guest_run-turns m q vs t, guest_more-turns m q vs r r.outcome)

pub fewer_turns :
    (m : Machine) (q : ℕ) (vs : List ℕ) (t : ℕ) → (guest_run m q vs (suc t)).turns ≡ suc t
    → ((guest_run m q vs t).turns ≡ t) × ((guest_run m q vs t).outcome ≡ GoesOn)
fewer_turns m q vs t h =
    let r = guest_run m q vs t in
    let e : r.turns ≡ t = omega (arith, guest_run-turns m q vs t, guest_more-turns m q vs r r.outcome)
    in (e, guest_more-goes_on m q vs r r.outcome (omega arith))

-- ---- more values

pub slice_get-append_at : {A : Type 0} (xs : List A) (x : A) (ys : List A) (i : ℕ) → i ≡ length xs → slice_get (xs ++ x ∷ ys) i ≡ Some x
slice_get-append_at [] x ys zero h = refl
slice_get-append_at [] x ys (suc i) h = absurd (omega arith)
slice_get-append_at (a ∷ xs) x ys zero h = absurd (omega arith)
slice_get-append_at (a ∷ xs) x ys (suc i) h = slice_get-append_at xs x ys i (omega arith)

value_for-append : (k : Kind) (vs ws : List ℕ) (used v : ℕ) → value_for k vs used ≡ Some v → value_for k (vs ++ ws) used ≡ Some v
value_for-append kind.Load vs ws used v h = slice_get-append vs ws used v h
value_for-append kind.Store vs ws used v h = h
value_for-append kind.Add vs ws used v h = slice_get-append vs ws used v h

with_access-more_values :
    (m : Machine) (q : ℕ) (vs ws : List ℕ) (r : GuestRun) (reach : Reach) (k : Kind) (v : Option ℕ) → value_for k vs r.used ≡ v
    → (with_access m q r reach v).turns ≡ r.turns + 1
    → with_access m q r reach (value_for k (vs ++ ws) r.used) ≡ with_access m q r reach v
with_access-more_values m q vs ws r reach k None e h = absurd (omega arith)
with_access-more_values m q vs ws r reach k (Some v) e h = rw (value_for-append k vs ws r.used v e)

guest_does-more_values :
    (m : Machine) (q : ℕ) (vs ws : List ℕ) (r : GuestRun) (w : Want) → (guest_does m q vs r w).turns ≡ r.turns + 1
    → guest_does m q (vs ++ ws) r w ≡ guest_does m q vs r w
guest_does-more_values m q vs ws r want.Local h = refl
guest_does-more_values m q vs ws r (want.Access k sp a o) h =
    with_access-more_values m q vs ws r (reach_of m k sp a o) k (value_for k vs r.used) refl h
guest_does-more_values m q vs ws r (want.Switch s) h = refl
guest_does-more_values m q vs ws r (want.Print v) h = refl
guest_does-more_values m q vs ws r want.Halted h = refl
guest_does-more_values m q vs ws r want.Trap h = refl

guest_more-more_values :
    (m : Machine) (q : ℕ) (vs ws : List ℕ) (r : GuestRun) (o : Outcome) → (guest_more m q vs r o).turns ≡ r.turns + 1
    → guest_more m q (vs ++ ws) r o ≡ guest_more m q vs r o
guest_more-more_values m q vs ws r GoesOn h = guest_does-more_values m q vs ws r (want_of m q r.state) h
guest_more-more_values m q vs ws r HasHalted h = refl
guest_more-more_values m q vs ws r HasTrapped h = refl

pub more_values :
    (m : Machine) (q : ℕ) (vs ws : List ℕ) (t : ℕ) → (guest_run m q vs t).turns ≡ t → guest_run m q (vs ++ ws) t ≡ guest_run m q vs t
more_values m q vs ws zero h = refl
more_values m q vs ws (suc t) h =
    let r = guest_run m q vs t in
    let e = fewer_turns m q vs t h
    in rw (more_values m q vs ws t e.0) (guest_more-more_values m q vs ws r r.outcome (omega arith))

-- ---- more turns

-- the second list begins with the first
abbrev pub Extends : List Operation → List Operation → Type 0
Extends os more = (rest : List Operation) × (more ≡ os ++ rest)

pub Extends-itself : (os : List Operation) → Extends os os
Extends-itself os = ([], simp append-nil)

pub Extends-trans : (os more most : List Operation) → Extends os more → Extends more most → Extends os most
Extends-trans os more most h k = (h.0 ++ k.0, rw (k.1, h.1, append_assoc))

with_access-Extends :
    (m : Machine) (q : ℕ) (r : GuestRun) (reach : Reach) (v : Option ℕ) → Extends r.operations (with_access m q r reach v).operations
with_access-Extends m q r reach None = Extends-itself r.operations
with_access-Extends m q r reach (Some v) = (Reaches reach ∷ [], refl)

guest_does-Extends :
    (m : Machine) (q : ℕ) (vs : List ℕ) (r : GuestRun) (w : Want) → Extends r.operations (guest_does m q vs r w).operations
guest_does-Extends m q vs r want.Local = ([], refl)
guest_does-Extends m q vs r (want.Access k sp a o) =
    with_access-Extends m q r (reach_of m k sp a o) (value_for k vs r.used)
guest_does-Extends m q vs r (want.Switch s) = (Switches s ∷ [], refl)
guest_does-Extends m q vs r (want.Print v) = ([], refl)
guest_does-Extends m q vs r want.Halted = Extends-itself r.operations
guest_does-Extends m q vs r want.Trap = Extends-itself r.operations

guest_more-Extends :
    (m : Machine) (q : ℕ) (vs : List ℕ) (r : GuestRun) (o : Outcome) → Extends r.operations (guest_more m q vs r o).operations
guest_more-Extends m q vs r GoesOn = guest_does-Extends m q vs r (want_of m q r.state)
guest_more-Extends m q vs r HasHalted = Extends-itself r.operations
guest_more-Extends m q vs r HasTrapped = Extends-itself r.operations

pub more_turns :
    (m : Machine) (q : ℕ) (vs : List ℕ) (t k : ℕ) → Extends (guest_run m q vs t).operations (guest_run m q vs (t + k)).operations
more_turns m q vs t zero = rw add-zero (Extends-itself (guest_run m q vs t).operations)
more_turns m q vs t (suc k) =
    let r = guest_run m q vs (t + k) in
    let one : Extends r.operations (guest_run m q vs (suc (t + k))).operations = guest_more-Extends m q vs r r.outcome
    in rw add-suc (Extends-trans (guest_run m q vs t).operations r.operations _ (more_turns m q vs t k) one)

-- ---- the next turn

guest_more-goes :
    (m : Machine) (q : ℕ) (vs : List ℕ) (r : GuestRun) (o : Outcome) (w : Want) → o ≡ GoesOn → want_of m q r.state ≡ w
    → guest_more m q vs r o ≡ guest_does m q vs r w
guest_more-goes m q vs r o w e f = rw (e, f)

-- one more turn of a guest that goes on, on these values and more
pub guest_run-next :
    (m : Machine) (q : ℕ) (vs ws : List ℕ) (t : ℕ) (w : Want) → (guest_run m q vs t).turns ≡ t → (guest_run m q vs t).outcome ≡ GoesOn
    → want_of m q (guest_run m q vs t).state ≡ w → guest_run m q (vs ++ ws) (suc t) ≡ guest_does m q (vs ++ ws) (guest_run m q vs t) w
guest_run-next m q vs ws t w h o e =
    rw (more_values m q vs ws t h) (guest_more-goes m q (vs ++ ws) (guest_run m q vs t) (guest_run m q vs t).outcome w o e)

-- the same on these values alone
pub guest_run-next_same :
    (m : Machine) (q : ℕ) (vs : List ℕ) (t : ℕ) (w : Want) → (guest_run m q vs t).outcome ≡ GoesOn
    → want_of m q (guest_run m q vs t).state ≡ w → guest_run m q vs (suc t) ≡ guest_does m q vs (guest_run m q vs t) w
guest_run-next_same m q vs t w o e = guest_more-goes m q vs (guest_run m q vs t) (guest_run m q vs t).outcome w o e

-- ---- operations that are done

pub are_done-length : (os : List Operation) (ds : List Done) → are_done os ds ≡ true → length os ≡ length ds
are_done-length [] [] h = refl
are_done-length [] (d ∷ ds) h = absurd cc
are_done-length (o ∷ os) [] h = absurd cc
are_done-length (o ∷ os) (d ∷ ds) h = grind (arith, are_done-length os ds)

pub are_done-append :
    (os : List Operation) (ds : List Done) (ps : List Operation) (es : List Done) → are_done os ds ≡ true → are_done ps es ≡ true
    → are_done (os ++ ps) (ds ++ es) ≡ true
are_done-append [] [] ps es h k = k
are_done-append [] (d ∷ ds) ps es h k = absurd cc
are_done-append (o ∷ os) [] ps es h k = absurd cc
are_done-append (o ∷ os) (d ∷ ds) ps es h k = grind (arith, are_done-append os ds ps es)

-- ---- the next operation

-- the operation with which the guest's next turn ends is the next operation
next_operation-is :
    (m : Machine) (items : List Item) (t q : ℕ) (op : Operation) → IsGuest m items t q → t < m.budget
    → (guest_run m q (values_of q items ++ 0 ∷ []) (suc t)).operations ≡ (guest_run m q (values_of q items) t).operations ++ op ∷ []
    → next_operation m items q ≡ Some op
next_operation-is m items t q op g l e =
    let vs = values_of q items ++ 0 ∷ [] in
    let os = (guest_run m q (values_of q items) t).operations in
    let b : suc t + (m.budget - suc t) ≡ m.budget = omega arith in
    let x = rw b at (more_turns m q vs (suc t) (m.budget - suc t)) in
    let n : length (operations_of q items) ≡ length os = sym (are_done-length os (operations_of q items) g.done)
    in rw (x.1, e, append_assoc) (slice_get-append_at os op x.0 (length (operations_of q items)) n)

guest_does-access :
    (m : Machine) (q : ℕ) (vs ws : List ℕ) (r : GuestRun) (k : Kind) (sp a o v : ℕ) → value_for k (vs ++ ws) r.used ≡ Some v
    → guest_does m q (vs ++ ws) r (want.Access k sp a o)
    ≡ with_turn r (guest_after m q r.state v) (values_taken k) (Reaches (reach_of m k sp a o) ∷ []) []
guest_does-access m q vs ws r k sp a o v e = rw e

value_for-next : (k : Kind) (vs : List ℕ) (used : ℕ) → used ≡ length vs → value_for k (vs ++ 0 ∷ []) used ≡ Some 0
value_for-next kind.Load vs used e = slice_get-append_at vs 0 [] used e
value_for-next kind.Store vs used e = refl
value_for-next kind.Add vs used e = slice_get-append_at vs 0 [] used e

pub next_operation-access :
    (m : Machine) (items : List Item) (t q : ℕ) (k : Kind) (sp a o : ℕ) → IsGuest m items t q → t < m.budget
    → want_of m q (guest_run m q (values_of q items) t).state ≡ want.Access k sp a o
    → next_operation m items q ≡ Some (Reaches (reach_of m k sp a o))
next_operation-access m items t q k sp a o g l w =
    let vs = values_of q items in
    let r = guest_run m q vs t in
    let one = guest_run-next m q vs (0 ∷ []) t (want.Access k sp a o) g.made g.goes w in
    let two = guest_does-access m q vs (0 ∷ []) r k sp a o 0 (value_for-next k vs r.used g.used)
    in next_operation-is m items t q (Reaches (reach_of m k sp a o)) g l (rw (one, two))

pub next_operation-switch :
    (m : Machine) (items : List Item) (t q space : ℕ) → IsGuest m items t q → t < m.budget
    → want_of m q (guest_run m q (values_of q items) t).state ≡ want.Switch space → next_operation m items q ≡ Some (Switches space)
next_operation-switch m items t q space g l w =
    next_operation-is m items t q (Switches space) g l
    (rw (guest_run-next m q (values_of q items) (0 ∷ []) t (want.Switch space) g.made g.goes w))

-- ---- the space of a guest

-- the space that a guest is in after a turn with this want
abbrev pub space_after : ℕ → Want → ℕ
space_after space want.Local = space
space_after space (want.Access k sp a o) = space
space_after space (want.Switch next) = next
space_after space (want.Print v) = space
space_after space want.Halted = space
space_after space want.Trap = space

space_after-access : (space : ℕ) (b : Bool) (k : Kind) (sp a o : ℕ) →
    space ≡ space_after space (if b then want.Access k sp a o else want.Trap)
space_after-access space true k sp a o = refl
space_after-access space false k sp a o = refl

space-gone_or_passed : (b : Bool) (s : GuestState) (at : ℕ) → (if b then gone s at else passed s).space ≡ s.space
space-gone_or_passed true s at = refl
space-gone_or_passed false s at = refl

space-executed : (m : Machine) (p : Program) (i : Instr) (s : GuestState) (v : ℕ) →
    (executed p i s v).space ≡ space_after s.space (wanted m s i)
space-executed m p (instr.Set d n) s v = refl
space-executed m p (instr.Move d a) s v = refl
space-executed m p (instr.Add d a b) s v = refl
space-executed m p (instr.Sub d a b) s v = refl
space-executed m p (instr.Mul d a b) s v = refl
space-executed m p (instr.And d a b) s v = refl
space-executed m p (instr.Shr d a b) s v = refl
space-executed m p (instr.Load d k i) s v = space_after-access s.space _ kind.Load s.space (address s k i) 0
space-executed m p (instr.Store r k i) s v = space_after-access s.space _ kind.Store s.space (address s k i) (register s r)
space-executed m p (instr.Fadd d r k i) s v = space_after-access s.space _ kind.Add s.space (address s k i) (register s r)
space-executed m p (instr.Switch space) s v = refl
space-executed m p (instr.Print r) s v = refl
space-executed m p (instr.Jump l) s v = refl
space-executed m p (instr.Zero a l) s v = space-gone_or_passed _ s (target p l)
space-executed m p (instr.Less a b l) s v = space-gone_or_passed _ s (target p l)
space-executed m p instr.Halt s v = refl

space-executed_next :
    (m : Machine) (p : Program) (s : GuestState) (v : ℕ) (i : Option Instr)
    → (executed_next p s v i).space ≡ space_after s.space (wanted_next m s i)
space-executed_next m p s v None = refl
space-executed_next m p s v (Some i) = space-executed m p i s v

pub space-guest_after : (m : Machine) (q : ℕ) (s : GuestState) (v : ℕ) → (guest_after m q s v).space ≡ space_after s.space (want_of m q s)
space-guest_after m q s v = space-executed_next m (program_of m q) s v (slice_get (program_of m q).code s.at)

-- ---- more items

pub values_of-none : (q : ℕ) (items more : List Item) → values_of q more ≡ [] → values_of q (items ++ more) ≡ values_of q items
values_of-none q items more h = rw (values_of-append, h, append-nil)

pub operations_of-none : (q : ℕ) (items more : List Item) → operations_of q more ≡ [] →
    operations_of q (items ++ more) ≡ operations_of q items
operations_of-none q items more h = rw (operations_of-append, h, append-nil)

-- items that are none of the guest's
pub IsGuest-not_mine :
    (m : Machine) (items more : List Item) (t q : ℕ) → IsGuest m items t q → values_of q more ≡ [] → operations_of q more ≡ []
    → active m (items ++ more) q ≡ active m items q → IsGuest m (items ++ more) t q
IsGuest-not_mine m items more t q g v o a = record {
  made = rw (values_of-none q items more v) g.made;
  goes = rw (values_of-none q items more v) g.goes;
  used = rw (values_of-none q items more v) g.used;
  done = rw (values_of-none q items more v, operations_of-none q items more o) g.done;
  space = rw (values_of-none q items more v, a) g.space;
}

-- ---- one more turn of a guest

-- the guest after a turn that used the values and made the operations of more items
IsGuest-turn :
    (m : Machine) (items more : List Item) (t q : ℕ) (w : Want) (value taken : ℕ) (os : List Operation) (ps : List ℕ)
    → IsGuest m items t q → want_of m q (guest_run m q (values_of q items) t).state ≡ w
    → guest_does m q (values_of q items ++ values_of q more) (guest_run m q (values_of q items) t) w
    ≡ with_turn (guest_run m q (values_of q items) t) (guest_after m q (guest_run m q (values_of q items) t).state value) taken os ps
    → taken ≡ length (values_of q more) → are_done os (operations_of q more) ≡ true
    → active m (items ++ more) q ≡ space_after (active m items q) w → IsGuest m (items ++ more) (t + 1) q
IsGuest-turn m items more t q w value taken os ps g wants does uses dones goes =
    let r = guest_run m q (values_of q items) t in
    let full : guest_run m q (values_of q (items ++ more)) (t + 1) ≡ with_turn r (guest_after m q r.state value) taken os ps =
    rw (values_of-append, add-one t, guest_run-next m q (values_of q items) (values_of q more) t w g.made g.goes wants) does
    in record {
      made = rw full (omega arith);
      goes = rw full;
      used = rw (full, values_of-append, length-append) (omega arith);
      done = rw (full, operations_of-append) (are_done-append r.operations (operations_of q items) os (operations_of q more) g.done dones);
      space = rw (full, space-guest_after, wants, goes, g.space);
    }

pub IsGuest-local_with :
    (m : Machine) (items more : List Item) (t q : ℕ) → IsGuest m items t q
    → want_of m q (guest_run m q (values_of q items) t).state ≡ want.Local → values_of q more ≡ [] → operations_of q more ≡ []
    → active m (items ++ more) q ≡ active m items q → IsGuest m (items ++ more) (t + 1) q
IsGuest-local_with m items more t q g w v o a =
    IsGuest-turn m items more t q want.Local 0 0 [] [] g w refl (rw v) (rw o) a

pub IsGuest-print_with :
    (m : Machine) (items more : List Item) (t q printed : ℕ) → IsGuest m items t q
    → want_of m q (guest_run m q (values_of q items) t).state ≡ want.Print printed → values_of q more ≡ [] → operations_of q more ≡ []
    → active m (items ++ more) q ≡ active m items q → IsGuest m (items ++ more) (t + 1) q
IsGuest-print_with m items more t q printed g w v o a =
    IsGuest-turn m items more t q (want.Print printed) 0 0 [] (printed ∷ []) g w refl (rw v) (rw o) a

pub IsGuest-local :
    (m : Machine) (items : List Item) (t q : ℕ) → IsGuest m items t q
    → want_of m q (guest_run m q (values_of q items) t).state ≡ want.Local → IsGuest m items (t + 1) q
IsGuest-local m items t q g w =
    rw append-nil at (IsGuest-local_with m items [] t q g w refl refl (rw append-nil))

pub IsGuest-print :
    (m : Machine) (items : List Item) (t q printed : ℕ) → IsGuest m items t q
    → want_of m q (guest_run m q (values_of q items) t).state ≡ want.Print printed → IsGuest m items (t + 1) q
IsGuest-print m items t q printed g w =
    rw append-nil at (IsGuest-print_with m items [] t q printed g w refl refl (rw append-nil))

-- the value that an access found, as the guest gets it
abbrev pub values_found : Kind → ℕ → List ℕ
values_found k old = if reads_word k then old ∷ [] else []

value_for-found :
    (k : Kind) (vs ws : List ℕ) (used old : ℕ) → used ≡ length vs → ws ≡ values_found k old
    → value_for k (vs ++ ws) used ≡ Some (if reads_word k then old else 0)
value_for-found kind.Load vs ws used old e h = rw h (slice_get-append_at vs old [] used e)
value_for-found kind.Store vs ws used old e h = refl
value_for-found kind.Add vs ws used old e h = rw h (slice_get-append_at vs old [] used e)

values_taken-found : (k : Kind) (old : ℕ) → values_taken k ≡ length (values_found k old)
values_taken-found kind.Load old = refl
values_taken-found kind.Store old = refl
values_taken-found kind.Add old = refl

pub IsGuest-access :
    (m : Machine) (items more : List Item) (t q : ℕ) (k : Kind) (sp a o : ℕ) (acc : Access) → IsGuest m items t q
    → want_of m q (guest_run m q (values_of q items) t).state ≡ want.Access k sp a o
    → values_of q more ≡ (if reads_word k then acc.old ∷ [] else []) → operations_of q more ≡ Accessed acc ∷ []
    → is_done_access (reach_of m k sp a o) acc ≡ true → active m (items ++ more) q ≡ active m items q
    → IsGuest m (items ++ more) (t + 1) q
IsGuest-access m items more t q k sp a o acc g w v os d act =
    let vs = values_of q items in
    let r = guest_run m q vs t in
    let got : ℕ = if reads_word k then acc.old else 0 in
    let does = guest_does-access m q vs (values_of q more) r k sp a o got (value_for-found k vs (values_of q more) r.used acc.old g.used v)
    in IsGuest-turn m items more t q (want.Access k sp a o) got (values_taken k) (Reaches (reach_of m k sp a o) ∷ []) [] g w does
    (rw v (values_taken-found k acc.old)) (rw (os, d)) act

pub IsGuest-switch :
    (m : Machine) (items more : List Item) (t q space : ℕ) → IsGuest m items t q
    → want_of m q (guest_run m q (values_of q items) t).state ≡ want.Switch space → values_of q more ≡ []
    → operations_of q more ≡ Switched space ∷ [] → active m (items ++ more) q ≡ space → IsGuest m (items ++ more) (t + 1) q
IsGuest-switch m items more t q space g w v o a =
    IsGuest-turn m items more t q (want.Switch space) 0 0 (Switches space ∷ []) [] g w refl (rw v)
    (rw o (grind (arith, nat_tests))) a

-- ---- the start

pub IsGuest-start : (m : Machine) (q : ℕ) → IsGuest m [] 0 q
IsGuest-start m q = record { made = refl; goes = refl; used = refl; done = refl; space = refl }

-- ---- what an access reaches

-- the place j of the list is the number n that the search from i gave
Found : {A : Type 0} (p : A → Bool) (xs : List A) (i n : ℕ) (d : A) → Type 0
Found p xs i n d = (j : ℕ) × (n ≡ i + j) × (j < length xs) × (p (get_or xs j d) ≡ true)

position_from-head :
    {A : Type 0} (p : A → Bool) (x : A) (xs : List A) (i n : ℕ) (d : A) (b : Bool) → p x ≡ b
    → (if b then Some i else position_from p (i + 1) xs) ≡ Some n → (position_from p (i + 1) xs ≡ Some n → Found p xs (i + 1) n d)
    → Found p (x ∷ xs) i n d
unfolding Found
position_from-head p x xs i n d true e h k = (0, grind arith, omega arith, e)
position_from-head p x xs i n d false e h k = let f = k h in (suc f.0, omega arith, omega arith, f.3)

position_from-found :
    {A : Type 0} (p : A → Bool) (xs : List A) (i n : ℕ) (d : A) → position_from p i xs ≡ Some n → Found p xs i n d
position_from-found p [] i n d h = absurd cc
position_from-found p (x ∷ xs) i n d h = position_from-head p x xs i n d (p x) refl h (position_from-found p xs (i + 1) n d)

-- an entry is where its space and virtual page say
pub record IsEntryAt (m : Machine) (space vpage e : ℕ) : Type 0 where
  pub found : entry_at m space vpage ≡ Some e
  pub below : e < length m.entries
  pub in_space : space_of m e ≡ space
  pub at_page : (slice_index_or m.entries e no_entry).vpage ≡ vpage

same_place-both : (e : Entry) (space vpage : ℕ) → (e.space == space && e.vpage == vpage) ≡ true → (e.space ≡ space) × (e.vpage ≡ vpage)
same_place-both e space vpage h = grind (arith, nat_tests)

pub entry_at-found : (m : Machine) (space vpage e : ℕ) → entry_at m space vpage ≡ Some e → IsEntryAt m space vpage e
unfolding Found
entry_at-found m space vpage e h =
    let f = position_from-found (λ x. x.space == space && x.vpage == vpage) m.entries 0 e no_entry h in
    let k : f.0 ≡ e = omega arith in
    let both = same_place-both (slice_index_or m.entries e no_entry) space vpage (rw k at f.3)
    in record { found = h; below = omega arith; in_space = both.0; at_page = both.1 }

access_or_trap-access :
    (m : Machine) (b : Bool) (kind1 : Kind) (space1 addr1 operand1 : ℕ) (k : Kind) (sp a o : ℕ)
    → b ≡ is_some (entry_at m space1 (addr1 / m.words))
    → (if b then want.Access kind1 space1 addr1 operand1 else want.Trap) ≡ want.Access k sp a o
    → (sp ≡ space1) × (is_some (entry_at m sp (a / m.words)) ≡ true)
access_or_trap-access m true kind1 space1 addr1 operand1 k sp a o e h = (cc, cc)
access_or_trap-access m false kind1 space1 addr1 operand1 k sp a o e h = absurd cc

wanted-access :
    (m : Machine) (s : GuestState) (i : Instr) (k : Kind) (sp a o : ℕ) → wanted m s i ≡ want.Access k sp a o
    → (sp ≡ s.space) × (is_some (entry_at m sp (a / m.words)) ≡ true)
wanted-access m s (instr.Set d n) k sp a o h = absurd cc
wanted-access m s (instr.Move d b) k sp a o h = absurd cc
wanted-access m s (instr.Add d b c) k sp a o h = absurd cc
wanted-access m s (instr.Sub d b c) k sp a o h = absurd cc
wanted-access m s (instr.Mul d b c) k sp a o h = absurd cc
wanted-access m s (instr.And d b c) k sp a o h = absurd cc
wanted-access m s (instr.Shr d b c) k sp a o h = absurd cc
wanted-access m s (instr.Load d at i) k sp a o h =
    access_or_trap-access m _ kind.Load s.space (address s at i) 0 k sp a o refl h
wanted-access m s (instr.Store r at i) k sp a o h =
    access_or_trap-access m _ kind.Store s.space (address s at i) (register s r) k sp a o refl h
wanted-access m s (instr.Fadd d r at i) k sp a o h =
    access_or_trap-access m _ kind.Add s.space (address s at i) (register s r) k sp a o refl h
wanted-access m s (instr.Switch next) k sp a o h = absurd cc
wanted-access m s (instr.Print r) k sp a o h = absurd cc
wanted-access m s (instr.Jump l) k sp a o h = absurd cc
wanted-access m s (instr.Zero b l) k sp a o h = absurd cc
wanted-access m s (instr.Less b c l) k sp a o h = absurd cc
wanted-access m s instr.Halt k sp a o h = absurd cc

wanted_next-access :
    (m : Machine) (s : GuestState) (i : Option Instr) (k : Kind) (sp a o : ℕ) → wanted_next m s i ≡ want.Access k sp a o
    → (sp ≡ s.space) × (is_some (entry_at m sp (a / m.words)) ≡ true)
wanted_next-access m s None k sp a o h = absurd cc
wanted_next-access m s (Some i) k sp a o h = wanted-access m s i k sp a o h

is_some-unwrap_or : (x : Option ℕ) (d : ℕ) → is_some x ≡ true → x ≡ Some (unwrap_or x d)
is_some-unwrap_or None d h = absurd cc
is_some-unwrap_or (Some n) d h = refl

-- an access that a guest in state s wants reaches entry e
pub record IsReach (m : Machine) (s : GuestState) (k : Kind) (sp a o e : ℕ) : Type 0 where
  pub space : sp ≡ s.space
  pub found : entry_at m sp (a / m.words) ≡ Some e
  pub below : e < length m.entries
  pub in_space : space_of m e ≡ sp
  pub page : (reach_of m k sp a o).page ≡ page_of m e
  pub word : (reach_of m k sp a o).word ≡ a % m.words

pub IsReach-wanted :
    (m : Machine) (q : ℕ) (s : GuestState) (k : Kind) (sp a o : ℕ) → want_of m q s ≡ want.Access k sp a o
    → IsReach m s k sp a o (entry_reached m sp a)
IsReach-wanted m q s k sp a o h =
    let w = wanted_next-access m s (slice_get (program_of m q).code s.at) k sp a o h in
    let f : entry_at m sp (a / m.words) ≡ Some (entry_reached m sp a) =
    is_some-unwrap_or (entry_at m sp (a / m.words)) (length m.entries) w.1 in
    let e = entry_at-found m sp (a / m.words) (entry_reached m sp a) f
    in record {
      space = w.0;
      found = f;
      below = e.below;
      in_space = e.in_space;
      page = refl;
      word = refl;
    }

pub reach_of-page :
    (m : Machine) (s : GuestState) (k : Kind) (sp a o e : ℕ) → IsWithinLimits m → IsReach m s k sp a o e →
    (reach_of m k sp a o).page < m.pages
reach_of-page m s k sp a o e h r = rw r.page (page_of-below m e h r.below)

pub reach_of-word : (m : Machine) (k : Kind) (sp a o : ℕ) → IsWithinLimits m → (reach_of m k sp a o).word < m.words
reach_of-word m k sp a o h = omega (arith, words-some m h)

-- ---- an access that takes its value from the list

pub found-load : (m : Machine) (q : ℕ) (vs : List ℕ) (r : GuestRun) (sp a o v : ℕ) → r.used ≡ length vs
    → (guest_does m q (vs ++ v ∷ []) r (want.Access kind.Load sp a o)).state ≡ guest_after m q r.state v
found-load m q vs r sp a o v used = rw (slice_get-append_at vs v [] r.used used) refl

pub found-add : (m : Machine) (q : ℕ) (vs : List ℕ) (r : GuestRun) (sp a o v : ℕ) → r.used ≡ length vs
    → (guest_does m q (vs ++ v ∷ []) r (want.Access kind.Add sp a o)).state ≡ guest_after m q r.state v
found-add m q vs r sp a o v used = rw (slice_get-append_at vs v [] r.used used) refl
