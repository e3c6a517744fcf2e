-- the run of one guest: earlier turns, a run that stays as it is, turns with and without an operation, values that are not read
use Rattle.std.proofs.Common.{◌≡◌, ℕ, zero, suc, ◌+◌, ◌-◌, ◌<◌, ◌≤◌, Bool, true, false, List, ◌++◌, length, Option, Some, None}
use Rattle.std.proofs.Common.{refl, arith, ap, ◌∙◌, add-zero, add-suc, if◌then◌else◌, not}
use Rattle.std.specs.Prelude.{slice_get}
use Rattle.std.proofs.lemmas.List.{append-nil, length-append}
use Rattle.std.proofs.lemmas.Option.{slice_get_past}
use Rattle.plat_base.specs.Machine.{Machine, Program}
use Rattle.plat_base.specs.Pages.{program_of}
use Rattle.plat_base.specs.GuestRun.{GuestRun, GuestState, Reach, Outcome, GoesOn, HasHalted, HasTrapped, want_of, guest_after, value_for}
use Rattle.plat_base.specs.GuestRun.{reach_of, with_access, guest_does, guest_more, guest_run, executed, executed_next, wanted, wanted_next}
use Rattle.plat_base.specs.Done.{reads_word}
use Rattle.plat_base.specs.Rules.{wants_operation}
use Rattle.plat_base.specs.declared.guests.Instr.{Instr}
use Rattle.plat_base.specs.declared.guests.Instr.TheVariants as instr
use Rattle.plat_base.specs.declared.guests.Want.{Want}
use Rattle.plat_base.specs.declared.guests.Want.TheVariants as want
use Rattle.plat_base.specs.declared.items.Kind.{Kind}
use Rattle.plat_base.specs.declared.items.Kind.TheVariants as kind
use Rattle.plat_laws.proofs.GuestLaws.{fewer_turns, guest_run-next_same, more_turns, values_found, found-load}
use Rattle.plat_laws.proofs.GuestLaws.{found-add}

module _ (m : Machine) (q : ℕ) (vs : List ℕ) where
  -- ---- earlier turns

  -- a guest that made its turns and goes on made all earlier ones, and went on
  pub record IsMaking (t : ℕ) : Type 0 where
    pub made : (guest_run m q vs t).turns ≡ t
    pub goes : (guest_run m q vs t).outcome ≡ GoesOn

  earlier : (t k : ℕ) → IsMaking (t + k) → IsMaking t
  earlier t zero h = rw add-zero at h
  earlier t (suc k) h =
      let n : IsMaking (suc (t + k)) = rw add-suc at h in
      let e = fewer_turns m q vs (t + k) n.made
      in earlier t k (record { made = e.0; goes = e.1 })

  pub IsMaking-earlier : (t n : ℕ) → t ≤ n → IsMaking n → IsMaking t
  IsMaking-earlier t n l h = let e : n ≡ t + (n - t) = omega arith in earlier t (n - t) (rw e at h)

  -- ---- a run that stays as it is

  step : GuestRun → GuestRun
  step r = guest_more m q vs r r.outcome

  pub guest_run-still : (t k : ℕ) → guest_run m q vs (suc t) ≡ guest_run m q vs t → guest_run m q vs (t + k) ≡ guest_run m q vs t
  unfolding step
  guest_run-still t zero h = rw add-zero
  guest_run-still t (suc k) h = rw add-suc (ap step (guest_run-still t k h) ∙ h)

  still_ended : (r : GuestRun) (o : Outcome) → o ≡ r.outcome → (o ≡ GoesOn → ⊥) → guest_more m q vs r o ≡ r
  still_ended r GoesOn e h = absurd (h refl)
  still_ended r HasHalted e h = refl
  still_ended r HasTrapped e h = refl

  -- an ended run stays as it is
  pub guest_run-ended :
      (t k : ℕ) → ((guest_run m q vs t).outcome ≡ GoesOn → ⊥) → guest_run m q vs (t + k) ≡ guest_run m q vs t
  guest_run-ended t k h = guest_run-still t k (still_ended (guest_run m q vs t) (guest_run m q vs t).outcome refl h)

  value_for-none : (k : Kind) (used : ℕ) → reads_word k ≡ true → used ≡ length vs → value_for k vs used ≡ None
  value_for-none kind.Load used h e = slice_get_past vs used (omega arith)
  value_for-none kind.Store used h e = absurd cc
  value_for-none kind.Add used h e = slice_get_past vs used (omega arith)

  -- a run that lacks the value that it wants stays as it is
  pub guest_run-waiting :
      (t j : ℕ) (k : Kind) (sp a o : ℕ) → (guest_run m q vs t).outcome ≡ GoesOn → (guest_run m q vs t).used ≡ length vs
      → want_of m q (guest_run m q vs t).state ≡ want.Access k sp a o → reads_word k ≡ true
      → guest_run m q vs (t + j) ≡ guest_run m q vs t
  guest_run-waiting t j k sp a o goes used w reads =
      let r = guest_run m q vs t in
      guest_run-still t j (guest_run-next_same m q vs t (want.Access k sp a o) goes w
      ∙ ap (with_access m q r (reach_of m k sp a o)) (value_for-none k r.used reads used))

  -- ---- turns with and without an operation

  guest_does-kept : (r : GuestRun) (w : Want) → wants_operation w ≡ false → (guest_does m q vs r w).operations ≡ r.operations
  guest_does-kept r want.Local h = append-nil r.operations
  guest_does-kept r (want.Access k sp a o) h = absurd cc
  guest_does-kept r (want.Switch space) h = absurd cc
  guest_does-kept r (want.Print v) h = append-nil r.operations
  guest_does-kept r want.Halted h = refl
  guest_does-kept r want.Trap h = refl

  guest_more-kept :
      (r : GuestRun) (o : Outcome) → wants_operation (want_of m q r.state) ≡ false → (guest_more m q vs r o).operations ≡ r.operations
  guest_more-kept r GoesOn h = guest_does-kept r (want_of m q r.state) h
  guest_more-kept r HasHalted h = refl
  guest_more-kept r HasTrapped h = refl

  -- turns that want no operation make none
  pub operations-quiet :
      (t k : ℕ) → ((j : ℕ) → t ≤ j → j < t + k → wants_operation (want_of m q (guest_run m q vs j).state) ≡ false)
      → (guest_run m q vs (t + k)).operations ≡ (guest_run m q vs t).operations
  operations-quiet t zero h = rw add-zero
  operations-quiet t (suc k) h =
      let r = guest_run m q vs (t + k) in
      rw add-suc (guest_more-kept r r.outcome (h (t + k) (omega arith) (omega arith)) ∙ operations-quiet t k (λ j l u. h j l (omega arith)))

  with_access-one :
      (r : GuestRun) (reach : Reach) (v : Option ℕ) → (with_access m q r reach v).turns ≡ r.turns + 1
      → length (with_access m q r reach v).operations ≡ length r.operations + 1
  with_access-one r reach None h = absurd (omega arith)
  with_access-one r reach (Some v) h = simp length-append

  guest_does-one :
      (r : GuestRun) (w : Want) → wants_operation w ≡ true → (guest_does m q vs r w).turns ≡ r.turns + 1
      → length (guest_does m q vs r w).operations ≡ length r.operations + 1
  guest_does-one r want.Local h e = absurd cc
  guest_does-one r (want.Access k sp a o) h e = with_access-one r (reach_of m k sp a o) (value_for k vs r.used) e
  guest_does-one r (want.Switch space) h e = simp length-append
  guest_does-one r (want.Print v) h e = absurd cc
  guest_does-one r want.Halted h e = absurd cc
  guest_does-one r want.Trap h e = absurd cc

  guest_more-one :
      (r : GuestRun) (o : Outcome) → wants_operation (want_of m q r.state) ≡ true → (guest_more m q vs r o).turns ≡ r.turns + 1
      → length (guest_more m q vs r o).operations ≡ length r.operations + 1
  guest_more-one r GoesOn h e = guest_does-one r (want_of m q r.state) h e
  guest_more-one r HasHalted h e = absurd (omega arith)
  guest_more-one r HasTrapped h e = absurd (omega arith)

  -- a turn that wants an operation, and is made, makes one
  pub operations-one :
      (t : ℕ) → (guest_run m q vs (suc t)).turns ≡ suc t → wants_operation (want_of m q (guest_run m q vs t).state) ≡ true
      → length (guest_run m q vs (suc t)).operations ≡ length (guest_run m q vs t).operations + 1
  operations-one t h w =
      let r = guest_run m q vs t in
      let e = fewer_turns m q vs t h
      in guest_more-one r r.outcome w (omega (arith, h, e.0))

  -- more turns make no fewer operations
  pub operations-more : (t n : ℕ) → t ≤ n → length (guest_run m q vs t).operations ≤ length (guest_run m q vs n).operations
  operations-more t n l =
      let e : n ≡ t + (n - t) = omega arith in
      let x = more_turns m q vs t (n - t) in
      let s : length (guest_run m q vs (t + (n - t))).operations ≡ length (guest_run m q vs t).operations + length x.0 =
      rw x.1 (length-append (guest_run m q vs t).operations x.0)
      in rw e (omega (arith, s))

-- ---- values that are not read

-- the turn goes on, and reads no value
abbrev pub needs_no_value : Want → Bool
needs_no_value want.Local = true
needs_no_value (want.Access k sp a o) = not (reads_word k)
needs_no_value (want.Switch space) = true
needs_no_value (want.Print v) = true
needs_no_value want.Halted = false
needs_no_value want.Trap = false

reads_or_traps :
    (b : Bool) (k : Kind) (sp a o : ℕ) → reads_word k ≡ true → needs_no_value (if b then want.Access k sp a o else want.Trap) ≡ true → ⊥
reads_or_traps true k sp a o h e = let f = rw h at e in cc
reads_or_traps false k sp a o h e = cc

executed-unread :
    (m : Machine) (p : Program) (i : Instr) (s : GuestState) (v w : ℕ) → needs_no_value (wanted m s i) ≡ true
    → executed p i s v ≡ executed p i s w
executed-unread m p (instr.Set d n) s v w h = refl
executed-unread m p (instr.Move d a) s v w h = refl
executed-unread m p (instr.Add d a b) s v w h = refl
executed-unread m p (instr.Sub d a b) s v w h = refl
executed-unread m p (instr.Mul d a b) s v w h = refl
executed-unread m p (instr.And d a b) s v w h = refl
executed-unread m p (instr.Shr d a b) s v w h = refl
executed-unread m p (instr.Load d k i) s v w h = absurd (reads_or_traps _ kind.Load _ _ _ refl h)
executed-unread m p (instr.Store r k i) s v w h = refl
executed-unread m p (instr.Fadd d r k i) s v w h = absurd (reads_or_traps _ kind.Add _ _ _ refl h)
executed-unread m p (instr.Switch space) s v w h = refl
executed-unread m p (instr.Print r) s v w h = refl
executed-unread m p (instr.Jump l) s v w h = refl
executed-unread m p (instr.Zero a l) s v w h = refl
executed-unread m p (instr.Less a b l) s v w h = refl
executed-unread m p instr.Halt s v w h = refl

executed_next-unread :
    (m : Machine) (p : Program) (s : GuestState) (v w : ℕ) (i : Option Instr) → needs_no_value (wanted_next m s i) ≡ true
    → executed_next p s v i ≡ executed_next p s w i
executed_next-unread m p s v w None h = refl
executed_next-unread m p s v w (Some i) h = executed-unread m p i s v w h

-- a value that is not read does not matter
pub guest_after-unread :
    (m : Machine) (q : ℕ) (s : GuestState) (v w : ℕ) → needs_no_value (want_of m q s) ≡ true → guest_after m q s v ≡ guest_after m q s w
guest_after-unread m q s v w h = executed_next-unread m (program_of m q) s v w (slice_get (program_of m q).code s.at) h

-- ---- the state after an access

-- a value that the access does not read does not matter
pub guest_after-same :
    (m : Machine) (q : ℕ) (s : GuestState) (k : Kind) (sp a o v w : ℕ) → want_of m q s ≡ want.Access k sp a o
    → (reads_word k ≡ true → v ≡ w) → guest_after m q s v ≡ guest_after m q s w
guest_after-same m q s kind.Load sp a o v w e same = ap (guest_after m q s) (same refl)
guest_after-same m q s kind.Store sp a o v w e same = guest_after-unread m q s v w (rw e)
guest_after-same m q s kind.Add sp a o v w e same = ap (guest_after m q s) (same refl)

-- after an access that found this value
pub state-found :
    (m : Machine) (q : ℕ) (vs : List ℕ) (r : GuestRun) (k : Kind) (sp a o v : ℕ) → r.used ≡ length vs
    → want_of m q r.state ≡ want.Access k sp a o
    → (guest_does m q (vs ++ values_found k v) r (want.Access k sp a o)).state ≡ guest_after m q r.state v
state-found m q vs r kind.Load sp a o v used w = found-load m q vs r sp a o v used
state-found m q vs r kind.Store sp a o v used w = guest_after-unread m q r.state 0 v (rw w)
state-found m q vs r kind.Add sp a o v used w = found-add m q vs r sp a o v used
