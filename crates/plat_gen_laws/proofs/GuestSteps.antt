-- single turns of a guest that is at a known instruction
use Rattle.std.proofs.Common.{◌≡◌, ℕ, suc, ◌+◌, List, Some, refl, subst, arith}
use Rattle.std.specs.Prelude.{slice_get}
use Rattle.plat_base.specs.Machine.{Machine, Program}
use Rattle.plat_base.specs.Pages.{program_of}
use Rattle.plat_base.specs.GuestRun.{GuestState, GoesOn, HasHalted, guest_run, guest_start, executed, wanted, want_of, value_for}
use Rattle.plat_base.specs.GuestRun.{values_taken}
use Rattle.plat_base.specs.declared.guests.Instr.{Instr}
use Rattle.plat_base.specs.declared.guests.Want.TheVariants as want
use Rattle.plat_base.specs.declared.items.Kind.{Kind}
use Rattle.plat_laws.proofs.GuestLaws.{guest_run-next_same}

-- guest q, after t turns on these values, goes on in state s and has used so many values
pub record IsAt (m : Machine) (q : ℕ) (vs : List ℕ) (t : ℕ) (s : GuestState) (used : ℕ) : Type 0 where
  pub state : (guest_run m q vs t).state ≡ s
  pub taken : (guest_run m q vs t).used ≡ used
  pub turns : (guest_run m q vs t).turns ≡ t
  pub goes : (guest_run m q vs t).outcome ≡ GoesOn

pub IsAt-start : (m : Machine) (q : ℕ) (vs : List ℕ) → IsAt m q vs 0 (guest_start m q) 0
IsAt-start m q vs = record { state = refl; taken = refl; turns = refl; goes = refl }

-- the same, told by other terms
pub IsAt-as :
    {m : Machine} {q : ℕ} {vs : List ℕ} {t u used taken : ℕ} {s r : GuestState} → IsAt m q vs t s used → t ≡ u → s ≡ r → used ≡ taken
    → IsAt m q vs u r taken
IsAt-as {m} {q} {vs} {t} {u} {used} {taken} {s} {r} h e f g =
    subst (λ n. IsAt m q vs n r taken) e (subst (λ x. IsAt m q vs t x taken) f (subst (λ n. IsAt m q vs t s n) g h))

module _ (m : Machine) (q : ℕ) (vs : List ℕ) (p : Program) (is : program_of m q ≡ p) where
  -- a turn that touches nothing but the guest's own state
  pub local_turn :
      {t : ℕ} {s : GuestState} {used : ℕ} (i : Instr) → slice_get p.code s.at ≡ Some i → wanted m s i ≡ want.Local → IsAt m q vs t s used
      → IsAt m q vs (suc t) (executed p i s 0) used
  local_turn {t} {s} {used} i f w h =
      let wants : want_of m q (guest_run m q vs t).state ≡ want.Local = rw (h.state, is, f, w) refl in
      let next = guest_run-next_same m q vs t want.Local h.goes wants
      in record {
        state = rw (next, h.state, is, f) refl;
        taken = rw next (omega (arith, h.taken));
        turns = rw next (omega (arith, h.turns));
        goes = rw next refl;
      }

  -- a turn with an access that gets its value
  pub access_turn :
      {t : ℕ} {s : GuestState} {used : ℕ} (i : Instr) (k : Kind) (sp a o v : ℕ) → slice_get p.code s.at ≡ Some i
      → wanted m s i ≡ want.Access k sp a o → value_for k vs used ≡ Some v → IsAt m q vs t s used
      → IsAt m q vs (suc t) (executed p i s v) (used + values_taken k)
  access_turn {t} {s} {used} i k sp a o v f w got h =
      let wants : want_of m q (guest_run m q vs t).state ≡ want.Access k sp a o = rw (h.state, is, f, w) refl in
      let found : value_for k vs (guest_run m q vs t).used ≡ Some v = rw h.taken got in
      let next = guest_run-next_same m q vs t (want.Access k sp a o) h.goes wants
      in record {
        state = rw (next, found, h.state, is, f) refl;
        taken = rw (next, found) (omega (arith, h.taken));
        turns = rw (next, found) (omega (arith, h.turns));
        goes = rw (next, found) refl;
      }

  -- the turn in which it halts
  pub last_turn :
      {t : ℕ} {s : GuestState} {used : ℕ} (i : Instr) → slice_get p.code s.at ≡ Some i → wanted m s i ≡ want.Halted → IsAt m q vs t s used
      → ((guest_run m q vs (suc t)).turns ≡ suc t) × ((guest_run m q vs (suc t)).outcome ≡ HasHalted)
  last_turn {t} {s} {used} i f w h =
      let wants : want_of m q (guest_run m q vs t).state ≡ want.Halted = rw (h.state, is, f, w) refl in
      let next = guest_run-next_same m q vs t want.Halted h.goes wants
      in (rw next (omega (arith, h.turns)), rw next refl)
