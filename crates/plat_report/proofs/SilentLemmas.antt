-- a guest whose program has no instruction that prints prints nothing
use Rattle.std.proofs.Common.{◌≡◌, ℕ, zero, suc, Bool, true, false, List, [], ◌∷◌, Option, Some, None, refl, ◌∙◌}
use Rattle.std.specs.Prelude.{◌/◌, ◌||◌, slice_get, is_some, if◌then◌else◌}
use Rattle.std.specs.List.{list_any}
use Rattle.std.proofs.lemmas.List.{append-nil}
use Rattle.plat_base.specs.Machine.{Machine}
use Rattle.plat_base.specs.Pages.{program_of, entry_at}
use Rattle.plat_base.specs.GuestRun.{GuestState, GuestRun, Outcome, GoesOn, HasHalted, HasTrapped, want_of, wanted, wanted_next}
use Rattle.plat_base.specs.GuestRun.{access_or_trap, guest_run, guest_more, guest_does, with_access, reach_of, value_for, Reach, address}
use Rattle.plat_base.specs.GuestRun.{register}
use Rattle.plat_base.specs.declared.guests.Instr.{Instr}
use Rattle.plat_base.specs.declared.guests.Instr.TheVariants as instr
use Rattle.plat_base.specs.declared.guests.Want.{Want}
use Rattle.plat_base.specs.declared.guests.Want.TheVariants as want
use Rattle.plat_base.specs.declared.items.Kind.{Kind}
use Rattle.plat_base.specs.declared.items.Kind.TheVariants as kind
use Rattle.plat_report.specs.Silent.{is_print}
use Rattle.std.proofs.lemmas.Bool.{or_parts}

-- what is wanted is no print
abbrev prints_value : Want → Bool
prints_value want.Local = false
prints_value (want.Access k sp a o) = false
prints_value (want.Switch s) = false
prints_value (want.Print v) = true
prints_value want.Halted = false
prints_value want.Trap = false

access-silent : (b : Bool) (a t : Want) → prints_value a ≡ false → prints_value t ≡ false → prints_value (if b then a else t) ≡ false
access-silent true a t h k = h
access-silent false a t h k = k

trap-silent : (m : Machine) (k : Kind) (sp a o : ℕ) → prints_value (access_or_trap m k sp a o) ≡ false
trap-silent m k sp a o = access-silent (is_some (entry_at m sp (a / m.words))) (want.Access k sp a o) want.Trap refl refl

wanted-silent : (m : Machine) (s : GuestState) (i : Instr) → is_print i ≡ false → prints_value (wanted m s i) ≡ false
wanted-silent m s (instr.Set d n) h = refl
wanted-silent m s (instr.Move d a) h = refl
wanted-silent m s (instr.Add d a b) h = refl
wanted-silent m s (instr.Sub d a b) h = refl
wanted-silent m s (instr.Mul d a b) h = refl
wanted-silent m s (instr.And d a b) h = refl
wanted-silent m s (instr.Shr d a b) h = refl
wanted-silent m s (instr.Load d k i) h = trap-silent m kind.Load s.space (address s k i) 0
wanted-silent m s (instr.Store r k i) h = trap-silent m kind.Store s.space (address s k i) (register s r)
wanted-silent m s (instr.Fadd d r k i) h = trap-silent m kind.Add s.space (address s k i) (register s r)
wanted-silent m s (instr.Switch space) h = refl
wanted-silent m s (instr.Print r) h = absurd cc
wanted-silent m s (instr.Jump l) h = refl
wanted-silent m s (instr.Zero a l) h = refl
wanted-silent m s (instr.Less a b l) h = refl
wanted-silent m s instr.Halt h = refl

rest-false : (a b : Bool) → (a || b) ≡ false → b ≡ false
rest-false true b h = absurd cc
rest-false false b h = h

next-silent : (m : Machine) (s : GuestState) (code : List Instr) (at : ℕ) → list_any is_print code ≡ false →
    prints_value (wanted_next m s (slice_get code at)) ≡ false
next-silent m s [] at h = refl
next-silent m s (i ∷ is) zero h = wanted-silent m s i (or_parts (is_print i) (list_any is_print is) h).0
next-silent m s (i ∷ is) (suc at) h = next-silent m s is at (rest-false (is_print i) (list_any is_print is) h)

access-prints : (m : Machine) (q : ℕ) (r : GuestRun) (reach : Reach) (v : Option ℕ) → r.prints ≡ [] → (with_access m q r reach v).prints
    ≡ []
access-prints m q r reach None h = h
access-prints m q r reach (Some v) h = append-nil r.prints ∙ h

does-prints : (m : Machine) (q : ℕ) (vs : List ℕ) (r : GuestRun) (w : Want) → prints_value w ≡ false → r.prints ≡ [] →
    (guest_does m q vs r w).prints ≡ []
does-prints m q vs r want.Local k h = append-nil r.prints ∙ h
does-prints m q vs r (want.Access kind sp a o) k h = access-prints m q r (reach_of m kind sp a o) (value_for kind vs r.used) h
does-prints m q vs r (want.Switch s) k h = append-nil r.prints ∙ h
does-prints m q vs r (want.Print v) k h = absurd cc
does-prints m q vs r want.Halted k h = h
does-prints m q vs r want.Trap k h = h

more-prints :
    (m : Machine) (q : ℕ) (vs : List ℕ) (r : GuestRun) (o : Outcome) → list_any is_print (program_of m q).code ≡ false → r.prints ≡ []
    → (guest_more m q vs r o).prints ≡ []
more-prints m q vs r GoesOn silent h =
    does-prints m q vs r (want_of m q r.state) (next-silent m r.state (program_of m q).code r.state.at silent) h
more-prints m q vs r HasHalted silent h = h
more-prints m q vs r HasTrapped silent h = h

pub prints-silent : (m : Machine) (q : ℕ) (vs : List ℕ) (t : ℕ) → list_any is_print (program_of m q).code ≡ false →
    (guest_run m q vs t).prints ≡ []
prints-silent m q vs zero silent = refl
prints-silent m q vs (suc t) silent =
    more-prints m q vs (guest_run m q vs t) (guest_run m q vs t).outcome silent (prints-silent m q vs t silent)
