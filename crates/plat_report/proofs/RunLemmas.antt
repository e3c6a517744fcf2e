-- the prints of a guest's run, turn by turn from its first one on
use Rattle.std.proofs.Common.{◌≡◌, ℕ, zero, suc, List, [], ◌∷◌, ◌++◌, drop, Option, Some, None, refl, sym, ap, ◌∙◌, append_assoc}
use Rattle.std.specs.Prelude.{slice_get}
use Rattle.std.proofs.lemmas.List.{append-nil, drop-drop}
use Rattle.plat_base.specs.Machine.{Machine}
use Rattle.plat_base.specs.GuestRun.{GuestRun, Operation, Reaches, Switches, Outcome, GoesOn, HasHalted, HasTrapped, want_of, guest_after}
use Rattle.plat_base.specs.GuestRun.{guest_run, guest_more, guest_does, run_start, with_access, with_turn, with_end, reach_of, value_for}
use Rattle.plat_base.specs.GuestRun.{values_taken}
use Rattle.plat_base.specs.declared.guests.Want.{Want}
use Rattle.plat_base.specs.declared.guests.Want.TheVariants as want
use Rattle.plat_base.specs.declared.items.Kind.{Kind}
use Rattle.plat_base.specs.declared.items.Kind.TheVariants as kind
use Rattle.plat_guest.specs.GuestSeen.{GuestSeen, new_guest}
use Rattle.plat_report.specs.Runs.{RunSeen, turn_by, turn_with, gone_by, gone_with, gone_on, printed_then, prints_from}

-- more turns of a run, the first turn outermost
run_on : Machine → (q : ℕ) → List ℕ → GuestRun → ℕ → GuestRun
run_on m q vs r zero = r
run_on m q vs r (suc t) = run_on m q vs (guest_more m q vs r r.outcome) t

run_on-last : (m : Machine) (q : ℕ) (vs : List ℕ) (r : GuestRun) (t : ℕ) →
    run_on m q vs r (suc t) ≡ guest_more m q vs (run_on m q vs r t) (run_on m q vs r t).outcome
unfolding run_on
run_on-last m q vs r zero = refl
run_on-last m q vs r (suc t) = run_on-last m q vs (guest_more m q vs r r.outcome) t

run_on-start : (m : Machine) (q : ℕ) (vs : List ℕ) (t : ℕ) → guest_run m q vs t ≡ run_on m q vs (run_start m q) t
unfolding run_on
run_on-start m q vs zero = refl
run_on-start m q vs (suc t) =
    ap (λ (r : GuestRun). guest_more m q vs r r.outcome) (run_on-start m q vs t) ∙ sym (run_on-last m q vs (run_start m q) t)

-- a run that a turn leaves as it is stays so
run_on-stays : (m : Machine) (q : ℕ) (vs : List ℕ) (r : GuestRun) (t : ℕ) → guest_more m q vs r r.outcome ≡ r → run_on m q vs r t ≡ r
unfolding run_on
run_on-stays m q vs r zero h = refl
run_on-stays m q vs r (suc t) h = rw h (run_on-stays m q vs r t h)

abbrev seen : (q : ℕ) → List ℕ → GuestRun → RunSeen
seen q vs r = record { guest = record { node = q; state = r.state }; values = drop r.used vs }

-- what is proved of all runs that go on, by the number of turns left
abbrev Prints : Machine → (q : ℕ) → List ℕ → ℕ → Type 0
Prints m q vs t = (r : GuestRun) → r.outcome ≡ GoesOn → (run_on m q vs r t).prints ≡ r.prints ++ prints_from m (seen q vs r) t

first-left : (vs : List ℕ) (used : ℕ) → slice_get (drop used vs) 0 ≡ slice_get vs used
first-left vs zero = refl
first-left [] (suc n) = refl
first-left (v ∷ vs) (suc n) = first-left vs n

value_for-left : (k : Kind) (vs : List ℕ) (used : ℕ) → value_for k (drop used vs) 0 ≡ value_for k vs used
value_for-left kind.Load vs used = first-left vs used
value_for-left kind.Store vs used = refl
value_for-left kind.Add vs used = first-left vs used

-- a turn that goes on and prints this
goes_on :
    (m : Machine) (q : ℕ) (vs : List ℕ) (r : GuestRun) (t value taken : ℕ) (done : List Operation) (shown : List ℕ) → Prints m q vs t
    → (run_on m q vs (with_turn r (guest_after m q r.state value) taken done shown) t).prints
    ≡ r.prints ++ (shown ++ prints_from m (gone_on m (seen q vs r) value taken) t)
goes_on m q vs r t value taken done shown hyp =
    let step = hyp (with_turn r (guest_after m q r.state value) taken done shown) refl in
    rw (drop-drop taken r.used vs) (step ∙ append_assoc r.prints shown _)

with_value :
    (m : Machine) (q : ℕ) (vs : List ℕ) (r : GuestRun) (t : ℕ) (k : Kind) (sp a o : ℕ) (v : Option ℕ) → Prints m q vs t → r.outcome ≡ GoesOn
    → want_of m q r.state ≡ want.Access k sp a o → value_for k vs r.used ≡ v
    → (run_on m q vs (with_access m q r (reach_of m k sp a o) v) t).prints
    ≡ r.prints ++ printed_then (turn_with v) (prints_from m (gone_with m (seen q vs r) k v) t)
with_value m q vs r t k sp a o None hyp h e f =
    let same : guest_more m q vs r r.outcome ≡ r = rw (h, e, f) refl in
    rw (run_on-stays m q vs r t same) (sym (append-nil r.prints))
with_value m q vs r t k sp a o (Some v) hyp h e f = goes_on m q vs r t v (values_taken k) (Reaches (reach_of m k sp a o) ∷ []) [] hyp

does :
    (m : Machine) (q : ℕ) (vs : List ℕ) (r : GuestRun) (t : ℕ) → Prints m q vs t → r.outcome ≡ GoesOn → (w : Want) → want_of m q r.state ≡ w
    → (run_on m q vs (guest_does m q vs r w) t).prints
    ≡ r.prints ++ printed_then (turn_by (drop r.used vs) w) (prints_from m (gone_by m (seen q vs r) w) t)
does m q vs r t hyp h want.Local e = goes_on m q vs r t 0 0 [] [] hyp
does m q vs r t hyp h (want.Access k sp a o) e =
    rw (value_for-left k vs r.used) (with_value m q vs r t k sp a o (value_for k vs r.used) hyp h e refl)
does m q vs r t hyp h (want.Switch s) e = goes_on m q vs r t 0 0 (Switches s ∷ []) [] hyp
does m q vs r t hyp h (want.Print v) e = goes_on m q vs r t 0 0 [] (v ∷ []) hyp
does m q vs r t hyp h want.Halted e =
    rw (run_on-stays m q vs (with_end r HasHalted) t refl) (sym (append-nil r.prints))
does m q vs r t hyp h want.Trap e =
    rw (run_on-stays m q vs (with_end r HasTrapped) t refl) (sym (append-nil r.prints))

more-goes : (m : Machine) (q : ℕ) (vs : List ℕ) (r : GuestRun) (o : Outcome) → o ≡ GoesOn →
    guest_more m q vs r o ≡ guest_does m q vs r (want_of m q r.state)
more-goes m q vs r o h = rw h refl

prints-on : (m : Machine) (q : ℕ) (vs : List ℕ) (t : ℕ) → Prints m q vs t
unfolding run_on
prints-on m q vs zero r h = sym (append-nil r.prints)
prints-on m q vs (suc t) r h =
    ap (λ (next : GuestRun). (run_on m q vs next t).prints) (more-goes m q vs r r.outcome h)
    ∙ (does m q vs r t (prints-on m q vs t) h (want_of m q r.state) refl)

same_run : (g h : GuestSeen) (vs ws : List ℕ) → g ≡ h → vs ≡ ws → let a : RunSeen = record { guest = g; values = vs } in
    a ≡ record { guest = h; values = ws }
same_run g h vs ws e f = rw (e, f) refl

pub prints_from_start : (m : Machine) (q : ℕ) (vs : List ℕ) (t : ℕ) (run : RunSeen) → run.guest ≡ new_guest m q → run.values ≡ vs →
    prints_from m run t ≡ (guest_run m q vs t).prints
unfolding run_on
prints_from_start m q vs t run e f =
    let start = prints-on m q vs t (run_start m q) refl in
    ap (λ (x : RunSeen). prints_from m x t) (same_run run.guest (new_guest m q) run.values vs e f)
    ∙ sym (ap (λ (r : GuestRun). r.prints) (run_on-start m q vs t) ∙ start)
