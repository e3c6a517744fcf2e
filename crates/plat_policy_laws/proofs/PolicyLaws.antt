-- two runs under two policies mean the same, of one machine, and of two whose texts differ in the policy alone
use Rattle.std.specs.Prelude.{◌≡◌, ℕ, zero, suc, ◌*◌, ◌/◌, List, Option, Some, None, slice_get}
use Rattle.std.proofs.Common.{refl, ap, sym, ◌∙◌, subst}
use Rattle.plat_base.specs.Verdicts.{Answer}
use Rattle.plat_base.specs.Machine.{Machine}
use Rattle.plat_base.specs.Pages.{numbers, program_of, entry_at}
use Rattle.plat_base.specs.GuestRun.{GuestState, GuestRun, Outcome, GoesOn, HasHalted, HasTrapped, reach_of, wanted, wanted_next, want_of}
use Rattle.plat_base.specs.GuestRun.{value_for, with_access, guest_does, guest_more, guest_run}
use Rattle.plat_base.specs.Ends.{ended_of, end_after}
use Rattle.plat_base.specs.Schedule.{Chooser, scheduled, coarse_run}
use Rattle.plat_base.specs.Rules.{HasEnoughFrames}
use Rattle.plat_base.specs.declared.endings.End.{End}
use Rattle.plat_base.specs.declared.endings.End.TheVariants as end
use Rattle.plat_base.specs.declared.guests.Instr.{Instr}
use Rattle.plat_base.specs.declared.guests.Instr.TheVariants as instr
use Rattle.plat_base.specs.declared.guests.Want.{Want}
use Rattle.plat_base.specs.declared.guests.Want.TheVariants as want
use Rattle.plat_base.specs.declared.policies.PolicyKind.{PolicyKind}
use Rattle.plat_laws.specs.Guests.{IsWithinLimits}
use Rattle.plat_coarse_laws.proofs.TurnLaws.{run_sound, sound-no_frames}
use Rattle.plat_policy_laws.specs.Meaning.{Meant, meaning, StarvesNobody, with_policy, DifferInPolicy}
use Rattle.plat_policy_laws.specs.FlatRun.{FlatRun, FlatMade, values_meant, flat_reached, flat_made_by, with_flat, flat_guest, flat_turn}
use Rattle.plat_policy_laws.specs.FlatRun.{FlatScheduled, flat_choice, flat_scheduled_turn, flat_scheduled, flat_run, flat_meaning}
use Rattle.plat_policy_laws.proofs.HistoryLaws.{map-same, meaning-parts}
use Rattle.plat_policy_laws.proofs.RunLaws.{scheduled-meaning}

-- ---- one machine

module _ (m : Machine) (answer : Answer) where
  pub run-flat : StarvesNobody m (coarse_run m answer) → meaning m (coarse_run m answer) ≡ flat_meaning m (flat_run m)
  unfolding coarse_run flat_run
  run-flat h = scheduled-meaning m answer (m.nodes * m.budget) h

  -- where each module has a frame for every page nobody is starved
  starves-nobody : IsWithinLimits m → HasEnoughFrames m → (k : ℕ) → StarvesNobody m (scheduled m answer k).coarse
  starves-nobody machine enough k q l =
      sound-no_frames m answer (scheduled m answer k).coarse q enough (run_sound m answer k machine) l

  run-starves_nobody : IsWithinLimits m → HasEnoughFrames m → StarvesNobody m (coarse_run m answer)
  unfolding coarse_run
  run-starves_nobody machine enough = starves-nobody machine enough (m.nodes * m.budget)

module _ (m : Machine) (answer other : Answer) where
  pub runs-same :
      StarvesNobody m (coarse_run m answer) → StarvesNobody m (coarse_run m other)
      → meaning m (coarse_run m answer) ≡ meaning m (coarse_run m other)
  runs-same h k = run-flat m answer h ∙ sym (run-flat m other k)

  pub enough-same :
      IsWithinLimits m → HasEnoughFrames m → meaning m (coarse_run m answer) ≡ meaning m (coarse_run m other)
  enough-same machine enough =
      runs-same (run-starves_nobody m answer machine enough) (run-starves_nobody m other machine enough)

  pub between-same :
      IsWithinLimits m → HasEnoughFrames m → (k : ℕ)
      → meaning m (scheduled m answer k).coarse ≡ meaning m (scheduled m other k).coarse
  between-same machine enough k =
      scheduled-meaning m answer k (starves-nobody m answer machine enough k)
      ∙ sym (scheduled-meaning m other k (starves-nobody m other machine enough k))

-- ---- the run on flat memory does not see the policy that the text names

module _ (m : Machine) (policy : PolicyKind) where
  abbrev n : Machine
  n = with_policy m policy

  wanted-policy : (s : GuestState) (i : Instr) → wanted n s i ≡ wanted m s i
  wanted-policy s (instr.Set d v) = refl
  wanted-policy s (instr.Move d a) = refl
  wanted-policy s (instr.Add d a b) = refl
  wanted-policy s (instr.Sub d a b) = refl
  wanted-policy s (instr.Mul d a b) = refl
  wanted-policy s (instr.And d a b) = refl
  wanted-policy s (instr.Shr d a b) = refl
  wanted-policy s (instr.Load d k i) = refl
  wanted-policy s (instr.Store r k i) = refl
  wanted-policy s (instr.Fadd d r k i) = refl
  wanted-policy s (instr.Switch space) = refl
  wanted-policy s (instr.Print r) = refl
  wanted-policy s (instr.Jump l) = refl
  wanted-policy s (instr.Zero a l) = refl
  wanted-policy s (instr.Less a b l) = refl
  wanted-policy s instr.Halt = refl

  want_of-policy : (q : ℕ) (s : GuestState) → want_of n q s ≡ want_of m q s
  want_of-policy q s = by (slice_get (program_of m q).code s.at)
    where
      by : (o : Option Instr) → wanted_next n s o ≡ wanted_next m s o
      by None = refl
      by (Some i) = wanted-policy s i

  guest_does-policy : (q : ℕ) (values : List ℕ) (r : GuestRun) (w : Want) → guest_does n q values r w ≡ guest_does m q values r w
  guest_does-policy q values r want.Local = refl
  guest_does-policy q values r (want.Access k sp a o) = by (value_for k values r.used)
    where
      by : (v : Option ℕ) → with_access n q r (reach_of n k sp a o) v ≡ with_access m q r (reach_of m k sp a o) v
      by None = refl
      by (Some v) = refl
  guest_does-policy q values r (want.Switch space) = refl
  guest_does-policy q values r (want.Print value) = refl
  guest_does-policy q values r want.Halted = refl
  guest_does-policy q values r want.Trap = refl

  guest_more-policy : (q : ℕ) (values : List ℕ) (r : GuestRun) (o : Outcome) → guest_more n q values r o ≡ guest_more m q values r o
  guest_more-policy q values r GoesOn =
      guest_does-policy q values r (want_of n q r.state) ∙ ap (guest_does m q values r) (want_of-policy q r.state)
  guest_more-policy q values r HasHalted = refl
  guest_more-policy q values r HasTrapped = refl

  guest_run-policy : (q : ℕ) (values : List ℕ) (t : ℕ) → guest_run n q values t ≡ guest_run m q values t
  guest_run-policy q values zero = refl
  guest_run-policy q values (suc t) =
      guest_more-policy q values (guest_run n q values t) (guest_run n q values t).outcome
      ∙ ap (λ r. guest_more m q values r r.outcome) (guest_run-policy q values t)

  flat_made_by-policy : (items : List Meant) (q : ℕ) (w : Want) → flat_made_by n items q w ≡ flat_made_by m items q w
  flat_made_by-policy items q want.Local = refl
  flat_made_by-policy items q (want.Access k sp a o) = by (entry_at m sp (a / m.words))
    where
      by : (e : Option ℕ) → flat_reached n items q (reach_of n k sp a o) e ≡ flat_reached m items q (reach_of m k sp a o) e
      by None = refl
      by (Some entry) = refl
  flat_made_by-policy items q (want.Switch space) = refl
  flat_made_by-policy items q (want.Print value) = refl
  flat_made_by-policy items q want.Halted = refl
  flat_made_by-policy items q want.Trap = refl

  end_after-policy : (turns : ℕ) (e : End) → end_after n turns e ≡ end_after m turns e
  end_after-policy turns end.Halted = refl
  end_after-policy turns end.Trapped = refl
  end_after-policy turns end.Spent = refl
  end_after-policy turns end.NoFrames = refl
  end_after-policy turns end.Cut = refl

  flat_guest-policy : (f : FlatRun) (q : ℕ) → flat_guest n f q ≡ flat_guest m f q
  flat_guest-policy f q = guest_run-policy q (values_meant q f.items) (ended_of f.ends q).turns

  with_flat-policy : (f : FlatRun) (q : ℕ) (x : FlatMade) → with_flat n f q x ≡ with_flat m f q x
  with_flat-policy f q x = rw (end_after-policy _ x.end) refl

  flat_turn-policy : (f : FlatRun) (q : ℕ) → flat_turn n f q ≡ flat_turn m f q
  flat_turn-policy f q =
      let s = (flat_guest n f q).state
      in with_flat-policy f q (flat_made_by n f.items q (want_of n q s))
      ∙ ap (with_flat m f q)
      (flat_made_by-policy f.items q (want_of n q s)
      ∙ ap (flat_made_by m f.items q) (want_of-policy q s ∙ ap (λ r. want_of m q r.state) (flat_guest-policy f q)))

  flat_choice-policy : (x : FlatScheduled) (o : Option (ℕ × Chooser)) → flat_choice n x o ≡ flat_choice m x o
  flat_choice-policy x None = refl
  flat_choice-policy x (Some c) = ap (λ run. record { run = run; chooser = c.1 }) (flat_turn-policy x.run c.0)

  flat_scheduled-policy : (k : ℕ) → flat_scheduled n k ≡ flat_scheduled m k
  flat_scheduled-policy zero = refl
  flat_scheduled-policy (suc k) =
      flat_choice-policy (flat_scheduled n k) _ ∙ ap (flat_scheduled_turn m) (flat_scheduled-policy k)

  flat_run-policy : flat_run n ≡ flat_run m
  unfolding flat_run
  flat_run-policy = ap (λ (x : FlatScheduled). x.run) (flat_scheduled-policy (m.nodes * m.budget))

  flat_meaning-policy : (f : FlatRun) → flat_meaning n f ≡ flat_meaning m f
  flat_meaning-policy f =
      meaning-parts f.items f.ends _ _ _ _ _ _
      (map-same _ _ (λ q. ap (λ r. r.state) (flat_guest-policy f q)) (numbers m.nodes))
      (map-same _ _ (λ q. ap (λ r. r.prints) (flat_guest-policy f q)) (numbers m.nodes))
      refl

-- ---- two texts

-- a run on m and a run on n mean the same, if neither starves anybody
abbrev MeanTheSame : (m n : Machine) → (answer other : Answer) → Type 0
MeanTheSame m n answer other =
    StarvesNobody m (coarse_run m answer) → StarvesNobody n (coarse_run n other)
    → meaning m (coarse_run m answer) ≡ meaning n (coarse_run n other)

with_policy-same : (m : Machine) (policy : PolicyKind) (answer other : Answer) → MeanTheSame m (with_policy m policy) answer other
with_policy-same m policy answer other h k =
    let n = with_policy m policy
    in run-flat m answer h
    ∙ sym (run-flat n other k
    ∙ (flat_meaning-policy m policy (flat_run n) ∙ ap (flat_meaning m) (flat_run-policy m policy)))

module _ (m n : Machine) (answer other : Answer) (differ : DifferInPolicy m n) where
  pub texts-same : MeanTheSame m n answer other
  texts-same = subst (λ (n : Machine). MeanTheSame m n answer other) (sym differ) (with_policy-same m n.policy answer other)

  pub enough_texts-same :
      IsWithinLimits m → IsWithinLimits n → HasEnoughFrames m
      → meaning m (coarse_run m answer) ≡ meaning n (coarse_run n other)
  enough_texts-same machine machine_of_other enough =
      texts-same (run-starves_nobody m answer machine enough)
      (run-starves_nobody n other machine_of_other (subst HasEnoughFrames (sym differ) enough))
