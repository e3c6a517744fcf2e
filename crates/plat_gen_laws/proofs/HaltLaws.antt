-- a guest that halts on enough values halts in that turn on any; and then so does its processor in the coarse run
use Rattle.std.proofs.Common.{◌≡◌, ◌≢◌, ℕ, zero, suc, ◌+◌, ◌-◌, ◌<◌, ◌≤◌, true, List, ◌++◌, length, refl, sym, ap, ◌∙◌, ⊎_elim, arith}
use Rattle.std.proofs.Common.{add-zero, add-suc, length-append}
use Rattle.std.specs.Prelude.{◌&&◌, ◌==◌, nat_le, replicate}
use Rattle.std.proofs.lemmas.Bool.{and_parts, eqb-true, cases_lt}
use Rattle.std.proofs.lemmas.List.{length-replicate, get_or-replicate, ext_get_or}
use Rattle.plat_base.specs.Verdicts.{Answer}
use Rattle.plat_base.specs.Machine.{Machine}
use Rattle.plat_base.specs.GuestRun.{GuestRun, Outcome, GoesOn, HasHalted, HasTrapped, guest_run}
use Rattle.plat_base.specs.Done.{values_of}
use Rattle.plat_base.specs.Ends.{ended_of, cut_at}
use Rattle.plat_base.specs.Schedule.{coarse_run}
use Rattle.plat_base.specs.Rules.{stands, same_outcome, has_made, is_end, HasEnoughFrames}
use Rattle.plat_base.specs.declared.endings.End.{End}
use Rattle.plat_base.specs.declared.endings.End.TheVariants as end
use Rattle.plat_base.specs.declared.endings.Ended.{Ended}
use Rattle.plat_base.specs.declared.items.Item.{Item}
use Rattle.plat_laws.specs.Guests.{IsWithinLimits}
use Rattle.plat_laws.proofs.GuestLaws.{fewer_turns, more_values}
use Rattle.plat_coarse_laws.proofs.TurnLaws.{coarse_run_sound, run_over, run_not_cut, run_no_frames}
use Rattle.plat_gen_laws.specs.Halts.{HaltsIn, halted_in}

-- ---- one guest

module _ (m : Machine) (q : ℕ) where
  fewer : (vs : List ℕ) (t d : ℕ) → (guest_run m q vs (t + d)).turns ≡ t + d → (guest_run m q vs t).turns ≡ t
  fewer vs t zero h = rw (add-zero t) at h
  fewer vs t (suc d) h = fewer vs t d (fewer_turns m q vs (t + d) (rw (add-suc t d) at h)).0

  earlier : (vs : List ℕ) (t u : ℕ) → (guest_run m q vs u).turns ≡ u → t ≤ u → (guest_run m q vs t).turns ≡ t
  earlier vs t u h l =
      let e : t + (u - t) ≡ u = omega arith in fewer vs t (u - t) (rw e h)

  earlier_goes : (vs : List ℕ) (t u : ℕ) → (guest_run m q vs u).turns ≡ u → t < u → (guest_run m q vs t).outcome ≡ GoesOn
  earlier_goes vs t u h l = (fewer_turns m q vs t (earlier vs (suc t) u h l)).1

  pub HaltsIn-from :
      (last enough : ℕ)
      → ((vs : List ℕ) → enough ≤ length vs → ((guest_run m q vs last).turns ≡ last) × ((guest_run m q vs last).outcome ≡ HasHalted))
      → HaltsIn m q last enough
  HaltsIn-from last enough h = record { made = made; over = over; goes = goes; halts = halts }
    where
      made : (vs : List ℕ) (t : ℕ) → enough ≤ length vs → t ≤ last → (guest_run m q vs t).turns ≡ t
      made vs t room l = earlier vs t last (h vs room).0 l

      long : (vs : List ℕ) → enough ≤ length (vs ++ replicate enough 0)
      long vs = omega (arith, length-append vs (replicate enough 0), length-replicate {A = ℕ} enough 0)

      halts : (vs : List ℕ) (t : ℕ) → (guest_run m q vs t).turns ≡ t → t ≡ last → (guest_run m q vs t).outcome ≡ HasHalted
      halts vs t e f =
          let one = more_values m q vs (replicate enough 0) t e in
          let at = (h (vs ++ replicate enough 0) (long vs)).1
          in sym (ap (λ (r : GuestRun). r.outcome) one) ∙ (ap (λ n. (guest_run m q (vs ++ replicate enough 0) n).outcome) f ∙ at)

      goes : (vs : List ℕ) (t : ℕ) → (guest_run m q vs t).turns ≡ t → t < last → (guest_run m q vs t).outcome ≡ GoesOn
      goes vs t e l =
          let one = more_values m q vs (replicate enough 0) t e in
          let at = earlier_goes (vs ++ replicate enough 0) t last (h (vs ++ replicate enough 0) (long vs)).0 l
          in sym (ap (λ (r : GuestRun). r.outcome) one) ∙ at

      over : (vs : List ℕ) (t : ℕ) → (guest_run m q vs t).turns ≡ t → t ≤ last
      over vs t e = ⊎_elim (λ late. absurd (not_late late)) (λ l. l) (cases_lt last t)
        where
          not_late : last < t → ⊥
          not_late l =
              let on = earlier_goes vs last t e l in
              let off = halts vs last (earlier vs last t e (omega arith)) refl
              in cc

-- ---- its processor

-- a run with this many turns does not stand otherwise than it does
stands-outcome : (r : GuestRun) (t : ℕ) (o : Outcome) → stands r t o ≡ true → (r.turns ≡ t) × (same_outcome r.outcome o ≡ true)
stands-outcome r t o h =
    let p = and_parts (r.turns == t) (same_outcome r.outcome o) h in (eqb-true r.turns t p.0, p.1)

not_same : (o p : Outcome) → same_outcome o p ≡ true → o ≡ p
not_same GoesOn GoesOn h = refl
not_same GoesOn HasHalted h = absurd cc
not_same GoesOn HasTrapped h = absurd cc
not_same HasHalted GoesOn h = absurd cc
not_same HasHalted HasHalted h = refl
not_same HasHalted HasTrapped h = absurd cc
not_same HasTrapped GoesOn h = absurd cc
not_same HasTrapped HasHalted h = absurd cc
not_same HasTrapped HasTrapped h = refl

module _ (m : Machine) (items : List Item) (q last enough : ℕ) (h : HaltsIn m q last enough) (inside : last < m.budget) where
  -- how its guest stands where it made so many turns
  stands_only : (t : ℕ) (o : Outcome) → stands (guest_run m q (values_of q items) t) t o ≡ true → o ≢ GoesOn → (o ≡ HasHalted) × (t ≡ last)
  stands_only t o s n =
      let r = guest_run m q (values_of q items) t in
      let parts = stands-outcome r t o s in
      let is = not_same r.outcome o parts.1
      in ⊎_elim (λ early. absurd (n (sym is ∙ h.goes (values_of q items) t parts.0 early)))
      (λ late.
      let same : t ≡ last = omega (arith, h.over (values_of q items) t parts.0)
      in (sym is ∙ h.halts (values_of q items) t parts.0 same, same))
      (cases_lt t last)

  ends_halted : (e : End) (t : ℕ) → is_end m items q e t ≡ true → e ≢ end.Cut → e ≢ end.NoFrames → (e ≡ end.Halted) × (t ≡ last)
  ends_halted end.Halted t s c n =
      let r = guest_run m q (values_of q items) t in
      let p = and_parts (stands r t HasHalted) (has_made items q r) s
      in (refl, (stands_only t HasHalted p.0 (λ e. cc)).1)
  ends_halted end.Trapped t s c n =
      let r = guest_run m q (values_of q items) t in
      let p = and_parts (stands r t HasTrapped) (has_made items q r) s in
      let not_so = (stands_only t HasTrapped p.0 (λ e. cc)).0
      in absurd cc
  ends_halted end.Spent t s c n =
      let r = guest_run m q (values_of q items) t in
      let p = and_parts (t == m.budget && stands r t GoesOn) (has_made items q r) s in
      let both = and_parts (t == m.budget) (stands r t GoesOn) p.0 in
      let spent = eqb-true t m.budget both.0 in
      let made = (stands-outcome r t GoesOn both.1).0
      in absurd (omega (arith, h.over (values_of q items) t made))
  ends_halted end.NoFrames t s c n = absurd (n refl)
  ends_halted end.Cut t s c n = absurd (c refl)

as_halted : (x : Ended) (last : ℕ) → x.end ≡ end.Halted → x.turns ≡ last → x ≡ halted_in last
as_halted x last e f = ap (λ t. record x { turns = t }) f ∙ ap (λ (z : End). record { end = z; turns = last }) e

-- where each module has a frame for every page, and each guest halts within the budget, whatever it reads, each processor
-- of the coarse run halts with its guest
pub run_halts :
    (m : Machine) (answer : Answer) (last enough q : ℕ) → IsWithinLimits m → HasEnoughFrames m → last < m.budget → q < m.nodes
    → HaltsIn m q last enough → ended_of (coarse_run m answer).ends q ≡ halted_in last
run_halts m answer last enough q limits frames inside l h =
    let s = coarse_run m answer in
    let x = ended_of s.ends q in
    let order = (coarse_run_sound m answer limits).ended q l (run_over m answer q limits l) in
    let p = and_parts (nat_le x.turns m.budget) (is_end m s.history q x.end x.turns) order in
    let uncut = run_not_cut m answer q limits l in
    let framed = run_no_frames m answer q limits frames l in
    let is = ends_halted m s.history q last enough h inside x.end x.turns p.1 uncut framed
    in as_halted x last is.0 is.1

-- and where that is so of all of them
pub run_all_halt :
    (m : Machine) (answer : Answer) (last enough : ℕ) → IsWithinLimits m → HasEnoughFrames m → last < m.budget
    → ((q : ℕ) → q < m.nodes → HaltsIn m q last enough) → (coarse_run m answer).ends ≡ replicate m.nodes (halted_in last)
run_all_halt m answer last enough limits frames inside h =
    let ends = (coarse_run m answer).ends in
    let count : length ends ≡ m.nodes = (coarse_run_sound m answer limits).count
    in ext_get_or (cut_at 0) ends (replicate m.nodes (halted_in last)) (rw (count, length-replicate m.nodes (halted_in last)) refl)
    (λ q below.
    let l : q < m.nodes = omega arith
    in run_halts m answer last enough q limits frames inside l (h q l) ∙ sym (get_or-replicate m.nodes q (halted_in last) (cut_at 0) l))
