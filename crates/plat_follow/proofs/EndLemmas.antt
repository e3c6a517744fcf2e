-- how a guest that is followed can have ended: the run before it stops, and the run after that
use Rattle.std.proofs.Common.{◌≡◌, ◌⊎◌, inl, inr, ℕ, zero, suc, ◌+◌, ◌-◌, ◌<◌, ◌≤◌, Bool, true, false, List, length, refl, arith, ap, ◌∙◌}
use Rattle.std.proofs.Common.{sym, subst}
use Rattle.std.specs.Prelude.{◌==◌, nat_lt, nat_le, ◌&&◌, ◌||◌}
use Rattle.std.proofs.Math.Bool.{and-false, and-true, or-true}
use Rattle.std.proofs.lemmas.Bool.{cases_lt, cases_order, false_from_ne_true, ne_eqb}
use Rattle.std.proofs.lemmas.Bool.Decides.{nat_tests}
use Rattle.plat_base.specs.Machine.{Machine}
use Rattle.plat_base.specs.GuestRun.{GuestRun, Outcome, GoesOn, HasHalted, HasTrapped, want_of, with_end, guest_does, guest_run}
use Rattle.plat_base.specs.Done.{values_of, operations_of, reads_word}
use Rattle.plat_base.specs.Rules.{stands, same_outcome, has_made, wants_operation, wants_right, is_starved_at, is_end}
use Rattle.plat_base.specs.declared.guests.Want.{Want}
use Rattle.plat_base.specs.declared.guests.Want.TheVariants as want
use Rattle.plat_base.specs.declared.items.Kind.{Kind}
use Rattle.plat_base.specs.declared.items.Kind.TheVariants as kind
use Rattle.plat_base.specs.declared.items.Item.{Item}
use Rattle.plat_base.specs.declared.endings.End.{End}
use Rattle.plat_base.specs.declared.endings.End.TheVariants as end
use Rattle.plat_base.specs.declared.endings.Ended.{Ended}
use Rattle.plat_laws.proofs.GuestLaws.{guest_run-next_same, are_done-length}
use Rattle.plat_follow.specs.Followed.{FollowerSeen, IsStop, Follows, lacks_right, lacks_right_for, is_halting, is_trapping, is_spending}
use Rattle.plat_follow.specs.Followed.{can_end, is_ended}
use Rattle.plat_follow.specs.declared.stops.Stop.{Stop}
use Rattle.plat_follow.specs.declared.stops.Stop.TheVariants as stop
use Rattle.plat_follow.specs.declared.wanted.Wanted.TheVariants as wanted
use Rattle.plat_follow.proofs.RunLemmas.{IsMaking, IsMaking-earlier, guest_run-ended, guest_run-waiting, operations-quiet, operations-one}
use Rattle.plat_follow.proofs.RunLemmas.{operations-more}
use Rattle.plat_follow.proofs.NextLemmas.{awaited, awaited-next, stop-at}

-- ---- tests

flip : (a b : ℕ) → (a == b) ≡ (b == a)
flip a b = grind (arith, nat_tests)

same_number : (a : ℕ) → (a == a) ≡ true
same_number a = grind (arith, nat_tests)

next_number : (a : ℕ) → (suc a == a + 1) ≡ true
next_number a = grind (arith, nat_tests)

tail_false : (a b c : Bool) → (b && c) ≡ false → ((a && b) && c) ≡ false
tail_false true b c e = e
tail_false false b c e = refl

-- ---- the run of a follower's guest

-- a guest that stops so ends in its next turn, with this outcome
ends_as : Stop → Outcome → Bool
ends_as (stop.Wants w) o = false
ends_as stop.Halts GoesOn = false
ends_as stop.Halts HasHalted = true
ends_as stop.Halts HasTrapped = false
ends_as stop.Traps GoesOn = false
ends_as stop.Traps HasHalted = false
ends_as stop.Traps HasTrapped = true
ends_as stop.Spent o = false

stands_other : (r : GuestRun) (t : ℕ) (o : Outcome) → (r.turns ≡ t → ⊥) → stands r t o ≡ false
stands_other r t o n = rw (ne_eqb r.turns t n)

outcome_other : (r : GuestRun) (t : ℕ) (o : Outcome) → r.outcome ≡ GoesOn → (o ≡ GoesOn → ⊥) → stands r t o ≡ false
outcome_other r t GoesOn e n = absurd (n refl)
outcome_other r t HasHalted e n = rw (e, and-false)
outcome_other r t HasTrapped e n = rw (e, and-false)

module _ (m : Machine) (items : List Item) (q : ℕ) (f : FollowerSeen) (h : Follows m items q f) where
  -- ---- up to where it stands

  making : (t : ℕ) → t ≤ f.turns → IsMaking m q (values_of q items) t
  making t l = IsMaking-earlier m q (values_of q items) t f.turns l (record { made = h.at.made.made; goes = h.at.made.goes })

  -- the operations are those of the items from the last one on
  made-since : (t : ℕ) → f.last ≤ t → t ≤ f.turns → has_made items q (guest_run m q (values_of q items) t) ≡ true
  made-since t l u =
      let vs = values_of q items in
      let quiet = operations-quiet m q vs f.last (t - f.last) (λ j low high. h.at.quiet j low (omega arith)) in
      let all = operations-quiet m q vs f.last (f.turns - f.last) (λ j low high. h.at.quiet j low (omega arith)) in
      let a : t ≡ f.last + (t - f.last) = omega arith in
      let b : f.turns ≡ f.last + (f.turns - f.last) = omega arith in
      let end : (guest_run m q vs t).operations ≡ (guest_run m q vs f.turns).operations =
      ap (λ n. (guest_run m q vs n).operations) a ∙ quiet ∙ sym all ∙ ap (λ n. (guest_run m q vs n).operations) (sym b)
      in rw end h.at.made.done

  -- a run with fewer or more operations than the items has not made them
  other_count : (r : GuestRun) → (length r.operations ≡ length (operations_of q items) → ⊥) → has_made items q r ≡ false
  other_count r n = false_from_ne_true (has_made items q r) (λ e. n (are_done-length r.operations (operations_of q items) e))

  count_now : length (guest_run m q (values_of q items) f.turns).operations ≡ length (operations_of q items)
  count_now = are_done-length (guest_run m q (values_of q items) f.turns).operations (operations_of q items) h.at.made.done

  -- before the last one they are fewer
  made-before : (t : ℕ) → t < f.last → has_made items q (guest_run m q (values_of q items) t) ≡ false
  made-before t l =
      let vs = values_of q items in
      let s = f.last - 1 in
      let e : f.last ≡ s + 1 = omega arith in
      let one = operations-one m q vs s (making (suc s) (omega (arith, h.stands.last))).made (h.at.latest s e) in
      let low = operations-more m q vs t s (omega arith) in
      let high = operations-more m q vs (suc s) f.turns (omega (arith, h.stands.last))
      in other_count (guest_run m q vs t) (λ same. omega (arith, one, low, high, count_now))

  -- ---- after it stands

  -- the run that ended in its next turn
  ended_run :
      (t : ℕ) (w : Want) (o : Outcome) → f.turns < t → want_of m q (guest_run m q (values_of q items) f.turns).state ≡ w
      → (o ≡ GoesOn → ⊥)
      → ((r : GuestRun) → guest_does m q (values_of q items) r w ≡ with_end r o)
      → guest_run m q (values_of q items) t ≡ with_end (guest_run m q (values_of q items) f.turns) o
  ended_run t w o l e n does =
      let vs = values_of q items in
      let r = guest_run m q vs f.turns in
      let one : guest_run m q vs (suc f.turns) ≡ with_end r o = guest_run-next_same m q vs f.turns w h.at.made.goes e ∙ does r in
      let rest = guest_run-ended m q vs (suc f.turns) (t - suc f.turns) (rw one n) in
      let a : t ≡ suc f.turns + (t - suc f.turns) = omega arith in
      ap (guest_run m q vs) a ∙ rest ∙ one

  -- a run that ended stands in no other way
  ended_other :
      (t : ℕ) (o p : Outcome) → guest_run m q (values_of q items) t ≡ with_end (guest_run m q (values_of q items) f.turns) o
      → same_outcome o p ≡ false → stands (guest_run m q (values_of q items) t) t p ≡ false
  ended_other t o p e n = rw (e, n, and-false)

  -- a turn with one more operation than the items have
  one_more :
      (j : ℕ) → f.turns < j → (guest_run m q (values_of q items) (suc f.turns)).turns ≡ suc f.turns
      → wants_operation (want_of m q (guest_run m q (values_of q items) f.turns).state) ≡ true
      → has_made items q (guest_run m q (values_of q items) j) ≡ false
  one_more j l made wants =
      let vs = values_of q items in
      let one = operations-one m q vs f.turns made wants in
      let more = operations-more m q vs (suc f.turns) j (omega arith)
      in other_count (guest_run m q vs j) (λ same. omega (arith, one, more, count_now))

  -- where no value is there for it, the run stays; else it makes one more operation
  Beyond : ℕ → Outcome → Type 0
  Beyond t o =
      (stands (guest_run m q (values_of q items) t) t o ≡ false)
      ⊎ ((j : ℕ) → f.turns < j → has_made items q (guest_run m q (values_of q items) j) ≡ false)

  waiting :
      (t : ℕ) (o : Outcome) (k : Kind) (sp a n : ℕ) → f.turns < t
      → want_of m q (guest_run m q (values_of q items) f.turns).state ≡ want.Access k sp a n → reads_word k ≡ true
      → stands (guest_run m q (values_of q items) t) t o ≡ false
  waiting t o k sp a n l w reads =
      let vs = values_of q items in
      let stays = guest_run-waiting m q vs f.turns (t - f.turns) k sp a n h.at.made.goes h.at.made.used w reads in
      let at : t ≡ f.turns + (t - f.turns) = omega arith in
      let run : guest_run m q vs t ≡ guest_run m q vs f.turns = ap (guest_run m q vs) at ∙ stays
      in rw run (stands_other (guest_run m q vs f.turns) t o (λ e. omega (arith, e, h.at.made.made)))

  beyond_access :
      (t : ℕ) (o : Outcome) (k : Kind) (sp a n : ℕ) → f.turns < t
      → want_of m q (guest_run m q (values_of q items) f.turns).state ≡ want.Access k sp a n → Beyond t o
  unfolding Beyond
  beyond_access t o kind.Load sp a n l w = inl (waiting t o kind.Load sp a n l w refl)
  beyond_access t o kind.Store sp a n l w =
      let vs = values_of q items in
      let one = guest_run-next_same m q vs f.turns (want.Access kind.Store sp a n) h.at.made.goes w in
      inr (λ j low. one_more j low (rw one (omega (arith, h.at.made.made))) (rw w))
  beyond_access t o kind.Add sp a n l w = inl (waiting t o kind.Add sp a n l w refl)

  beyond_at :
      (s : Stop) (t : ℕ) (o : Outcome) → IsStop m f.turns (want_of m q (guest_run m q (values_of q items) f.turns).state) s
      → f.turns < t → t ≤ m.budget → ends_as s o ≡ false → Beyond t o
  unfolding Beyond ends_as
  beyond_at (stop.Wants (wanted.Access a)) t o is l u n = beyond_access t o a.kind a.space a.addr a.operand l is.1.0
  beyond_at (stop.Wants (wanted.Switch space)) t o is l u n =
      let vs = values_of q items in
      let one = guest_run-next_same m q vs f.turns (want.Switch space) h.at.made.goes is.1 in
      inr (λ j low. one_more j low (rw one (omega (arith, h.at.made.made))) (rw is.1))
  beyond_at stop.Halts t GoesOn is l u n =
      inl (ended_other t HasHalted GoesOn (ended_run t want.Halted HasHalted l is.1 (λ e. cc) (λ r. refl)) refl)
  beyond_at stop.Halts t HasHalted is l u n = absurd cc
  beyond_at stop.Halts t HasTrapped is l u n =
      inl (ended_other t HasHalted HasTrapped (ended_run t want.Halted HasHalted l is.1 (λ e. cc) (λ r. refl)) refl)
  beyond_at stop.Traps t GoesOn is l u n =
      inl (ended_other t HasTrapped GoesOn (ended_run t want.Trap HasTrapped l is.1 (λ e. cc) (λ r. refl)) refl)
  beyond_at stop.Traps t HasHalted is l u n =
      inl (ended_other t HasTrapped HasHalted (ended_run t want.Trap HasTrapped l is.1 (λ e. cc) (λ r. refl)) refl)
  beyond_at stop.Traps t HasTrapped is l u n = absurd cc
  beyond_at stop.Spent t o is l u n = absurd (omega arith)

  beyond : (t : ℕ) (o : Outcome) → f.turns < t → t ≤ m.budget → ends_as f.stop o ≡ false → Beyond t o
  beyond t o l u n = beyond_at f.stop t o (stop-at m items q f h) l u n

  -- ---- each kind of end

  -- the run that ended is that of the next turn
  lasting :
      (s : Stop) (t : ℕ) (o : Outcome) → IsStop m f.turns (want_of m q (guest_run m q (values_of q items) f.turns).state) s
      → f.turns < t → ends_as s o ≡ true
      → guest_run m q (values_of q items) t ≡ with_end (guest_run m q (values_of q items) f.turns) o
  unfolding ends_as
  lasting (stop.Wants w) t o is l e = absurd cc
  lasting stop.Halts t GoesOn is l e = absurd cc
  lasting stop.Halts t HasHalted is l e = ended_run t want.Halted HasHalted l is.1 (λ e. cc) (λ r. refl)
  lasting stop.Halts t HasTrapped is l e = absurd cc
  lasting stop.Traps t GoesOn is l e = absurd cc
  lasting stop.Traps t HasHalted is l e = absurd cc
  lasting stop.Traps t HasTrapped is l e = ended_run t want.Trap HasTrapped l is.1 (λ e. cc) (λ r. refl)
  lasting stop.Spent t o is l e = absurd cc

  itself : (o : Outcome) → same_outcome o o ≡ true
  itself GoesOn = refl
  itself HasHalted = refl
  itself HasTrapped = refl

  late :
      (t : ℕ) (o : Outcome) (b : Bool) → ends_as f.stop o ≡ b → f.turns < t → t ≤ m.budget
      → (stands (guest_run m q (values_of q items) t) t o && has_made items q (guest_run m q (values_of q items) t))
      ≡ (b && t == f.turns + 1)
  unfolding Beyond
  late t o true e l u =
      let r = guest_run m q (values_of q items) f.turns in
      let ended = lasting f.stop t o (stop-at m items q f h) l e
      in rw (ended, itself o, h.at.made.made, h.at.made.done, and-true, and-true) (flip (f.turns + 1) t)
  late t o false e l u = elim (beyond t o l u e) [ inl still ↦ rw still | inr more ↦ rw (more t l, and-false) ]

  -- its last turn is the next one, if that halts or traps
  ends_last :
      (t : ℕ) (o : Outcome) → (o ≡ GoesOn → ⊥) → t ≤ m.budget
      → (stands (guest_run m q (values_of q items) t) t o && has_made items q (guest_run m q (values_of q items) t))
      ≡ (ends_as f.stop o && t == f.turns + 1)
  ends_last t o n u = elim (cases_lt f.turns t) [
    | inl l ↦ late t o (ends_as f.stop o) refl l u
    | inr low ↦
        let goes = outcome_other (guest_run m q (values_of q items) t) t o (making t low).goes n
        in rw (goes, ne_eqb t (f.turns + 1) (λ e. omega arith), and-false)
  ]

  halting : (s : Stop) → ends_as s HasHalted ≡ is_halting s
  unfolding ends_as
  halting (stop.Wants w) = refl
  halting stop.Halts = refl
  halting stop.Traps = refl
  halting stop.Spent = refl

  trapping : (s : Stop) → ends_as s HasTrapped ≡ is_trapping s
  unfolding ends_as
  trapping (stop.Wants w) = refl
  trapping stop.Halts = refl
  trapping stop.Traps = refl
  trapping stop.Spent = refl

  is_end-halted : (lacks : Bool) (t : ℕ) → t ≤ m.budget → is_end m items q end.Halted t ≡ can_end m f lacks end.Halted t
  is_end-halted lacks t u = ends_last t HasHalted (λ e. cc) u ∙ ap (λ b. b && t == f.turns + 1) (halting f.stop)

  is_end-trapped : (lacks : Bool) (t : ℕ) → t ≤ m.budget → is_end m items q end.Trapped t ≡ can_end m f lacks end.Trapped t
  is_end-trapped lacks t u = ends_last t HasTrapped (λ e. cc) u ∙ ap (λ b. b && t == f.turns + 1) (trapping f.stop)

  -- a run that goes on ends as no outcome
  goes_nowhere : (s : Stop) → ends_as s GoesOn ≡ false
  unfolding ends_as
  goes_nowhere (stop.Wants w) = refl
  goes_nowhere stop.Halts = refl
  goes_nowhere stop.Traps = refl
  goes_nowhere stop.Spent = refl

  spending :
      (s : Stop) → IsStop m f.turns (want_of m q (guest_run m q (values_of q items) f.turns).state) s
      → (f.turns == m.budget) ≡ is_spending s
  spending (stop.Wants (wanted.Access a)) is = let l = is.0 in ne_eqb f.turns m.budget (λ e. omega arith)
  spending (stop.Wants (wanted.Switch space)) is = let l = is.0 in ne_eqb f.turns m.budget (λ e. omega arith)
  spending stop.Halts is = let l = is.0 in ne_eqb f.turns m.budget (λ e. omega arith)
  spending stop.Traps is = let l = is.0 in ne_eqb f.turns m.budget (λ e. omega arith)
  spending stop.Spent is = grind (arith, nat_tests)

  goes_on : (t : ℕ) → t ≤ f.turns → stands (guest_run m q (values_of q items) t) t GoesOn ≡ true
  goes_on t l = let r = making t l in rw (r.made, r.goes) (grind (arith, nat_tests))

  -- nothing that goes on after it stands has made the operations of the items
  goes_no_further :
      (t : ℕ) → f.turns < t → t ≤ m.budget
      → (stands (guest_run m q (values_of q items) t) t GoesOn && has_made items q (guest_run m q (values_of q items) t)) ≡ false
  goes_no_further t l u = late t GoesOn false (goes_nowhere f.stop) l u

  spent_here : (lacks : Bool) → is_end m items q end.Spent f.turns ≡ can_end m f lacks end.Spent f.turns
  spent_here lacks =
      let spent = spending f.stop (stop-at m items q f h)
      in rw (goes_on f.turns (omega arith), h.at.made.done, and-true, and-true, spent, same_number f.turns, and-true)

  is_end-spent : (lacks : Bool) (t : ℕ) → t ≤ m.budget → is_end m items q end.Spent t ≡ can_end m f lacks end.Spent t
  is_end-spent lacks t u = elim (cases_order f.turns t) [
    | inl e ↦ let ends : ℕ → Type 0 = λ n. is_end m items q end.Spent n ≡ can_end m f lacks end.Spent n in subst ends e (spent_here lacks)
    | inr other ↦ elim other [
      | inl l ↦ rw (tail_false (t == m.budget) _ _ (goes_no_further t l u), ne_eqb t f.turns (λ e. omega arith), and-false)
      | inr l ↦
          let below = h.stands.within in
          rw (ne_eqb t m.budget (λ e. omega arith), ne_eqb t f.turns (λ e. omega arith), and-false)
    ]
  ]

  -- ---- no frames

  wants_none : (w : Want) → wants_operation w ≡ false → wants_right m items q w ≡ false
  wants_none want.Local e = refl
  wants_none (want.Access k sp a o) e = absurd cc
  wants_none (want.Switch space) e = absurd cc
  wants_none (want.Print v) e = refl
  wants_none want.Halted e = refl
  wants_none want.Trap e = refl

  lacks_at :
      (s : Stop) → IsStop m f.turns (want_of m q (guest_run m q (values_of q items) f.turns).state) s → suc f.turns ≤ m.budget
      → wants_right m items q (want_of m q (guest_run m q (values_of q items) f.turns).state) ≡ lacks_right_for m items q (awaited s)
  lacks_at (stop.Wants (wanted.Access a)) is u = rw is.1.0
  lacks_at (stop.Wants (wanted.Switch space)) is u = rw is.1
  lacks_at stop.Halts is u = rw is.1
  lacks_at stop.Traps is u = rw is.1
  lacks_at stop.Spent is u = absurd (omega arith)

  starved_here :
      (lacks : Bool) → lacks ≡ lacks_right m items q → suc f.turns ≤ m.budget
      → is_end m items q end.NoFrames (suc f.turns) ≡ can_end m f lacks end.NoFrames (suc f.turns)
  starved_here lacks e u =
      let right = lacks_at f.stop (stop-at m items q f h) u ∙ ap (lacks_right_for m items q) (awaited-next m items q f h) ∙ sym e in
      rw (goes_on f.turns (omega arith), h.at.made.done, and-true, and-true, right, next_number f.turns, and-true)

  starved_before : (t : ℕ) → t < f.turns → is_starved_at m items q (guest_run m q (values_of q items) t) t ≡ false
  starved_before t l = elim (cases_lt t f.last) [
    | inl early ↦ rw (made-before t early, and-false)
    | inr since ↦ rw (wants_none (want_of m q (guest_run m q (values_of q items) t).state) (h.at.quiet t since l), and-false)
  ]

  starved_after : (t : ℕ) → f.turns < t → t ≤ m.budget → is_starved_at m items q (guest_run m q (values_of q items) t) t ≡ false
  starved_after t l u =
      let r = guest_run m q (values_of q items) t in
      rw (tail_false (nat_lt m.frames m.pages) (stands r t GoesOn) (has_made items q r) (goes_no_further t l u))

  is_end-no_frames :
      (lacks : Bool) (t : ℕ) → lacks ≡ lacks_right m items q → t ≤ m.budget
      → is_end m items q end.NoFrames t ≡ can_end m f lacks end.NoFrames t
  is_end-no_frames lacks zero e u = rw (ne_eqb 0 (f.turns + 1) (λ z. omega arith), and-false)
  is_end-no_frames lacks (suc t) e u = elim (cases_order f.turns t) [
    | inl here ↦
        let ends : ℕ → Type 0 = λ n. is_end m items q end.NoFrames (suc n) ≡ can_end m f lacks end.NoFrames (suc n)
        in subst ends here (starved_here lacks e (omega arith))
    | inr other ↦ elim other [
      | inl l ↦ rw (starved_after t l (omega arith), ne_eqb (suc t) (f.turns + 1) (λ z. omega arith), and-false)
      | inr l ↦ rw (starved_before t l, ne_eqb (suc t) (f.turns + 1) (λ z. omega arith), and-false)
    ]
  ]

  -- ---- cut

  cut_at :
      (s : Stop) → IsStop m f.turns (want_of m q (guest_run m q (values_of q items) f.turns).state) s → suc f.turns ≤ m.budget
      → (has_made items q (guest_run m q (values_of q items) (suc f.turns))
      || (wants_operation (want_of m q (guest_run m q (values_of q items) f.turns).state)
      && has_made items q (guest_run m q (values_of q items) f.turns)))
      ≡ true
  cut_at (stop.Wants (wanted.Access a)) is u = rw (is.1.0, h.at.made.done, or-true)
  cut_at (stop.Wants (wanted.Switch space)) is u = rw (is.1, h.at.made.done, or-true)
  cut_at stop.Halts is u =
      rw (guest_run-next_same m q (values_of q items) f.turns want.Halted h.at.made.goes is.1, h.at.made.done)
  cut_at stop.Traps is u =
      rw (guest_run-next_same m q (values_of q items) f.turns want.Trap h.at.made.goes is.1, h.at.made.done)
  cut_at stop.Spent is u = absurd (omega arith)

  cut_here : (lacks : Bool) → suc f.turns ≤ m.budget → is_end m items q end.Cut (suc f.turns) ≡ can_end m f lacks end.Cut (suc f.turns)
  cut_here lacks u =
      let below = h.stands.last in
      rw (goes_on f.turns (omega arith), cut_at f.stop (stop-at m items q f h) u) (grind (arith, nat_tests))

  cut_beyond : (t : ℕ) → f.turns < t → t ≤ m.budget → is_end m items q end.Cut (suc t) ≡ false
  unfolding Beyond
  cut_beyond t l u = elim (beyond t GoesOn l u (goes_nowhere f.stop)) [
    | inl still ↦ rw still
    | inr more ↦ rw (more (suc t) (omega arith), more t l, and-false, and-false)
  ]

  is_end-cut : (lacks : Bool) (t : ℕ) → t ≤ m.budget → is_end m items q end.Cut t ≡ can_end m f lacks end.Cut t
  is_end-cut lacks zero u = elim (cases_lt 0 f.last) [
    | inl l ↦ rw (made-before 0 l) (grind (arith, nat_tests))
    | inr l ↦ rw (made-since 0 l (omega arith)) (grind (arith, nat_tests))
  ]
  is_end-cut lacks (suc t) u = elim (cases_order f.turns t) [
    | inl here ↦
        let ends : ℕ → Type 0 = λ n. is_end m items q end.Cut (suc n) ≡ can_end m f lacks end.Cut (suc n)
        in subst ends here (cut_here lacks (omega arith))
    | inr other ↦ elim other [
      | inl l ↦ rw (cut_beyond t l (omega arith)) (grind (arith, nat_tests))
      | inr l ↦ elim (cases_lt (suc t) f.last) [
        | inl early ↦
            rw (made-before (suc t) early, made-before t (omega arith), and-false, and-false) (grind (arith, nat_tests))
        | inr since ↦ rw (goes_on t (omega arith), made-since (suc t) since (omega arith)) (grind (arith, nat_tests))
      ]
    ]
  ]

  -- ---- any end

  over_halting :
      (s : Stop) (t : ℕ) → IsStop m f.turns (want_of m q (guest_run m q (values_of q items) f.turns).state) s
      → m.budget < t → (is_halting s && t == f.turns + 1) ≡ false
  over_halting (stop.Wants w) t is l = refl
  over_halting stop.Halts t is l = let u = is.0 in ne_eqb t (f.turns + 1) (λ e. omega arith)
  over_halting stop.Traps t is l = refl
  over_halting stop.Spent t is l = refl

  over_trapping :
      (s : Stop) (t : ℕ) → IsStop m f.turns (want_of m q (guest_run m q (values_of q items) f.turns).state) s
      → m.budget < t → (is_trapping s && t == f.turns + 1) ≡ false
  over_trapping (stop.Wants w) t is l = refl
  over_trapping stop.Halts t is l = refl
  over_trapping stop.Traps t is l = let u = is.0 in ne_eqb t (f.turns + 1) (λ e. omega arith)
  over_trapping stop.Spent t is l = refl

  over_lacking :
      (s : Stop) (t : ℕ) → IsStop m f.turns (want_of m q (guest_run m q (values_of q items) f.turns).state) s
      → m.budget < t → (lacks_right_for m items q (awaited s) && t == f.turns + 1) ≡ false
  over_lacking (stop.Wants (wanted.Access a)) t is l = let u = is.0 in rw (ne_eqb t (f.turns + 1) (λ e. omega arith), and-false)
  over_lacking (stop.Wants (wanted.Switch space)) t is l = refl
  over_lacking stop.Halts t is l = refl
  over_lacking stop.Traps t is l = refl
  over_lacking stop.Spent t is l = refl

  -- more turns than the budget are none of its
  over : (lacks : Bool) (e : End) (t : ℕ) → lacks ≡ lacks_right m items q → m.budget < t → can_end m f lacks e t ≡ false
  over lacks end.Halted t same l = over_halting f.stop t (stop-at m items q f h) l
  over lacks end.Trapped t same l = over_trapping f.stop t (stop-at m items q f h) l
  over lacks end.Spent t same l = let below = h.stands.within in rw (ne_eqb t f.turns (λ e. omega arith), and-false)
  over lacks end.NoFrames t same l =
      let lacking : lacks ≡ lacks_right_for m items q (awaited f.stop) =
      same ∙ ap (lacks_right_for m items q) (sym (awaited-next m items q f h))
      in tail_false (nat_lt m.frames m.pages) lacks (t == f.turns + 1) (rw lacking (over_lacking f.stop t (stop-at m items q f h) l))
  over lacks end.Cut t same l = grind (arith, nat_tests)

  within : (lacks : Bool) (e : End) (t : ℕ) → lacks ≡ lacks_right m items q → t ≤ m.budget → is_end m items q e t ≡ can_end m f lacks e t
  within lacks end.Halted t same u = is_end-halted lacks t u
  within lacks end.Trapped t same u = is_end-trapped lacks t u
  within lacks end.Spent t same u = is_end-spent lacks t u
  within lacks end.NoFrames t same u = is_end-no_frames lacks t same u
  within lacks end.Cut t same u = is_end-cut lacks t u

  -- a guest can have ended so exactly where it stands so
  pub is_ended-stands :
      (lacks : Bool) (e : Ended) → lacks ≡ lacks_right m items q → can_end m f lacks e.end e.turns ≡ is_ended m items q e
  is_ended-stands lacks e same = elim (cases_lt m.budget e.turns) [
    | inl l ↦ let more : nat_le e.turns m.budget ≡ false = grind (arith, nat_tests) in rw more (over lacks e.end e.turns same l)
    | inr u ↦ let fits : nat_le e.turns m.budget ≡ true = grind (arith, nat_tests) in rw fits (sym (within lacks e.end e.turns same u))
  ]
