-- ends, schedules and the count of turns: what a turn does to the ends, and whom a schedule chooses
use Rattle.std.proofs.Common.{◌≡◌, ◌≢◌, ℕ, zero, suc, ◌+◌, ◌*◌, ◌<◌, ◌≤◌, nat_lt, if◌then◌else◌, ◌&&◌, Bool, true, false, List, [], ◌∷◌}
use Rattle.std.proofs.Common.{length, ◌++◌, Option, Some, None, filter, refl, sym, ap, ◌∙◌, ◌⊎◌, inl, inr, ⊎_elim, arith}
use Rattle.std.specs.Prelude.{slice_set}
use Rattle.std.specs.List.{fold, range_with_len}
use Rattle.std.proofs.lemmas.Bool.{lt-ltb, cases_eq}
use Rattle.std.proofs.lemmas.Bool.Decides.{nat_tests}
use Rattle.std.proofs.lemmas.List.{length-set, get_or-set_same, get_or-set_other, length-replicate}
use Rattle.std.proofs.lemmas.List.Folds.{sum_by-replicate}
use Rattle.std.proofs.lemmas.List.Sums.{sum_by-cons, sum_by-set}
use Rattle.plat_base.specs.Verdicts.{Answer}
use Rattle.plat_base.specs.Machine.{Machine, Turns}
use Rattle.plat_base.specs.Pages.{numbers}
use Rattle.plat_base.specs.GuestRun.{want_of}
use Rattle.plat_base.specs.Directories.{dir_of}
use Rattle.plat_base.specs.Alike.{same_end}
use Rattle.plat_base.specs.Ends.{cut_at, ended_of, is_live, time_of, end_after}
use Rattle.plat_base.specs.Coarse.{Coarse, coarse_start}
use Rattle.plat_base.specs.Turns.{Made, made_by, with_made, guest_now, thaw_items, thaw, is_pass, daemon, turn}
use Rattle.plat_base.specs.Schedule.{Chooser, Scheduled, choose}
use Rattle.plat_base.specs.Schedule.{live_processors, with_choice, scheduled}
use Rattle.plat_base.specs.declared.endings.End.{End}
use Rattle.plat_base.specs.declared.endings.End.TheVariants as end
use Rattle.plat_base.specs.declared.endings.Ended.{Ended}
use Rattle.plat_base.proofs.ChoiceLemmas.{filter-among, choose-among, choose-none, choose-nobody}
use Rattle.plat_laws.proofs.EndLaws.{is_live-below}

-- ---- the ends where one is replaced

pub ended_of-set_same : (ends : List Ended) (q : ℕ) (x : Ended) → q < length ends → ended_of (slice_set ends q x) q ≡ x
ended_of-set_same ends q x h = get_or-set_same ends q x (cut_at 0) h

pub ended_of-set_other : (ends : List Ended) (q r : ℕ) (x : Ended) → r ≢ q → ended_of (slice_set ends q x) r ≡ ended_of ends r
ended_of-set_other ends q r x h = get_or-set_other ends q r x (cut_at 0) h

pub length-ends_set : (ends : List Ended) (q : ℕ) (x : Ended) → length (slice_set ends q x) ≡ length ends
length-ends_set ends q x = length-set ends q x

pub is_live-set_same : (ends : List Ended) (q : ℕ) (x : Ended) → q < length ends → is_live (slice_set ends q x) q ≡ same_end x.end end.Cut
is_live-set_same ends q x h =
    rw (length-ends_set ends q x, lt-ltb q (length ends) h) (ap (λ (e : Ended). same_end e.end end.Cut) (ended_of-set_same ends q x h))

pub is_live-set_other : (ends : List Ended) (q r : ℕ) (x : Ended) → r ≢ q → is_live (slice_set ends q x) r ≡ is_live ends r
is_live-set_other ends q r x h =
    rw (length-ends_set ends q x) (ap (λ (e : Ended). nat_lt r (length ends) && same_end e.end end.Cut) (ended_of-set_other ends q r x h))

-- one that is live where one is replaced was live before, where the one replaced was
pub is_live-set_before : (ends : List Ended) (q r : ℕ) (x : Ended) → is_live ends q ≡ true → is_live (slice_set ends q x) r ≡ true →
    is_live ends r ≡ true
is_live-set_before ends q r x h k =
    ⊎_elim (λ same. ap (is_live ends) same ∙ h) (λ other. sym (is_live-set_other ends q r x other) ∙ k) (cases_eq r q)

-- ---- time

-- the end of a processor after one more turn
abbrev pub after_turn : List Ended → ℕ → End → Ended
after_turn ends q e = record { end = e; turns = (ended_of ends q).turns + 1 }

pub time_of-set : (ends : List Ended) (q : ℕ) (e : End) → q < length ends → time_of (slice_set ends q (after_turn ends q e))
    ≡ time_of ends + 1
time_of-set ends q e h = omega (arith, sum_by-set (λ (x : Ended). x.turns) ends q (after_turn ends q e) (cut_at 0) h)

pub time_of-most : (ends : List Ended) (budget : ℕ) → ((q : ℕ) → q < length ends → (ended_of ends q).turns ≤ budget) →
    time_of ends ≤ length ends * budget
time_of-most [] budget h = omega arith
time_of-most (e ∷ es) budget h =
    let all : time_of (e ∷ es) ≡ e.turns + time_of es = sum_by-cons (λ (x : Ended). x.turns) e es
    in let first : e.turns ≤ budget = h 0 (omega arith)
    in let rest : time_of es ≤ length es * budget = time_of-most es budget (λ q l. h (suc q) (omega arith))
    in omega arith

pub time_of-less : (ends : List Ended) (budget q : ℕ) → ((r : ℕ) → r < length ends → (ended_of ends r).turns ≤ budget) → q < length ends →
    (ended_of ends q).turns < budget → time_of ends < length ends * budget
time_of-less [] budget q h l k = absurd (omega arith)
time_of-less (e ∷ es) budget zero h l k =
    let all : time_of (e ∷ es) ≡ e.turns + time_of es = sum_by-cons (λ (x : Ended). x.turns) e es
    in let rest : time_of es ≤ length es * budget = time_of-most es budget (λ q l. h (suc q) (omega arith))
    in omega arith
time_of-less (e ∷ es) budget (suc q) h l k =
    let all : time_of (e ∷ es) ≡ e.turns + time_of es = sum_by-cons (λ (x : Ended). x.turns) e es
    in let first : e.turns ≤ budget = h 0 (omega arith)
    in let rest : time_of es < length es * budget = time_of-less es budget q (λ q l. h (suc q) (omega arith)) (omega arith) k
    in omega arith

-- ---- one turn

module _ (m : Machine) (answer : Answer) where
  pub thaw-ends : (now : ℕ) (s : Coarse) (p : ℕ) → (thaw m answer now s p).ends ≡ s.ends
  thaw-ends now s p = by (dir_of s.history p).frozen
    where
      by : (b : Bool) → (if b then record { history = s.history ++ thaw_items m answer s now p; ends = s.ends } else s).ends ≡ s.ends
      by true = refl
      by false = refl

  thaws-ends : (now : ℕ) (s : Coarse) (ps : List ℕ) → (fold (thaw m answer now) s ps).ends ≡ s.ends
  thaws-ends now s [] = refl
  thaws-ends now s (p ∷ ps) = thaws-ends now (thaw m answer now s p) ps ∙ thaw-ends now s p

  pub daemon-ends : (now : ℕ) (s : Coarse) → (daemon m answer now s).ends ≡ s.ends
  daemon-ends now s = by (is_pass m.policy now)
    where
      by : (b : Bool) → (if b then fold (thaw m answer now) s (numbers m.pages) else s).ends ≡ s.ends
      by true = thaws-ends now s (numbers m.pages)
      by false = refl

  -- what the turn of q adds, and how it leaves q
  abbrev pub made_in : Coarse → ℕ → Made
  made_in s q = made_by m answer s q (time_of s.ends + 1) (want_of m q (guest_now m s q).state)

  pub turn-ends : (s : Coarse) (q : ℕ) →
      (turn m answer s q).ends ≡ slice_set s.ends q (after_turn s.ends q (end_after m ((ended_of s.ends q).turns + 1) (made_in s q).end))
  turn-ends s q = daemon-ends (time_of s.ends + 1) (with_made m s q (made_in s q))

  pub turn-length : (s : Coarse) (q : ℕ) → length (turn m answer s q).ends ≡ length s.ends
  turn-length s q = ap length (turn-ends s q) ∙ length-ends_set s.ends q _

  pub turn-time : (s : Coarse) (q : ℕ) → q < length s.ends → time_of (turn m answer s q).ends ≡ time_of s.ends + 1
  turn-time s q h = ap time_of (turn-ends s q) ∙ time_of-set s.ends q _ h

-- ---- whom a schedule chooses

-- a live processor is chosen
pub choose-live : (m : Machine) (s : Coarse) (turns : Turns) (c : Chooser) (x : ℕ × Chooser) → choose turns (live_processors m s) c
    ≡ Some x → is_live s.ends x.0 ≡ true
choose-live m s turns c x h = filter-among (is_live s.ends) (numbers m.nodes) x.0 (choose-among turns (live_processors m s) c x h)

-- ---- where nobody is chosen there is nobody

filter-range_none : (test : ℕ → Bool) (a n i : ℕ) → filter test (range_with_len a n) ≡ [] → a ≤ i → i < a + n → test i ≡ false
filter-range_none test a zero i h l u = absurd (omega arith)
filter-range_none test a (suc n) i h l u = grind (arith, nat_tests, filter-range_none test (a + 1) n i)

pub live_processors-none : (m : Machine) (s : Coarse) (q : ℕ) → live_processors m s ≡ [] → q < m.nodes → is_live s.ends q ≡ false
live_processors-none m s q h l = filter-range_none (is_live s.ends) 0 m.nodes q h (omega arith) (omega arith)

-- ---- so many turns

module _ (m : Machine) (answer : Answer) where
  -- what holds at the start, and after each turn of a live processor of a state where it holds, holds after so many turns
  pub scheduled_holds : (P : Coarse → Type 0) → P (coarse_start m) →
      ((s : Coarse) (q : ℕ) → P s → is_live s.ends q ≡ true → P (turn m answer s q)) → (k : ℕ) → P (scheduled m answer k).coarse
  scheduled_holds P start step zero = start
  scheduled_holds P start step (suc k) =
      let x = scheduled m answer k
      in by x (scheduled_holds P start step k) (choose m.schedule (live_processors m x.coarse) x.chooser) refl
    where
      by : (x : Scheduled) → P x.coarse → (o : Option (ℕ × Chooser)) → choose m.schedule (live_processors m x.coarse) x.chooser ≡ o →
          P (with_choice m answer x o).coarse
      by x h None e = h
      by x h (Some c) e = step x.coarse c.0 h (choose-live m x.coarse m.schedule x.chooser c e)

  pub scheduled-length : (k : ℕ) → length (scheduled m answer k).coarse.ends ≡ m.nodes
  scheduled-length k =
      scheduled_holds (λ s. length s.ends ≡ m.nodes) (length-replicate m.nodes (cut_at 0)) (λ s q h v. turn-length m answer s q ∙ h) k

  -- nobody is live, or each turn so far was made
  pub scheduled-time : (k : ℕ) → (live_processors m (scheduled m answer k).coarse ≡ []) ⊎ (time_of (scheduled m answer k).coarse.ends ≡ k)
  scheduled-time zero = inr (sum_by-replicate (λ (x : Ended). x.turns) m.nodes (cut_at 0) ∙ omega arith)
  scheduled-time (suc k) =
      let x = scheduled m answer k
      in by x (scheduled-time k) (choose m.schedule (live_processors m x.coarse) x.chooser) refl
    where
      by : (x : Scheduled) → (live_processors m x.coarse ≡ []) ⊎ (time_of x.coarse.ends ≡ k) → (o : Option (ℕ × Chooser)) →
          choose m.schedule (live_processors m x.coarse) x.chooser ≡ o → (live_processors m (with_choice m answer x o).coarse ≡ [])
          ⊎ (time_of (with_choice m answer x o).coarse.ends ≡ suc k)
      by x h None e = inl (choose-none m.schedule (live_processors m x.coarse) x.chooser e)
      by x (inl none) (Some c) e = absurd (some (live_processors m x.coarse) none e)
        where
          some : (live : List ℕ) → live ≡ [] → choose m.schedule live x.chooser ≡ Some c → ⊥
          some live none e = cc (choose-nobody m.schedule x.chooser, ap (λ l. choose m.schedule l x.chooser) none)
      by x (inr t) (Some c) e =
          let live : is_live x.coarse.ends c.0 ≡ true = choose-live m x.coarse m.schedule x.chooser c e
          in inr (turn-time m answer x.coarse c.0 (is_live-below x.coarse.ends c.0 live) ∙ omega arith)
