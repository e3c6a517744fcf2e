-- what is done step by step, as a definition does it
use Rattle.std.proofs.Common.{◌≡◌, ℕ, zero, suc, ◌+◌, ◌-◌, ◌≤◌, List, sym, ap, ◌∙◌, arith}
use Rattle.std.specs.Prelude.{Option, Some}
use Rattle.plat_base.specs.Machine.{Turns}
use Rattle.plat_base.specs.Schedule.{Chooser, choose}
use Rattle.plat_sched.specs.Actors.{actors_of}
use Rattle.plat_sched.specs.ScheduleSeen.{ScheduleSeen, choice, after_choice, actor_chosen}
use Rattle.plat_sched.proofs.NextLemmas.{choice_is}

-- the actor of a schedule is the one that is chosen among those that are live
module _ (turns : Turns) (among : List ℕ) (s : ScheduleSeen) (live q : ℕ) (plan : s.turns ≡ turns) (actors : actors_of live ≡ among) where
  choice_of : choice s live ≡ choose turns among s.chooser
  choice_of = ap (λ (t : Turns). choose t (actors_of live) s.chooser) plan ∙ ap (λ (l : List ℕ). choose turns l s.chooser) actors

  pub chosen_is : (after : ScheduleSeen) → after ≡ after_choice s (choice s live) → actor_chosen (choice s live) ≡ Some q
      → choose turns among s.chooser ≡ Some (q, after.chooser)
  chosen_is after kept chosen =
      sym choice_of ∙ (choice_is s (choice s live) q chosen
      ∙ ap (λ (a : ScheduleSeen). let c : Option (ℕ × Chooser) = Some (q, a.chooser) in c) (sym kept))

module _ {S : Type 0} (after : ℕ → S) (step : S → S) (one_more : (k : ℕ) → after (suc k) ≡ step (after k)) where
  pub next_is : (x y : S) (k : ℕ) → x ≡ after k → y ≡ step x → y ≡ after (k + 1)
  next_is x y k before made =
      let more : suc k ≡ k + 1 = omega arith in made ∙ (ap step before ∙ (sym (one_more k) ∙ ap after more))

  -- where a step changes nothing, none does any more
  stays : (k j : ℕ) → step (after k) ≡ after k → after (k + j) ≡ after k
  stays k zero still = let same : k + zero ≡ k = omega arith in ap after same
  stays k (suc j) still =
      let more : k + suc j ≡ suc (k + j) = omega arith in
      ap after more ∙ (one_more (k + j) ∙ (ap step (stays k j still) ∙ still))

  -- what no step changes is as it would be after all steps
  pub over_is : (x y : S) (k n : ℕ) → x ≡ after k → k ≤ n → step x ≡ x → y ≡ step x → y ≡ after n
  over_is x y k n before within still made =
      let all : k + (n - k) ≡ n = omega (arith, within) in
      let there : step (after k) ≡ after k = ap step (sym before) ∙ (still ∙ before) in
      made ∙ (still ∙ (before ∙ (sym (stays k (n - k) there) ∙ ap after all)))
