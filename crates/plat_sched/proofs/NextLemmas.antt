-- a choice that was made, as the schedule after it
use Rattle.std.proofs.Common.{◌≡◌, ◌≢◌, ℕ, ◌^◌, ◌<◌, Option, Some, None, refl, ap, sym, ◌∙◌, arith}
use Rattle.std.proofs.lemmas.Bool.Decides.{nat_tests}
use Rattle.std.specs.Prelude.{IsTrue, IsNone, IfSome, IfNone, ◌↔◌}
use Rattle.std.specs.Option.{ForSome, option_map}
use Rattle.plat_base.specs.Machine.{Turns}
use Rattle.plat_base.specs.Schedule.{Chooser}
use Rattle.plat_sched.specs.Actors.{is_actor, actors_of}
use Rattle.plat_sched.specs.ScheduleSeen.{ScheduleSeen, choice, actor_chosen, after_choice}
use Rattle.plat_sched.specs.Sources.{schedule_seen, with_place}
use Rattle.plat_sched.specs.declared.sources.Source.{Source}
use Rattle.plat_sched.proofs.ActorsLemmas.{some_actor, any_is}
use Rattle.plat_sched.proofs.ChoiceLemmas.{no_actors, choose_somebody, choose_live}
use Rattle.plat_base.proofs.ChoiceLemmas.{choose-nobody}

pub choice_of_nobody : (s : ScheduleSeen) (live : ℕ) → live ≡ 0 → choice s live ≡ None
choice_of_nobody s live e = rw (e, no_actors) (choose-nobody s.turns s.chooser)

-- somebody is chosen among the live
pub somebody : (s : ScheduleSeen) (live : ℕ) → live < 2 ^ 32 → live ≢ 0 → actor_chosen (choice s live) ≢ None
somebody s live h k = choose_somebody s.turns (actors_of live) s.chooser (some_actor live h k)

pub live_actor : (s : ScheduleSeen) (live a : ℕ) → actor_chosen (choice s live) ≡ Some a → IsTrue (is_actor live a)
live_actor s live a e = sym (any_is live a) ∙ choose_live s.turns (actors_of live) s.chooser a e

-- the source and the actor that a choice among live actors left behind
pub record IsNext (s : ScheduleSeen) (live : ℕ) (source : Source) (r : Option ℕ) : Type 0 where
  pub actor : r ≡ actor_chosen (choice s live)
  pub some : r ≢ None
  pub after : schedule_seen source r ≡ after_choice s (choice s live)

actor_is : (o : Option (ℕ × Chooser)) (after : ℕ → Chooser) (r : Option ℕ) → o ≡ option_map (λ a. (a, after a)) r → r ≡ actor_chosen o
actor_is o after None e = sym (ap actor_chosen e)
actor_is o after (Some a) e = sym (ap actor_chosen e)

after_is : (s : ScheduleSeen) (o : Option (ℕ × Chooser)) (source : Source) (r : Option ℕ) → o ≡ with_place source r → r ≢ None →
    (schedule_seen source r).turns ≡ s.turns → schedule_seen source r ≡ after_choice s o
after_is s o source None e k t = absurd (k refl)
after_is s o source (Some a) e k t =
    ap (λ (turns : Turns). let seen : ScheduleSeen = record { turns = turns; chooser = (schedule_seen source (Some a)).chooser } in seen) t
    ∙ ap (after_choice s) (sym e)

pub next_is : (s : ScheduleSeen) (live : ℕ) (source : Source) (r : Option ℕ) → live < 2 ^ 32 → live ≢ 0 →
    choice s live ≡ with_place source r → (schedule_seen source r).turns ≡ s.turns → IsNext s live source r
next_is s live source r h k e t =
    let actor : r ≡ actor_chosen (choice s live) = actor_is _ (λ a. (schedule_seen source (Some a)).chooser) r e in
    let some : r ≢ None = λ n. somebody s live h k (sym actor ∙ n) in
    record { actor = actor; some = some; after = after_is s _ source r e some t }

-- ---- what follows for callers

pub none_iff : (r : Option ℕ) (live : ℕ) → r ≢ None → live ≢ 0 → (IsNone r ↔ (live ≡ 0))
none_iff None live h k = absurd (h refl)
none_iff (Some a) live h k = (λ e. absurd cc, λ e. absurd (k e))

pub none_never : (r : Option ℕ) (X : Type 0) → r ≢ None → IfNone r X
none_never None X h = absurd (h refl)
none_never (Some a) X h = tt

pub some_live : (s : ScheduleSeen) (live : ℕ) (r : Option ℕ) → r ≡ actor_chosen (choice s live) → IfSome r (λ a. IsTrue (is_actor live a))
some_live s live None e = tt
some_live s live (Some a) e = live_actor s live a (sym e)

pub some_below : (live : ℕ) (r : Option ℕ) → IfSome r (λ a. IsTrue (is_actor live a)) → ForSome r (λ a. a < 32)
some_below live None h = λ x e. absurd cc
some_below live (Some a) h = λ x e. grind (arith, nat_tests)

-- a choice is its actor with where the schedule stands then
pub choice_is : (s : ScheduleSeen) (o : Option (ℕ × Chooser)) (a : ℕ) → actor_chosen o ≡ Some a → o ≡ Some (a, (after_choice s o).chooser)
choice_is s None a e = absurd cc
choice_is s (Some c) a e = let f : c.0 ≡ a = cc in ap (λ (b : ℕ). let o : Option (ℕ × Chooser) = Some (b, c.1) in o) f
