-- targets that a session has counted as passed, and all processors behind its shootdown, are passed
use Rattle.std.specs.Prelude.{◌≡◌, ◌≢◌, ℕ, ◌<◌, ◌==◌, ◌&&◌, Bool, true, false, List, [], length, take, drop}
use Rattle.std.specs.Prelude.{Some}
use Rattle.std.proofs.Common.{refl, ap, sym, ◌∙◌, arith, subst}
use Rattle.std.specs.Option.{option_map_or}
use Rattle.std.specs.List.{list_any}
use Rattle.std.proofs.lemmas.Bool.{eq-eqb}
use Rattle.std.proofs.lemmas.List.{take_all}
use Rattle.plat_base.specs.Verdicts.{Answer}
use Rattle.plat_base.specs.Machine.{Machine}
use Rattle.plat_base.specs.Pages.{page_of, entries_of_page}
use Rattle.plat_base.specs.Messages.{removes_some}
use Rattle.plat_base.specs.declared.items.Removed.{Removed}
use Rattle.plat_base.specs.declared.items.Removed.TheVariants as removed
use Rattle.plat_laws.specs.Guests.{IsWithinLimits}
use Rattle.plat_events.specs.Places.{entry_count}
use Rattle.plat_events.specs.Shootdowns.{Shot, Posting, PostingOn, Asking, Interrupting, Watching, AskingAgain, Target, targets, no_target}
use Rattle.plat_events.specs.Sessions.{Course, decision_of}
use Rattle.plat_events.specs.Standings.{course_of, is_quiet, unlocking_of, shot_passed, targets_left, removes_by, posts_of, waits_for}
use Rattle.plat_events.specs.Standings.{has_granted}
use Rattle.plat_events.specs.Kept.{Running, session_on, private_of}
use Rattle.plat_events.specs.Views.{session_view, translation_of, view}
use Rattle.plat_events.specs.Runs.{Fine}
use Rattle.plat_events.specs.Shown.{Shows}
use Rattle.plat_local_laws.specs.Phases.{TargetOk, ShotOk, ShootingOk, PhaseOk}
use Rattle.plat_fine_laws.proofs.SessionLaws.{RunsOn, runs_on-actor}
use Rattle.plat_fine_laws.proofs.ViewFactLaws.{view_facts, among-range}
use Rattle.plat_frame_laws.proofs.HandLaws.{alone, running-ok}
use Rattle.plat_shootdown_laws.proofs.TargetLaws.{target-is}
use Rattle.plat_copy_laws.specs.Coherence.{CountsPassed, IsPassed}
use Rattle.plat_copy_laws.proofs.TargetOrderLaws.{absent-later, targets-rise}

both : (b c : Bool) → b ≡ true → c ≡ true → (b && c) ≡ true
both true c h k = k
both false c h k = absurd cc

some-removed : (r : Removed) → removes_some r ≡ true → r ≢ removed.Nothing
some-removed removed.Nothing some = absurd cc
some-removed removed.Writes some = λ e. absurd cc
some-removed removed.All some = λ e. absurd cc

-- a shootdown that has passed a target has made its posts
passes-target : (m : Machine) (a page : ℕ) (posts : List ℕ) (k : ℕ) (shot : Shot) → ShotOk m a page posts shot → k < shot_passed shot →
    TargetOk m a page posts (shot_passed shot)
passes-target m a page posts k Posting ok below = absurd (omega arith)
passes-target m a page posts k (PostingOn seen) ok below = absurd (omega arith)
passes-target m a page posts k (Asking j) ok below = ok
passes-target m a page posts k (Interrupting j) ok below = ok
passes-target m a page posts k (Watching j) ok below = ok
passes-target m a page posts k (AskingAgain j) ok below = ok

module _ (m : Machine) (answer : Answer) (s : Fine) (limits : IsWithinLimits m) (shows : Shows m answer s) where
  -- ---- a target that is counted

  module _ (q e : ℕ) (r : Running) (counts : CountsPassed m s q e r) where
    abbrev c : Course
    c = counts.course

    runs : RunsOn m s (page_of m e) r
    runs = runs_on-actor m answer s (page_of m e) r shows counts.on

    shoots : ShootingOk m answer r.actor (private_of m s r.actor) r.session c counts.shot
    shoots =
        subst (PhaseOk m answer r.actor (private_of m s r.actor) r.session) counts.shoots
        (running-ok m answer s limits shows (page_of m e) r counts.on).phase

    target : TargetOk m r.actor (page_of m e) c.posts (shot_passed counts.shot)
    target =
        subst (λ page. TargetOk m r.actor page c.posts (shot_passed counts.shot)) runs.on
        (passes-target m r.actor r.session.fault.page c.posts counts.number counts.shot shoots.stands counts.counted)

    inside : counts.number < length (targets m r.actor (page_of m e) c.posts)
    inside = let left = target.left in let counted = counts.counted in omega (arith, left, counted)

    below : e < entry_count m
    below =
        subst (λ (t : Target). t.entry < entry_count m) counts.target (target-is m r.actor (page_of m e) c.posts counts.number inside).entry

    removes : removes_some (removes_by m answer r.actor r.now r.session) ≡ true
    removes =
        ap (λ ph. removes_some (option_map_or (λ k. (decision_of m answer r.actor r.now r.session k).removed) (course_of ph)
        removed.Nothing))
        counts.shoots
        ∙ (ap (λ n. removes_some (decision_of m answer r.actor n r.session c).removed) runs.now ∙ shoots.removes)

    among : list_any (λ x. x == e) (take (length (posts_of r.session)) (entries_of_page m r.session.fault.page)) ≡ true
    among =
        (λ i. list_any (λ x. x == e)
        (take (length (option_map_or (λ (k : Course). k.posts) (course_of (counts.shoots i)) [])) (entries_of_page m (runs.on i))))
        ∙ (ap (list_any (λ x. x == e))
        (take_all (length c.posts) (entries_of_page m (page_of m e)) (let posted = target.posted in omega (arith, posted)))
        ∙ among-range (λ x. page_of m x == page_of m e) 0 (entry_count m) e (omega arith) (let low = below in omega (arith, low))
        (eq-eqb (page_of m e) (page_of m e) refl))

    passed : waits_for m r.actor r.session e q ≡ false
    passed =
        (λ i. list_any (λ (t : Target). t.entry == e && t.processor == q)
        (targets_left (targets m r.actor (runs.on i) (option_map_or (λ (k : Course). k.posts) (course_of (counts.shoots i)) []))
        (counts.shoots
        i)))
        ∙ subst
        (λ (u : Target). list_any (λ (t : Target). t.entry == u.entry && t.processor == u.processor)
        (drop (shot_passed counts.shot) (targets m r.actor (page_of m e) c.posts)) ≡ false)
        counts.target
        (absent-later no_target (targets m r.actor (page_of m e) c.posts) counts.number (shot_passed counts.shot)
        (targets-rise m r.actor (page_of m e) c.posts) counts.counted inside)

    pub counted-passed : IsPassed m answer s q e r
    counted-passed = record {
      on = counts.on;
      posted =
          both (removes_some (removes_by m answer r.actor r.now r.session))
          (list_any (λ x. x == e) (take (length (posts_of r.session)) (entries_of_page m r.session.fault.page))) removes among;
      passed = passed;
      ungranted = λ own.
          ap (λ ph. option_map_or (λ (k : Course). option_map_or (λ x. x == e) r.session.fault.entry false) (unlocking_of ph) false)
          counts.shoots;
    }

  -- ---- behind the shootdown

  pub quiet-passed :
      (q e : ℕ) (r : Running) → q < m.nodes → e < entry_count m → session_on s.privates (page_of m e) ≡ Some r →
      is_quiet r.session.phase ≡ true → removes_some (removes_by m answer r.actor r.now r.session) ≡ true →
      (r.actor ≡ q → has_granted r.session e ≡ false) → IsPassed m answer s q e r
  quiet-passed q e r inside below on quiet some ungranted =
      let facts = view_facts m answer s limits shows (alone m answer s limits shows) q e inside below in
      let t = translation_of m s q e in
      let seen_quiet : (view m answer s q e).quiet ≡ true = ap (λ o. (session_view m answer q e t o).quiet) on ∙ quiet in
      let removes : (view m answer s q e).removes ≡ removes_by m answer r.actor r.now r.session =
      ap (λ o. (session_view m answer q e t o).removes) on in
      record {
        on = on;
        posted =
            sym (ap (λ o. (session_view m answer q e t o).posted) on)
            ∙ facts.quiet_posted seen_quiet (λ none. some-removed (removes_by m answer r.actor r.now r.session) some (sym removes ∙ none));
        passed = sym (ap (λ o. (session_view m answer q e t o).owed) on) ∙ facts.quiet_owed seen_quiet;
        ungranted = ungranted;
      }
