-- the operations of a shootdown that write no mask: where they lead, and that the invariant holds on behind them
use Rattle.std.specs.Prelude.{◌≡◌, ◌⊎◌, ℕ, ◌+◌, ◌<◌, ◌==◌, ◌&&◌, ◌||◌, Bool, true, false, List, [], ◌∷◌, ◌++◌, length, take, slice_index}
use Rattle.std.specs.Prelude.{Some, None, is_some, IsTrue}
use Rattle.std.proofs.Common.{refl, ap, sym, ◌∙◌, subst, length-append}
use Rattle.std.specs.List.{list_any}
use Rattle.std.proofs.lemmas.Bool.{and_parts, eqb-true, true≢false, or_left}
use Rattle.plat_base.specs.Verdicts.{Answer}
use Rattle.plat_base.specs.Machine.{Machine}
use Rattle.plat_base.specs.Messages.{removes_some}
use Rattle.plat_base.specs.Pages.{page_of, entries_of_page}
use Rattle.plat_base.specs.declared.items.Removed.{Removed}
use Rattle.plat_base.specs.declared.words.WordName.{WordName}
use Rattle.plat_base.specs.declared.words.WordName.TheVariants as word
use Rattle.plat_events.specs.Words.{has_invalidate, has_restrict}
use Rattle.plat_events.specs.Places.{entry_count, is_name, is_word}
use Rattle.plat_events.specs.Shootdowns.{Shot, Shoot, Makes, Polls, Done, Target, no_target, targets_of, targets, target_at, entry_posted}
use Rattle.plat_events.specs.Shootdowns.{shot_after}
use Rattle.plat_events.specs.Sessions.{Course, Phase, Shooting, Session, decision_of, with_phase, with_posts, with_shoot, phase_after}
use Rattle.plat_events.specs.Privates.{InSession, Private, actor_count}
use Rattle.plat_events.specs.Events.{at, shoot_place}
use Rattle.plat_events.specs.Standings.{shot_passed}
use Rattle.plat_events.specs.Kept.{activation_at, message_at, is_active, word_at, private_of}
use Rattle.plat_events.specs.Views.{translation_of}
use Rattle.plat_events.specs.Runs.{Fine}
use Rattle.plat_events.specs.Shown.{IsReachedAlone, Shows}
use Rattle.plat_laws.specs.Guests.{IsWithinLimits}
use Rattle.plat_fine_laws.specs.Changes.{Changes, GoesOn, KeepsWords, is_read}
use Rattle.plat_frame_laws.specs.SessionMoved.{SessionLeaves}
use Rattle.plat_frame_laws.proofs.SessionHereLaws.{session}
use Rattle.plat_shootdown_laws.specs.Shots.{ShotPhase, ShotWords, is_steady}
use Rattle.plat_shootdown_laws.proofs.ShotPhaseLaws.{phase-shooting}
use Rattle.plat_shootdown_laws.proofs.TargetLaws.{any-take_more, any-drop_more, any-targets_more}
use Rattle.plat_shootdown_laws.proofs.ShotMovedLaws.{shows-shot}
use Rattle.plat_shootdown_laws.proofs.ShotPairLaws.{posted_by, owed_by, ShotStep, pair-ok}

-- ---- the place behind the operation

pub shoot-goes : (y : Session) (shoot : Shoot) → GoesOn (Some y) (shoot_place y shoot)
shoot-goes y (Makes posts shot) = record { session = refl; over = refl; left = refl; ended = refl; framed = λ e. absurd cc }
shoot-goes y (Polls posts k) = record { session = refl; over = refl; left = refl; ended = refl; framed = λ e. absurd cc }
shoot-goes y (Done posts) = record { session = refl; over = refl; left = refl; ended = refl; framed = λ e. absurd cc }

pub shoot-scan : (y : Session) (shoot : Shoot) → activation_at (shoot_place y shoot) ≡ None
shoot-scan y (Makes posts shot) = refl
shoot-scan y (Polls posts k) = refl
shoot-scan y (Done posts) = refl

pub shoot-message : (m : Machine) (p : Private) (y : Session) (shoot : Shoot) → message_at m p (shoot_place y shoot) ≡ None
shoot-message m p y (Makes posts shot) = refl
shoot-message m p y (Polls posts k) = refl
shoot-message m p y (Done posts) = refl

-- ---- the words

steady-read : (m : Machine) (name : WordName) → IsTrue (is_name m name) → is_steady name ≡ true → IsTrue (is_read m name)
steady-read m word.Time named steady = refl
steady-read m word.Live named steady = refl
steady-read m (word.Act q) named steady = named
steady-read m (word.Intr q) named steady = absurd cc
steady-read m (word.Dir page) named steady = refl
steady-read m (word.Stamp page) named steady = refl
steady-read m (word.Cmap entry) named steady = absurd cc
steady-read m (word.Pool mo) named steady = refl
steady-read m (word.Memory mo number w) named steady = refl

-- ---- what a step says to a processor and an entry

module _ (m : Machine) (s : Fine) (a page : ℕ) (rem : Removed) (posts : List ℕ) (q e : ℕ) where
  -- it goes on as it was
  pub step-stays : (k : ℕ) → ShotStep m s a page rem posts posts k k q e
  step-stays k = record {
    posts_stay = λ h. h;
    post = λ h h'. absurd (true≢false (sym h' ∙ h));
    pass = λ h h'. absurd (true≢false (sym h ∙ h'));
  }

  -- a target is passed
  pub step-passes :
      (k : ℕ) → k < length (targets m a page posts) →
      ((has_invalidate (word_at m s (word.Cmap (target_at m a page posts k).entry)) (target_at m a page posts k).processor ≡ false)
      × (has_restrict (word_at m s (word.Cmap (target_at m a page posts k).entry)) (target_at m a page posts k).processor ≡ false))
      ⊎ (is_active m (private_of m s (target_at m a page posts k).processor) (target_at m a page posts k).entry ≡ false) →
      ShotStep m s a page rem posts posts k (k + 1) q e
  step-passes k inside clear = record {
    posts_stay = λ h. h;
    post = λ h h'. absurd (true≢false (sym h' ∙ h));
    pass = λ h h'. here (sym (any-drop_more (λ (t : Target). t.entry == e && t.processor == q) no_target k (targets m a page posts) inside)
        ∙ h) h';
  }
    where
      is : (t : Target) →
          ((has_invalidate (word_at m s (word.Cmap t.entry)) t.processor ≡ false)
          × (has_restrict (word_at m s (word.Cmap t.entry)) t.processor ≡ false))
          ⊎ (is_active m (private_of m s t.processor) t.entry ≡ false) → t.entry ≡ e → t.processor ≡ q →
          ((has_invalidate (word_at m s (word.Cmap e)) q ≡ false) × (has_restrict (word_at m s (word.Cmap e)) q ≡ false))
          ⊎ (is_active m (private_of m s q) e ≡ false)
      is t clear entry processor =
          subst
          (λ r. ((has_invalidate (word_at m s (word.Cmap e)) r ≡ false) × (has_restrict (word_at m s (word.Cmap e)) r ≡ false))
          ⊎ (is_active m (private_of m s r) e ≡ false)) processor
          (subst
          (λ f. ((has_invalidate (word_at m s (word.Cmap f)) t.processor ≡ false)
          × (has_restrict (word_at m s (word.Cmap f)) t.processor ≡ false))
          ⊎ (is_active m (private_of m s t.processor) f ≡ false)) entry clear)

      first : (b d : Bool) → (b || d) ≡ true → d ≡ false → b ≡ true
      first true d h h' = refl
      first false d h h' = absurd (true≢false (sym h ∙ h'))

      here :
          ((target_at m a page posts k).entry == e && (target_at m a page posts k).processor == q || owed_by m a page posts (k + 1) e q) ≡
          true → owed_by m a page posts (k + 1) e q ≡ false →
          ((has_invalidate (word_at m s (word.Cmap e)) q ≡ false) × (has_restrict (word_at m s (word.Cmap e)) q ≡ false))
          ⊎ (is_active m (private_of m s q) e ≡ false)
      here h h' =
          let t = target_at m a page posts k in
          let parts = and_parts (t.entry == e) (t.processor == q) (first (t.entry == e && t.processor == q)
          (owed_by m a page posts (k + 1) e q) h h') in
          is t clear (eqb-true t.entry e parts.0) (eqb-true t.processor q parts.1)

  -- a mask without references counts as posted
  pub step-posts :
      (n : ℕ) → length posts < length (entries_of_page m page) →
      (e ≡ entry_posted m page posts → is_some (translation_of m s q e) ≡ false) →
      ShotStep m s a page rem posts (posts ++ n ∷ []) 0 0 q e
  step-posts n inside none = record {
    posts_stay = λ h. more ∙ left (removes_some rem) before (slice_index (entries_of_page m page) (length posts) == e) h;
    post = λ h h'. none (sym (eqb-true (slice_index (entries_of_page m page) (length posts)) e
        (last (removes_some rem) before (slice_index (entries_of_page m page) (length posts) == e) h (sym more ∙ h'))));
    pass = λ h h'.
        let es = entries_of_page m page in
        absurd (true≢false (sym (any-targets_more m a n (λ (t : Target). t.entry == e && t.processor == q) es posts inside
        ∙ or_left (list_any (λ (t : Target). t.entry == e && t.processor == q) (targets m a page posts))
        (list_any (λ (t : Target). t.entry == e && t.processor == q) (targets_of m a (slice_index es (length posts)) n)) h) ∙ h'));
  }
    where
      before : Bool
      before = list_any (λ y. y == e) (take (length posts) (entries_of_page m page))

      more :
          posted_by m page rem (posts ++ n ∷ []) e
          ≡ (removes_some rem && (before || slice_index (entries_of_page m page) (length posts) == e))
      more =
          ap (λ (k : ℕ). removes_some rem && list_any (λ y. y == e) (take k (entries_of_page m page))) (length-append posts (n ∷ []))
          ∙ ap (λ b. removes_some rem && b) (any-take_more (λ y. y == e) (length posts) (entries_of_page m page) inside)

      left : (r b d : Bool) → (r && b) ≡ true → (r && (b || d)) ≡ true
      left true true d h = refl
      left true false d h = absurd cc
      left false b d h = absurd cc

      last : (r b d : Bool) → (r && b) ≡ false → (r && (b || d)) ≡ true → d ≡ true
      last true true d h h' = absurd cc
      last true false d h h' = h'
      last false b d h h' = absurd cc

-- ---- the operation

module _ (m : Machine) (answer : Answer) (s t : Fine) (a : ℕ) (name : WordName) (number n : ℕ) (x : Session) (c : Course) (shot : Shot)
    (shoot : Shoot) (posts : List ℕ) (k' : ℕ) (limits : IsWithinLimits m) (shows : Shows m answer s) (within : a < actor_count m)
    (stands : (private_of m s a).place ≡ InSession x) (is : x.phase ≡ Shooting c shot)
    (leads : shot_after m a x.fault.page c.posts n shot ≡ shoot)
    (to : ShotPhase m answer a (private_of m s a).now x (with_posts c posts) k' (with_shoot m answer a (private_of m s a).now x c shoot))
    (named : IsTrue (is_name m name)) where
  abbrev p : Private
  p = private_of m s a

  abbrev next : Phase
  next = phase_after m answer a (private_of m s a).now x n x.phase

  abbrev after : Private
  after = at (private_of m s a) (shoot_place (with_phase x (phase_after m answer a (private_of m s a).now x n x.phase))
      (shot_after m a x.fault.page c.posts n shot))

  next-is : next ≡ with_shoot m answer a p.now x c shoot
  next-is = ap (phase_after m answer a p.now x n) is ∙ ap (with_shoot m answer a p.now x c) leads

  from-phase : ShotPhase m answer a p.now x c (shot_passed shot) x.phase
  from-phase =
      subst (ShotPhase m answer a p.now x c (shot_passed shot)) (sym is) (phase-shooting m answer a p.now x c c.posts shot)

  to-phase : ShotPhase m answer a p.now x (with_posts c posts) k' next
  to-phase = subst (ShotPhase m answer a p.now x (with_posts c posts) k') (sym next-is) to

  leaves : SessionLeaves m x.fault.page p after (with_phase x next)
  leaves = record {
    turns = refl;
    now = refl;
    guest = refl;
    journal = refl;
    pmap = λ e apart. refl;
    goes = shoot-goes (with_phase x next) (shot_after m a x.fault.page c.posts n shot);
    scan = shoot-scan (with_phase x next) (shot_after m a x.fault.page c.posts n shot);
    message = shoot-message m after (with_phase x next) (shot_after m a x.fault.page c.posts n shot);
  }

  pub shows-step :
      Changes m s t a name number (at (private_of m s a) (shoot_place (with_phase x
      (phase_after m answer a (private_of m s a).now x n x.phase)) (shot_after m a x.fault.page c.posts n shot))) None →
      KeepsWords m s t → IsTrue (is_word m name number) →
      IsReachedAlone m answer a (at (private_of m s a) (shoot_place (with_phase x
      (phase_after m answer a (private_of m s a).now x n x.phase)) (shot_after m a x.fault.page c.posts n shot))) →
      ((q e : ℕ) → q < m.nodes → e < entry_count m → page_of m e ≡ x.fault.page →
      ShotStep m s a x.fault.page (decision_of m answer a (private_of m s a).now x c).removed c.posts posts (shot_passed shot) k' q e) →
      Shows m answer t
  shows-step changes keeps encoded reached step =
      let words : ShotWords m x.fault.page s t = record {
        steady = λ other there steady. keeps other (steady-read m other there steady);
        masks = λ e below apart. keeps (word.Cmap e) refl;
      } in
      shows-shot m answer s t a name number after x c (shot_passed shot) k' posts next limits shows within stands changes named words
      leaves from-phase to-phase
      (λ q e inside below of_page. pair-ok m answer s t a name number after x c (shot_passed shot) k' posts next limits shows within stands
      changes leaves from-phase to-phase q e inside below of_page (keeps (word.Cmap e) refl) refl (step q e inside below of_page))
      (session m answer s a x limits shows within stands).fault.page encoded reached
