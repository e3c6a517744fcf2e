-- each operation of a shootdown that writes no mask keeps the invariant
use Rattle.std.specs.Prelude.{◌≡◌, ◌≢◌, ◌⊎◌, ℕ, ◌+◌, ◌^◌, ◌<◌, ◌==◌, ◌&&◌, not, if◌then◌else◌, Bool, true, false, [], ◌∷◌, ◌++◌}
use Rattle.std.specs.Prelude.{length, Option, Some, None, is_some, IsTrue, slice_get, bit_or}
use Rattle.std.proofs.Common.{refl, ap, sym, ◌∙◌, inl, inr, arith, subst, length-append}
use Rattle.std.proofs.lemmas.Bool.{ne_eqb, or_parts}
use Rattle.std.proofs.lemmas.Bool.Decides.{nat_tests}
use Rattle.std.proofs.Math.Bool.{and-false}
use Rattle.plat_base.specs.Verdicts.{Answer}
use Rattle.plat_base.specs.Machine.{Machine}
use Rattle.plat_base.specs.Pages.{space_of}
use Rattle.plat_base.specs.Rules.{names_got}
use Rattle.plat_base.specs.declared.frames.Frame.{Frame}
use Rattle.plat_base.specs.declared.items.Removed.{Removed}
use Rattle.plat_base.specs.declared.words.Op.TheVariants as op
use Rattle.plat_base.specs.declared.words.WordName.{WordName}
use Rattle.plat_base.specs.declared.words.WordName.TheVariants as word
use Rattle.plat_events.specs.Words.{has_references, has_message, has_reference, has_invalidate, has_restrict, posted_mask}
use Rattle.plat_events.specs.Places.{entry_count, is_name, is_word}
use Rattle.plat_events.specs.Operations.{written}
use Rattle.plat_events.specs.Shootdowns.{Shot, Posting, PostingOn, Asking, Interrupting, Watching, AskingAgain, Makes, Polls, Target}
use Rattle.plat_events.specs.Shootdowns.{targets, target_at, entry_posted, shot_next, ask_from, shoot_from, mask_found, is_active_in}
use Rattle.plat_events.specs.Shootdowns.{shot_after, own_post}
use Rattle.plat_events.specs.Sessions.{Course, Phase, Shooting, Storing, Session, decision_of, session_next, with_phase, with_posts}
use Rattle.plat_events.specs.Sessions.{phase_after}
use Rattle.plat_events.specs.Privates.{Place, Ticking, Lessening, Exchanging, InSession, Private, actor_count}
use Rattle.plat_events.specs.Events.{named_next, at, drop_own, shoot_place}
use Rattle.plat_events.specs.Standings.{shot_passed}
use Rattle.plat_events.specs.Kept.{has_left, is_active, word_at, private_of}
use Rattle.plat_events.specs.Views.{translation_of}
use Rattle.plat_events.specs.Runs.{Fine, event}
use Rattle.plat_events.specs.Shown.{IsReachedAlone, Shows}
use Rattle.plat_laws.specs.Guests.{IsWithinLimits}
use Rattle.plat_laws.proofs.Limits.{nodes-most}
use Rattle.plat_words.proofs.Masks.{no_references}
use Rattle.plat_local_laws.specs.Phases.{PhaseOk, SessionOk, ShootingOk, IsPostLeft, TargetOk}
use Rattle.plat_local_laws.specs.Words.{NamesWord, CountersLeft, LeavesWord}
use Rattle.plat_local_laws.proofs.NameLaws.{names_word}
use Rattle.plat_local_laws.proofs.StandingLaws.{actor-is}
use Rattle.plat_local_laws.proofs.WordLaws.{leaves_word}
use Rattle.plat_fine_laws.specs.Changes.{Changes, KeepsWords}
use Rattle.plat_fine_laws.proofs.WordLaws.{KeepsWords-loaded, KeepsWords-interrupt}
use Rattle.plat_fine_laws.proofs.SessionFootprints.{posting-changes, posting_on-changes, asking-changes, interrupting-changes}
use Rattle.plat_fine_laws.proofs.SessionFootprints.{watching-changes, asking_again-changes}
use Rattle.plat_frame_laws.proofs.HandLaws.{alone}
use Rattle.plat_frame_laws.proofs.SessionHereLaws.{here, session, reached-session}
use Rattle.plat_shootdown_laws.specs.Shots.{ShotPhase}
use Rattle.plat_shootdown_laws.proofs.ShotPhaseLaws.{got-names, phase-shooting, phase-ask_from, phase-shoot_from}
use Rattle.plat_shootdown_laws.proofs.TargetLaws.{TargetIs, target-is}
use Rattle.plat_shootdown_laws.proofs.ShotPairLaws.{ShotStep}
use Rattle.plat_shootdown_laws.proofs.ShotStepLaws.{step-stays, step-passes, step-posts, shows-step}

-- ---- numbers

-- a processor whose word does not name the space is not active in it
inactive : (left : Bool) (active space found : ℕ) → found ≡ (if left then 0 else active + 1) → (found == space + 1) ≡ false →
    (space == active && not left) ≡ false
inactive true active space found is other = and-false (space == active)
inactive false active space found is other =
    let apart : (space == active) ≡ false = grind (arith, nat_tests, is, other) in ap (λ b. b && true) apart

module _ (m : Machine) (answer : Answer) (s : Fine) (a : ℕ) (x : Session) (c : Course) (shot : Shot) (limits : IsWithinLimits m)
    (shows : Shows m answer s) (within : a < actor_count m) (stands : (private_of m s a).place ≡ InSession x)
    (is : x.phase ≡ Shooting c shot) where
  abbrev p : Private
  p = private_of m s a

  abbrev page : ℕ
  page = x.fault.page

  abbrev rem : Removed
  rem = (decision_of m answer a (private_of m s a).now x c).removed

  session-here : SessionOk m answer a p x
  session-here = session m answer s a x limits shows within stands

  pub shooting-ok : ShootingOk m answer a (private_of m s a) x c shot
  shooting-ok = subst (PhaseOk m answer a p x) is session-here.phase

  pub names : (f : Frame) → c.got ≡ Some f → names_got (decision_of m answer a (private_of m s a).now x c).action ≡ true
  names f got = got-names m answer a p x c f (actor-is m a within) session-here.fault shooting-ok.course got

  -- the word that is next, and what it is to be
  pub named : IsTrue (is_name m (shot_next m a x.fault.page (decision_of m answer a (private_of m s a).now x c).removed c.posts shot).0)
  named =
      subst (λ (ph : Phase). IsTrue (is_name m (session_next m answer a p.now x ph).0)) is
      (subst (λ (y : Place). NamesWord m (named_next m answer a p y)) stands
      (names_word m answer a p limits within (shows.reached_alone a within)))

  counters : (n : ℕ) → CountersLeft m p n
  counters n = record {
    tick = λ h. let no : InSession x ≡ Ticking = sym stands ∙ h in absurd cc;
    live = λ e h. let no : InSession x ≡ Lessening e = sym stands ∙ h in absurd cc;
    version = λ seen h. let no : InSession x ≡ Exchanging seen = sym stands ∙ h in absurd cc;
    stamp = λ y d h k.
        let same : x ≡ y = same_session x y (sym stands ∙ h) in
        let no : Shooting c shot ≡ Storing d = sym is ∙ (ap (λ (z : Session). z.phase) same ∙ k) in absurd cc;
  }
    where
      same_session : (y z : Session) → InSession y ≡ InSession z → y ≡ z
      same_session y z e = cc

  pub encoded :
      (n : ℕ) →
      IsTrue (is_word m (shot_next m a x.fault.page (decision_of m answer a (private_of m s a).now x c).removed c.posts shot).0 n) →
      IsTrue (is_word m (shot_next m a x.fault.page (decision_of m answer a (private_of m s a).now x c).removed c.posts shot).0
      (written (shot_next m a x.fault.page (decision_of m answer a (private_of m s a).now x c).removed c.posts shot).1 n))
  encoded n found =
      subst
      (λ (ph : Phase). IsTrue (is_word m (session_next m answer a p.now x ph).0 n) →
      IsTrue (is_word m (session_next m answer a p.now x ph).0 (written (session_next m answer a p.now x ph).1 n))) is
      (subst (λ (y : Place). LeavesWord m (named_next m answer a p y) n) stands
      (leaves_word m answer a p n limits (actor-is m a within) (alone m answer s limits shows a within) (counters n)))
      found

  -- ---- what the operation found

  module _ (name : WordName) (number n : ℕ)
      (changes : Changes m s (event m answer s a) a name number (at (private_of m s a) (shoot_place (with_phase x
      (phase_after m answer a (private_of m s a).now x n x.phase)) (shot_after m a x.fault.page c.posts n shot))) None)
      (there : IsTrue (is_name m name)) (keeps : KeepsWords m s (event m answer s a)) (fits : IsTrue (is_word m name number))
      (reached : IsReachedAlone m answer a (at (private_of m s a) (shoot_place (with_phase x
      (phase_after m answer a (private_of m s a).now x n x.phase)) (shot_after m a x.fault.page c.posts n shot)))) where
    -- it goes on to an operation of the same target or post
    pub goes-on :
        (shot' : Shot) → shot_passed shot' ≡ shot_passed shot → shot_after m a x.fault.page c.posts n shot ≡ Makes c.posts shot' →
        Shows m answer (event m answer s a)
    goes-on shot' passed leads =
        shows-step m answer s (event m answer s a) a name number n x c shot (Makes c.posts shot') c.posts (shot_passed shot) limits shows
        within stands is leads
        (subst (λ k. ShotPhase m answer a p.now x (with_posts c c.posts) k (Shooting (with_posts c c.posts) shot')) passed
        (phase-shooting m answer a p.now x c c.posts shot'))
        there changes keeps fits reached (λ q e inside below of_page. step-stays m s a page rem c.posts q e (shot_passed shot))

    -- it polls, and watches the target again
    pub polls-on :
        (k : ℕ) → k ≡ shot_passed shot → shot_after m a x.fault.page c.posts n shot ≡ Polls c.posts k → Shows m answer (event m answer s a)
    polls-on k passed leads =
        shows-step m answer s (event m answer s a) a name number n x c shot (Polls c.posts k) c.posts (shot_passed shot) limits shows
        within stands is leads
        (subst (λ j. ShotPhase m answer a p.now x (with_posts c c.posts) j (Shooting (with_posts c c.posts) (Watching k))) passed
        (phase-shooting m answer a p.now x c c.posts (Watching k)))
        there changes keeps fits reached (λ q e inside below of_page. step-stays m s a page rem c.posts q e (shot_passed shot))

    -- the target is passed
    pub passes-on :
        (k : ℕ) → k ≡ shot_passed shot → TargetOk m a x.fault.page c.posts k →
        shot_after m a x.fault.page c.posts n shot ≡ ask_from m a x.fault.page c.posts (k + 1) →
        ((has_invalidate (word_at m s (word.Cmap (target_at m a x.fault.page c.posts k).entry)) (target_at m a x.fault.page c.posts
        k).processor ≡ false)
        × (has_restrict (word_at m s (word.Cmap (target_at m a x.fault.page c.posts k).entry)) (target_at m a x.fault.page c.posts
        k).processor ≡ false))
        ⊎ (is_active m (private_of m s (target_at m a x.fault.page c.posts k).processor) (target_at m a x.fault.page c.posts k).entry
        ≡ false) →
        Shows m answer (event m answer s a)
    passes-on k passed target leads clear =
        shows-step m answer s (event m answer s a) a name number n x c shot (ask_from m a page c.posts (k + 1)) c.posts (k + 1) limits shows
        within stands is leads (phase-ask_from m answer a p.now x c c.posts names (k + 1) target.posted) there changes keeps fits reached
        (λ q e inside below of_page. subst (λ j. ShotStep m s a page rem c.posts c.posts j (k + 1) q e) passed
        (step-passes m s a page rem c.posts q e k target.left clear))

    -- a mask was found before a post: it goes on to the post, or counts as posted
    pub finds-mask :
        shot_passed shot ≡ 0 → IsPostLeft m x.fault.page c.posts → n ≡ word_at m s (word.Cmap (entry_posted m x.fault.page c.posts)) →
        shot_after m a x.fault.page c.posts n shot ≡ mask_found m a x.fault.page c.posts n → Shows m answer (event m answer s a)
    finds-mask passed left is_mask leads = by (has_references n) refl
      where
        none : has_references n ≡ false → (q e : ℕ) → q < m.nodes → e < entry_count m → e ≡ entry_posted m page c.posts →
            is_some (translation_of m s q e) ≡ false
        none empty q e inside below same =
            let most = nodes-most m limits in
            let clear : has_reference n q ≡ false = no_references n q empty (omega (arith, most, inside)) in
            let mask : word_at m s (word.Cmap e) ≡ n = ap (λ k. word_at m s (word.Cmap k)) same ∙ sym is_mask in
            sym (shows.reference_is_pmap q e inside below) ∙ (ap (λ k. has_reference k q) mask ∙ clear)

        by : (b : Bool) → has_references n ≡ b → Shows m answer (event m answer s a)
        by true some =
            goes-on (PostingOn n) (sym passed)
            (leads ∙ ap (λ b. if b then Makes c.posts (PostingOn n) else shoot_from m a page (c.posts ++ n ∷ [])) some)
        by false empty =
            shows-step m answer s (event m answer s a) a name number n x c shot (shoot_from m a page (c.posts ++ n ∷ [])) (c.posts ++ n ∷
            [])
            0 limits shows within stands is
            (leads ∙ ap (λ b. if b then Makes c.posts (PostingOn n) else shoot_from m a page (c.posts ++ n ∷ [])) empty)
            (phase-shoot_from m answer a p.now x c (c.posts ++ n ∷ []) names
            (let count = length-append c.posts (n ∷ []) in omega (arith, count, left)))
            there changes keeps fits reached
            (λ q e inside below of_page. subst (λ j. ShotStep m s a page rem c.posts (c.posts ++ n ∷ []) j 0 q e) (sym passed)
            (step-posts m s a page rem c.posts q e n left (none empty q e inside below)))

-- ---- the operations

module _ (m : Machine) (answer : Answer) (s : Fine) (a : ℕ) (x : Session) (c : Course) (limits : IsWithinLimits m)
    (shows : Shows m answer s) (within : a < actor_count m) (stands : (private_of m s a).place ≡ InSession x) where
  abbrev p' : Private
  p' = private_of m s a

  abbrev page' : ℕ
  page' = x.fault.page

  abbrev rem' : Removed
  rem' = (decision_of m answer a (private_of m s a).now x c).removed

  -- what an operation leaves that drops no translation of its own
  abbrev after_shot : (n : ℕ) → Shot → Private
  after_shot n shot =
      at (private_of m s a) (shoot_place (with_phase x (phase_after m answer a (private_of m s a).now x n x.phase))
      (shot_after m a x.fault.page c.posts n shot))

  -- what a post leaves that drops or lowers the own translation of an entry, or none
  abbrev after_drop : (n seen : ℕ) → Option ℕ → Private
  after_drop n seen o =
      record (at (drop_own (private_of m s a) (decision_of m answer a (private_of m s a).now x c).removed o)
      (shoot_place (with_phase x (phase_after m answer a (private_of m s a).now x n x.phase))
      (shot_after m a x.fault.page c.posts n (PostingOn seen)))) { journal = (private_of m s a).journal }

  is-here : slice_get s.privates a ≡ Some (private_of m s a)
  is-here = here m answer s a x limits shows within stands

  -- a mask is looked at before a post
  pub keeps_look : x.phase ≡ Shooting c Posting → Shows m answer (event m answer s a)
  keeps_look is =
      let name : WordName = word.Cmap (entry_posted m page' c.posts) in
      let n : ℕ = word_at m s name in
      let there = named m answer s a x c Posting limits shows within stands is in
      let found : IsTrue (is_word m name n) = shows.words_encoded name there in
      let changes : Changes m s (event m answer s a) a name n (after_shot n Posting) None =
      posting-changes m answer s a p' x is-here stands c is found in
      finds-mask m answer s a x c Posting limits shows within stands is name n n changes there
      (KeepsWords-loaded m s (event m answer s a) a name (after_shot n Posting) None changes) found
      (reached-session m answer s a x limits shows within stands (Shooting c Posting) name op.Load n is refl found)
      refl (shooting-ok m answer s a x c Posting limits shows within stands is).stands refl refl

  -- a post fails, where the mask is no more the one that was seen
  pub keeps_failed_post :
      (seen : ℕ) → x.phase ≡ Shooting c (PostingOn seen) →
      word_at m s (word.Cmap (entry_posted m x.fault.page c.posts)) ≢ seen → Shows m answer (event m answer s a)
  keeps_failed_post seen is other =
      let name : WordName = word.Cmap (entry_posted m page' c.posts) in
      let n : ℕ = word_at m s name in
      let there = named m answer s a x c (PostingOn seen) limits shows within stands is in
      let found : IsTrue (is_word m name n) = shows.words_encoded name there in
      let unequal : (n == seen) ≡ false = ne_eqb n seen other in
      let no_own : own_post m a page' c.posts n (PostingOn seen) ≡ None =
      ap (λ b. if b && has_reference n a then Some (entry_posted m page' c.posts) else None) unequal in
      let same : after_drop n seen (own_post m a page' c.posts n (PostingOn seen)) ≡ after_shot n (PostingOn seen) =
      ap (after_drop n seen) no_own in
      let changes : Changes m s (event m answer s a) a name n (after_shot n (PostingOn seen)) None =
      subst (λ (y : Private). Changes m s (event m answer s a) a name n y None) same
      (subst
      (λ k. Changes m s (event m answer s a) a name k (after_drop n seen (own_post m a page' c.posts n (PostingOn seen))) None)
      (ap (λ b. if b then posted_mask rem' a seen else n) unequal)
      (posting_on-changes m answer s a p' x is-here stands c seen is found)) in
      finds-mask m answer s a x c (PostingOn seen) limits shows within stands is name n n changes there
      (KeepsWords-loaded m s (event m answer s a) a name (after_shot n (PostingOn seen)) None changes) found
      (subst (IsReachedAlone m answer a) same
      (reached-session m answer s a x limits shows within stands (Shooting c (PostingOn seen)) name
      (op.Exchange seen (posted_mask rem' a seen)) n is refl found))
      refl (shooting-ok m answer s a x c (PostingOn seen) limits shows within stands is).stands.left refl
      (ap (λ b. if b then shoot_from m a page' (c.posts ++ n ∷ []) else mask_found m a page' c.posts n) unequal)

  -- ---- targets

  target-clear :
      (k : ℕ) → k < length (targets m a x.fault.page c.posts) →
      is_active_in m (target_at m a x.fault.page c.posts k)
      (word_at m s (word.Act (target_at m a x.fault.page c.posts k).processor)) ≡ false →
      is_active m (private_of m s (target_at m a x.fault.page c.posts k).processor) (target_at m a x.fault.page c.posts k).entry ≡ false
  target-clear k left other =
      let t : Target = target_at m a page' c.posts k in
      let target : TargetIs m page' t = target-is m a page' c.posts k left in
      inactive (has_left (private_of m s t.processor).place) (private_of m s t.processor).guest.space (space_of m t.entry)
      (word_at m s (word.Act t.processor)) (shows.act_shows t.processor target.processor) other

  -- the active space of a target is looked at
  pub keeps_ask : (k : ℕ) → x.phase ≡ Shooting c (Asking k) → Shows m answer (event m answer s a)
  keeps_ask k is = by (is_active_in m t n) refl
    where
      t : Target
      t = target_at m a page' c.posts k

      name : WordName
      name = word.Act (target_at m a page' c.posts k).processor

      n : ℕ
      n = word_at m s (word.Act (target_at m a page' c.posts k).processor)

      there : IsTrue (is_name m name)
      there = named m answer s a x c (Asking k) limits shows within stands is

      found : IsTrue (is_word m name n)
      found = shows.words_encoded name there

      changes : Changes m s (event m answer s a) a name n (after_shot n (Asking k)) None
      changes = asking-changes m answer s a p' x is-here stands c k is found

      keeps : KeepsWords m s (event m answer s a)
      keeps = KeepsWords-loaded m s (event m answer s a) a name (after_shot n (Asking k)) None changes

      reached : IsReachedAlone m answer a (after_shot n (Asking k))
      reached = reached-session m answer s a x limits shows within stands (Shooting c (Asking k)) name op.Load n is refl found

      ok : TargetOk m a page' c.posts k
      ok = (shooting-ok m answer s a x c (Asking k) limits shows within stands is).stands

      by : (b : Bool) → is_active_in m (target_at m a page' c.posts k) (word_at m s (word.Act (target_at m a page' c.posts k).processor))
          ≡ b →
          Shows m answer (event m answer s a)
      by true active =
          goes-on m answer s a x c (Asking k) limits shows within stands is name n n changes there keeps found reached (Interrupting k) refl
          (ap (λ b. if b then Makes c.posts (Interrupting k) else ask_from m a page' c.posts (k + 1)) active)
      by false other =
          passes-on m answer s a x c (Asking k) limits shows within stands is name n n changes there keeps found reached k refl ok
          (ap (λ b. if b then Makes c.posts (Interrupting k) else ask_from m a page' c.posts (k + 1)) other)
          (inr (target-clear k ok.left other))

  -- and looked at again: where it is active, a processor polls
  pub keeps_ask_again : (k : ℕ) → x.phase ≡ Shooting c (AskingAgain k) → Shows m answer (event m answer s a)
  keeps_ask_again k is = by (is_active_in m t n) refl (a == m.nodes) refl
    where
      t : Target
      t = target_at m a page' c.posts k

      name : WordName
      name = word.Act (target_at m a page' c.posts k).processor

      n : ℕ
      n = word_at m s (word.Act (target_at m a page' c.posts k).processor)

      there : IsTrue (is_name m name)
      there = named m answer s a x c (AskingAgain k) limits shows within stands is

      found : IsTrue (is_word m name n)
      found = shows.words_encoded name there

      changes : Changes m s (event m answer s a) a name n (after_shot n (AskingAgain k)) None
      changes = asking_again-changes m answer s a p' x is-here stands c k is found

      keeps : KeepsWords m s (event m answer s a)
      keeps = KeepsWords-loaded m s (event m answer s a) a name (after_shot n (AskingAgain k)) None changes

      reached : IsReachedAlone m answer a (after_shot n (AskingAgain k))
      reached = reached-session m answer s a x limits shows within stands (Shooting c (AskingAgain k)) name op.Load n is refl found

      ok : TargetOk m a page' c.posts k
      ok = (shooting-ok m answer s a x c (AskingAgain k) limits shows within stands is).stands

      leads : (b d : Bool) → is_active_in m (target_at m a page' c.posts k) (word_at m s (word.Act (target_at m a page' c.posts
          k).processor))
          ≡ b → (a == m.nodes) ≡ d →
          shot_after m a page' c.posts (word_at m s (word.Act (target_at m a page' c.posts k).processor)) (AskingAgain k)
          ≡ (if b then (if d then Makes c.posts (Watching k) else Polls c.posts k) else ask_from m a page' c.posts (k + 1))
      leads b d active daemon = λ i.
          if active i then (if daemon i then Makes c.posts (Watching k) else Polls c.posts k) else ask_from m a page' c.posts (k + 1)

      by : (b : Bool) → is_active_in m (target_at m a page' c.posts k) (word_at m s (word.Act (target_at m a page' c.posts k).processor))
          ≡ b →
          (d : Bool) → (a == m.nodes) ≡ d → Shows m answer (event m answer s a)
      by true active true daemon =
          goes-on m answer s a x c (AskingAgain k) limits shows within stands is name n n changes there keeps found reached (Watching k)
          refl
          (leads true true active daemon)
      by true active false processor =
          polls-on m answer s a x c (AskingAgain k) limits shows within stands is name n n changes there keeps found reached k refl
          (leads true false active processor)
      by false other d daemon =
          passes-on m answer s a x c (AskingAgain k) limits shows within stands is name n n changes there keeps found reached k refl ok
          (leads false d other daemon) (inr (target-clear k ok.left other))

  -- the mask is looked at while a target is waited for
  pub keeps_watch : (k : ℕ) → x.phase ≡ Shooting c (Watching k) → Shows m answer (event m answer s a)
  keeps_watch k is = by (has_message n (target_at m a page' c.posts k).processor) refl
    where
      name : WordName
      name = word.Cmap (target_at m a page' c.posts k).entry

      n : ℕ
      n = word_at m s (word.Cmap (target_at m a page' c.posts k).entry)

      there : IsTrue (is_name m name)
      there = named m answer s a x c (Watching k) limits shows within stands is

      found : IsTrue (is_word m name n)
      found = shows.words_encoded name there

      changes : Changes m s (event m answer s a) a name n (after_shot n (Watching k)) None
      changes = watching-changes m answer s a p' x is-here stands c k is found

      keeps : KeepsWords m s (event m answer s a)
      keeps = KeepsWords-loaded m s (event m answer s a) a name (after_shot n (Watching k)) None changes

      reached : IsReachedAlone m answer a (after_shot n (Watching k))
      reached = reached-session m answer s a x limits shows within stands (Shooting c (Watching k)) name op.Load n is refl found

      ok : TargetOk m a page' c.posts k
      ok = (shooting-ok m answer s a x c (Watching k) limits shows within stands is).stands

      by : (b : Bool) →
          has_message (word_at m s (word.Cmap (target_at m a page' c.posts k).entry)) (target_at m a page' c.posts k).processor ≡ b →
          Shows m answer (event m answer s a)
      by true waits =
          goes-on m answer s a x c (Watching k) limits shows within stands is name n n changes there keeps found reached (AskingAgain k)
          refl
          (ap (λ b. if b then Makes c.posts (AskingAgain k) else ask_from m a page' c.posts (k + 1)) waits)
      by false clear =
          passes-on m answer s a x c (Watching k) limits shows within stands is name n n changes there keeps found reached k refl ok
          (ap (λ b. if b then Makes c.posts (AskingAgain k) else ask_from m a page' c.posts (k + 1)) clear)
          (inl (or_parts (has_invalidate n (target_at m a page' c.posts k).processor)
          (has_restrict n (target_at m a page' c.posts k).processor) clear))

  -- a target is interrupted
  pub keeps_interrupt : (k : ℕ) → x.phase ≡ Shooting c (Interrupting k) → Shows m answer (event m answer s a)
  keeps_interrupt k is =
      let t : Target = target_at m a page' c.posts k in
      let name : WordName = word.Intr t.processor in
      let n : ℕ = word_at m s name in
      let number : ℕ = bit_or n (2 ^ space_of m t.entry) in
      let there = named m answer s a x c (Interrupting k) limits shows within stands is in
      let found : IsTrue (is_word m name n) = shows.words_encoded name there in
      let ok : TargetOk m a page' c.posts k = (shooting-ok m answer s a x c (Interrupting k) limits shows within stands is).stands in
      let target : TargetIs m page' t = target-is m a page' c.posts k ok.left in
      let changes : Changes m s (event m answer s a) a name number (after_shot n (Interrupting k)) None =
      interrupting-changes m answer s a p' x is-here stands c k is found in
      goes-on m answer s a x c (Interrupting k) limits shows within stands is name number n changes there
      (KeepsWords-interrupt m s (event m answer s a) a t.processor number (after_shot n (Interrupting k)) None target.processor changes)
      (encoded m answer s a x c (Interrupting k) limits shows within stands is n found)
      (reached-session m answer s a x limits shows within stands (Shooting c (Interrupting k)) name (op.Or (2 ^ space_of m t.entry)) n is
      refl found)
      (Watching k) refl refl
