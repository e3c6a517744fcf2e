-- the load of a stamp keeps the invariant: a frame is sought, or the row is fixed at once
use Rattle.std.specs.Prelude.{◌≡◌, ℕ, zero, suc, ◌+◌, ◌<◌, ◌≤◌, ◌&&◌, not, nat_lt, if◌then◌else◌, Bool, true, false, List, [], ◌∷◌, length}
use Rattle.std.specs.Prelude.{Option, Some, None, is_some, IsTrue}
use Rattle.std.proofs.Common.{refl, ap, sym, ◌∙◌, inl, inr, arith, subst}
use Rattle.std.specs.List.{fold, range_with_len}
use Rattle.std.specs.Option.{option_map_or}
use Rattle.std.proofs.lemmas.Bool.{true≢false, eq-eqb, lt-ltb}
use Rattle.std.proofs.lemmas.Bool.Decides.{nat_tests}
use Rattle.plat_base.specs.Verdicts.{Answer}
use Rattle.plat_base.specs.Machine.{Machine}
use Rattle.plat_base.specs.Pages.{numbers, distance, page_of, entries_of_page}
use Rattle.plat_base.specs.Copies.{same_frame}
use Rattle.plat_base.specs.Decide.{asks, is_empty}
use Rattle.plat_base.specs.Alike.{same_verdict}
use Rattle.plat_base.specs.declared.policies.Verdict.TheVariants as verdict
use Rattle.plat_base.specs.Messages.{removes_some}
use Rattle.plat_base.specs.Held.{held, has_right}
use Rattle.plat_base.specs.Directories.{dir_of, last_of, seq_of}
use Rattle.plat_base.specs.declared.frames.Frame.{Frame}
use Rattle.plat_base.specs.declared.words.Op.TheVariants as op
use Rattle.plat_base.specs.declared.words.WordName.TheVariants as word
use Rattle.plat_laws.specs.Guests.{IsWithinLimits}
use Rattle.plat_words.proofs.Numbers.{last_read-word, seq_read-word}
use Rattle.plat_events.specs.Words.{dir_read, is_locked, last_read, seq_read, stamp_word}
use Rattle.plat_events.specs.Places.{entry_count, is_name, is_word}
use Rattle.plat_events.specs.Sessions.{Stamp, Phase, Session, Stamping, Seeking, Returning, insert_near, by_distance, tried, seek_from}
use Rattle.plat_events.specs.Sessions.{with_frame_got, phase_after, with_phase}
use Rattle.plat_events.specs.Privates.{InSession, Private, actor_count}
use Rattle.plat_events.specs.Events.{at}
use Rattle.plat_events.specs.Standings.{stamp_of, hand_of, is_quiet, posts_of, removes_by, saw_no_frame, word_copied, words_filled}
use Rattle.plat_events.specs.Kept.{Running, session_on, session_of, word_at, private_of}
use Rattle.plat_events.specs.Views.{session_view, place_view, page_view, translation_of, view_of, held_view}
use Rattle.plat_events.specs.Runs.{Fine, event}
use Rattle.plat_events.specs.Shown.{kind_for, stamp_by, IsReachedAlone, Shows}
use Rattle.plat_local_laws.specs.Phases.{SessionOk}
use Rattle.plat_local_laws.proofs.CourseLaws.{IsActor}
use Rattle.plat_local_laws.proofs.StandingLaws.{actor-is}
use Rattle.plat_fine_laws.specs.Changes.{Changes, KeepsWords}
use Rattle.plat_fine_laws.proofs.WordLaws.{KeepsWords-loaded}
use Rattle.plat_fine_laws.proofs.SessionFootprints.{stamping-changes}
use Rattle.plat_frame_laws.specs.Phased.{running}
use Rattle.plat_frame_laws.specs.StartPhases.{StartPhase}
use Rattle.plat_frame_laws.proofs.StartPhaseLaws.{start-seek_from}
use Rattle.plat_frame_laws.proofs.SessionHereLaws.{here, session, reached-session}
use Rattle.plat_session_laws.specs.OnePage.{ActorGoes, SessionGoes, ViewOk}
use Rattle.plat_session_laws.proofs.SessionGoesLaws.{shows-going}
use Rattle.plat_frame_laws.proofs.StartPhaseLaws.{start-stamping}
use Rattle.plat_session_laws.proofs.UnpostedLaws.{unposted-start, given-way}
use Rattle.plat_session_laws.proofs.SteadyLaws.{steady-goes, steady-session}
use Rattle.plat_session_laws.proofs.BeginLaws.{unstamped-stamp}
use Rattle.plat_session_laws.proofs.SeqLaws.{seq-room}
use Rattle.plat_session_laws.proofs.TimeLaws.{last-fits}

-- ---- a processor seeks a frame for an empty page on some module

insert-length : (m : Machine) (node mo : ℕ) (xs : List ℕ) → length (insert_near m node mo xs) ≡ length xs + 1
insert-length m node mo [] = refl
insert-length m node mo (x ∷ xs) = by (nat_lt (distance m node mo) (distance m node x)) (insert-length m node mo xs)
  where
    by :
        (b : Bool) → length (insert_near m node mo xs) ≡ length xs + 1 →
        length (if b then mo ∷ x ∷ xs else x ∷ insert_near m node mo xs) ≡ length (x ∷ xs) + 1
    by true more = omega arith
    by false more = omega (arith, more)

fold-length :
    (m : Machine) (node : ℕ) (xs ks : List ℕ) → length (fold (λ ms mo. insert_near m node mo ms) xs ks) ≡ length xs + length ks
fold-length m node xs [] = omega arith
fold-length m node xs (k ∷ ks) = omega (arith, fold-length m node (insert_near m node k xs) ks, insert-length m node k xs)

some-module : (m : Machine) (a n : ℕ) → a < n → 0 < length (fold (λ ms mo. insert_near m a mo ms) [] (numbers n))
some-module m a zero inside = absurd (omega arith)
some-module m a (suc n) inside = omega (arith, fold-length m a [] (0 ∷ range_with_len 1 n))

seek-saw :
    (m : Machine) (answer : Answer) (a now : ℕ) (x : Session) (st : Stamp) → IsActor m a → is_empty x.dir.state ≡ true →
    saw_no_frame m a (seek_from m answer a now x st 0) ≡ false
seek-saw m answer a now x st actor empty =
    ap (λ e. saw_no_frame m a (if nat_lt 0 (length (tried m answer a now x st)) then Seeking st 0 else if e then Returning
    else with_frame_got m answer a now x st None)) empty
    ∙ by (nat_lt 0 (length (tried m answer a now x st))) refl actor
  where
    by :
        (b : Bool) → nat_lt 0 (length (tried m answer a now x st)) ≡ b → IsActor m a →
        saw_no_frame m a (if b then Seeking st 0 else Returning) ≡ false
    by true some h = refl
    by false some (inr daemon) = ap not (eq-eqb a m.nodes daemon)
    by false some (inl node) =
        let all : length (tried m answer a now x st) ≡ length (by_distance m a) =
        ap (λ e. length (if e then by_distance m a else if asks x.fault.cause x.dir a
        && same_verdict (answer x.dir st.last now) verdict.Move then a ∷ [] else []))
        empty in
        let least = some-module m a m.nodes node in
        absurd (true≢false (sym (lt-ltb 0 (length (tried m answer a now x st)) (omega (arith, all, least))) ∙ some))

module _ (m : Machine) (answer : Answer) (s : Fine) (a : ℕ) (x : Session) (limits : IsWithinLimits m) (shows : Shows m answer s)
    (within : a < actor_count m) (stands : (private_of m s a).place ≡ InSession x) (is : x.phase ≡ Stamping) where
  abbrev p : Private
  p = private_of m s a

  abbrev page : ℕ
  page = x.fault.page

  abbrev n : ℕ
  n = word_at m s (word.Stamp x.fault.page)

  abbrev st : Stamp
  st = record { last = last_read (word_at m s (word.Stamp x.fault.page)); seq = seq_read (word_at m s (word.Stamp x.fault.page)) }

  abbrev next : Phase
  next = phase_after m answer a (private_of m s a).now x (word_at m s (word.Stamp x.fault.page)) x.phase

  abbrev t : Fine
  t = event m answer s a

  abbrev after : Private
  after =
      at (private_of m s a)
      (InSession (with_phase x (phase_after m answer a (private_of m s a).now x (word_at m s (word.Stamp x.fault.page)) x.phase)))

  abbrev r : Running
  r = running a (private_of m s a).now x

  abbrev goes_on : Running
  goes_on =
      running a (private_of m s a).now
      (with_phase x (phase_after m answer a (private_of m s a).now x (word_at m s (word.Stamp x.fault.page)) x.phase))

  ok : SessionOk m answer a p x
  ok = session m answer s a x limits shows within stands

  inside : x.fault.page < m.pages
  inside = ok.fault.page

  on : session_on s.privates page ≡ Some r
  on = shows.one_session a x within (ap session_of stands)

  from : StartPhase m answer a p.now x st None x.phase
  from = subst (StartPhase m answer a p.now x st None) (sym is) (start-stamping m answer a p.now x st)

  leads : next ≡ seek_from m answer a p.now x st 0
  leads = ap (phase_after m answer a p.now x n) is

  to : StartPhase m answer a p.now x st None next
  to = subst (StartPhase m answer a p.now x st None) (sym leads) (start-seek_from m answer a p.now x st 0)

  named : IsTrue (is_name m (word.Stamp page))
  named = let below = inside in grind (arith, nat_tests)

  found : IsTrue (is_word m (word.Stamp page) n)
  found = shows.words_encoded (word.Stamp page) named

  changes : Changes m s t a (word.Stamp page) n after None
  changes = stamping-changes m answer s a p x (here m answer s a x limits shows within stands) stands is found

  reached : IsReachedAlone m answer a after
  reached = reached-session m answer s a x limits shows within stands Stamping (word.Stamp page) op.Load n is refl found

  words : KeepsWords m s t
  words = KeepsWords-loaded m s t a (word.Stamp page) after None changes

  -- the stamp says what the history says
  stamp-is : n ≡ stamp_word (last_of s.history page) (seq_of s.history page)
  stamp-is =
      shows.stamp_is_history page inside
      ∙ (ap (stamp_by m answer s.history page) on ∙ unstamped-stamp m answer s.history page r from.stamped)

  last-is : st.last ≡ last_of s.history page
  last-is = ap last_read stamp-is ∙ last_read-word (last_of s.history page) (seq_of s.history page) (last-fits m answer s page limits shows)

  seq-is : st.seq ≡ seq_of s.history page
  seq-is =
      ap seq_read stamp-is
      ∙ seq_read-word (last_of s.history page) (seq_of s.history page) (last-fits m answer s page limits shows)
      (let room = seq-room m answer s limits shows page in omega (arith, room))

  only : (P : Running → Type 0) → P goes_on → (y : Running) → Some goes_on ≡ Some y → P y
  only P own y e = let same : goes_on ≡ y = some_same goes_on y e in subst P same own
    where
      some_same : (u v : Running) → Some u ≡ Some v → u ≡ v
      some_same u v e = cc

  owes : SessionGoes m answer s t page (Some r) (Some goes_on)
  owes = record {
    lock = ap is_locked (words (word.Dir page) refl) ∙ (shows.lock_is_session page inside ∙ ap is_some on);
    dir = ap dir_read (words (word.Dir page) refl);
    stamp = words (word.Stamp page) refl ∙ (stamp-is ∙ sym (unstamped-stamp m answer s.history page goes_on to.stamped));
    dir_read_is = only (λ y. y.session.dir ≡ dir_of s.history page) (shows.dir_read_is page r on);
    stamp_read_is = λ y u e. only
        (λ z. stamp_of z.session.phase ≡ Some u → (u.last ≡ last_of s.history page) × (u.seq ≡ seq_of s.history page))
        (λ read. let same = to.stamp u read in
        (ap (λ (v : Stamp). v.last) same ∙ last-is, ap (λ (v : Stamp). v.seq) same ∙ seq-is)) y e;
    finds = λ enough. only (λ y. IsTrue (is_empty y.session.dir.state) → saw_no_frame m y.actor y.session.phase ≡ false)
        (λ empty. ap (saw_no_frame m a) leads ∙ seek-saw m answer a p.now x st (actor-is m a within) empty);
    hand = λ y f e. only
        (λ z. hand_of z.session ≡ Some f → (w : Running) × (Some r ≡ Some w) × (hand_of w.session ≡ Some f)
        × (words_filled m z.session.phase ≤ words_filled m w.session.phase))
        (λ hand. absurd (no-frame (sym to.hand ∙ hand))) y e;
    copied = only (λ y. word_copied y.session.phase ≡ None) to.copied;
    back = λ f. to.given f ∙ sym (from.given f);
    in_hand = λ f. ap (λ (o : Option Frame). option_map_or (same_frame f) o false) (to.hand ∙ sym from.hand);
    not_held = λ e y given. only
        (λ z. z.session.fault.entry ≡ Some e → has_right (kind_for z.session.fault.cause) (held m s.history z.actor e) ≡ false)
        (shows.fault_not_held page e r on) y given;
    posts = only
        (λ y. IsTrue (is_quiet y.session.phase) → IsTrue (removes_some (removes_by m answer y.actor y.now y.session)) →
        length (posts_of y.session) ≡ length (entries_of_page m page))
        (λ quiet removes. ap length to.posts ∙ to.quiet quiet removes);
  }
    where
      no-frame : {f : Frame} → None ≡ Some f → ⊥
      no-frame e = cc

  views :
      (q e : ℕ) → q < m.nodes → e < entry_count m → page_of m e ≡ page →
      ViewOk
      (view_of q (translation_of m s q e) (word_at m s (word.Cmap e)) (session_view m answer q e (translation_of m s q e) (Some goes_on))
      (place_view m (private_of m s q) e) (page_view m s (page_of m e) (translation_of m s q e)))
      (held_view m s q e)
  views q e node below there =
      given-way m answer s q e (Some r) (Some goes_on) shows node below (ap (session_on s.privates) there ∙ on)
      (unposted-start m answer a p.now x st None x.phase from q e (translation_of m s q e))
      (unposted-start m answer a p.now x st None next to q e (translation_of m s q e))

  goes : ActorGoes m a p after None page
  goes =
      steady-goes m a p after None page (steady-session m p x stands) (steady-session m after (with_phase x next) refl) refl refl refl refl
      (λ i e. absurd cc) (λ enough e. absurd cc) (λ y e. is-on x y refl (sym (ap session_of stands) ∙ e))
      (λ y e. is-on (with_phase x next) y refl e)
    where
      is-on : (z y : Session) → z.fault.page ≡ page → Some z ≡ Some y → y.fault.page ≡ page
      is-on z y own e = ap (λ o. option_map_or (λ (w : Session). w.fault.page) o page) (sym e) ∙ own

  pub keeps_stamp_load : Shows m answer (event m answer s a)
  keeps_stamp_load =
      shows-going m answer s t a (word.Stamp page) n after page limits shows within changes named (eq-eqb page page refl) goes
      (λ y there. sole y (sym on ∙ there)) refl (λ e h. absurd cc) (Some r) (Some goes_on) on refl owes inside views found reached
    where
      sole : (y : Running) → Some r ≡ Some y → y.actor ≡ a
      sole y e = ap (λ o. option_map_or (λ (z : Running). z.actor) o a) (sym e)
