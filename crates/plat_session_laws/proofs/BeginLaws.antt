-- the lock of a directory that was found clear keeps the invariant: a session begins
use Rattle.std.specs.Prelude.{◌≡◌, ◌≢◌, ℕ, ◌<◌, ◌==◌, ◌&&◌, not, if◌then◌else◌, Bool, true, false, List, bit_or, Option, Some, None}
use Rattle.std.specs.Prelude.{is_some, IsTrue}
use Rattle.std.proofs.Common.{refl, ap, sym, ◌∙◌, inl, inr, arith, subst}
use Rattle.std.specs.Option.{option_map_or}
use Rattle.std.proofs.lemmas.Bool.{true≢false, eq-eqb}
use Rattle.std.proofs.lemmas.Bool.Decides.{nat_tests}
use Rattle.plat_base.specs.Verdicts.{Answer}
use Rattle.plat_base.specs.Machine.{Machine}
use Rattle.plat_base.specs.Pages.{page_of}
use Rattle.plat_base.specs.Copies.{same_frame}
use Rattle.plat_base.specs.GuestRun.{Reach}
use Rattle.plat_base.specs.Held.{held, has_right}
use Rattle.plat_base.specs.Directories.{dir_of, seq_of, last_of}
use Rattle.plat_base.specs.declared.frames.Frame.{Frame}
use Rattle.plat_base.specs.declared.items.Cause.{Cause}
use Rattle.plat_base.specs.declared.items.Item.{Item}
use Rattle.plat_base.specs.declared.items.Kind.TheVariants as kind
use Rattle.plat_base.specs.declared.items.Right.TheVariants as right
use Rattle.plat_base.specs.declared.words.WordName.TheVariants as word
use Rattle.plat_laws.specs.Guests.{IsWithinLimits}
use Rattle.plat_laws.proofs.Limits.{nodes-most, frames-most}
use Rattle.plat_laws.proofs.GuestLaws.{IsReach-wanted}
use Rattle.plat_words.proofs.Locks.{locked_word}
use Rattle.plat_events.specs.Words.{dir_read, is_locked, stamp_word}
use Rattle.plat_events.specs.Places.{entry_count, is_name, is_word}
use Rattle.plat_events.specs.Sessions.{Fault, Stamp, Session, Stamping, Returning}
use Rattle.plat_events.specs.Privates.{Locking, InSession, Private, actor_count}
use Rattle.plat_events.specs.Events.{at, reach_now, entry_of}
use Rattle.plat_events.specs.Standings.{stamp_of, course_of, is_quiet, is_stamped, word_copied, hand_of, saw_no_frame}
use Rattle.plat_events.specs.Kept.{Running, session_on, session_of, word_at, private_of}
use Rattle.plat_events.specs.Views.{session_view, place_view, page_view, translation_of, view_of, held_view}
use Rattle.plat_events.specs.Runs.{Fine, event}
use Rattle.plat_events.specs.Shown.{kind_for, stamp_after, stamp_by, Shows}
use Rattle.plat_local_laws.specs.Faults.{IsFaultNow}
use Rattle.plat_local_laws.specs.Standing.{LockingOk}
use Rattle.plat_local_laws.proofs.CourseLaws.{IsActor}
use Rattle.plat_local_laws.proofs.StandingLaws.{actor-is}
use Rattle.plat_fine_laws.specs.Changes.{Changes}
use Rattle.plat_fine_laws.proofs.WordLaws.{word_at-new, word_at-other}
use Rattle.plat_fine_laws.proofs.FreeLaws.{held-right}
use Rattle.plat_frame_laws.specs.Phased.{running}
use Rattle.plat_frame_laws.specs.StartPhases.{StartPhase}
use Rattle.plat_session_laws.specs.OnePage.{ActorGoes, SessionGoes, ViewOk}
use Rattle.plat_session_laws.proofs.SessionGoesLaws.{shows-going}
use Rattle.plat_frame_laws.proofs.StartPhaseLaws.{start-returning, start-stamping}
use Rattle.plat_session_laws.proofs.UnpostedLaws.{unposted-none, unposted-start, given-way}
use Rattle.plat_session_laws.proofs.SteadyLaws.{steady-goes, steady-session, steady-locking}
use Rattle.plat_session_laws.proofs.LockLaws.{begun, begins, locking, lock-named, lock-found}
use Rattle.plat_local_laws.proofs.RuleLaws.{kind_for-right}

-- the stamp that a session has not stored is the history's
pub unstamped-stamp :
    (m : Machine) (answer : Answer) (items : List Item) (page : ℕ) (r : Running) → is_stamped r.session.phase ≡ false →
    stamp_by m answer items page (Some r) ≡ stamp_by m answer items page None
unstamped-stamp m answer items page r h =
    ap
    (λ b. if b then option_map_or (stamp_after m answer items page r) (course_of r.session.phase) 0
    else stamp_word (last_of items page) (seq_of items page))
    h

pub no_stamp : Stamp
no_stamp = record { last = None; seq = 0 }

-- ---- the first phase

first-start :
    (m : Machine) (answer : Answer) (a now : ℕ) (x : Session) (b : Bool) →
    StartPhase m answer a now x no_stamp None (if b then Returning else Stamping)
first-start m answer a now x true = start-returning m answer a now x no_stamp
first-start m answer a now x false = start-stamping m answer a now x no_stamp

first-stamp : (b : Bool) (st : Stamp) → stamp_of (if b then Returning else Stamping) ≢ Some st
first-stamp true st e = absurd cc
first-stamp false st e = absurd cc

first-quiet : (b : Bool) → is_quiet (if b then Returning else Stamping) ≡ false
first-quiet true = refl
first-quiet false = refl

first-saw : (m : Machine) (a : ℕ) (c : Bool) → saw_no_frame m a (if a == m.nodes && c then Returning else Stamping) ≡ false
first-saw m a c = by (a == m.nodes) refl
  where
    last : (d : Bool) → (a == m.nodes) ≡ true → saw_no_frame m a (if d then Returning else Stamping) ≡ false
    last true is = ap not is
    last false is = refl

    by : (b : Bool) → (a == m.nodes) ≡ b → saw_no_frame m a (if b && c then Returning else Stamping) ≡ false
    by true is = last c is
    by false is = refl

module _ (m : Machine) (answer : Answer) (s : Fine) (a : ℕ) (limits : IsWithinLimits m) (shows : Shows m answer s)
    (within : a < actor_count m) (fault : Fault) (stands : (private_of m s a).place ≡ Locking fault)
    (clear : is_locked (word_at m s (word.Dir fault.page)) ≡ false) where
  abbrev p : Private
  p = private_of m s a

  abbrev page : ℕ
  page = fault.page

  abbrev n : ℕ
  n = word_at m s (word.Dir fault.page)

  abbrev first : Bool
  first = a == m.nodes && not (dir_read (word_at m s (word.Dir fault.page))).frozen

  abbrev r : Running
  r = running a p.now (begun m answer s a limits shows within fault stands)

  locks : LockingOk m a p fault
  locks = locking m answer s a limits shows within fault stands

  inside : fault.page < m.pages
  inside = locks.locks.page

  abbrev after : Private
  after = at p (InSession (begun m answer s a limits shows within fault stands))

  abbrev t : Fine
  t = event m answer s a

  changes : Changes m s t a (word.Dir page) (bit_or n 8) after None
  changes = (begins m answer s a limits shows within fault stands clear).0

  named : IsTrue (is_name m (word.Dir page))
  named = lock-named m answer s a limits shows within fault stands

  nobody : session_on s.privates page ≡ None
  nobody = by (session_on s.privates page) (sym (shows.lock_is_session page inside) ∙ clear)
    where
      by : (o : Option Running) → is_some o ≡ false → o ≡ None
      by None h = refl
      by (Some y) h = absurd cc

  start : StartPhase m answer a p.now (begun m answer s a limits shows within fault stands) no_stamp None
      (if first then Returning else Stamping)
  start = first-start m answer a p.now (begun m answer s a limits shows within fault stands) first

  written : (dir_read (bit_or n 8) ≡ dir_read n) × (is_locked (bit_or n 8) ≡ true) × IsTrue (is_word m (word.Dir page) (bit_or n 8))
  written = locked_word m n (nodes-most m limits) (frames-most m limits) (lock-found m answer s a limits shows within fault stands)

  new-word : word_at m t (word.Dir page) ≡ bit_or n 8
  new-word = word_at-new m s t a (word.Dir page) (bit_or n 8) after None changes shows.all_words named

  -- the history says that a processor holds no right for its access either
  not-held : (e : ℕ) → fault.entry ≡ Some e → has_right (kind_for fault.cause) (held m s.history a e) ≡ false
  not-held e is = by (actor-is m a within)
    where
      processor : a < m.nodes → has_right (kind_for fault.cause) (held m s.history a e) ≡ false
      processor node =
          let ok : IsFaultNow m a p fault = locks.locks.access node in
          let reach : Reach = reach_now m a p in
          let entry : entry_of m (reach_now m a p) ≡ e = some_same (entry_of m (reach_now m a p)) e (sym ok.entry ∙ is) in
          let below = (IsReach-wanted m a p.guest reach.kind reach.space reach.addr reach.operand ok.wants).below in
          let same = held-right m answer s a (entry_of m (reach_now m a p)) shows node below (ap session_of stands) reach.kind in
          ap (λ (c : Cause). has_right (kind_for c) (held m s.history a e)) ok.cause
          ∙ (kind_for-right reach.kind (held m s.history a e)
          ∙ (ap (λ k. has_right reach.kind (held m s.history a k)) (sym entry) ∙ (same ∙ locks.lacks node)))
        where
          some_same : (i k : ℕ) → Some i ≡ Some k → i ≡ k
          some_same i k h = cc

      by : IsActor m a → has_right (kind_for fault.cause) (held m s.history a e) ≡ false
      by (inl node) = processor node
      by (inr daemon) =
          let none : fault.entry ≡ None = ap (λ (y : Fault). y.entry) (locks.locks.thaw daemon) in absurd cc

  own : (y : Running) → Some r ≡ Some y → r ≡ y
  own y e = cc

  stamp-named : IsTrue (is_name m (word.Stamp page))
  stamp-named = let below = inside in grind (arith, nat_tests)

  owes : SessionGoes m answer s t page None (Some r)
  owes = record {
    lock = ap is_locked new-word ∙ written.1;
    dir = ap dir_read new-word ∙ written.0;
    stamp =
        word_at-other m s t a (word.Dir page) (bit_or n 8) after None changes (word.Stamp page) named stamp-named (λ e. absurd cc)
        ∙ (shows.stamp_is_history page inside
        ∙ (ap (stamp_by m answer s.history page) nobody ∙ sym (unstamped-stamp m answer s.history page r start.stamped)));
    dir_read_is = λ y e. subst (λ (z : Running). z.session.dir ≡ dir_of s.history page) (own y e) (shows.dir_is_history page inside);
    stamp_read_is = λ y st e read.
        absurd (first-stamp first st (subst (λ (z : Running). stamp_of z.session.phase ≡ Some st) (sym (own y e)) read));
    finds = λ enough y e empty. subst (λ (z : Running). saw_no_frame m z.actor z.session.phase ≡ false) (own y e)
        (first-saw m a (not (dir_read n).frozen));
    hand = λ y f e hand.
        let none : hand_of r.session ≡ None = start.hand in
        let some : hand_of r.session ≡ Some f = subst (λ (z : Running). hand_of z.session ≡ Some f) (sym (own y e)) hand in absurd cc;
    copied = λ y e. subst (λ (z : Running). word_copied z.session.phase ≡ None) (own y e) start.copied;
    back = λ f. start.given f;
    in_hand = λ f. ap (λ (o : Option Frame). option_map_or (same_frame f) o false) start.hand;
    not_held = λ e y is entry.
        subst
        (λ (z : Running). z.session.fault.entry ≡ Some e →
        has_right (kind_for z.session.fault.cause) (held m s.history z.actor e) ≡ false)
        (own y is) (not-held e) entry;
    posts = λ y e quiet removes.
        absurd (true≢false (sym (subst (λ (z : Running). is_quiet z.session.phase ≡ true) (sym (own y e)) quiet) ∙ first-quiet first));
  }

  views :
      (q e : ℕ) → q < m.nodes → e < entry_count m → page_of m e ≡ page →
      ViewOk
      (view_of q (translation_of m s q e) (word_at m s (word.Cmap e)) (session_view m answer q e (translation_of m s q e) (Some r))
      (place_view m (private_of m s q) e) (page_view m s (page_of m e) (translation_of m s q e)))
      (held_view m s q e)
  views q e node below there =
      given-way m answer s q e None (Some r) shows node below (ap (session_on s.privates) there ∙ nobody)
      unposted-none
      (unposted-start m answer a p.now (begun m answer s a limits shows within fault stands) no_stamp None
      (if first then Returning else Stamping) start q e (translation_of m s q e))

  goes : ActorGoes m a p after None page
  goes =
      steady-goes m a p after None page (steady-locking m p fault stands)
      (steady-session m after (begun m answer s a limits shows within fault stands) refl) refl refl refl refl (λ i e. absurd cc)
      (λ enough e. absurd cc)
      (λ y e. let none : session_of p.place ≡ None = ap session_of stands in absurd cc) (λ y e. is-on y e)
    where
      is-on : (y : Session) → Some (begun m answer s a limits shows within fault stands) ≡ Some y → y.fault.page ≡ page
      is-on y e = ap (λ o. option_map_or (λ (z : Session). z.fault.page) o page) (sym e)

  pub keeps_lock_found_clear : Shows m answer (event m answer s a)
  keeps_lock_found_clear =
      shows-going m answer s t a (word.Dir page) (bit_or n 8) after page limits shows within changes named (eq-eqb page page refl) goes
      (λ y on. let none : session_on s.privates page ≡ None = nobody in absurd cc) refl (λ e h. absurd cc) None (Some r) nobody refl owes
      inside views
      written.2 (begins m answer s a limits shows within fault stands clear).1
