-- the store of a stamp keeps the invariant
use Rattle.std.specs.Prelude.{◌≡◌, ℕ, ◌+◌, ◌<◌, ◌*◌, ◌≤◌, ◌==◌, ◌&&◌, if◌then◌else◌, Bool, true, false, Option, Some, None, IsTrue}
use Rattle.std.proofs.Common.{refl, ap, sym, ◌∙◌, inl, inr, arith, subst}
use Rattle.std.specs.Option.{option_map_or}
use Rattle.std.proofs.lemmas.Bool.{eq-eqb, ne_eqb}
use Rattle.std.proofs.lemmas.Bool.Decides.{nat_tests}
use Rattle.std.proofs.lemmas.Nat.{mul-le}
use Rattle.std.proofs.Math.Bool.{and-false}
use Rattle.plat_base.specs.Verdicts.{Answer}
use Rattle.plat_base.specs.Machine.{Machine}
use Rattle.plat_base.specs.Pages.{page_of}
use Rattle.plat_base.specs.declared.items.Translation.{Translation}
use Rattle.plat_base.specs.declared.policies.Decision.{Decision}
use Rattle.plat_base.specs.declared.words.Op.TheVariants as op
use Rattle.plat_base.specs.declared.words.WordName.TheVariants as word
use Rattle.plat_laws.specs.Guests.{IsWithinLimits}
use Rattle.plat_laws.proofs.Limits.{nodes-most, budget-most}
use Rattle.plat_words.proofs.Numbers.{is_stamp_word-word}
use Rattle.plat_events.specs.Words.{last_number, stamp_word}
use Rattle.plat_events.specs.Places.{entry_count, is_name, is_word, most_changes}
use Rattle.plat_events.specs.Sessions.{Fault, Course, Phase, Session, Storing, Granting, Unlocking, decision_of, last_stored, phase_after}
use Rattle.plat_events.specs.Sessions.{with_phase}
use Rattle.plat_events.specs.Privates.{InSession, Private, actor_count}
use Rattle.plat_events.specs.Events.{at}
use Rattle.plat_events.specs.Standings.{is_stamped, unlocking_of}
use Rattle.plat_events.specs.Kept.{Running, session_on, session_of, word_at, private_of}
use Rattle.plat_events.specs.Views.{EntryOk, HeldOk, InvalidateStays, SessionView, PlaceView, PageView, session_view, session_viewed}
use Rattle.plat_events.specs.Views.{place_view, page_view, translation_of, view_of, held_view, view}
use Rattle.plat_events.specs.Runs.{Fine, event}
use Rattle.plat_events.specs.Shown.{stamp_by, IsReachedAlone, Shows}
use Rattle.plat_local_laws.specs.Phases.{PhaseOk, StoringOk, SessionOk}
use Rattle.plat_local_laws.proofs.CourseLaws.{IsActor}
use Rattle.plat_local_laws.proofs.StandingLaws.{actor-is}
use Rattle.plat_fine_laws.specs.Changes.{Changes}
use Rattle.plat_fine_laws.proofs.WordLaws.{word_at-new, word_at-other}
use Rattle.plat_fine_laws.proofs.SessionFootprints.{storing-changes}
use Rattle.plat_frame_laws.specs.Phased.{Continues, running}
use Rattle.plat_frame_laws.proofs.ContinueLaws.{continue_ok, continue_waits, continue_held}
use Rattle.plat_frame_laws.proofs.SessionHereLaws.{here, session, reached-session}
use Rattle.plat_session_laws.specs.OnePage.{ActorGoes, SessionGoes, ViewOk}
use Rattle.plat_session_laws.specs.LastPhases.{LastPhase}
use Rattle.plat_session_laws.proofs.SessionGoesLaws.{shows-going}
use Rattle.plat_session_laws.proofs.SteadyLaws.{steady-goes, steady-session}
use Rattle.plat_session_laws.proofs.SeqLaws.{seq-room}
use Rattle.plat_session_laws.proofs.LastLaws.{last-storing, last-granting, last-unlocking, last-continues, last-goes, stamped-by}

-- behind the store
record Stored (m : Machine) (a : ℕ) (fault : Fault) (c : Course) (ph : Phase) : Type 0 where
  last : LastPhase m a c ph
  stamped : is_stamped ph ≡ true
  grants : (e : ℕ) → option_map_or (λ (d : Course). option_map_or (λ y. y == e) fault.entry false) (unlocking_of ph) false ≡ false

stored-next : (m : Machine) (a : ℕ) (fault : Fault) (c : Course) (daemon : Bool) → (daemon ≡ true → fault.entry ≡ None) →
    Stored m a fault c (if daemon then Unlocking c else Granting c)
stored-next m a fault c true thaw = record {
  last = last-unlocking m a c;
  stamped = refl;
  grants = λ e. ap (λ (o : Option ℕ). option_map_or (λ y. y == e) o false) (thaw refl);
}
stored-next m a fault c false thaw = record { last = last-granting m a c; stamped = refl; grants = λ e. refl }

last_small :
    (b : Bool) (now most : ℕ) (last : Option ℕ) → now ≤ most → ((tick : ℕ) → last ≡ Some tick → tick ≤ most) →
    last_number (if b then Some now else last) ≤ most + 1
last_small true now most last early old = omega arith
last_small false now most None early old = omega arith
last_small false now most (Some tick) early old = let below = old tick refl in omega arith

module _ (m : Machine) (answer : Answer) (s : Fine) (a : ℕ) (x : Session) (c : Course) (limits : IsWithinLimits m)
    (shows : Shows m answer s)
    (within : a < actor_count m) (stands : (private_of m s a).place ≡ InSession x) (is : x.phase ≡ Storing c) where
  abbrev p : Private
  p = private_of m s a

  abbrev page : ℕ
  page = x.fault.page

  abbrev next : Phase
  next = phase_after m answer a (private_of m s a).now x 0 x.phase

  abbrev t : Fine
  t = event m answer s a

  abbrev after : Private
  after = at (private_of m s a) (InSession (with_phase x (phase_after m answer a (private_of m s a).now x 0 x.phase)))

  abbrev decided : Decision
  decided = decision_of m answer a (private_of m s a).now x c

  abbrev number : ℕ
  number =
      stamp_word (last_stored (decision_of m answer a (private_of m s a).now x c) (private_of m s a).now c.stamp.last) (c.stamp.seq + 1)

  ok : SessionOk m answer a p x
  ok = session m answer s a x limits shows within stands

  storing : StoringOk m answer a p x c
  storing = subst (PhaseOk m answer a p x) is ok.phase

  inside : x.fault.page < m.pages
  inside = ok.fault.page

  on : session_on s.privates page ≡ Some (running a p.now x)
  on = shows.one_session a x within (ap session_of stands)

  from : LastPhase m a c x.phase
  from = subst (LastPhase m a c) (sym is) (last-storing m a c)

  to : Stored m a x.fault c next
  to =
      subst (Stored m a x.fault c) (sym (ap (phase_after m answer a p.now x 0) is))
      (stored-next m a x.fault c (a == m.nodes) (λ daemon. thaws (actor-is m a within) daemon))
    where
      thaws : IsActor m a → (a == m.nodes) ≡ true → x.fault.entry ≡ None
      thaws (inl node) daemon = let other : (a == m.nodes) ≡ false = ne_eqb a m.nodes (λ e. absurd (omega arith)) in absurd cc
      thaws (inr same) daemon = ap (λ (f : Fault). f.entry) (ok.fault.thaw same)

  named : IsTrue (is_name m (word.Stamp page))
  named = let below = inside in grind (arith, nat_tests)

  dir-named : IsTrue (is_name m (word.Dir page))
  dir-named = let below = inside in grind (arith, nat_tests)

  changes : Changes m s t a (word.Stamp page) number after None
  changes = storing-changes m answer s a p x (here m answer s a x limits shows within stands) stands c is

  reached : IsReachedAlone m answer a after
  reached =
      reached-session m answer s a x limits shows within stands (Storing c) (word.Stamp page) (op.Store number) 0 is refl refl

  stored : word_at m t (word.Stamp page) ≡ stamp_by m answer s.history page (Some (running a p.now (with_phase x next)))
  stored =
      let read = shows.stamp_read_is page (running a p.now x) c.stamp on from.stamp in
      word_at-new m s t a (word.Stamp page) number after None changes shows.all_words named
      ∙ ((λ i. stamp_word (last_stored decided p.now (read.0 i)) (read.1 i + 1))
      ∙ sym (stamped-by m answer s.history page a p.now (with_phase x next) c to.stamped to.last.course))

  owes : SessionGoes m answer s t page (Some (running a p.now x)) (Some (running a p.now (with_phase x next)))
  owes =
      last-goes m answer a p.now x c next from to.last s t shows on inside
      (word_at-other m s t a (word.Stamp page) number after None changes (word.Dir page) named dir-named (λ e. absurd cc)) stored

  ungranted-before : (q e : ℕ) (o : Option Translation) → (session_viewed m answer q e o (running a p.now x)).granted ≡ false
  ungranted-before q e o =
      ap (λ (ph : Phase). a == q && option_map_or (λ (d : Course). option_map_or (λ y. y == e) x.fault.entry false) (unlocking_of ph) false)
      is
      ∙ and-false (a == q)

  ungranted-after : (q e : ℕ) (o : Option Translation) → (session_viewed m answer q e o (running a p.now (with_phase x next))).granted
      ≡ false
  ungranted-after q e o = ap (λ b. a == q && b) (to.grants e) ∙ and-false (a == q)

  module _ (q e : ℕ) where
    abbrev o : Option Translation
    o = translation_of m s q e

    abbrev mask : ℕ
    mask = word_at m s (word.Cmap e)

    abbrev old : SessionView
    old = session_viewed m answer q e (translation_of m s q e) (running a (private_of m s a).now x)

    abbrev new : SessionView
    new = session_viewed m answer q e (translation_of m s q e) (running a (private_of m s a).now (with_phase x next))

    abbrev pv : PlaceView
    pv = place_view m (private_of m s q) e

    abbrev gv : PageView
    gv = page_view m s (page_of m e) (translation_of m s q e)

    continues : Continues old new
    continues = last-continues m answer a p.now x c next from to.last q e o (ungranted-before q e o) (ungranted-after q e o)

    views : q < m.nodes → e < entry_count m → page_of m e ≡ page → ViewOk (view_of q o mask new pv gv) (held_view m s q e)
    views node below there = record {
      ok = continue_ok q o mask old new pv gv continues (subst EntryOk seen (shows.views q e node below));
      waits = continue_waits q o mask old new pv gv continues (subst InvalidateStays seen (shows.invalidates_stay q e node below));
      held = continue_held q o mask old new pv gv continues (held_view m s q e)
          (subst (λ v. HeldOk v (held_view m s q e)) seen (shows.held_is_pmap q e node below));
    }
      where
        seen : view m answer s q e ≡ view_of q o mask old pv gv
        seen = ap (λ r. view_of q o mask (session_view m answer q e o r) pv gv) (ap (session_on s.privates) there ∙ on)

  goes-steady : ActorGoes m a p after None page
  goes-steady =
      steady-goes m a p after None page (steady-session m p x stands) (steady-session m after (with_phase x next) refl) refl refl refl refl
      (λ i e. absurd cc) (λ enough e. absurd cc) (λ y e. is-on x y refl (sym (ap session_of stands) ∙ e))
      (λ y e. is-on (with_phase x next) y refl e)
    where
      is-on : (z y : Session) → z.fault.page ≡ page → Some z ≡ Some y → y.fault.page ≡ page
      is-on z y own e = ap (λ o. option_map_or (λ (w : Session). w.fault.page) o page) (sym e) ∙ own

  -- the stamp is within the machine where the page has room for one more change
  encoded : c.stamp.seq + 1 ≤ most_changes → IsTrue (is_word m (word.Stamp page) number)
  encoded room =
      let early : p.now ≤ m.nodes * m.budget =
      let past = shows.times_past a within in let time = time-most in omega (arith, past, time) in
      let small = last_small decided.sets_last p.now (m.nodes * m.budget) c.stamp.last early storing.quiet.course.stamp.last in
      is_stamp_word-word m (last_stored decided p.now c.stamp.last) (c.stamp.seq + 1) small
      (omega (
        arith,
        small,
        nodes-most m limits,
        budget-most m limits,
        mul-le m.nodes m.budget 8 65536 (nodes-most m limits) (budget-most m limits),
      )) room
    where
      time-most : word_at m s word.Time ≤ m.nodes * m.budget
      time-most = let within_time : IsTrue (is_word m word.Time (word_at m s word.Time)) = shows.words_encoded word.Time refl in
          grind (arith, nat_tests)

  room : c.stamp.seq + 1 ≤ most_changes
  room =
      let read = shows.stamp_read_is page (running a p.now x) c.stamp on from.stamp in
      subst (λ k. k + 1 ≤ most_changes) (sym read.1) (seq-room m answer s limits shows page)

  pub keeps_stamp_store : Shows m answer (event m answer s a)
  keeps_stamp_store =
      shows-going m answer s t a (word.Stamp page) number after page limits shows within changes named (eq-eqb page page refl) goes-steady
      (λ y there. sole y (sym on ∙ there)) refl (λ e h. absurd cc) (Some (running a p.now x)) (Some (running a p.now (with_phase x next)))
      on
      refl owes inside views (encoded room) reached
    where
      sole : (y : Running) → Some (running a p.now x) ≡ Some y → y.actor ≡ a
      sole y e = ap (λ o. option_map_or (λ (z : Running). z.actor) o a) (sym e)
