-- the unlock of a page that stays as it was keeps the invariant: its session ends
use Rattle.std.specs.Prelude.{◌≡◌, ◌≢◌, ℕ, ◌+◌, ◌*◌, ◌/◌, ◌<◌, ◌==◌, not, nat_lt, if◌then◌else◌, Bool, true, false, Option, Some, None}
use Rattle.std.specs.Prelude.{IsTrue}
use Rattle.std.proofs.Common.{refl, ap, sym, ◌∙◌, inl, inr, arith, subst}
use Rattle.std.specs.Option.{option_map, option_map_or}
use Rattle.std.proofs.lemmas.Bool.{true≢false, eq-eqb, ne_eqb}
use Rattle.std.proofs.lemmas.Bool.Decides.{nat_tests}
use Rattle.plat_base.specs.Verdicts.{Answer}
use Rattle.plat_base.specs.Machine.{Machine}
use Rattle.plat_base.specs.Pages.{page_of}
use Rattle.plat_base.specs.Copies.{same_frame, AreCopies}
use Rattle.plat_base.specs.Rules.{HasEnoughFrames}
use Rattle.plat_base.specs.declared.endings.End.TheVariants as end
use Rattle.plat_base.specs.declared.frames.Frame.{Frame}
use Rattle.plat_base.specs.declared.words.Op.TheVariants as op
use Rattle.plat_base.specs.declared.words.WordName.TheVariants as word
use Rattle.plat_laws.specs.Guests.{IsWithinLimits}
use Rattle.plat_laws.proofs.Limits.{nodes-most, frames-most}
use Rattle.plat_words.proofs.Directories.{dir_read-word, is_locked-word}
use Rattle.plat_words.proofs.Locks.{AreCopies-dir, is_dir_word-dir}
use Rattle.plat_events.specs.Words.{dir_read, dir_word, is_locked}
use Rattle.plat_events.specs.Places.{entry_count, is_name}
use Rattle.plat_events.specs.Sessions.{Session, Returning}
use Rattle.plat_events.specs.Privates.{InSession, Locking, LiveLooking, Leaving, Private, actor_count, period}
use Rattle.plat_events.specs.Events.{at, thaw_of}
use Rattle.plat_events.specs.Standings.{saw_no_frame}
use Rattle.plat_events.specs.Kept.{Running, session_on, session_of, word_at, private_of}
use Rattle.plat_events.specs.Views.{session_view, place_view, page_view, translation_of, view_of, held_view}
use Rattle.plat_events.specs.Runs.{Fine, event}
use Rattle.plat_events.specs.Shown.{goes_to, stamp_by, IsReachedAlone, Shows}
use Rattle.plat_local_laws.specs.Phases.{PhaseOk, ReturningOk, SessionOk}
use Rattle.plat_local_laws.proofs.CourseLaws.{IsActor}
use Rattle.plat_local_laws.proofs.StandingLaws.{actor-is}
use Rattle.plat_fine_laws.specs.Changes.{Changes}
use Rattle.plat_fine_laws.proofs.WordLaws.{word_at-new, word_at-other}
use Rattle.plat_fine_laws.proofs.SessionFootprints.{returning-changes}
use Rattle.plat_frame_laws.specs.Phased.{running}
use Rattle.plat_frame_laws.specs.StartPhases.{StartPhase}
use Rattle.plat_frame_laws.proofs.SessionHereLaws.{here, session, reached-session}
use Rattle.plat_session_laws.specs.OnePage.{ActorGoes, IsSteady, SessionGoes, ViewOk}
use Rattle.plat_session_laws.proofs.SessionGoesLaws.{shows-going}
use Rattle.plat_frame_laws.proofs.StartPhaseLaws.{start-returning}
use Rattle.plat_session_laws.proofs.UnpostedLaws.{unposted-none, unposted-start, given-way}
use Rattle.plat_session_laws.proofs.SteadyLaws.{steady-goes, steady-session}
use Rattle.plat_session_laws.proofs.BeginLaws.{no_stamp, unstamped-stamp}

-- the private state behind the unlock, of the daemon or of a processor, with a next page or not
abbrev returned_by : Machine → Private → Session → (daemon more : Bool) → Private
returned_by m p x daemon more =
    record
    (if daemon
    then if more then at p (Locking (thaw_of (x.fault.page + 1)))
    else record p { due = (p.now / period m.policy + 1) * period m.policy; place = LiveLooking }
    else at p (Leaving end.NoFrames))
    { journal = p.journal }

-- what it leaves of the actor
record Returns (m : Machine) (p after : Private) : Type 0 where
  steady : IsSteady m after
  turns : after.turns ≡ p.turns
  now : after.now ≡ p.now
  space : after.guest.space ≡ p.guest.space
  journal : after.journal ≡ p.journal
  pmap : after.pmap ≡ p.pmap
  session : session_of after.place ≡ None

returns-by : (m : Machine) (p : Private) (x : Session) (daemon more : Bool) → Returns m p (returned_by m p x daemon more)
returns-by m p x true true = search arith
returns-by m p x true false = search arith
returns-by m p x false more = search arith

daemon-framed : (m : Machine) (p : Private) (x : Session) (more : Bool) → goes_to (returned_by m p x true more).place ≢ Some end.NoFrames
daemon-framed m p x true e = absurd cc
daemon-framed m p x false e = absurd cc

module _ (m : Machine) (answer : Answer) (s : Fine) (a : ℕ) (x : Session) (limits : IsWithinLimits m) (shows : Shows m answer s)
    (within : a < actor_count m) (stands : (private_of m s a).place ≡ InSession x) (is : x.phase ≡ Returning) where
  abbrev p : Private
  p = private_of m s a

  abbrev page : ℕ
  page = x.fault.page

  abbrev r : Running
  r = running a (private_of m s a).now x

  abbrev t : Fine
  t = event m answer s a

  abbrev after : Private
  after = returned_by m (private_of m s a) x (a == m.nodes) (nat_lt (x.fault.page + 1) m.pages)

  ok : SessionOk m answer a p x
  ok = session m answer s a x limits shows within stands

  returning : ReturningOk m a p x
  returning = subst (PhaseOk m answer a p x) is ok.phase

  inside : x.fault.page < m.pages
  inside = ok.fault.page

  on : session_on s.privates page ≡ Some r
  on = shows.one_session a x within (ap session_of stands)

  start : StartPhase m answer a p.now x no_stamp None x.phase
  start = subst (StartPhase m answer a p.now x no_stamp None) (sym is) (start-returning m answer a p.now x no_stamp)

  named : IsTrue (is_name m (word.Dir page))
  named = let below = inside in grind (arith, nat_tests)

  changes : Changes m s t a (word.Dir page) (dir_word x.dir false) after None
  changes = returning-changes m answer s a p x (here m answer s a x limits shows within stands) stands is

  reached : IsReachedAlone m answer a after
  reached =
      reached-session m answer s a x limits shows within stands Returning (word.Dir page) (op.Store (dir_word x.dir false)) 0 is refl refl

  copies : AreCopies x.dir.copies
  copies = AreCopies-dir m x.dir (nodes-most m limits) (frames-most m limits) ok.dir

  new-word : word_at m t (word.Dir page) ≡ dir_word x.dir false
  new-word = word_at-new m s t a (word.Dir page) (dir_word x.dir false) after None changes shows.all_words named

  stamp-named : IsTrue (is_name m (word.Stamp page))
  stamp-named = let below = inside in grind (arith, nat_tests)

  owes : SessionGoes m answer s t page (Some r) None
  owes = record {
    lock = ap is_locked new-word ∙ is_locked-word x.dir false copies;
    dir = ap dir_read new-word
        ∙ (dir_read-word x.dir false copies ∙ (shows.dir_read_is page r on ∙ sym (shows.dir_is_history page inside)));
    stamp =
        word_at-other m s t a (word.Dir page) (dir_word x.dir false) after None changes (word.Stamp page) named stamp-named (λ e. absurd cc)
        ∙ (shows.stamp_is_history page inside
        ∙ (ap (stamp_by m answer s.history page) on ∙ unstamped-stamp m answer s.history page r start.stamped));
    dir_read_is = λ y e. absurd cc;
    stamp_read_is = λ y st e read. absurd cc;
    finds = λ enough y e empty. absurd cc;
    hand = λ y f e hand. absurd cc;
    copied = λ y e. absurd cc;
    back = λ f. sym (start.given f);
    in_hand = λ f. sym (ap (λ (o : Option Frame). option_map_or (same_frame f) o false) start.hand);
    not_held = λ e y none entry. absurd cc;
    posts = λ y e quiet removes. absurd cc;
  }

  views :
      (q e : ℕ) → q < m.nodes → e < entry_count m → page_of m e ≡ page →
      ViewOk
      (view_of q (translation_of m s q e) (word_at m s (word.Cmap e)) (session_view m answer q e (translation_of m s q e) None)
      (place_view m (private_of m s q) e) (page_view m s (page_of m e) (translation_of m s q e)))
      (held_view m s q e)
  views q e node below there =
      given-way m answer s q e (Some r) None shows node below (ap (session_on s.privates) there ∙ on)
      (unposted-start m answer a p.now x no_stamp None x.phase start q e (translation_of m s q e))
      unposted-none

  -- with enough frames no processor comes here
  framed : HasEnoughFrames m → goes_to after.place ≢ Some end.NoFrames
  framed enough = by (actor-is m a within)
    where
      by : IsActor m a → goes_to after.place ≢ Some end.NoFrames
      by (inl node) =
          let saw = shows.enough_finds enough page r on (returning.empty node) in
          let other : (a == m.nodes) ≡ false = ne_eqb a m.nodes (λ e. absurd (omega arith)) in
          let finds : not (a == m.nodes) ≡ false = ap (saw_no_frame m a) (sym is) ∙ saw in
          absurd (true≢false (sym (ap not other) ∙ finds))
      by (inr daemon) =
          subst (λ b. goes_to (returned_by m p x b (nat_lt (x.fault.page + 1) m.pages)).place ≢ Some end.NoFrames)
          (sym (eq-eqb a m.nodes daemon)) (daemon-framed m p x (nat_lt (x.fault.page + 1) m.pages))

  returns : Returns m p after
  returns = returns-by m p x (a == m.nodes) (nat_lt (x.fault.page + 1) m.pages)

  goes : ActorGoes m a p after None page
  goes =
      steady-goes m a p after None page (steady-session m p x stands) returns.steady returns.turns returns.now returns.space returns.journal
      (λ i e. absurd cc) framed (λ y e. was-on y (sym (ap session_of stands) ∙ e))
      (λ y e. let none : session_of after.place ≡ None = returns.session in absurd cc)
    where
      was-on : (y : Session) → Some x ≡ Some y → y.fault.page ≡ page
      was-on y e = ap (λ o. option_map_or (λ (z : Session). z.fault.page) o page) (sym e)

  pub keeps_return : Shows m answer (event m answer s a)
  keeps_return =
      shows-going m answer s t a (word.Dir page) (dir_word x.dir false) after page limits shows within changes named (eq-eqb page page refl)
      goes
      (λ y there. sole y (sym on ∙ there)) returns.pmap (λ e h. absurd cc) (Some r) None on ended owes inside views
      (is_dir_word-dir m x.dir false (nodes-most m limits) (frames-most m limits) ok.dir) reached
    where
      sole : (y : Running) → Some r ≡ Some y → y.actor ≡ a
      sole y e = ap (λ o. option_map_or (λ (z : Running). z.actor) o a) (sym e)

      ended : option_map (λ (z : Session). running a after.now z) (session_of after.place) ≡ None
      ended = ap (option_map (λ (z : Session). running a after.now z)) returns.session
