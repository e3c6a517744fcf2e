-- the unlock with a change: what it owes of the lock, the directory and the stamp of its page, and of the rules of the history
use Rattle.std.specs.Prelude.{◌≡◌, ℕ, ◌+◌, ◌<◌, if◌then◌else◌, false, Some, None, IsTrue, unwrap_or, length}
use Rattle.std.proofs.Common.{refl, ap, sym, ◌∙◌, inl, inr, arith, subst}
use Rattle.std.proofs.lemmas.Bool.Decides.{nat_tests}
use Rattle.plat_base.specs.Verdicts.{Answer}
use Rattle.plat_base.specs.Machine.{Machine}
use Rattle.plat_base.specs.Copies.{AreCopies}
use Rattle.plat_base.specs.Decide.{is_dir}
use Rattle.plat_base.specs.Directories.{dir_of, last_of, seq_of, sets_last}
use Rattle.plat_base.specs.Rules.{bad_rule}
use Rattle.plat_base.specs.declared.items.Change.{Change}
use Rattle.plat_base.specs.declared.items.Item.TheVariants as item
use Rattle.plat_base.specs.declared.policies.Decision.{Decision}
use Rattle.plat_base.specs.declared.words.Op.TheVariants as op
use Rattle.plat_base.specs.declared.words.WordName.TheVariants as word
use Rattle.plat_laws.specs.Guests.{IsWithinLimits}
use Rattle.plat_laws.proofs.Limits.{nodes-most, frames-most}
use Rattle.plat_words.proofs.Directories.{dir_read-word, is_locked-word}
use Rattle.plat_words.proofs.Locks.{AreCopies-dir, is_dir_word-dir}
use Rattle.plat_events.specs.Words.{dir_read, dir_word, is_locked, stamp_word}
use Rattle.plat_events.specs.Places.{is_name, is_word}
use Rattle.plat_events.specs.Sessions.{Course, Session, Unlocking, change_made, decision_of, entry_faulted, last_stored}
use Rattle.plat_events.specs.Privates.{InSession, Private, actor_count}
use Rattle.plat_events.specs.Events.{unlocked, with_item}
use Rattle.plat_events.specs.Standings.{is_stamped}
use Rattle.plat_events.specs.Kept.{session_on, session_of, word_at, private_of}
use Rattle.plat_events.specs.Runs.{Fine, event}
use Rattle.plat_events.specs.Shown.{stamp_by, IsReachedAlone, Shows}
use Rattle.plat_local_laws.specs.Phases.{PhaseOk, SessionOk, UnlockingOk}
use Rattle.plat_local_laws.proofs.CourseLaws.{IsActor, fault_decides, thaw_decides}
use Rattle.plat_local_laws.proofs.RuleLaws.{IsReadOf, chained_change}
use Rattle.plat_local_laws.proofs.SessionLaws.{session_at}
use Rattle.plat_local_laws.proofs.StandingLaws.{actor-is}
use Rattle.plat_fine_laws.specs.Changes.{Changes}
use Rattle.plat_fine_laws.proofs.WordLaws.{word_at-new, word_at-other}
use Rattle.plat_fine_laws.proofs.SessionFootprints.{unlocking-changes}
use Rattle.plat_frame_laws.specs.Phased.{running}
use Rattle.plat_frame_laws.proofs.HandLaws.{alone}
use Rattle.plat_frame_laws.proofs.SessionHereLaws.{here, session, reached-session}
use Rattle.plat_session_laws.specs.LastPhases.{LastPhase}
use Rattle.plat_session_laws.proofs.LastLaws.{last-unlocking, stamped-by}
use Rattle.plat_session_laws.proofs.ChangeFieldLaws.{own-dir, own-last, own-seq}

-- what a decision says of the directory after, and of the last invalidation
pub record Decides (m : Machine) (d : Decision) : Type 0 where
  pub dir : IsTrue (is_dir m d.after)
  pub sets : d.sets_last ≡ sets_last d.action

module _ (m : Machine) (answer : Answer) (s : Fine) (a : ℕ) (x : Session) (c : Course) (limits : IsWithinLimits m)
    (shows : Shows m answer s)
    (within : a < actor_count m) (stands : (private_of m s a).place ≡ InSession x) (is : x.phase ≡ Unlocking c) where
  abbrev p : Private
  p = private_of m s a

  abbrev page : ℕ
  page = x.fault.page

  abbrev pub unlock-decision : Decision
  unlock-decision = decision_of m answer a (private_of m s a).now x c

  abbrev pub unlock-change : Change
  unlock-change = change_made m answer a (private_of m s a).now x c

  -- the actor's private state behind the unlock
  abbrev pub unlock-after : Private
  unlock-after =
      record (unlocked m answer a (private_of m s a) x c) {
        journal = with_item (private_of m s a).journal (Some (item.Change (change_made m answer a (private_of m s a).now x c)));
      }

  abbrev t : Fine
  t = event m answer s a

  abbrev number : ℕ
  number = dir_word (decision_of m answer a (private_of m s a).now x c).after false

  ok : SessionOk m answer a p x
  ok = session m answer s a x limits shows within stands

  pub unlock-ok : UnlockingOk m answer a (private_of m s a) x c
  unlock-ok = subst (PhaseOk m answer a p x) is ok.phase

  pub unlock-inside : x.fault.page < m.pages
  unlock-inside = ok.fault.page

  pub unlock-on : session_on s.privates x.fault.page ≡ Some (running a (private_of m s a).now x)
  unlock-on = shows.one_session a x within (ap session_of stands)

  pub unlock-last : LastPhase m a c x.phase
  unlock-last = subst (LastPhase m a c) (sym is) (last-unlocking m a c)

  pub unlock-named : IsTrue (is_name m (word.Dir x.fault.page))
  unlock-named = let below = unlock-inside in grind (arith, nat_tests)

  pub unlock-changes :
      Changes m s (event m answer s a) a (word.Dir x.fault.page)
      (dir_word (decision_of m answer a (private_of m s a).now x c).after false) unlock-after
      (Some (item.Change (change_made m answer a (private_of m s a).now x c)))
  unlock-changes = unlocking-changes m answer s a p x (here m answer s a x limits shows within stands) stands c is

  pub unlock-reached : IsReachedAlone m answer a unlock-after
  unlock-reached =
      reached-session m answer s a x limits shows within stands (Unlocking c) (word.Dir page) (op.Store number) 0 is refl refl

  pub unlock-decides : Decides m (decision_of m answer a (private_of m s a).now x c)
  unlock-decides = by (actor-is m a within)
    where
      by : IsActor m a → Decides m unlock-decision
      by (inl node) =
          let facts = fault_decides m answer a p x c ok.fault unlock-ok.quiet.course node in record { dir = facts.dir; sets = facts.sets }
      by (inr daemon) =
          let facts = (thaw_decides m answer a p x c ok.fault unlock-ok.quiet.course daemon).0 in
          record { dir = facts.dir; sets = facts.sets ∙ sym (ap sets_last facts.action) }

  copies : AreCopies unlock-decision.after.copies
  copies = AreCopies-dir m unlock-decision.after (nodes-most m limits) (frames-most m limits) unlock-decides.dir

  new-word : word_at m t (word.Dir page) ≡ number
  new-word =
      word_at-new m s t a (word.Dir page) number unlock-after (Some (item.Change unlock-change)) unlock-changes shows.all_words unlock-named

  -- the word of the directory is one that the machine may have
  pub unlock-encoded : IsTrue (is_word m (word.Dir x.fault.page) (dir_word (decision_of m answer a (private_of m s a).now x c).after false))
  unlock-encoded = is_dir_word-dir m unlock-decision.after false (nodes-most m limits) (frames-most m limits) unlock-decides.dir

  -- the lock is clear
  pub unlock-lock : is_locked (word_at m (event m answer s a) (word.Dir x.fault.page)) ≡ false
  unlock-lock = ap is_locked new-word ∙ is_locked-word unlock-decision.after false copies

  dir-after : dir_of t.history page ≡ unlock-decision.after
  dir-after = ap (λ h. dir_of h page) unlock-changes.history ∙ own-dir s.history unlock-change page refl

  -- the directory is the history's
  pub unlock-dir : dir_read (word_at m (event m answer s a) (word.Dir x.fault.page)) ≡ dir_of (event m answer s a).history x.fault.page
  unlock-dir = ap dir_read new-word ∙ (dir_read-word unlock-decision.after false copies ∙ sym dir-after)

  pub unlock-copies : IsTrue (is_dir m (dir_of (event m answer s a).history x.fault.page))
  unlock-copies = ap (is_dir m) dir-after ∙ unlock-decides.dir

  -- and so is the stamp
  pub unlock-stamp :
      word_at m (event m answer s a) (word.Stamp x.fault.page)
      ≡ stamp_word (last_of (event m answer s a).history x.fault.page) (seq_of (event m answer s a).history x.fault.page)
  unlock-stamp =
      let last : last_of t.history page ≡ last_stored unlock-decision p.now (last_of s.history page) =
      ap (λ h. last_of h page) unlock-changes.history
      ∙ (own-last s.history unlock-change page refl
      ∙ ap (λ b. if b then Some p.now else last_of s.history page) (sym unlock-decides.sets)) in
      let seq : seq_of t.history page ≡ seq_of s.history page + 1 =
      ap (λ h. seq_of h page) unlock-changes.history ∙ own-seq s.history unlock-change page refl in
      word_at-other m s t a (word.Dir page) number unlock-after (Some (item.Change unlock-change)) unlock-changes (word.Stamp page)
      unlock-named
      stamp-named (λ e. absurd cc)
      ∙ (shows.stamp_is_history page unlock-inside
      ∙ (ap (stamp_by m answer s.history page) unlock-on
      ∙ (stamped-by m answer s.history page a p.now x c (ap is_stamped is) unlock-last.course ∙ sym (λ i. stamp_word (last i) (seq i)))))
    where
      stamp-named : IsTrue (is_name m (word.Stamp page))
      stamp-named = let below = unlock-inside in grind (arith, nat_tests)

  -- ---- the rules

  read : IsReadOf m s.history a x c
  read =
      let stamp = shows.stamp_read_is page (running a p.now x) c.stamp unlock-on unlock-last.stamp in
      record {
        dir = shows.dir_read_is page (running a p.now x) unlock-on;
        last = stamp.0;
        seq = stamp.1;
        lacks = λ node.
            let fault = ok.fault.access node in
            let entry = ap (λ o. unwrap_or o (length m.entries)) fault.entry in
            shows.fault_not_held page (entry_faulted m x.fault) (running a p.now x) unlock-on
            (fault.entry ∙ ap (λ (e : ℕ). Some e) (sym entry));
      }

  -- the change breaks no rule of the history
  pub unlock-rule : bad_rule m answer s.history (item.Change (change_made m answer a (private_of m s a).now x c)) ≡ None
  unlock-rule =
      let same : x ≡ session_at x.fault x.dir (Unlocking c) = λ i. record { fault = x.fault; dir = x.dir; phase = is i } in
      let chained =
      chained_change m answer a p x.fault x.dir c s.history within (alone m answer s limits shows a within)
      (shows.journals_are_history a within) (stands ∙ ap InSession same) (subst (λ y. IsReadOf m s.history a y c) same read) in
      rw chained refl
