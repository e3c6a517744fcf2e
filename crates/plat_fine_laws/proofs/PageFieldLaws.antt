-- what the invariant says of a page and of the session on it: it holds on where these are as they were
use Rattle.std.specs.Prelude.{◌≡◌, ℕ, ◌+◌, ◌<◌, if◌then◌else◌, false, List, length, Option, Some, None, is_some, IsTrue}
use Rattle.std.proofs.Common.{ap, sym, ◌∙◌}
use Rattle.std.specs.Option.{option_map_or}
use Rattle.plat_base.specs.Verdicts.{Answer}
use Rattle.plat_base.specs.Machine.{Machine}
use Rattle.plat_base.specs.Pages.{entries_of_page}
use Rattle.plat_base.specs.Directories.{dir_of, seq_of, last_of}
use Rattle.plat_base.specs.Held.{held, has_right}
use Rattle.plat_base.specs.Decide.{is_dir, is_empty}
use Rattle.plat_base.specs.Copies.{copy_on}
use Rattle.plat_base.specs.Messages.{removes_some}
use Rattle.plat_base.specs.Rules.{HasEnoughFrames}
use Rattle.plat_base.specs.declared.frames.Frame.{Frame}
use Rattle.plat_base.specs.declared.frames.Dir.{Dir}
use Rattle.plat_base.specs.declared.items.Item.{Item}
use Rattle.plat_base.specs.declared.words.WordName.TheVariants as word
use Rattle.plat_events.specs.Words.{dir_read, is_locked, stamp_word}
use Rattle.plat_events.specs.Sessions.{Stamp, Course, decision_of, last_stored}
use Rattle.plat_events.specs.Standings.{stamp_of, course_of, is_stamped, is_quiet, hand_of, posts_of, removes_by, saw_no_frame}
use Rattle.plat_events.specs.Kept.{Running, session_on, word_at}
use Rattle.plat_events.specs.Runs.{Fine}
use Rattle.plat_events.specs.Shown.{stamp_by, kind_for, Shows}
use Rattle.plat_fine_laws.specs.Changes.{KeepsPage}

-- the stamp reads no more of the history than the number of the page's changes and its last invalidation
pub stamp_by-same :
    (m : Machine) (answer : Answer) (items more : List Item) (page : ℕ) (r : Option Running) →
    last_of more page ≡ last_of items page → seq_of more page ≡ seq_of items page →
    stamp_by m answer more page r ≡ stamp_by m answer items page r
stamp_by-same m answer items more page None last seq = λ i. stamp_word (last i) (seq i)
stamp_by-same m answer items more page (Some r) last seq = λ i.
    if is_stamped r.session.phase
    then option_map_or
    (λ (c : Course). stamp_word (last_stored (decision_of m answer r.actor r.now r.session c) r.now (last i)) (seq i + 1))
    (course_of r.session.phase) 0
    else stamp_word (last i) (seq i)

module _ (m : Machine) (answer : Answer) (s t : Fine) (shows : Shows m answer s) (page : ℕ) (keeps : KeepsPage s t page) where
  -- the session was on the page before
  pub ran-before : (r : Running) → session_on t.privates page ≡ Some r → session_on s.privates page ≡ Some r
  ran-before r on = sym keeps.session ∙ on

  pub dir_read_is-kept : (r : Running) → session_on t.privates page ≡ Some r → r.session.dir ≡ dir_of t.history page
  dir_read_is-kept r on = shows.dir_read_is page r (ran-before r on) ∙ sym keeps.dir

  pub stamp_read_is-kept :
      (r : Running) (st : Stamp) → session_on t.privates page ≡ Some r → stamp_of r.session.phase ≡ Some st →
      (st.last ≡ last_of t.history page) × (st.seq ≡ seq_of t.history page)
  stamp_read_is-kept r st on read =
      let before = shows.stamp_read_is page r st (ran-before r on) read in (before.0 ∙ sym keeps.last, before.1 ∙ sym keeps.seq)

  pub lock_is_session-kept :
      page < m.pages → word_at m t (word.Dir page) ≡ word_at m s (word.Dir page) →
      is_locked (word_at m t (word.Dir page)) ≡ is_some (session_on t.privates page)
  lock_is_session-kept within same = ap is_locked same ∙ (shows.lock_is_session page within ∙ ap is_some (sym keeps.session))

  pub dir_is_history-kept :
      page < m.pages → word_at m t (word.Dir page) ≡ word_at m s (word.Dir page) →
      dir_read (word_at m t (word.Dir page)) ≡ dir_of t.history page
  dir_is_history-kept within same = ap dir_read same ∙ (shows.dir_is_history page within ∙ sym keeps.dir)

  pub stamp_is_history-kept :
      page < m.pages → word_at m t (word.Stamp page) ≡ word_at m s (word.Stamp page) →
      word_at m t (word.Stamp page) ≡ stamp_by m answer t.history page (session_on t.privates page)
  stamp_is_history-kept within same =
      let there : stamp_by m answer t.history page (session_on t.privates page) ≡ stamp_by m answer s.history page
      (session_on s.privates page) =
      stamp_by-same m answer s.history t.history page (session_on t.privates page) keeps.last keeps.seq
      ∙ ap (stamp_by m answer s.history page) keeps.session in
      same ∙ (shows.stamp_is_history page within ∙ sym there)

  pub copies_fit-kept : page < m.pages → IsTrue (is_dir m (dir_of t.history page))
  copies_fit-kept within = ap (is_dir m) keeps.dir ∙ shows.copies_fit page within

  pub hand_apart-kept :
      (r : Running) (f : Frame) → session_on t.privates page ≡ Some r → hand_of r.session ≡ Some f →
      copy_on f.module (dir_of t.history page).copies ≡ None
  hand_apart-kept r f on hand =
      ap (λ (d : Dir). copy_on f.module d.copies) keeps.dir ∙ shows.hand_apart page r f (ran-before r on) hand

  pub enough_finds-kept :
      HasEnoughFrames m → (r : Running) → session_on t.privates page ≡ Some r → IsTrue (is_empty r.session.dir.state) →
      saw_no_frame m r.actor r.session.phase ≡ false
  enough_finds-kept enough r on empty = shows.enough_finds enough page r (ran-before r on) empty

  pub posts_made-kept :
      (r : Running) → session_on t.privates page ≡ Some r → IsTrue (is_quiet r.session.phase) →
      IsTrue (removes_some (removes_by m answer r.actor r.now r.session)) → length (posts_of r.session) ≡ length (entries_of_page m page)
  posts_made-kept r on quiet removes = shows.posts_made page r (ran-before r on) quiet removes

  pub fault_not_held-kept :
      (e : ℕ) (r : Running) → session_on t.privates page ≡ Some r → r.session.fault.entry ≡ Some e →
      held m t.history r.actor e ≡ held m s.history r.actor e →
      has_right (kind_for r.session.fault.cause) (held m t.history r.actor e) ≡ false
  fault_not_held-kept e r on entry same =
      ap (has_right (kind_for r.session.fault.cause)) same ∙ shows.fault_not_held page e r (ran-before r on) entry
