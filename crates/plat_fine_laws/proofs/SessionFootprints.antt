-- what the operation of each phase of a session changes
use Rattle.std.specs.Prelude.{◌≡◌, ℕ, ◌+◌, ◌^◌, false, Some, None, IsTrue, slice_get, bit_or}
use Rattle.std.proofs.Common.{refl, ap, ◌∙◌, subst}
use Rattle.plat_base.specs.Verdicts.{Answer}
use Rattle.plat_base.specs.Machine.{Machine}
use Rattle.plat_base.specs.Pages.{space_of, initial_value}
use Rattle.plat_base.specs.Decide.{nearest}
use Rattle.plat_base.specs.declared.items.Item.TheVariants as item
use Rattle.plat_base.specs.declared.words.Op.{Op}
use Rattle.plat_base.specs.declared.words.Op.TheVariants as op
use Rattle.plat_base.specs.declared.words.WordName.{WordName}
use Rattle.plat_base.specs.declared.words.WordName.TheVariants as word
use Rattle.plat_events.specs.Words.{dir_word, stamp_word, data_word, without_lowest, posted_mask, reference_place}
use Rattle.plat_events.specs.Places.{is_word}
use Rattle.plat_events.specs.Operations.{written, told}
use Rattle.plat_events.specs.Shootdowns.{Posting, PostingOn, Asking, Interrupting, Watching, AskingAgain, entry_posted, target_at}
use Rattle.plat_events.specs.Sessions.{Stamp, Course, Phase, Stamping, Seeking, Taking, Returning, Shooting, Filling, Reading, Copying}
use Rattle.plat_events.specs.Sessions.{Giving, Storing, Granting, Unlocking, Session, decision_of, entry_faulted, module_tried, memory_at}
use Rattle.plat_events.specs.Sessions.{frame_going, last_stored, session_next, change_made}
use Rattle.plat_events.specs.Privates.{Private, InSession}
use Rattle.plat_events.specs.Events.{session_moved, session_item, is_followed, with_item}
use Rattle.plat_events.specs.Kept.{word_at}
use Rattle.plat_events.specs.Runs.{Fine, event}
use Rattle.plat_fine_laws.specs.Changes.{Changes}
use Rattle.plat_fine_laws.proofs.EventLaws.{event-changes}

module _ (m : Machine) (answer : Answer) (s : Fine) (a : ℕ) (p : Private) (x : Session) (here : slice_get s.privates a ≡ Some p)
    (stands : p.place ≡ InSession x) where
  -- the private state behind an operation that told n
  abbrev pub session_private : ℕ → Phase → Private
  session_private n phase =
      record (session_moved m answer a p n x phase) { journal = with_item p.journal (session_item m answer a p.now x phase) }

  session-changes :
      (phase : Phase) (name : WordName) (operation : Op) → x.phase ≡ phase → session_next m answer a p.now x phase ≡ (name, operation) →
      IsTrue (is_followed m (Some (name, operation)) (told operation (word_at m s name))) →
      Changes m s (event m answer s a) a name (written operation (word_at m s name))
      (session_private (told operation (word_at m s name)) phase) (session_item m answer a p.now x phase)
  session-changes phase name operation is next found =
      let named : Some (session_next m answer a p.now x x.phase) ≡ Some (name, operation) =
      ap (λ (ph : Phase). Some (session_next m answer a p.now x ph)) is ∙ ap (λ (y : WordName × Op). Some y) next in
      subst
      (λ (ph : Phase). Changes m s (event m answer s a) a name (written operation (word_at m s name))
      (session_private (told operation (word_at m s name)) ph) (session_item m answer a p.now x ph)) is
      (event-changes m answer a p (InSession x) stands s name operation here named found)

  pub stamping-changes :
      x.phase ≡ Stamping → IsTrue (is_word m (word.Stamp x.fault.page) (word_at m s (word.Stamp x.fault.page))) →
      Changes m s (event m answer s a) a (word.Stamp x.fault.page) (word_at m s (word.Stamp x.fault.page))
      (session_private (word_at m s (word.Stamp x.fault.page)) Stamping) None
  stamping-changes is found = session-changes Stamping (word.Stamp x.fault.page) op.Load is refl found

  pub seeking-changes :
      (st : Stamp) (i : ℕ) → x.phase ≡ Seeking st i →
      IsTrue (is_word m (word.Pool (module_tried m answer a p.now x st i)) (word_at m s (word.Pool
      (module_tried m answer a p.now x st i)))) →
      Changes m s (event m answer s a) a (word.Pool (module_tried m answer a p.now x st i))
      (word_at m s (word.Pool (module_tried m answer a p.now x st i)))
      (session_private (word_at m s (word.Pool (module_tried m answer a p.now x st i))) (Seeking st i)) None
  seeking-changes st i is found = session-changes (Seeking st i) (word.Pool (module_tried m answer a p.now x st i)) op.Load is refl found

  pub taking-changes :
      (st : Stamp) (i seen : ℕ) → x.phase ≡ Taking st i seen →
      IsTrue (is_word m (word.Pool (module_tried m answer a p.now x st i)) (word_at m s (word.Pool
      (module_tried m answer a p.now x st i)))) →
      Changes m s (event m answer s a) a (word.Pool (module_tried m answer a p.now x st i))
      (written (op.Exchange seen (without_lowest seen)) (word_at m s (word.Pool (module_tried m answer a p.now x st i))))
      (session_private (word_at m s (word.Pool (module_tried m answer a p.now x st i))) (Taking st i seen)) None
  taking-changes st i seen is found =
      session-changes (Taking st i seen) (word.Pool (module_tried m answer a p.now x st i)) (op.Exchange seen (without_lowest seen)) is refl
      found

  pub returning-changes :
      x.phase ≡ Returning →
      Changes m s (event m answer s a) a (word.Dir x.fault.page) (dir_word x.dir false) (session_private 0 Returning) None
  returning-changes is = session-changes Returning (word.Dir x.fault.page) (op.Store (dir_word x.dir false)) is refl refl

  -- ---- a shootdown

  pub posting-changes :
      (c : Course) → x.phase ≡ Shooting c Posting →
      IsTrue (is_word m (word.Cmap (entry_posted m x.fault.page c.posts)) (word_at m s (word.Cmap (entry_posted m x.fault.page c.posts)))) →
      Changes m s (event m answer s a) a (word.Cmap (entry_posted m x.fault.page c.posts))
      (word_at m s (word.Cmap (entry_posted m x.fault.page c.posts)))
      (session_private (word_at m s (word.Cmap (entry_posted m x.fault.page c.posts))) (Shooting c Posting)) None
  posting-changes c is found =
      session-changes (Shooting c Posting) (word.Cmap (entry_posted m x.fault.page c.posts)) op.Load is refl found

  pub posting_on-changes :
      (c : Course) (seen : ℕ) → x.phase ≡ Shooting c (PostingOn seen) →
      IsTrue (is_word m (word.Cmap (entry_posted m x.fault.page c.posts)) (word_at m s (word.Cmap (entry_posted m x.fault.page c.posts)))) →
      Changes m s (event m answer s a) a (word.Cmap (entry_posted m x.fault.page c.posts))
      (written (op.Exchange seen (posted_mask (decision_of m answer a p.now x c).removed a seen))
      (word_at m s (word.Cmap (entry_posted m x.fault.page c.posts))))
      (session_private (word_at m s (word.Cmap (entry_posted m x.fault.page c.posts))) (Shooting c (PostingOn seen))) None
  posting_on-changes c seen is found =
      session-changes (Shooting c (PostingOn seen)) (word.Cmap (entry_posted m x.fault.page c.posts))
      (op.Exchange seen (posted_mask (decision_of m answer a p.now x c).removed a seen)) is refl found

  pub asking-changes :
      (c : Course) (k : ℕ) → x.phase ≡ Shooting c (Asking k) →
      IsTrue (is_word m (word.Act (target_at m a x.fault.page c.posts k).processor)
      (word_at m s (word.Act (target_at m a x.fault.page c.posts k).processor))) →
      Changes m s (event m answer s a) a (word.Act (target_at m a x.fault.page c.posts k).processor)
      (word_at m s (word.Act (target_at m a x.fault.page c.posts k).processor))
      (session_private (word_at m s (word.Act (target_at m a x.fault.page c.posts k).processor)) (Shooting c (Asking k))) None
  asking-changes c k is found =
      session-changes (Shooting c (Asking k)) (word.Act (target_at m a x.fault.page c.posts k).processor) op.Load is refl found

  pub interrupting-changes :
      (c : Course) (k : ℕ) → x.phase ≡ Shooting c (Interrupting k) →
      IsTrue (is_word m (word.Intr (target_at m a x.fault.page c.posts k).processor)
      (word_at m s (word.Intr (target_at m a x.fault.page c.posts k).processor))) →
      Changes m s (event m answer s a) a (word.Intr (target_at m a x.fault.page c.posts k).processor)
      (bit_or (word_at m s (word.Intr (target_at m a x.fault.page c.posts k).processor))
      (2 ^ space_of m (target_at m a x.fault.page c.posts k).entry))
      (session_private (word_at m s (word.Intr (target_at m a x.fault.page c.posts k).processor)) (Shooting c (Interrupting k))) None
  interrupting-changes c k is found =
      session-changes (Shooting c (Interrupting k)) (word.Intr (target_at m a x.fault.page c.posts k).processor)
      (op.Or (2 ^ space_of m (target_at m a x.fault.page c.posts k).entry)) is refl found

  pub watching-changes :
      (c : Course) (k : ℕ) → x.phase ≡ Shooting c (Watching k) →
      IsTrue (is_word m (word.Cmap (target_at m a x.fault.page c.posts k).entry)
      (word_at m s (word.Cmap (target_at m a x.fault.page c.posts k).entry))) →
      Changes m s (event m answer s a) a (word.Cmap (target_at m a x.fault.page c.posts k).entry)
      (word_at m s (word.Cmap (target_at m a x.fault.page c.posts k).entry))
      (session_private (word_at m s (word.Cmap (target_at m a x.fault.page c.posts k).entry)) (Shooting c (Watching k))) None
  watching-changes c k is found =
      session-changes (Shooting c (Watching k)) (word.Cmap (target_at m a x.fault.page c.posts k).entry) op.Load is refl found

  pub asking_again-changes :
      (c : Course) (k : ℕ) → x.phase ≡ Shooting c (AskingAgain k) →
      IsTrue (is_word m (word.Act (target_at m a x.fault.page c.posts k).processor)
      (word_at m s (word.Act (target_at m a x.fault.page c.posts k).processor))) →
      Changes m s (event m answer s a) a (word.Act (target_at m a x.fault.page c.posts k).processor)
      (word_at m s (word.Act (target_at m a x.fault.page c.posts k).processor))
      (session_private (word_at m s (word.Act (target_at m a x.fault.page c.posts k).processor)) (Shooting c (AskingAgain k))) None
  asking_again-changes c k is found =
      session-changes (Shooting c (AskingAgain k)) (word.Act (target_at m a x.fault.page c.posts k).processor) op.Load is refl found

  -- ---- the frames, the stamp, the grant and the unlock

  pub filling-changes :
      (c : Course) (w : ℕ) → x.phase ≡ Filling c w →
      Changes m s (event m answer s a) a (memory_at (decision_of m answer a p.now x c).frame w)
      (data_word (initial_value m x.fault.page w) 0) (session_private 0 (Filling c w)) None
  filling-changes c w is =
      session-changes (Filling c w) (memory_at (decision_of m answer a p.now x c).frame w)
      (op.Store (data_word (initial_value m x.fault.page w) 0)) is refl refl

  pub reading-changes :
      (c : Course) (w : ℕ) → x.phase ≡ Reading c w →
      IsTrue (is_word m (memory_at (nearest m a x.dir.copies) w) (word_at m s (memory_at (nearest m a x.dir.copies) w))) →
      Changes m s (event m answer s a) a (memory_at (nearest m a x.dir.copies) w) (word_at m s (memory_at (nearest m a x.dir.copies) w))
      (session_private (word_at m s (memory_at (nearest m a x.dir.copies) w)) (Reading c w)) None
  reading-changes c w is found = session-changes (Reading c w) (memory_at (nearest m a x.dir.copies) w) op.Load is refl found

  pub copying-changes :
      (c : Course) (w seen : ℕ) → x.phase ≡ Copying c w seen →
      Changes m s (event m answer s a) a (memory_at (decision_of m answer a p.now x c).frame w) seen
      (session_private 0 (Copying c w seen)) None
  copying-changes c w seen is =
      session-changes (Copying c w seen) (memory_at (decision_of m answer a p.now x c).frame w) (op.Store seen) is refl refl

  pub giving-changes :
      (c : Course) (k : ℕ) → x.phase ≡ Giving c k →
      IsTrue (is_word m (word.Pool (frame_going x.dir (decision_of m answer a p.now x c) k).module)
      (word_at m s (word.Pool (frame_going x.dir (decision_of m answer a p.now x c) k).module))) →
      Changes m s (event m answer s a) a (word.Pool (frame_going x.dir (decision_of m answer a p.now x c) k).module)
      (bit_or (word_at m s (word.Pool (frame_going x.dir (decision_of m answer a p.now x c) k).module))
      (2 ^ (frame_going x.dir (decision_of m answer a p.now x c) k).number))
      (session_private (word_at m s (word.Pool (frame_going x.dir (decision_of m answer a p.now x c) k).module)) (Giving c k)) None
  giving-changes c k is found =
      session-changes (Giving c k) (word.Pool (frame_going x.dir (decision_of m answer a p.now x c) k).module)
      (op.Or (2 ^ (frame_going x.dir (decision_of m answer a p.now x c) k).number)) is refl found

  pub storing-changes :
      (c : Course) → x.phase ≡ Storing c →
      Changes m s (event m answer s a) a (word.Stamp x.fault.page)
      (stamp_word (last_stored (decision_of m answer a p.now x c) p.now c.stamp.last) (c.stamp.seq + 1)) (session_private 0
      (Storing c)) None
  storing-changes c is =
      session-changes (Storing c) (word.Stamp x.fault.page)
      (op.Store (stamp_word (last_stored (decision_of m answer a p.now x c) p.now c.stamp.last) (c.stamp.seq + 1))) is refl refl

  pub granting-changes :
      (c : Course) → x.phase ≡ Granting c →
      IsTrue (is_word m (word.Cmap (entry_faulted m x.fault)) (word_at m s (word.Cmap (entry_faulted m x.fault)))) →
      Changes m s (event m answer s a) a (word.Cmap (entry_faulted m x.fault))
      (bit_or (word_at m s (word.Cmap (entry_faulted m x.fault))) (2 ^ reference_place a))
      (session_private (word_at m s (word.Cmap (entry_faulted m x.fault))) (Granting c)) None
  granting-changes c is found =
      session-changes (Granting c) (word.Cmap (entry_faulted m x.fault)) (op.Or (2 ^ reference_place a)) is refl found

  pub unlocking-changes :
      (c : Course) → x.phase ≡ Unlocking c →
      Changes m s (event m answer s a) a (word.Dir x.fault.page) (dir_word (decision_of m answer a p.now x c).after false)
      (session_private 0 (Unlocking c)) (Some (item.Change (change_made m answer a p.now x c)))
  unlocking-changes c is =
      session-changes (Unlocking c) (word.Dir x.fault.page) (op.Store (dir_word
      (decision_of m answer a p.now x c).after false)) is refl refl
