-- sessions of one actor: what holds at each phase, whatever the words were that it found
use Rattle.std.specs.Prelude.{◌≡◌, ◌≢◌, ℕ, ◌*◌, ◌^◌, ◌<◌, ◌≤◌, Bool, true, false, List, [], length, Some, IsTrue}
use Rattle.std.specs.List.{list_all}
use Rattle.plat_base.specs.Verdicts.{Answer}
use Rattle.plat_base.specs.Machine.{Machine}
use Rattle.plat_base.specs.Pages.{entries_of_page}
use Rattle.plat_base.specs.Messages.{removes_some}
use Rattle.plat_base.specs.Decide.{is_dir, is_empty, may_decide}
use Rattle.plat_base.specs.declared.items.Action.{Action}
use Rattle.plat_base.specs.declared.items.Action.TheVariants as action
use Rattle.plat_events.specs.Words.{has_references}
use Rattle.plat_events.specs.Places.{most_changes, is_mask_word, is_data_word}
use Rattle.plat_events.specs.Shootdowns.{Shot, Posting, PostingOn, Asking, Interrupting, Watching, AskingAgain, targets}
use Rattle.plat_events.specs.Sessions.{Stamp, Course, Phase, Stamping, Seeking, Taking, Returning, Shooting, Filling, Reading, Copying}
use Rattle.plat_events.specs.Sessions.{Giving, Storing, Granting, Unlocking, Session, decision_of, entry_faulted, tried, going}
use Rattle.plat_events.specs.Sessions.{translation_made}
use Rattle.plat_events.specs.Privates.{Private, translation_at}
use Rattle.plat_local_laws.specs.Faults.{LacksRight, FaultOk}

-- ---- what a session has read

-- the last invalidation and the number of the page's changes are within the machine
pub record StampOk (m : Machine) (st : Stamp) : Type 0 where
  pub last : (tick : ℕ) → st.last ≡ Some tick → tick ≤ m.nodes * m.budget
  pub seq : st.seq ≤ most_changes

-- the row of the table is fixed
pub record CourseOk (m : Machine) (answer : Answer) (a : ℕ) (p : Private) (s : Session) (c : Course) : Type 0 where
  -- the directory is one of the machine, and the frame in hand is one that the row can use: a frame of the machine for an
  -- empty page, one of the own module or none for a page that moves, else none; and a page that is thawed is frozen
  pub may : IsTrue (may_decide m answer s.dir c.stamp.last p.now a s.fault.cause c.got)
  pub stamp : StampOk m c.stamp
  -- each mask that a post found names processors of the machine
  pub masks : IsTrue (list_all (is_mask_word m) c.posts)

-- ---- shootdowns

-- an entry is left to be posted to
abbrev pub IsPostLeft : Machine → (page : ℕ) → (posts : List ℕ) → Type 0
IsPostLeft m page posts = length posts < length (entries_of_page m page)

-- the mask that was seen has a reference, and is one of the machine
pub record PostOk (m : Machine) (page : ℕ) (posts : List ℕ) (seen : ℕ) : Type 0 where
  pub left : IsPostLeft m page posts
  pub mask : IsTrue (is_mask_word m seen)
  pub found : has_references seen ≡ true

-- every post is made, and this target is not passed
pub record TargetOk (m : Machine) (a page : ℕ) (posts : List ℕ) (k : ℕ) : Type 0 where
  pub posted : length posts ≡ length (entries_of_page m page)
  pub left : k < length (targets m a page posts)

-- a shootdown of actor a that has made these posts
abbrev pub ShotOk : Machine → (a page : ℕ) → (posts : List ℕ) → Shot → Type 0
ShotOk m a page posts Posting = IsPostLeft m page posts
ShotOk m a page posts (PostingOn seen) = PostOk m page posts seen
ShotOk m a page posts (Asking k) = TargetOk m a page posts k
ShotOk m a page posts (Interrupting k) = TargetOk m a page posts k
ShotOk m a page posts (Watching k) = TargetOk m a page posts k
ShotOk m a page posts (AskingAgain k) = TargetOk m a page posts k

-- ---- which actions have which phases

abbrev pub fills_words : Action → Bool
fills_words action.Fill = true
fills_words action.MapLocal = false
fills_words action.MapRemote = false
fills_words action.Replicate = false
fills_words action.Migrate = false
fills_words action.Collapse = false
fills_words action.Thaw = false

abbrev pub copies_words : Action → Bool
copies_words action.Fill = false
copies_words action.MapLocal = false
copies_words action.MapRemote = false
copies_words action.Replicate = true
copies_words action.Migrate = true
copies_words action.Collapse = false
copies_words action.Thaw = false

abbrev pub gives_frames : Action → Bool
gives_frames action.Fill = false
gives_frames action.MapLocal = false
gives_frames action.MapRemote = false
gives_frames action.Replicate = false
gives_frames action.Migrate = true
gives_frames action.Collapse = true
gives_frames action.Thaw = false

-- ---- the phases

-- the stamp is to be loaded: the daemon has found the page frozen
pub record StampingOk (m : Machine) (a : ℕ) (p : Private) (s : Session) : Type 0 where
  pub lacks : LacksRight m a p
  pub frozen : a ≡ m.nodes → s.dir.frozen ≡ true

-- a frame is sought: only a processor does, and this module is still to be tried
pub record SeekingOk (m : Machine) (answer : Answer) (a : ℕ) (p : Private) (s : Session) (st : Stamp) (i : ℕ) : Type 0 where
  pub processor : a < m.nodes
  pub lacks : LacksRight m a p
  pub stamp : StampOk m st
  pub left : i < length (tried m answer a p.now s st)

-- its pool was not empty
pub record TakingOk (m : Machine) (answer : Answer) (a : ℕ) (p : Private) (s : Session) (st : Stamp) (i seen : ℕ) : Type 0 where
  pub seeks : SeekingOk m answer a p s st i
  pub some : seen ≢ 0
  pub pool : seen < 2 ^ m.frames

-- the page stays as it was: a processor found no frame for an empty page, or the daemon's page is not frozen
pub record ReturningOk (m : Machine) (a : ℕ) (p : Private) (s : Session) : Type 0 where
  pub lacks : LacksRight m a p
  pub empty : a < m.nodes → is_empty s.dir.state ≡ true
  pub thawed : a ≡ m.nodes → s.dir.frozen ≡ false

-- a shootdown: something is removed
pub record ShootingOk (m : Machine) (answer : Answer) (a : ℕ) (p : Private) (s : Session) (c : Course) (shot : Shot) : Type 0 where
  pub lacks : LacksRight m a p
  pub course : CourseOk m answer a p s c
  pub removes : removes_some (decision_of m answer a p.now s c).removed ≡ true
  pub stands : ShotOk m a s.fault.page c.posts shot

-- the shootdown is over: where something is removed there was a post for each entry of the page, and else none
pub record QuietOk (m : Machine) (answer : Answer) (a : ℕ) (p : Private) (s : Session) (c : Course) : Type 0 where
  pub course : CourseOk m answer a p s c
  pub posted :
      removes_some (decision_of m answer a p.now s c).removed ≡ true → length c.posts ≡ length (entries_of_page m s.fault.page)
  pub silent : removes_some (decision_of m answer a p.now s c).removed ≡ false → c.posts ≡ []

-- a word of the frame in hand is filled or copied, by an action that does so
pub record FillingOk (m : Machine) (answer : Answer) (a : ℕ) (p : Private) (s : Session) (c : Course) (does : Action → Bool) (w : ℕ) : Type
    0 where
  pub lacks : LacksRight m a p
  pub quiet : QuietOk m answer a p s c
  pub action : does (decision_of m answer a p.now s c).action ≡ true
  pub left : w < m.words

-- the word that was read for a copy is one of the machine
pub record CopyingOk (m : Machine) (answer : Answer) (a : ℕ) (p : Private) (s : Session) (c : Course) (w seen : ℕ) : Type 0 where
  pub fills : FillingOk m answer a p s c copies_words w
  pub word : IsTrue (is_data_word m seen)

-- a frame is given back, by an action that does so
pub record GivingOk (m : Machine) (answer : Answer) (a : ℕ) (p : Private) (s : Session) (c : Course) (k : ℕ) : Type 0 where
  pub lacks : LacksRight m a p
  pub quiet : QuietOk m answer a p s c
  pub action : gives_frames (decision_of m answer a p.now s c).action ≡ true
  pub left : k < length (going s.dir (decision_of m answer a p.now s c))

-- the stamp is to be stored
pub record StoringOk (m : Machine) (answer : Answer) (a : ℕ) (p : Private) (s : Session) (c : Course) : Type 0 where
  pub lacks : LacksRight m a p
  pub quiet : QuietOk m answer a p s c

-- a processor's reference is to be set
pub record GrantingOk (m : Machine) (answer : Answer) (a : ℕ) (p : Private) (s : Session) (c : Course) : Type 0 where
  pub processor : a < m.nodes
  pub stores : StoringOk m answer a p s c

-- the unlock is next: a processor has the translation that the change grants
pub record UnlockingOk (m : Machine) (answer : Answer) (a : ℕ) (p : Private) (s : Session) (c : Course) : Type 0 where
  pub quiet : QuietOk m answer a p s c
  pub granted :
      a < m.nodes →
      translation_at p (entry_faulted m s.fault) ≡ Some (translation_made m answer a p.now s c (entry_faulted m s.fault))

abbrev pub PhaseOk : Machine → Answer → (a : ℕ) → Private → Session → Phase → Type 0
PhaseOk m answer a p s Stamping = StampingOk m a p s
PhaseOk m answer a p s (Seeking st i) = SeekingOk m answer a p s st i
PhaseOk m answer a p s (Taking st i seen) = TakingOk m answer a p s st i seen
PhaseOk m answer a p s Returning = ReturningOk m a p s
PhaseOk m answer a p s (Shooting c shot) = ShootingOk m answer a p s c shot
PhaseOk m answer a p s (Filling c w) = FillingOk m answer a p s c fills_words w
PhaseOk m answer a p s (Reading c w) = FillingOk m answer a p s c copies_words w
PhaseOk m answer a p s (Copying c w seen) = CopyingOk m answer a p s c w seen
PhaseOk m answer a p s (Giving c k) = GivingOk m answer a p s c k
PhaseOk m answer a p s (Storing c) = StoringOk m answer a p s c
PhaseOk m answer a p s (Granting c) = GrantingOk m answer a p s c
PhaseOk m answer a p s (Unlocking c) = UnlockingOk m answer a p s c

-- a session
pub record SessionOk (m : Machine) (answer : Answer) (a : ℕ) (p : Private) (s : Session) : Type 0 where
  pub fault : FaultOk m a p s.fault
  -- the directory that the lock found is one of the machine
  pub dir : IsTrue (is_dir m s.dir)
  pub phase : PhaseOk m answer a p s s.phase
