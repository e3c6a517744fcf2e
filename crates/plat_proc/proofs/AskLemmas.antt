-- what a handler asks behind its operation, and what it says of the stage that the operation led to
use Rattle.std.proofs.Common.{◌≡◌, ℕ, ◌<◌, Bool, true, false, if◌then◌else◌, List, length, refl, sym, ap, ◌∙◌, length-set}
use Rattle.std.specs.Prelude.{◌==◌, ◌&&◌, ◌^◌, IfSome, Option, Some, None, unwrap_or}
use Rattle.std.specs.Option.{option_map}
use Rattle.plat_base.specs.Machine.{Machine}
use Rattle.plat_base.specs.Held.{lowered}
use Rattle.plat_base.specs.declared.endings.End.TheVariants as end
use Rattle.plat_base.specs.declared.frames.Dir.{Dir}
use Rattle.plat_base.specs.declared.items.Change.{Change}
use Rattle.plat_base.specs.declared.items.Removed.{Removed}
use Rattle.plat_base.specs.declared.items.Removed.TheVariants as removed
use Rattle.plat_base.specs.declared.items.Translation.{Translation}
use Rattle.plat_base.specs.declared.words.Op.{Op}
use Rattle.plat_base.specs.declared.words.Op.TheVariants as op
use Rattle.plat_base.specs.declared.words.WordName.TheVariants as word
use Rattle.plat_events.specs.Words.{has_reference, is_locked, dir_read, lock_place}
use Rattle.plat_events.specs.Places.{entry_count}
use Rattle.plat_events.specs.Shootdowns.{Shot, Posting, PostingOn, Asking, Interrupting, Watching, AskingAgain, Shoot, Makes, Polls, Done}
use Rattle.plat_events.specs.Shootdowns.{entry_posted, own_post, shot_after}
use Rattle.plat_events.specs.Sessions.{Fault, Course, Phase, Stamping, Seeking, Taking, Returning, Shooting, Filling, Reading, Copying}
use Rattle.plat_events.specs.Sessions.{Giving, Storing, Granting, Unlocking, Session, change_made}
use Rattle.plat_events.specs.Privates.{Place, Polling, Relock, Rewait, Ticking, Locking, InSession, Leaving, Private}
use Rattle.plat_events.specs.Events.{named_next, next_of, placed, is_followed, at}
use Rattle.plat_shoot.specs.ShootSeen.{ShootSeen, own_by}
use Rattle.plat_shoot.specs.Steps.{ShotFits}
use Rattle.plat_shoot.specs.declared.needs.Own.{Own}
use Rattle.plat_shoot.specs.declared.needs.Own.TheVariants as own
use Rattle.plat_pmap.specs.Translations.{translation_of}
use Rattle.plat_pmap.specs.declared.atcs.Slot.{Slot}
use Rattle.plat_handler.specs.declared.asks.Ask.{Ask}
use Rattle.plat_handler.specs.declared.asks.Ask.TheVariants as ask
use Rattle.plat_handler.specs.HandlerSeen.{HandlerSeen, HandlesOn, ask_of, is_polling, is_word_asked, own_taken, removed_by}
use Rattle.plat_handler.specs.Phases.{answer_of}
use Rattle.plat_handler.specs.Stages.{Stage, Locks, Relocks, Runs, Rewaits, Returned, Changed, stage_shot, session_after, stage_after}
use Rattle.plat_handler.specs.Stages.{place_in, stage_next, own_told, own_moved, posted_own, installed_in, installed_by, granted_by}
use Rattle.plat_handler.specs.Fits.{StageFits, StageShoots, ShootFits}
use Rattle.plat_handler.proofs.FaultLemmas.{HasEntry, fault-entry}
use Rattle.plat_local_laws.proofs.NameLaws.{entry_posted-is}
use Rattle.plat_proc.specs.Granted.{granted_to, slots_granted}
use Rattle.plat_proc.specs.Owned.{IsGrantOf, IsOwnOf, given_up, installed}
use Rattle.plat_proc.specs.Places.{is_faulting, waits_in}
use Rattle.plat_proc.proofs.FaultLemmas.{StandsAt, followed_in, left_at, locked_by, pmap_by, session_at, slots_by}

-- ---- a word is asked, or a poll

-- the handler goes on, and the cache keeps what it had
pub record GoesOnByWord (stage : Stage) : Type 0 where
  pub slots : (m : Machine) (a : ℕ) (p : Private) (slots : List (Option Slot)) → slots_by m a p slots stage ≡ slots
  pub polls : is_polling stage ≡ false
  pub left : (m : Machine) (a : ℕ) (p : Private) → left_at m a p stage ≡ at p (unwrap_or (place_in stage) Ticking)

pub record GoesOnByPoll (stage : Stage) : Type 0 where
  pub slots : (m : Machine) (a : ℕ) (p : Private) (slots : List (Option Slot)) → slots_by m a p slots stage ≡ slots
  pub polls : is_polling stage ≡ true
  pub left : (m : Machine) (a : ℕ) (p : Private) → left_at m a p stage ≡ at p (Polling (waits_in stage))

is_returned : Ask → Bool
is_returned (ask.Word at op) = false
is_returned ask.Poll = false
is_returned (ask.Granted change) = false
is_returned (ask.Thawed change) = false
is_returned ask.NotFrozen = true
is_returned ask.NoFrames = true

is_changed : Ask → Bool
is_changed (ask.Word at op) = false
is_changed ask.Poll = false
is_changed (ask.Granted change) = true
is_changed (ask.Thawed change) = true
is_changed ask.NotFrozen = false
is_changed ask.NoFrames = false

returns : (b : Bool) → is_returned (if b then ask.NotFrozen else ask.NoFrames) ≡ true
unfolding is_returned
returns true = refl
returns false = refl

changes : (b : Bool) (x : Change) → is_changed (if b then ask.Thawed x else ask.Granted x) ≡ true
unfolding is_changed
changes true x = refl
changes false x = refl

no_return : (b : Bool) (x : Ask) → (if b then ask.NotFrozen else ask.NoFrames) ≡ x → is_returned x ≡ false → ⊥
no_return b x e h = let k = sym (returns b) ∙ ap is_returned e ∙ h in cc

no_change : (b : Bool) (y : Change) (x : Ask) → (if b then ask.Thawed y else ask.Granted y) ≡ x → is_changed x ≡ false → ⊥
no_change b y x e h = let k = sym (changes b y) ∙ ap is_changed e ∙ h in cc

pub asked-word : (m : Machine) (a now : ℕ) (stage : Stage) (k : ℕ) (o : Op) → ask_of m a now stage ≡ ask.Word k o → GoesOnByWord stage
unfolding is_returned is_changed
asked-word m a now (Locks f) k o e = record {
  slots = λ m a p slots. refl;
  polls = refl;
  left = λ m a p. refl;
}
asked-word m a now (Relocks f) k o e = absurd cc
asked-word m a now (Runs s) k o e = record {
  slots = λ m a p slots. refl;
  polls = refl;
  left = λ m a p. refl;
}
asked-word m a now (Rewaits s) k o e = absurd cc
asked-word m a now (Returned s) k o e = absurd (no_return (a == m.nodes) (ask.Word k o) e refl)
asked-word m a now (Changed s c) k o e =
    absurd (no_change (a == m.nodes) (change_made m (answer_of m) a now s c) (ask.Word k o) e refl)

pub asked-poll : (m : Machine) (a now : ℕ) (stage : Stage) → ask_of m a now stage ≡ ask.Poll → GoesOnByPoll stage
unfolding is_returned is_changed
asked-poll m a now (Locks f) e = absurd cc
asked-poll m a now (Relocks f) e = record {
  slots = λ m a p slots. refl;
  polls = refl;
  left = λ m a p. refl;
}
asked-poll m a now (Runs s) e = absurd cc
asked-poll m a now (Rewaits s) e = record {
  slots = λ m a p slots. refl;
  polls = refl;
  left = λ m a p. refl;
}
asked-poll m a now (Returned s) e = absurd (no_return (a == m.nodes) ask.Poll e refl)
asked-poll m a now (Changed s c) e = absurd (no_change (a == m.nodes) (change_made m (answer_of m) a now s c) ask.Poll e refl)

-- ---- the session has ended

-- no frame was found
pub record Returns (stage : Stage) : Type 0 where
  pub slots : (m : Machine) (a : ℕ) (p : Private) (slots : List (Option Slot)) → slots_by m a p slots stage ≡ slots
  pub left : (m : Machine) (a : ℕ) (p : Private) → left_at m a p stage ≡ at p (Leaving end.NoFrames)

pub asked-no_frames : (m : Machine) (a now : ℕ) (stage : Stage) → ask_of m a now stage ≡ ask.NoFrames → Returns stage
unfolding is_returned is_changed
asked-no_frames m a now (Locks f) e = absurd cc
asked-no_frames m a now (Relocks f) e = absurd cc
asked-no_frames m a now (Runs s) e = absurd cc
asked-no_frames m a now (Rewaits s) e = absurd cc
asked-no_frames m a now (Returned s) e = record { slots = λ m a p slots. refl; left = λ m a p. refl }
asked-no_frames m a now (Changed s c) e =
    absurd (no_change (a == m.nodes) (change_made m (answer_of m) a now s c) ask.NoFrames e refl)

-- ---- the change was made

-- the stage is that of a change, at the processor's private state
pub record Grants (m : Machine) (a now : ℕ) (stage : Stage) (x : Change) : Type 0 where
  pub left : (p : Private) → p.now ≡ now → left_at m a p stage ≡ granted_to m a x p
  pub slots : (p : Private) (slots : List (Option Slot)) → p.now ≡ now → slots_by m a p slots stage ≡ slots_granted m a p x slots

granted_is : (b : Bool) (y x : Change) → (if b then ask.Thawed y else ask.Granted y) ≡ ask.Granted x → y ≡ x
granted_is true y x e = absurd cc
granted_is false y x e = cc

pub asked-granted : (m : Machine) (a now : ℕ) (stage : Stage) (x : Change) → ask_of m a now stage ≡ ask.Granted x → Grants m a now stage x
unfolding is_returned
asked-granted m a now (Locks f) x e = absurd cc
asked-granted m a now (Relocks f) x e = absurd cc
asked-granted m a now (Runs s) x e = absurd cc
asked-granted m a now (Rewaits s) x e = absurd cc
asked-granted m a now (Returned s) x e = absurd (no_return (a == m.nodes) (ask.Granted x) e refl)
asked-granted m a now (Changed s c) x e =
    let same = granted_is (a == m.nodes) (change_made m (answer_of m) a now s c) x e in
    record {
      left = λ p h. ap (λ (t : ℕ). granted_to m a (change_made m (answer_of m) a t s c) p) h ∙ ap (λ (y : Change). granted_to m a y p) same;
      slots = λ p slots h.
          ap (λ (t : ℕ). slots_granted m a p (change_made m (answer_of m) a t s c) slots) h
          ∙ ap (λ (y : Change). slots_granted m a p y slots) same;
    }

-- the session that has made the change, and the own translations, which the unlock does not touch
pub record HasUnlocked (m : Machine) (a : ℕ) (p : Private) (n : ℕ) (stage : Stage) (x : Change) : Type 0 where
  pub session : Session
  pub course : Course
  pub place : p.place ≡ InSession session
  pub phase : session.phase ≡ Unlocking course
  pub change : change_made m (answer_of m) a p.now session course ≡ x
  pub followed : is_followed m (named_next m (answer_of m) a p p.place) n ≡ true
  pub pmap :
      (pmap : List (Option Translation)) →
      pmap_by m a p.now n stage (stage_after m (answer_of m) a p.now n stage) pmap ≡ pmap

runs_on : (m : Machine) (a now : ℕ) (followed : Bool) (s t : Session) (x : Change) →
    ask_of m a now (if followed then Runs t else Runs s) ≡ ask.Granted x → ⊥
runs_on m a now true s t x e = cc
runs_on m a now false s t x e = cc

shoots_on :
    (m : Machine) (a now : ℕ) (followed : Bool) (s t : Session) (shoot : Shoot) (x : Change) →
    ask_of m a now (if followed then stage_shot t shoot else Runs s) ≡ ask.Granted x → ⊥
shoots_on m a now true s t (Makes posts shot) x e = cc
shoots_on m a now true s t (Polls posts k) x e = cc
shoots_on m a now true s t (Done posts) x e = cc
shoots_on m a now false s t shoot x e = cc

locks_on :
    (m : Machine) (a now : ℕ) (f : Fault) (dir : Dir) (followed locked daemon : Bool) (x : Change) →
    ask_of m a now (if followed then locked_by f dir locked daemon else Locks f) ≡ ask.Granted x → ⊥
locks_on m a now f dir true true true x e = cc
locks_on m a now f dir true true false x e = cc
locks_on m a now f dir true false daemon x e = cc
locks_on m a now f dir false locked daemon x e = cc

kept_by : (b : Bool) (y x : Change) (t : Option Translation) (pmap : List (Option Translation)) →
    (if b then ask.Thawed y else ask.Granted y) ≡ ask.Granted x →
    installed (if is_word_asked (if b then ask.Thawed y else ask.Granted y) then t else None) pmap ≡ pmap
kept_by true y x t pmap e = absurd cc
kept_by false y x t pmap e = refl

session-unlocked :
    (m : Machine) (a : ℕ) (p : Private) (n : ℕ) (f : Fault) (d : Dir) (phase : Phase) (x : Change) →
    p.place ≡ InSession (session_at f d phase) →
    (let s = session_at f d phase in
    ask_of m a p.now (stage_after m (answer_of m) a p.now n (Runs s)) ≡ ask.Granted x → HasUnlocked m a p n (Runs s) x)
unfolding is_returned
session-unlocked m a p n f d Stamping x h e =
    let s = session_at f d Stamping in
    absurd (runs_on m a p.now (followed_in m a p n s s.phase) s (session_after m (answer_of m) a p.now n s) x e)
session-unlocked m a p n f d (Seeking st i) x h e =
    let s = session_at f d (Seeking st i) in
    absurd (runs_on m a p.now (followed_in m a p n s s.phase) s (session_after m (answer_of m) a p.now n s) x e)
session-unlocked m a p n f d (Taking st i seen) x h e =
    let s = session_at f d (Taking st i seen) in
    absurd (runs_on m a p.now (followed_in m a p n s s.phase) s (session_after m (answer_of m) a p.now n s) x e)
session-unlocked m a p n f d Returning x h e = absurd (no_return (a == m.nodes) (ask.Granted x) e refl)
session-unlocked m a p n f d (Shooting c shot) x h e =
    let s = session_at f d (Shooting c shot) in
    absurd (shoots_on m a p.now (followed_in m a p n s s.phase) s (session_after m (answer_of m) a p.now n s)
    (shot_after m a f.page c.posts n shot) x e)
session-unlocked m a p n f d (Filling c w) x h e =
    let s = session_at f d (Filling c w) in
    absurd (runs_on m a p.now (followed_in m a p n s s.phase) s (session_after m (answer_of m) a p.now n s) x e)
session-unlocked m a p n f d (Reading c w) x h e =
    let s = session_at f d (Reading c w) in
    absurd (runs_on m a p.now (followed_in m a p n s s.phase) s (session_after m (answer_of m) a p.now n s) x e)
session-unlocked m a p n f d (Copying c w seen) x h e =
    let s = session_at f d (Copying c w seen) in
    absurd (runs_on m a p.now (followed_in m a p n s s.phase) s (session_after m (answer_of m) a p.now n s) x e)
session-unlocked m a p n f d (Giving c k) x h e =
    let s = session_at f d (Giving c k) in
    absurd (runs_on m a p.now (followed_in m a p n s s.phase) s (session_after m (answer_of m) a p.now n s) x e)
session-unlocked m a p n f d (Storing c) x h e =
    let s = session_at f d (Storing c) in
    absurd (runs_on m a p.now (followed_in m a p n s s.phase) s (session_after m (answer_of m) a p.now n s) x e)
session-unlocked m a p n f d (Granting c) x h e =
    let s = session_at f d (Granting c) in
    absurd (runs_on m a p.now (followed_in m a p n s s.phase) s (session_after m (answer_of m) a p.now n s) x e)
session-unlocked m a p n f d (Unlocking c) x h e =
    let s = session_at f d (Unlocking c) in
    let change = change_made m (answer_of m) a p.now s c in
    record {
      session = s;
      course = c;
      place = h;
      phase = refl;
      change = granted_is (a == m.nodes) change x e;
      followed = ap (λ (place : Place). is_followed m (named_next m (answer_of m) a p place) n) h;
      pmap = λ pmap. kept_by (a == m.nodes) change x (granted_by m (answer_of m) a p.now s c f.entry) pmap e;
    }

pub stage-unlocked :
    (m : Machine) (a : ℕ) (p : Private) (n : ℕ) (stage : Stage) (x : Change) → StandsAt p stage →
    ask_of m a p.now (stage_after m (answer_of m) a p.now n stage) ≡ ask.Granted x → HasUnlocked m a p n stage x
stage-unlocked m a p n (Locks f) x st e =
    absurd (locks_on m a p.now f (dir_read n) (is_followed m (Some (word.Dir f.page, op.Or (2 ^ lock_place))) n) (is_locked n)
    (a == m.nodes) x e)
stage-unlocked m a p n (Relocks f) x st e =
    absurd (let e = st.place in let k = st.faulting in let here : p.place ≡ Polling (Relock f) = cc in
    let no = ap is_faulting here in cc)
stage-unlocked m a p n (Runs s) x st e =
    let place = st.place in
    let here : p.place ≡ InSession s = cc in
    session-unlocked m a p n s.fault s.dir s.phase x here e
stage-unlocked m a p n (Rewaits s) x st e =
    absurd (let e = st.place in let k = st.faulting in let here : p.place ≡ Polling (Rewait s) = cc in
    let no = ap is_faulting here in cc)
stage-unlocked m a p n (Returned s) x st e = absurd (let e = st.place in cc)
stage-unlocked m a p n (Changed s c) x st e = absurd (let e = st.place in cc)

-- ---- the operation that is asked

word_in : Ask → Option (ℕ × Op)
word_in (ask.Word at o) = Some (at, o)
word_in ask.Poll = None
word_in (ask.Granted change) = None
word_in (ask.Thawed change) = None
word_in ask.NotFrozen = None
word_in ask.NoFrames = None

pub asks-next :
    (m : Machine) (a : ℕ) (p : Private) (stage : Stage) (k : ℕ) (o : Op) → StandsAt p stage → ask_of m a p.now stage ≡ ask.Word k o →
    next_of m (answer_of m) a p ≡ Some (k, o)
unfolding next_of word_in
asks-next m a p (Locks f) k o st e =
    let place = st.place in
    let here : p.place ≡ Locking f = cc in
    ap (λ (place : Place). option_map (placed m) (named_next m (answer_of m) a p place)) here ∙ ap word_in e
asks-next m a p (Relocks f) k o st e = absurd cc
asks-next m a p (Runs s) k o st e =
    let place = st.place in
    let here : p.place ≡ InSession s = cc in
    ap (λ (place : Place). option_map (placed m) (named_next m (answer_of m) a p place)) here ∙ ap word_in e
asks-next m a p (Rewaits s) k o st e = absurd cc
asks-next m a p (Returned s) k o st e = absurd (let e = st.place in cc)
asks-next m a p (Changed s c) k o st e = absurd (let e = st.place in cc)

-- ---- what is taken of the own translations, and what is granted, is of entries of the machine

own_by-within : (k : ℕ) (rem : Removed) (entry : Option ℕ) → IfSome entry (λ e. e < k) → IsOwnOf k (own_by rem entry)
own_by-within k rem None h = tt
own_by-within k removed.Nothing (Some e) h = tt
own_by-within k removed.Writes (Some e) h = h
own_by-within k removed.All (Some e) h = h

some-within : (k e : ℕ) (b : Bool) → e < k → IfSome (if b then Some e else None) (λ e. e < k)
some-within k e true h = h
some-within k e false h = tt

if-within : (k : ℕ) (entry : Option ℕ) (b : Bool) → IfSome entry (λ e. e < k) → IfSome (if b then entry else None) (λ e. e < k)
if-within k entry true h = h
if-within k entry false h = tt

shot-within :
    (m : Machine) (a page : ℕ) (posts : List ℕ) (n : ℕ) (shot : Shot) → ShotFits m a page posts shot →
    IfSome (own_post m a page posts n shot) (λ e. e < entry_count m)
shot-within m a page posts n Posting h = tt
shot-within m a page posts n (PostingOn seen) h =
    some-within (entry_count m) (entry_posted m page posts) (n == seen && has_reference n a) (entry_posted-is m page posts h.0).0
shot-within m a page posts n (Asking k) h = tt
shot-within m a page posts n (Interrupting k) h = tt
shot-within m a page posts n (Watching k) h = tt
shot-within m a page posts n (AskingAgain k) h = tt

posted-within :
    (m : Machine) (a now n : ℕ) (s : Session) (seen : Option ShootSeen) (phase : Phase) → ShootFits m a now s seen phase →
    IfSome (posted_own m a n s phase) (λ e. e < entry_count m)
posted-within m a now n s seen Stamping h = tt
posted-within m a now n s seen (Seeking st i) h = tt
posted-within m a now n s seen (Taking st i pool) h = tt
posted-within m a now n s seen Returning h = tt
posted-within m a now n s seen (Shooting c shot) h = shot-within m a s.fault.page c.posts n shot h.on.shoot
posted-within m a now n s seen (Filling c w) h = tt
posted-within m a now n s seen (Reading c w) h = tt
posted-within m a now n s seen (Copying c w pool) h = tt
posted-within m a now n s seen (Giving c k) h = tt
posted-within m a now n s seen (Storing c) h = tt
posted-within m a now n s seen (Granting c) h = tt
posted-within m a now n s seen (Unlocking c) h = tt

moved-within :
    (m : Machine) (a now n : ℕ) (seen : Option ShootSeen) (stage : Stage) → StageShoots m a now seen stage →
    IfSome (own_moved m a n stage) (λ e. e < entry_count m)
moved-within m a now n seen (Locks f) h = tt
moved-within m a now n seen (Relocks f) h = tt
moved-within m a now n seen (Runs s) h = posted-within m a now n s seen s.phase h
moved-within m a now n seen (Rewaits s) h = tt
moved-within m a now n seen (Returned s) h = tt
moved-within m a now n seen (Changed s c) h = tt

pub own-within : (m : Machine) (h : HandlerSeen) (n : ℕ) → HandlesOn m h → IsOwnOf (entry_count m) (own_taken m h n)
own-within m h n on =
    own_by-within (entry_count m) (removed_by m h.actor h.now h.stage) (own_told m (answer_of m) h.actor h.now n h.stage)
    (if-within (entry_count m) (own_moved m h.actor n h.stage)
    (is_followed m (stage_next m (answer_of m) h.actor h.now h.stage) n)
    (moved-within m h.actor h.now n h.shoot h.stage on.shoots))

grant_by-within :
    (m : Machine) (a now : ℕ) (s : Session) (c : Course) (entry : Option ℕ) (n : ℕ) → HasEntry m entry n →
    IsGrantOf (entry_count m) (granted_by m (answer_of m) a now s c entry)
grant_by-within m a now s c None n h = tt
grant_by-within m a now s c (Some e) n h = let is = h.is in let same : e ≡ n = cc in rw same h.within

phase_grant-within :
    (m : Machine) (a now : ℕ) (s : Session) (phase : Phase) (n : ℕ) → HasEntry m s.fault.entry n →
    IsGrantOf (entry_count m) (installed_in m (answer_of m) a now s phase)
phase_grant-within m a now s Stamping n h = tt
phase_grant-within m a now s (Seeking st i) n h = tt
phase_grant-within m a now s (Taking st i seen) n h = tt
phase_grant-within m a now s Returning n h = tt
phase_grant-within m a now s (Shooting c shot) n h = tt
phase_grant-within m a now s (Filling c w) n h = tt
phase_grant-within m a now s (Reading c w) n h = tt
phase_grant-within m a now s (Copying c w seen) n h = tt
phase_grant-within m a now s (Giving c k) n h = tt
phase_grant-within m a now s (Storing c) n h = tt
phase_grant-within m a now s (Granting c) n h = tt
phase_grant-within m a now s (Unlocking c) n h = grant_by-within m a now s c s.fault.entry n h

pub grant-within :
    (m : Machine) (a now : ℕ) (stage : Stage) → a < m.nodes → StageFits m a now stage →
    IsGrantOf (entry_count m) (installed_by m (answer_of m) a now stage)
grant-within m a now (Locks f) l h = tt
grant-within m a now (Relocks f) l h = tt
grant-within m a now (Runs s) l h =
    phase_grant-within m a now s s.phase (unwrap_or s.fault.entry (length m.entries)) (fault-entry m a s.fault h.0.fault l)
grant-within m a now (Rewaits s) l h = tt
grant-within m a now (Returned s) l h = tt
grant-within m a now (Changed s c) l h =
    grant_by-within m a now s c s.fault.entry (unwrap_or s.fault.entry (length m.entries)) (fault-entry m a s.fault h.0.fault l)

pub length-given_up : (o : Own) (pmap : List (Option Translation)) → length (given_up o pmap) ≡ length pmap
length-given_up own.Nothing pmap = refl
length-given_up (own.Dropped e) pmap = length-set pmap e None
length-given_up (own.Lowered e) pmap = length-set pmap e (lowered (translation_of pmap e))
