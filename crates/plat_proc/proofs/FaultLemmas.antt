-- a handler's operation: where the definition of an event puts the private state is where the handler's stage leaves it
use Rattle.std.proofs.Common.{◌≡◌, ℕ, ◌<◌, Bool, true, false, if◌then◌else◌, List, [], length, ◌+◌, refl, sym, ap, ◌∙◌, arith}
use Rattle.std.specs.Prelude.{◌==◌, nat_lt, ◌&&◌, not, ◌^◌, IsTrue, Option, Some, None}
use Rattle.std.proofs.lemmas.Bool.Decides.{nat_tests}
use Rattle.std.proofs.lemmas.List.{set-get_or}
use Rattle.plat_base.specs.Machine.{Machine}
use Rattle.plat_base.specs.Decide.{is_empty}
use Rattle.plat_base.specs.Messages.{removes_some}
use Rattle.plat_base.specs.declared.endings.End.TheVariants as end
use Rattle.plat_base.specs.declared.frames.Dir.{Dir}
use Rattle.plat_base.specs.declared.frames.Frame.{Frame}
use Rattle.plat_base.specs.declared.items.Action.{Action}
use Rattle.plat_base.specs.declared.items.Action.TheVariants as action
use Rattle.plat_base.specs.declared.items.Cause.{Cause}
use Rattle.plat_base.specs.declared.items.Item.TheVariants as item
use Rattle.plat_base.specs.declared.items.Removed.{Removed}
use Rattle.plat_base.specs.declared.items.Removed.TheVariants as removed
use Rattle.plat_base.specs.declared.items.Translation.{Translation}
use Rattle.plat_base.specs.declared.words.Op.TheVariants as op
use Rattle.plat_base.specs.declared.words.WordName.TheVariants as word
use Rattle.plat_events.specs.Words.{lock_place, is_locked, dir_read, last_read, seq_read}
use Rattle.plat_events.specs.Shootdowns.{Shoot, Makes, Polls, Done, own_post, shot_after, shoot_from}
use Rattle.plat_events.specs.Sessions.{Fault, Stamp, Course, Phase, Stamping, Seeking, Taking, Returning, Shooting, Filling, Reading}
use Rattle.plat_events.specs.Sessions.{Copying, Giving, Storing, Granting, Unlocking, Session, decision_of, going, give_from, fill_from}
use Rattle.plat_events.specs.Sessions.{copy_from, shot_over, with_posts, with_shoot, start_course, with_frame_got, frame_taken, seek_from}
use Rattle.plat_events.specs.Sessions.{pool_found, tried, phase_after, with_phase, change_made, session_next}
use Rattle.plat_events.specs.Privates.{Place, Polling, Relock, Rewait, Locking, InSession, Leaving, Private}
use Rattle.plat_events.specs.Events.{named_next, is_followed, after_if, after, moved_at, item_at, at, drop_own, shoot_place, grant_own}
use Rattle.plat_events.specs.Events.{page_done, look_up, reach_now, forget_page, session_moved, session_item}
use Rattle.plat_events.specs.Standings.{unlocking_of}
use Rattle.plat_shoot.specs.ShootSeen.{own_by}
use Rattle.plat_pmap.specs.declared.atcs.Slot.{Slot}
use Rattle.plat_handler.specs.declared.asks.Ask.TheVariants as ask
use Rattle.plat_handler.specs.HandlerSeen.{is_word_asked, own_of, removed_in}
use Rattle.plat_handler.specs.Phases.{answer_of}
use Rattle.plat_handler.specs.Stages.{Stage, Locks, Relocks, Runs, Rewaits, Returned, Changed, stage_shot, session_after, stage_run}
use Rattle.plat_handler.specs.Stages.{stage_after, place_in, posted_own, installed_in, granted_by}
use Rattle.plat_handler.specs.Fits.{StageFits, is_fault}
use Rattle.plat_handler.proofs.FaultLemmas.{fault-entry}
use Rattle.plat_proc.specs.Cached.{slots_at, slots_in}
use Rattle.plat_proc.specs.Granted.{granted_to, slots_granted}
use Rattle.plat_proc.specs.Owned.{given_up, granted_at, installed}
use Rattle.plat_proc.specs.Places.{is_faulting}

-- ---- where a stage leaves the private state

abbrev pub with_pmap : Private → List (Option Translation) → Private
with_pmap p pmap = record p { pmap = pmap }

abbrev pub left_at : Machine → (a : ℕ) → Private → Stage → Private
left_at m a p (Locks f) = at p (Locking f)
left_at m a p (Relocks f) = at p (Polling (Relock f))
left_at m a p (Runs s) = at p (InSession s)
left_at m a p (Rewaits s) = at p (Polling (Rewait s))
left_at m a p (Returned s) = at p (Leaving end.NoFrames)
left_at m a p (Changed s c) = granted_to m a (change_made m (answer_of m) a p.now s c) p

-- the own translations once the operation told n, by the stage before it and the one behind it
abbrev pub pmap_by : Machine → (a now n : ℕ) → (before behind : Stage) → List (Option Translation) → List (Option Translation)
pmap_by m a now n before behind pmap = installed (granted_at m a now behind) (given_up (own_of m a now n before) pmap)

-- the private state that the operation leads to, by the place that it was made at
abbrev pub after_at : Machine → (a : ℕ) → Private → ℕ → Place → Private
after_at m a p n place =
    after_if (is_followed m (named_next m (answer_of m) a p place) n) p (moved_at m (answer_of m) a p n place)
    (item_at m (answer_of m) a p n place)

-- what the cache keeps
abbrev pub slots_by : Machine → (a : ℕ) → Private → List (Option Slot) → Stage → List (Option Slot)
slots_by m a p slots (Locks f) = slots
slots_by m a p slots (Relocks f) = slots
slots_by m a p slots (Runs s) = slots
slots_by m a p slots (Rewaits s) = slots
slots_by m a p slots (Returned s) = slots
slots_by m a p slots (Changed s c) = slots_granted m a p (change_made m (answer_of m) a p.now s c) slots

-- ---- the unlock follows the grant alone

either : (b : Bool) (x y : Phase) → unlocking_of x ≡ None → unlocking_of y ≡ None → unlocking_of (if b then x else y) ≡ None
either true x y h k = h
either false x y h k = k

module _ (m : Machine) (a now : ℕ) (s : Session) where
  gives : (c : Course) (k : ℕ) → unlocking_of (give_from m (answer_of m) a now s c k) ≡ None
  gives c k = either (nat_lt k (length (going s.dir (decision_of m (answer_of m) a now s c)))) (Giving c k) (Storing c) refl refl

  fills : (c : Course) (w : ℕ) → unlocking_of (fill_from m (answer_of m) a now s c w) ≡ None
  fills c w = either (nat_lt w m.words) (Filling c w) (give_from m (answer_of m) a now s c 0) refl (gives c 0)

  copies : (c : Course) (w : ℕ) → unlocking_of (copy_from m (answer_of m) a now s c w) ≡ None
  copies c w = either (nat_lt w m.words) (Reading c w) (give_from m (answer_of m) a now s c 0) refl (gives c 0)

  over : (c : Course) (act : Action) → unlocking_of (shot_over m (answer_of m) a now s c act) ≡ None
  over c action.Fill = fills c 0
  over c action.MapLocal = gives c 0
  over c action.MapRemote = gives c 0
  over c action.Replicate = copies c 0
  over c action.Migrate = copies c 0
  over c action.Collapse = gives c 0
  over c action.Thaw = gives c 0

  shoots : (c : Course) (shoot : Shoot) → unlocking_of (with_shoot m (answer_of m) a now s c shoot) ≡ None
  shoots c (Makes posts shot) = refl
  shoots c (Polls posts k) = refl
  shoots c (Done posts) = over (with_posts c posts) (decision_of m (answer_of m) a now s c).action

  starts : (c : Course) → unlocking_of (start_course m (answer_of m) a now s c) ≡ None
  starts c =
      either (removes_some (decision_of m (answer_of m) a now s c).removed)
      (with_shoot m (answer_of m) a now s c (shoot_from m a s.fault.page []))
      (shot_over m (answer_of m) a now s c (decision_of m (answer_of m) a now s c).action)
      (shoots c (shoot_from m a s.fault.page [])) (over c (decision_of m (answer_of m) a now s c).action)

  got : (st : Stamp) (frame : Option Frame) → unlocking_of (with_frame_got m (answer_of m) a now s st frame) ≡ None
  got st frame = starts (record { stamp = st; got = frame; posts = [] })

  seeks : (st : Stamp) (i : ℕ) → unlocking_of (seek_from m (answer_of m) a now s st i) ≡ None
  seeks st i =
      either (nat_lt i (length (tried m (answer_of m) a now s st))) (Seeking st i)
      (if is_empty s.dir.state then Returning else with_frame_got m (answer_of m) a now s st None) refl
      (either (is_empty s.dir.state) Returning (with_frame_got m (answer_of m) a now s st None) refl (got st None))

  finds : (st : Stamp) (i n : ℕ) → unlocking_of (pool_found m (answer_of m) a now s st i n) ≡ None
  finds st i n = either (n == 0) (seek_from m (answer_of m) a now s st (i + 1)) (Taking st i n) (seeks st (i + 1)) refl

  installs-none : (phase : Phase) → unlocking_of phase ≡ None → installed_in m (answer_of m) a now s phase ≡ None
  installs-none Stamping h = refl
  installs-none (Seeking st i) h = refl
  installs-none (Taking st i seen) h = refl
  installs-none Returning h = refl
  installs-none (Shooting c shot) h = refl
  installs-none (Filling c w) h = refl
  installs-none (Reading c w) h = refl
  installs-none (Copying c w seen) h = refl
  installs-none (Giving c k) h = refl
  installs-none (Storing c) h = refl
  installs-none (Granting c) h = refl
  installs-none (Unlocking c) h = absurd cc

-- ---- the own translations

drops :
    (p : Private) (rem : Removed) (own : Option ℕ) → drop_own p rem own ≡ with_pmap p (given_up (own_by rem own) p.pmap)
drops p rem None = refl
drops p removed.Nothing (Some e) = ap (with_pmap p) (set-get_or p.pmap e None)
drops p removed.Writes (Some e) = refl
drops p removed.All (Some e) = refl

-- ---- the lock

abbrev pub begun_by : Fault → Dir → Bool → Session
begun_by f dir daemon = record { fault = f; dir = dir; phase = if daemon && not dir.frozen then Returning else Stamping }

abbrev pub locked_by : Fault → Dir → (locked daemon : Bool) → Stage
locked_by f dir locked daemon = if locked then (if daemon then Locks f else Relocks f) else Runs (begun_by f dir daemon)

abbrev pub place_by : Fault → Dir → (locked daemon : Bool) → Place
place_by f dir locked daemon = if locked then (if daemon then Locking f else Polling (Relock f)) else InSession (begun_by f dir daemon)

-- what a stage leads to, where its operation is followed and where it is not
abbrev pub led_to : Machine → (a : ℕ) → Private → (rem : Removed) → (own : Option ℕ) → Stage → Private
led_to m a p rem own behind = left_at m a (with_pmap p (installed (granted_at m a p.now behind) (given_up (own_by rem own) p.pmap))) behind

lock-left :
    (m : Machine) (a : ℕ) (p : Private) (f : Fault) (dir : Dir) (followed locked daemon : Bool) → daemon ≡ false →
    p.place ≡ Locking f →
    after_if followed p (at p (place_by f dir locked daemon)) None
    ≡ led_to m a p removed.Nothing (if followed then None else None) (if followed then locked_by f dir locked daemon else Locks f)
lock-left m a p f dir true true true h e = absurd cc
lock-left m a p f dir true true false h e = refl
lock-left m a p f dir true false true h e = absurd cc
lock-left m a p f dir true false false h e = refl
lock-left m a p f dir false locked daemon h e = ap (at p) e

lock-slots :
    (m : Machine) (a : ℕ) (p : Private) (slots : List (Option Slot)) (f : Fault) (dir : Dir) (followed locked daemon : Bool) →
    (if followed then slots else slots) ≡ slots_by m a p slots (if followed then locked_by f dir locked daemon else Locks f)
lock-slots m a p slots f dir true true true = refl
lock-slots m a p slots f dir true true false = refl
lock-slots m a p slots f dir true false daemon = refl
lock-slots m a p slots f dir false locked daemon = refl

-- ---- the session

goes-left :
    (m : Machine) (a : ℕ) (p : Private) (rem : Removed) (own : Option ℕ) (s : Session) → unlocking_of s.phase ≡ None →
    at (with_pmap p (given_up (own_by rem own) p.pmap)) (InSession s) ≡ led_to m a p rem own (Runs s)
goes-left m a p rem own s h =
    ap (λ (t : Option Translation). at (with_pmap p (installed t (given_up (own_by rem own) p.pmap))) (InSession s))
    (sym (installs-none m a p.now s s.phase h))

stays-left :
    (m : Machine) (a : ℕ) (p : Private) (rem : Removed) (s : Session) → unlocking_of s.phase ≡ None → p.place ≡ InSession s →
    p ≡ led_to m a p rem None (Runs s)
stays-left m a p rem s h e = ap (at p) e ∙ goes-left m a p rem None s h

into-left :
    (m : Machine) (a : ℕ) (p : Private) (s : Session) (phase : Phase) (followed : Bool) → unlocking_of s.phase ≡ None →
    unlocking_of phase ≡ None → p.place ≡ InSession s →
    after_if followed p (at p (InSession (with_phase s phase))) None
    ≡ led_to m a p removed.Nothing (if followed then None else None) (if followed then Runs (with_phase s phase) else Runs s)
into-left m a p s phase true h k e = goes-left m a p removed.Nothing None (with_phase s phase) k
into-left m a p s phase false h k e = stays-left m a p removed.Nothing s h e

shot-goes :
    (m : Machine) (a : ℕ) (p : Private) (s : Session) (c : Course) (rem : Removed) (own : Option ℕ) (shoot : Shoot) →
    at (with_pmap p (given_up (own_by rem own) p.pmap))
    (shoot_place (with_phase s (with_shoot m (answer_of m) a p.now s c shoot)) shoot)
    ≡ led_to m a p rem own (stage_shot (with_phase s (with_shoot m (answer_of m) a p.now s c shoot)) shoot)
shot-goes m a p s c rem own (Makes posts shot) = refl
shot-goes m a p s c rem own (Polls posts k) = refl
shot-goes m a p s c rem own (Done posts) =
    goes-left m a p rem own (with_phase s (with_shoot m (answer_of m) a p.now s c (Done posts)))
    (shoots m a p.now s c (Done posts))

shot-left :
    (m : Machine) (a : ℕ) (p : Private) (s : Session) (c : Course) (rem : Removed) (own : Option ℕ) (shoot : Shoot) (followed : Bool) →
    unlocking_of s.phase ≡ None → p.place ≡ InSession s →
    after_if followed p
    (at (drop_own p rem own) (shoot_place (with_phase s (with_shoot m (answer_of m) a p.now s c shoot)) shoot)) None
    ≡ led_to m a p rem (if followed then own else None)
    (if followed then stage_shot (with_phase s (with_shoot m (answer_of m) a p.now s c shoot)) shoot else Runs s)
shot-left m a p s c rem own shoot true h e =
    ap (λ (q : Private).
    record (at q (shoot_place (with_phase s (with_shoot m (answer_of m) a p.now s c shoot)) shoot)) { journal = p.journal })
    (drops p rem own)
    ∙ shot-goes m a p s c rem own shoot
shot-left m a p s c rem own shoot false h e = stays-left m a p rem s h e

abbrev pub session_at : Fault → Dir → Phase → Session
session_at f d phase = record { fault = f; dir = d; phase = phase }

grant-left :
    (m : Machine) (a : ℕ) (p : Private) (page : ℕ) (entry : Option ℕ) (why : Cause) (d : Dir) (c : Course) (followed : Bool) →
    a < m.nodes → IsTrue (is_fault m a (record { page = page; entry = entry; cause = why })) →
    p.place ≡ InSession (session_at (record { page = page; entry = entry; cause = why }) d (Granting c)) →
    (let s = session_at (record { page = page; entry = entry; cause = why }) d (Granting c) in
    after_if followed p (at (grant_own m (answer_of m) a p s c) (InSession (with_phase s (Unlocking c)))) None
    ≡ led_to m a p removed.Nothing (if followed then None else None) (if followed then Runs (with_phase s (Unlocking c)) else Runs s))
grant-left m a p page None why d c followed l h e =
    absurd (let has = (fault-entry m a (record { page = page; entry = None; cause = why }) h l).is in cc)
grant-left m a p page (Some entry) why d c true l h e = refl
grant-left m a p page (Some entry) why d c false l h e =
    stays-left m a p removed.Nothing (session_at (record { page = page; entry = Some entry; cause = why }) d (Granting c)) refl e

return-left :
    (m : Machine) (a : ℕ) (p q : Private) (daemon : Bool) → daemon ≡ false →
    after_if true p (if daemon then q else at p (Leaving end.NoFrames)) None
    ≡ at
    (with_pmap p (installed (if is_word_asked (if daemon then ask.NotFrozen else ask.NoFrames) then None else None) p.pmap))
    (Leaving end.NoFrames)
return-left m a p q true h = absurd cc
return-left m a p q false h = refl

unlock-left :
    (m : Machine) (a : ℕ) (p q : Private) (s : Session) (c : Course) (daemon : Bool) → daemon ≡ false →
    (let change = change_made m (answer_of m) a p.now s c in
    after_if true p
    (if daemon then q
    else look_up m (reach_now m a p) (forget_page m s.fault.page (decision_of m (answer_of m) a p.now s c).removed p))
    (Some (item.Change change))
    ≡ left_at m a
    (with_pmap p
    (installed
    (if is_word_asked (if daemon then ask.Thawed change else ask.Granted change)
    then granted_by m (answer_of m) a p.now s c s.fault.entry
    else None)
    p.pmap))
    (Changed s c))
unlock-left m a p q s c true h = absurd cc
unlock-left m a p q s c false h = refl

stored : (c : Course) (daemon : Bool) → daemon ≡ false → unlocking_of (if daemon then Unlocking c else Granting c) ≡ None
stored c true h = absurd cc
stored c false h = refl

abbrev pub followed_in : Machine → (a : ℕ) → Private → ℕ → Session → Phase → Bool
followed_in m a p n s phase = is_followed m (Some (session_next m (answer_of m) a p.now s phase)) n

session-left :
    (m : Machine) (a : ℕ) (p : Private) (n : ℕ) (f : Fault) (d : Dir) (phase : Phase) → a < m.nodes → IsTrue (is_fault m a f) →
    p.place ≡ InSession (session_at f d phase) →
    (let s = session_at f d phase in
    let b = followed_in m a p n s phase in
    after_if b p (session_moved m (answer_of m) a p n s phase) (session_item m (answer_of m) a p.now s phase)
    ≡ led_to m a p (removed_in m a p.now s phase) (if b then posted_own m a n s phase else None)
    (if b then stage_run m (answer_of m) a p.now n s phase else Runs s))
session-left m a p n f d Stamping l h e =
    let s = session_at f d Stamping in
    into-left m a p s (phase_after m (answer_of m) a p.now s n Stamping) (followed_in m a p n s Stamping) refl
    (seeks m a p.now s (record { last = last_read n; seq = seq_read n }) 0) e
session-left m a p n f d (Seeking st i) l h e =
    let s = session_at f d (Seeking st i) in
    into-left m a p s (phase_after m (answer_of m) a p.now s n s.phase) (followed_in m a p n s s.phase) refl
    (finds m a p.now s st i n) e
session-left m a p n f d (Taking st i seen) l h e =
    let s = session_at f d (Taking st i seen) in
    into-left m a p s (phase_after m (answer_of m) a p.now s n s.phase) (followed_in m a p n s s.phase) refl
    (either (n == seen)
    (with_frame_got m (answer_of m) a p.now s st (Some (frame_taken m (answer_of m) a p.now s st i seen)))
    (pool_found m (answer_of m) a p.now s st i n) (got m a p.now s st (Some (frame_taken m (answer_of m) a p.now s st i seen)))
    (finds m a p.now s st i n))
    e
session-left m a p n f d Returning l h e = return-left m a p (page_done m p f.page) (a == m.nodes) (grind (arith, nat_tests))
session-left m a p n f d (Shooting c shot) l h e =
    let s = session_at f d (Shooting c shot) in
    shot-left m a p s c (decision_of m (answer_of m) a p.now s c).removed (own_post m a f.page c.posts n shot)
    (shot_after m a f.page c.posts n shot) (followed_in m a p n s s.phase) refl e
session-left m a p n f d (Filling c w) l h e =
    let s = session_at f d (Filling c w) in
    into-left m a p s (phase_after m (answer_of m) a p.now s n s.phase) (followed_in m a p n s s.phase) refl
    (fills m a p.now s c (w + 1)) e
session-left m a p n f d (Reading c w) l h e =
    let s = session_at f d (Reading c w) in
    into-left m a p s (Copying c w n) (followed_in m a p n s s.phase) refl refl e
session-left m a p n f d (Copying c w seen) l h e =
    let s = session_at f d (Copying c w seen) in
    into-left m a p s (phase_after m (answer_of m) a p.now s n s.phase) (followed_in m a p n s s.phase) refl
    (copies m a p.now s c (w + 1)) e
session-left m a p n f d (Giving c k) l h e =
    let s = session_at f d (Giving c k) in
    into-left m a p s (phase_after m (answer_of m) a p.now s n s.phase) (followed_in m a p n s s.phase) refl
    (gives m a p.now s c (k + 1)) e
session-left m a p n f d (Storing c) l h e =
    let s = session_at f d (Storing c) in
    into-left m a p s (phase_after m (answer_of m) a p.now s n s.phase) (followed_in m a p n s s.phase) refl
    (stored c (a == m.nodes) (grind (arith, nat_tests))) e
session-left m a p n f d (Granting c) l h e =
    grant-left m a p f.page f.entry f.cause d c (followed_in m a p n (session_at f d (Granting c)) (Granting c)) l h e
session-left m a p n f d (Unlocking c) l h e =
    unlock-left m a p (page_done m p f.page) (session_at f d (Unlocking c)) c (a == m.nodes) (grind (arith, nat_tests))

-- ---- the place of a stage, and what its operation leads to

-- it is where the processor stands, and makes the next operation
pub record StandsAt (p : Private) (stage : Stage) : Type 0 where
  pub place : place_in stage ≡ Some p.place
  pub faulting : is_faulting p.place ≡ true

pub stage-left :
    (m : Machine) (a : ℕ) (p : Private) (n : ℕ) (stage : Stage) → a < m.nodes → StageFits m a p.now stage → StandsAt p stage →
    (let behind = stage_after m (answer_of m) a p.now n stage in
    after m (answer_of m) a p n ≡ left_at m a (with_pmap p (pmap_by m a p.now n stage behind p.pmap)) behind)
unfolding after
stage-left m a p n (Locks f) l h st =
    let e = st.place in
    let here : p.place ≡ Locking f = cc in
    ap (λ (place : Place). after_at m a p n place) here
    ∙ lock-left m a p f (dir_read n) (is_followed m (Some (word.Dir f.page, op.Or (2 ^ lock_place))) n) (is_locked n) (a == m.nodes)
    (grind (arith, nat_tests)) here
stage-left m a p n (Relocks f) l h st =
    absurd (let e = st.place in let k = st.faulting in let here : p.place ≡ Polling (Relock f) = cc in
    let no = ap is_faulting here in cc)
stage-left m a p n (Runs s) l h st =
    let e = st.place in
    let here : p.place ≡ InSession s = cc in
    ap (λ (place : Place). after_at m a p n place) here ∙ session-left m a p n s.fault s.dir s.phase l h.0.fault here
stage-left m a p n (Rewaits s) l h st =
    absurd (let e = st.place in let k = st.faulting in let here : p.place ≡ Polling (Rewait s) = cc in
    let no = ap is_faulting here in cc)
stage-left m a p n (Returned s) l h st = absurd (let e = st.place in cc)
stage-left m a p n (Changed s c) l h st = absurd (let e = st.place in cc)

-- ---- what the cache keeps

runs-slots :
    (m : Machine) (a : ℕ) (p : Private) (slots : List (Option Slot)) (s t : Session) (followed : Bool) →
    (if followed then slots else slots) ≡ slots_by m a p slots (if followed then Runs t else Runs s)
runs-slots m a p slots s t true = refl
runs-slots m a p slots s t false = refl

shot-slots :
    (m : Machine) (a : ℕ) (p : Private) (slots : List (Option Slot)) (s t : Session) (shoot : Shoot) (followed : Bool) →
    (if followed then slots else slots) ≡ slots_by m a p slots (if followed then stage_shot t shoot else Runs s)
shot-slots m a p slots s t (Makes posts shot) true = refl
shot-slots m a p slots s t (Polls posts k) true = refl
shot-slots m a p slots s t (Done posts) true = refl
shot-slots m a p slots s t shoot false = refl

session-slots :
    (m : Machine) (a : ℕ) (p : Private) (n : ℕ) (slots : List (Option Slot)) (f : Fault) (d : Dir) (phase : Phase) →
    (let s = session_at f d phase in
    let b = followed_in m a p n s phase in
    (if b then slots_in m a p s slots phase else slots)
    ≡ slots_by m a p slots (if b then stage_run m (answer_of m) a p.now n s phase else Runs s))
session-slots m a p n slots f d Stamping =
    let s = session_at f d Stamping in
    runs-slots m a p slots s (session_after m (answer_of m) a p.now n s) (followed_in m a p n s s.phase)
session-slots m a p n slots f d (Seeking st i) =
    let s = session_at f d (Seeking st i) in
    runs-slots m a p slots s (session_after m (answer_of m) a p.now n s) (followed_in m a p n s s.phase)
session-slots m a p n slots f d (Taking st i seen) =
    let s = session_at f d (Taking st i seen) in
    runs-slots m a p slots s (session_after m (answer_of m) a p.now n s) (followed_in m a p n s s.phase)
session-slots m a p n slots f d Returning = refl
session-slots m a p n slots f d (Shooting c shot) =
    let s = session_at f d (Shooting c shot) in
    shot-slots m a p slots s (session_after m (answer_of m) a p.now n s) (shot_after m a f.page c.posts n shot)
    (followed_in m a p n s s.phase)
session-slots m a p n slots f d (Filling c w) =
    let s = session_at f d (Filling c w) in
    runs-slots m a p slots s (session_after m (answer_of m) a p.now n s) (followed_in m a p n s s.phase)
session-slots m a p n slots f d (Reading c w) =
    let s = session_at f d (Reading c w) in
    runs-slots m a p slots s (session_after m (answer_of m) a p.now n s) (followed_in m a p n s s.phase)
session-slots m a p n slots f d (Copying c w seen) =
    let s = session_at f d (Copying c w seen) in
    runs-slots m a p slots s (session_after m (answer_of m) a p.now n s) (followed_in m a p n s s.phase)
session-slots m a p n slots f d (Giving c k) =
    let s = session_at f d (Giving c k) in
    runs-slots m a p slots s (session_after m (answer_of m) a p.now n s) (followed_in m a p n s s.phase)
session-slots m a p n slots f d (Storing c) =
    let s = session_at f d (Storing c) in
    runs-slots m a p slots s (session_after m (answer_of m) a p.now n s) (followed_in m a p n s s.phase)
session-slots m a p n slots f d (Granting c) =
    let s = session_at f d (Granting c) in
    runs-slots m a p slots s (session_after m (answer_of m) a p.now n s) (followed_in m a p n s s.phase)
session-slots m a p n slots f d (Unlocking c) = refl

abbrev pub slots_after : Machine → (a : ℕ) → Private → ℕ → List (Option Slot) → Place → List (Option Slot)
slots_after m a p n slots place =
    if is_followed m (named_next m (answer_of m) a p place) n then slots_at m a p slots place else slots

pub stage-slots :
    (m : Machine) (a : ℕ) (p : Private) (n : ℕ) (slots : List (Option Slot)) (stage : Stage) → StandsAt p stage →
    slots_after m a p n slots p.place ≡ slots_by m a p slots (stage_after m (answer_of m) a p.now n stage)
stage-slots m a p n slots (Locks f) st =
    let e = st.place in
    let here : p.place ≡ Locking f = cc in
    ap (λ (place : Place). slots_after m a p n slots place) here
    ∙ lock-slots m a p slots f (dir_read n) (is_followed m (Some (word.Dir f.page, op.Or (2 ^ lock_place))) n) (is_locked n)
    (a == m.nodes)
stage-slots m a p n slots (Relocks f) st =
    absurd (let e = st.place in let k = st.faulting in let here : p.place ≡ Polling (Relock f) = cc in
    let no = ap is_faulting here in cc)
stage-slots m a p n slots (Runs s) st =
    let e = st.place in
    let here : p.place ≡ InSession s = cc in
    ap (λ (place : Place). slots_after m a p n slots place) here ∙ session-slots m a p n slots s.fault s.dir s.phase
stage-slots m a p n slots (Rewaits s) st =
    absurd (let e = st.place in let k = st.faulting in let here : p.place ≡ Polling (Rewait s) = cc in
    let no = ap is_faulting here in cc)
stage-slots m a p n slots (Returned s) st = absurd (let e = st.place in cc)
stage-slots m a p n slots (Changed s c) st = absurd (let e = st.place in cc)
