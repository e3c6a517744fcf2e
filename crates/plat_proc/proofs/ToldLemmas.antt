-- a processor whose fault is under way, and what it is once the handler's operation told a number
use Rattle.std.proofs.Common.{◌≡◌, ℕ, ◌<◌, true, List, length, refl, sym, ap, ◌∙◌, subst}
use Rattle.std.specs.Prelude.{IsTrue, IsSome, IfSome, Option, Some, None, unwrap_or}
use Rattle.plat_base.specs.Machine.{Machine, is_machine}
use Rattle.plat_base.specs.Flat.{is_write}
use Rattle.plat_base.specs.declared.endings.End.TheVariants as end
use Rattle.plat_base.specs.declared.items.Change.{Change}
use Rattle.plat_base.specs.declared.items.Item.TheVariants as item
use Rattle.plat_base.specs.declared.items.Translation.{Translation}
use Rattle.plat_base.specs.declared.words.Op.{Op}
use Rattle.plat_events.specs.Sessions.{Phase, Unlocking, Session, Course, change_made}
use Rattle.plat_events.specs.Privates as events
use Rattle.plat_events.specs.Privates.{Polling, Ticking, InSession, Leaving, Private}
use Rattle.plat_events.specs.Events.{at, entry_of, item_at, reach_now, session_item, vpage_of}
use Rattle.plat_pmap.specs.Slots.{Agrees}
use Rattle.plat_pmap.specs.declared.atcs.Slot.{Slot}
use Rattle.plat_handler.specs.declared.asks.Ask.{Ask}
use Rattle.plat_handler.specs.declared.asks.Ask.TheVariants as ask
use Rattle.plat_handler.specs.HandlerSeen.{HandlerSeen, HandlesOn, ask_of, asked, stage_told}
use Rattle.plat_handler.specs.Phases.{answer_of}
use Rattle.plat_handler.specs.Stages.{Stage, place_in, stage_after}
use Rattle.plat_handler.specs.Fits.{StageFits}
use Rattle.plat_local_laws.specs.Faults.{WantsAccess}
use Rattle.plat_local_laws.specs.Phases.{SessionOk}
use Rattle.plat_local_laws.specs.Standing.{PlaceOk}
use Rattle.plat_proc.specs.declared.places.Place.{Place}
use Rattle.plat_proc.specs.declared.places.Place.TheVariants as place
use Rattle.plat_proc.specs.Cached.{slots_told}
use Rattle.plat_proc.specs.Fits.{Fits, IsHandling}
use Rattle.plat_proc.specs.Followed.{is_told, next_placed, told_to}
use Rattle.plat_proc.specs.Granted.{granted_to, slots_granted, slots_left}
use Rattle.plat_proc.specs.Owned.{pmap_told}
use Rattle.plat_proc.specs.Places.{HandlesWell, faults_at, is_faulting, place_seen, waits_in}
use Rattle.plat_proc.specs.ProcSeen.{ProcSeen}
use Rattle.plat_proc.proofs.FaultLemmas.{StandsAt, left_at, pmap_by, slots_by, stage-left, stage-slots, with_pmap}
use Rattle.plat_proc.proofs.AskLemmas.{HasUnlocked, asked-granted, asked-no_frames, asked-poll, asked-word, asks-next, stage-unlocked}
use Rattle.plat_proc.proofs.FitsLemmas.{room-left, stands}
use Rattle.plat_proc.proofs.CacheLemmas.{agrees-unlocked}

-- ---- the fault under way

pub is-faulting : (handler : Option HandlerSeen) (p : Place) → is_faulting (place_seen handler p) ≡ true → p ≡ place.Faulting
is-faulting handler (place.Polling o) h = absurd cc
is-faulting handler (place.Looking i moment o) h = absurd cc
is-faulting handler (place.Applying i message moment o) h = absurd cc
is-faulting handler place.Ticking h = absurd cc
is-faulting handler (place.Switching space) h = absurd cc
is-faulting handler place.Loading h = absurd cc
is-faulting handler place.Expecting h = absurd cc
is-faulting handler (place.Exchanging seen) h = absurd cc
is-faulting handler place.Faulting h = refl
is-faulting handler (place.Leaving e) h = absurd cc
is-faulting handler (place.Lessening e) h = absurd cc
is-faulting handler (place.Gone e) h = absurd cc

pub record Faults (m : Machine) (y : ProcSeen) (h : HandlerSeen) : Type 0 where
  pub actor : h.actor ≡ y.actor
  pub now : h.now ≡ y.state.now
  pub stands : StandsAt y.state h.stage
  pub fits : StageFits m y.actor y.state.now h.stage
  pub on : HandlesOn m h

some-place : (place : Option events.Place) → IsSome place → place ≡ Some (unwrap_or place Ticking)
some-place None h = absurd cc
some-place (Some p) h = refl

fits-as : (m : Machine) (a b now then_ : ℕ) (stage : Stage) → a ≡ b → now ≡ then_ → StageFits m a now stage → StageFits m b then_ stage
fits-as m a b now then_ stage e k h =
    subst (λ (t : ℕ). StageFits m b t stage) k (subst (λ (d : ℕ). StageFits m d now stage) e h)

pub faults-of :
    (m : Machine) (y : ProcSeen) (h : HandlerSeen) (p : Place) → Fits m y → y.handler ≡ Some h →
    y.state.place ≡ place_seen y.handler p → is_faulting y.state.place ≡ true → Faults m y h
faults-of m y h p fits e k t =
    let handling : IsHandling m y.actor y.state h =
    subst (λ (o : Option HandlerSeen). IfSome o (IsHandling m y.actor y.state)) e fits.handling in
    let here : p ≡ place.Faulting = is-faulting y.handler p (sym (ap is_faulting k) ∙ t) in
    let at_ : y.state.place ≡ faults_at (Some h) =
    k ∙ ap (λ (q : Place). place_seen y.handler q) here ∙ ap (λ (o : Option HandlerSeen). faults_at o) e in
    record {
      actor = handling.actor;
      now = handling.now;
      stands = record {
        place = some-place (place_in h.stage) handling.stands ∙ ap (λ (q : events.Place). Some q) (sym at_);
        faulting = t;
      };
      fits = fits-as m h.actor y.actor h.now y.state.now h.stage handling.actor handling.now handling.on.fits;
      on = handling.on;
    }

-- ---- the operation

pub faults-next :
    (m : Machine) (y : ProcSeen) (h : HandlerSeen) (k : ℕ) (o : Op) → Faults m y h → asked m h ≡ ask.Word k o →
    next_placed m y ≡ Some (k, o)
faults-next m y h k o f e =
    asks-next m y.actor y.state h.stage k o f.stands
    (ap (λ (t : ℕ). ask_of m y.actor t h.stage) (sym f.now) ∙ ap (λ (a : ℕ). ask_of m a h.now h.stage) (sym f.actor) ∙ e)

-- ---- what follows it

-- the handler behind its operation, which told n, and the own translations
pub record Follows (m : Machine) (y : ProcSeen) (h g : HandlerSeen) (n : ℕ) (pmap : List (Option Translation)) : Type 0 where
  pub stage : g.stage ≡ stage_told m h n
  pub maps : pmap ≡ pmap_told m h n y.state.pmap
  pub actor : g.actor ≡ h.actor
  pub now : g.now ≡ h.now

abbrev pub left_by : Machine → ProcSeen → Stage → ℕ → (a now : ℕ) → Private
left_by m y stage n a now =
    left_at m y.actor (with_pmap y.state (pmap_by m a now n stage (stage_after m (answer_of m) a now n stage) y.state.pmap))
    (stage_after m (answer_of m) a now n stage)

told-left :
    (m : Machine) (y : ProcSeen) (h : HandlerSeen) (n : ℕ) → y.actor < m.nodes → Faults m y h →
    told_to m y n ≡ left_by m y h.stage n h.actor h.now
told-left m y h n l f =
    stage-left m y.actor y.state n h.stage l f.fits f.stands ∙ ap (left_by m y h.stage n y.actor) (sym f.now)
    ∙ ap (λ (a : ℕ). left_by m y h.stage n a h.now) (sym f.actor)

pub told-state :
    (m : Machine) (y : ProcSeen) (h g : HandlerSeen) (n : ℕ) (pmap : List (Option Translation)) → y.actor < m.nodes → Faults m y h →
    Follows m y h g n pmap → told_to m y n ≡ left_at m y.actor (with_pmap y.state pmap) g.stage
told-state m y h g n pmap l f k = rw (k.stage, k.maps) (told-left m y h n l f)

slots_left_by : Machine → ProcSeen → Stage → ℕ → (a now : ℕ) → List (Option Slot)
slots_left_by m y stage n a now = slots_by m y.actor y.state y.slots (stage_after m (answer_of m) a now n stage)

pub told-slots :
    (m : Machine) (y : ProcSeen) (h g : HandlerSeen) (n : ℕ) (pmap : List (Option Translation)) → Faults m y h →
    Follows m y h g n pmap → slots_told m y n ≡ slots_by m y.actor y.state y.slots g.stage
unfolding slots_left_by
told-slots m y h g n pmap f k =
    stage-slots m y.actor y.state n y.slots h.stage f.stands ∙ ap (slots_left_by m y h.stage n y.actor) (sym f.now)
    ∙ ap (λ (a : ℕ). slots_left_by m y h.stage n a h.now) (sym f.actor)
    ∙ ap (slots_by m y.actor y.state y.slots) (sym k.stage)

-- a word is next
pub word-state :
    (m : Machine) (y : ProcSeen) (h g : HandlerSeen) (n : ℕ) (pmap : List (Option Translation)) (p : Place) (k : ℕ) (o : Op) →
    y.actor < m.nodes → Faults m y h → Follows m y h g n pmap → p ≡ place.Faulting → ask.Word k o ≡ asked m g →
    at (with_pmap y.state pmap) (place_seen (Some g) p) ≡ told_to m y n
word-state m y h g n pmap p k o l f w e a =
    ap (λ (q : Place). at (with_pmap y.state pmap) (place_seen (Some g) q)) e
    ∙ sym
    (told-state m y h g n pmap l f w ∙ (asked-word m g.actor g.now g.stage k o (sym a)).left m y.actor (with_pmap y.state pmap))

pub word-slots :
    (m : Machine) (y : ProcSeen) (h g : HandlerSeen) (n : ℕ) (pmap : List (Option Translation)) (k : ℕ) (o : Op) →
    Faults m y h → Follows m y h g n pmap → ask.Word k o ≡ asked m g → y.slots ≡ slots_told m y n
word-slots m y h g n pmap k o f w a =
    sym (told-slots m y h g n pmap f w ∙ (asked-word m g.actor g.now g.stage k o (sym a)).slots m y.actor y.state y.slots)

-- and the handler stays
pub word-handles :
    (m : Machine) (g : HandlerSeen) (p : Place) (k : ℕ) (o : Op) → p ≡ place.Faulting →
    ask.Word k o ≡ asked m g → HandlesWell (Some g) p
word-handles m g p k o e a =
    subst (λ (q : Place). HandlesWell (Some g) q) (sym e) (asked-word m g.actor g.now g.stage k o (sym a)).polls

-- a poll is next
pub poll-state :
    (m : Machine) (y : ProcSeen) (h g : HandlerSeen) (n : ℕ) (pmap : List (Option Translation)) → y.actor < m.nodes →
    Faults m y h → Follows m y h g n pmap → ask.Poll ≡ asked m g →
    at (with_pmap y.state pmap) (Polling (waits_in g.stage)) ≡ told_to m y n
poll-state m y h g n pmap l f w a =
    sym (told-state m y h g n pmap l f w ∙ (asked-poll m g.actor g.now g.stage (sym a)).left m y.actor (with_pmap y.state pmap))

pub poll-slots :
    (m : Machine) (y : ProcSeen) (h g : HandlerSeen) (n : ℕ) (pmap : List (Option Translation)) → Faults m y h →
    Follows m y h g n pmap → ask.Poll ≡ asked m g → y.slots ≡ slots_told m y n
poll-slots m y h g n pmap f w a =
    sym (told-slots m y h g n pmap f w ∙ (asked-poll m g.actor g.now g.stage (sym a)).slots m y.actor y.state y.slots)

-- no frame was found
pub frameless-state :
    (m : Machine) (y : ProcSeen) (h g : HandlerSeen) (n : ℕ) (pmap : List (Option Translation)) → y.actor < m.nodes →
    Faults m y h → Follows m y h g n pmap → ask.NoFrames ≡ asked m g →
    at (with_pmap y.state pmap) (Leaving end.NoFrames) ≡ told_to m y n
frameless-state m y h g n pmap l f w a =
    sym
    (told-state m y h g n pmap l f w ∙ (asked-no_frames m g.actor g.now g.stage (sym a)).left m y.actor (with_pmap y.state pmap))

pub frameless-slots :
    (m : Machine) (y : ProcSeen) (h g : HandlerSeen) (n : ℕ) (pmap : List (Option Translation)) → Faults m y h →
    Follows m y h g n pmap → ask.NoFrames ≡ asked m g → y.slots ≡ slots_told m y n
frameless-slots m y h g n pmap f w a =
    sym (told-slots m y h g n pmap f w ∙ (asked-no_frames m g.actor g.now g.stage (sym a)).slots m y.actor y.state y.slots)

-- ---- the change is made

asks-as :
    (m : Machine) (y : ProcSeen) (h g : HandlerSeen) (n : ℕ) (pmap : List (Option Translation)) (x : Change) → Faults m y h →
    Follows m y h g n pmap → ask.Granted x ≡ asked m g → ask_of m y.actor y.state.now g.stage ≡ ask.Granted x
asks-as m y h g n pmap x f w a =
    ap (λ (t : ℕ). ask_of m y.actor t g.stage) (sym (w.now ∙ f.now))
    ∙ ap (λ (b : ℕ). ask_of m b g.now g.stage) (sym (w.actor ∙ f.actor)) ∙ sym a

pub granted-state :
    (m : Machine) (y : ProcSeen) (h g : HandlerSeen) (n : ℕ) (pmap : List (Option Translation)) (x : Change) → y.actor < m.nodes →
    Faults m y h → Follows m y h g n pmap → ask.Granted x ≡ asked m g →
    granted_to m y.actor x (with_pmap y.state pmap) ≡ told_to m y n
granted-state m y h g n pmap x l f w a =
    sym
    (told-state m y h g n pmap l f w
    ∙ (asked-granted m y.actor y.state.now g.stage x (asks-as m y h g n pmap x f w a)).left (with_pmap y.state pmap) refl)

-- its session, and its own translations, which the unlock does not touch
pub record Unlocks (m : Machine) (y : ProcSeen) (n : ℕ) (pmap : List (Option Translation)) (x : Change) : Type 0 where
  pub session : Session
  pub course : Course
  pub place : y.state.place ≡ InSession session
  pub phase : session.phase ≡ Unlocking course
  pub change : change_made m (answer_of m) y.actor y.state.now session course ≡ x
  pub followed : is_told m y n ≡ true
  pub maps : pmap ≡ y.state.pmap

abbrev pub pmap_left : Machine → ProcSeen → Stage → ℕ → (a now : ℕ) → List (Option Translation)
pmap_left m y stage n a now = pmap_by m a now n stage (stage_after m (answer_of m) a now n stage) y.state.pmap

abbrev pub asked_behind : Machine → Stage → ℕ → (a now : ℕ) → Ask
asked_behind m stage n a now = ask_of m a now (stage_after m (answer_of m) a now n stage)

pub unlocks-of :
    (m : Machine) (y : ProcSeen) (h g : HandlerSeen) (n : ℕ) (pmap : List (Option Translation)) (x : Change) → Faults m y h →
    Follows m y h g n pmap → ask.Granted x ≡ asked m g → Unlocks m y n pmap x
unlocks-of m y h g n pmap x f w a =
    let asks : asked_behind m h.stage n h.actor h.now ≡ ask.Granted x =
    ap (λ (t : ℕ). ask_of m h.actor t (stage_told m h n)) (sym w.now)
    ∙ ap (λ (b : ℕ). ask_of m b g.now (stage_told m h n)) (sym w.actor) ∙ ap (ask_of m g.actor g.now) (sym w.stage) ∙ sym a in
    let here : asked_behind m h.stage n y.actor y.state.now ≡ ask.Granted x =
    ap (asked_behind m h.stage n y.actor) (sym f.now) ∙ ap (λ (b : ℕ). asked_behind m h.stage n b h.now) (sym f.actor) ∙ asks in
    let u : HasUnlocked m y.actor y.state n h.stage x = stage-unlocked m y.actor y.state n h.stage x f.stands here in
    record {
      session = u.session;
      course = u.course;
      place = u.place;
      phase = u.phase;
      change = u.change;
      followed = u.followed;
      maps =
          w.maps ∙ ap (λ (b : ℕ). pmap_left m y h.stage n b h.now) f.actor ∙ ap (pmap_left m y h.stage n y.actor) f.now
          ∙ u.pmap y.state.pmap;
    }

module _ (m : Machine) (y : ProcSeen) (n : ℕ) (pmap : List (Option Translation)) (x : Change) (valid : IsTrue (is_machine m))
    (fits : Fits m y) (u : Unlocks m y n pmap x) where
  session-ok : SessionOk m (answer_of m) y.actor y.state u.session
  session-ok =
      subst (λ (q : events.Place). PlaceOk m (answer_of m) y.actor y.state q) u.place (stands m y valid fits).standing.place

  pub unlocks-wants : WantsAccess m y.actor y.state
  unlocks-wants = (session-ok.fault.access fits.processor).wants

  pub unlocks-page : x.page < m.pages
  unlocks-page = subst (λ (z : Change). z.page < m.pages) u.change session-ok.fault.page

  pub unlocks-entries : length pmap ≡ length m.entries
  unlocks-entries = ap length u.maps ∙ (stands m y valid fits).standing.all_entries

  unlocks-item :
      item_at m (answer_of m) y.actor y.state n y.state.place
      ≡ Some (item.Change (change_made m (answer_of m) y.actor y.state.now u.session u.course))
  unlocks-item =
      ap (λ (q : events.Place). item_at m (answer_of m) y.actor y.state n q) u.place
      ∙ ap (λ (q : Phase). session_item m (answer_of m) y.actor y.state.now u.session q) u.phase

  pub unlocks-room : length y.state.journal < y.room
  unlocks-room =
      room-left m y n (item.Change (change_made m (answer_of m) y.actor y.state.now u.session u.course)) valid fits u.followed unlocks-item

  pub unlocks-agrees :
      (let r = reach_now m y.actor y.state in
      Agrees (slots_left m x y.slots) pmap (entry_of m r) (vpage_of m r) (is_write r.kind))
  unlocks-agrees =
      let r = reach_now m y.actor y.state in
      subst (λ (q : List (Option Translation)). Agrees (slots_left m x y.slots) q (entry_of m r) (vpage_of m r) (is_write r.kind))
      (sym u.maps)
      (subst (λ (z : Change). Agrees (slots_left m z y.slots) y.state.pmap (entry_of m r) (vpage_of m r) (is_write r.kind))
      u.change (agrees-unlocked m y u.session u.course valid fits u.place u.phase))

pub granted-slots :
    (m : Machine) (y : ProcSeen) (h g : HandlerSeen) (n : ℕ) (pmap : List (Option Translation)) (x : Change) → Faults m y h →
    Follows m y h g n pmap → ask.Granted x ≡ asked m g →
    slots_granted m y.actor (with_pmap y.state pmap) x y.slots ≡ slots_told m y n
granted-slots m y h g n pmap x f w a =
    let u = unlocks-of m y h g n pmap x f w a in
    ap (λ (q : List (Option Translation)). slots_granted m y.actor (with_pmap y.state q) x y.slots) u.maps
    ∙ sym
    (told-slots m y h g n pmap f w
    ∙ (asked-granted m y.actor y.state.now g.stage x (asks-as m y h g n pmap x f w a)).slots y.state y.slots refl)
