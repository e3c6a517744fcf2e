-- a handler by its parts: what its calls may ask for, and what they leave
use Rattle.std.proofs.Common.{◌≡◌, ℕ, ◌≤◌, Bool, true, false, if◌then◌else◌, List, [], Option, Some, None, refl, ap, sym, subst, ◌∙◌}
use Rattle.std.specs.Prelude.{IsTrue, ◌==◌}
use Rattle.plat_base.specs.Machine.{Machine}
use Rattle.plat_base.specs.declared.items.Removed.{Removed}
use Rattle.plat_base.specs.declared.items.Removed.TheVariants as removed
use Rattle.plat_base.specs.declared.words.Op.{Op}
use Rattle.plat_events.specs.Events.{is_followed}
use Rattle.plat_events.specs.Shootdowns.{Shoot, Makes, Polls, Done, shot_next, own_post}
use Rattle.plat_events.specs.Sessions as events
use Rattle.plat_events.specs.Sessions.{Phase, Returning, Session, session_next, change_made}
use Rattle.plat_shoot.specs.declared.needs.Own.TheVariants as own
use Rattle.plat_shoot.specs.ShootSeen.{ShootSeen, ShootsOn, need_of, need_by, is_word_needed, own_by, own_after}
use Rattle.plat_handler.specs.Stages as stages
use Rattle.plat_handler.specs.Stages.{Runs, stage_after}
use Rattle.plat_handler.specs.Phases.{answer_of, session_seen, course_seen, phase_seen, decided, shooting_by, shooting_seen, GoesOn}
use Rattle.plat_handler.specs.Phases.{IsUnderWay}
use Rattle.plat_handler.specs.Fits.{StageFits, StageShoots}
use Rattle.plat_handler.specs.Locks.{IsTaken}
use Rattle.plat_handler.specs.Decided.{Decides}
use Rattle.plat_handler.specs.Settled.{IsOf, IsShootOf, own_of_shot}
use Rattle.plat_handler.specs.HandlerSeen.{HandlerSeen, HandlesOn, ask_of, is_word_asked, own_of}
use Rattle.plat_handler.specs.declared.asks.Ask.{Ask}
use Rattle.plat_handler.specs.declared.asks.Ask.TheVariants as ask
use Rattle.plat_base.specs.declared.items.Change.{Change}
use Rattle.std.proofs.lemmas.Bool.Decides.{nat_tests}
use Rattle.std.proofs.Common.{arith}
use Rattle.plat_handler.specs.declared.phases.Lock.{Lock}
use Rattle.plat_handler.specs.declared.phases.Course.{Course as RustCourse}
use Rattle.plat_handler.specs.declared.phases.Phase.{Phase as RustPhase}
use Rattle.plat_handler.specs.declared.phases.Phase.TheVariants as phase
use Rattle.plat_handler.proofs.StandingLemmas.{decides_of}
use Rattle.plat_handler.proofs.StageLemmas.{stage_after-fits}
use Rattle.plat_handler.proofs.SettledLemmas.{running}

-- it stays one of the machine
pub HandlesOn-after :
    (m : Machine) (before : HandlerSeen) (n : ℕ) (after : HandlerSeen) → m.frames ≤ 64 → HandlesOn m before →
    after.actor ≡ before.actor → after.now ≡ before.now →
    after.stage ≡ stage_after m (answer_of m) before.actor before.now n before.stage →
    StageShoots m after.actor after.now after.shoot after.stage → IsTaken m after.tried → HandlesOn m after
HandlesOn-after m before n after most h a t e s k = record {
  now = rw t h.now;
  fits = rw (a, t, e) (stage_after-fits m before.actor before.now n most before.stage h.fits);
  shoots = s;
  tried = k;
}

module _ (m : Machine) (lock : Lock) (c : RustCourse) where
  -- ---- a handler in its shootdown

  decides-by : (shoot : Shoot) → GoesOn shoot → StageFits m lock.actor lock.tick (shooting_by lock c shoot) → Decides m lock c
  decides-by (Makes posts shot) g h = decides_of m lock posts c h.0 h.1
  decides-by (Polls posts k) g h = decides_of m lock posts c h.0 h.1
  decides-by (Done posts) g h = absurd g

  pub decides-shooting :
      (seen : Option ShootSeen) → IsUnderWay seen → StageFits m lock.actor lock.tick (shooting_seen lock c seen) → Decides m lock c
  decides-shooting None g h = absurd g
  decides-shooting (Some s) g h = decides-by s.shoot g h

  same : (s x : ShootSeen) → Some s ≡ Some x → s ≡ x
  same s x e = cc

  is_of : (s : ShootSeen) (shoot : Shoot) → ShootsOn m (running m lock c shoot) → Some s ≡ Some (running m lock c shoot) → IsOf m lock c s
  is_of s shoot h e =
      let is = same s (running m lock c shoot) e in record {
        on = subst (λ (x : ShootSeen). ShootsOn m x) (sym is) h;
        actor = ap (λ (x : ShootSeen). x.actor) is;
        page = ap (λ (x : ShootSeen). x.page) is;
        removed = ap (λ (x : ShootSeen). x.removed) is;
      }

  of-by :
      (s : ShootSeen) (shoot : Shoot) → GoesOn shoot → StageShoots m lock.actor lock.tick (Some s) (shooting_by lock c shoot) →
      IsOf m lock c s
  of-by s (Makes posts shot) g h = is_of s (Makes posts shot) h.on h.is
  of-by s (Polls posts k) g h = is_of s (Polls posts k) h.on h.is
  of-by s (Done posts) g h = absurd g

  word-by :
      (s : ShootSeen) (shoot : Shoot) → s.shoot ≡ shoot → GoesOn shoot →
      IsTrue (is_word_asked (ask_of m lock.actor lock.tick (shooting_by lock c shoot))) → IsTrue (is_word_needed (need_of m s))
  word-by s (Makes posts shot) e g h = rw e refl
  word-by s (Polls posts k) e g h = absurd cc
  word-by s (Done posts) e g h = absurd g

  pub shoot_of-shooting :
      (seen : Option ShootSeen) → IsUnderWay seen → StageShoots m lock.actor lock.tick seen (shooting_seen lock c seen) →
      IsTrue (is_word_asked (ask_of m lock.actor lock.tick (shooting_seen lock c seen))) → IsShootOf m lock c seen
  shoot_of-shooting None g h w = g
  shoot_of-shooting (Some s) g h w = (of-by s s.shoot g h, word-by s s.shoot refl g w)

  -- ---- what it takes of the actor's own translations

  own_if : (b : Bool) (r : Removed) (e : Option ℕ) → (if b then own_by r e else own.Nothing) ≡ own_by r (if b then e else None)
  own_if true r e = refl
  own_if false r e = refl

  own-by :
      (n : ℕ) (shoot : Shoot) → GoesOn shoot →
      own_after m (running m lock c shoot) n shoot ≡ own_of m lock.actor lock.tick n (shooting_by lock c shoot)
  own-by n (Makes posts shot) g =
      own_if (is_followed m (Some (shot_next m lock.actor lock.fault.page (decided m lock c).removed posts shot)) n)
      (decided m lock c).removed
      (own_post m lock.actor lock.fault.page posts n shot)
  own-by n (Polls posts k) g = refl
  own-by n (Done posts) g = absurd g

  own-of :
      (n : ℕ) (s : ShootSeen) → IsOf m lock c s → GoesOn s.shoot →
      own_after m s n s.shoot ≡ own_of m lock.actor lock.tick n (shooting_by lock c s.shoot)
  own-of n s h g =
      let e : s ≡ running m lock c s.shoot = λ i. record { actor = h.actor i; page = h.page i; removed = h.removed i; shoot = s.shoot } in
      ap (λ (x : ShootSeen). own_after m x n s.shoot) e ∙ own-by n s.shoot g

  pub own-shooting :
      (n : ℕ) (seen : Option ShootSeen) → IsUnderWay seen → StageShoots m lock.actor lock.tick seen (shooting_seen lock c seen) →
      own_of_shot m n seen ≡ own_of m lock.actor lock.tick n (shooting_seen lock c seen)
  own-shooting n None g h = absurd g
  own-shooting n (Some s) g h = own-of n s (of-by s s.shoot g h) g

-- the operation of a phase takes nothing
none_if : (b : Bool) → own_by removed.Nothing (if b then None else None) ≡ own.Nothing
none_if true = refl
none_if false = refl

module _ (m : Machine) (lock : Lock) (posts : List ℕ) (n : ℕ) where
  abbrev told : RustPhase → Bool
  told p = is_followed m (stages.stage_next m (answer_of m) lock.actor lock.tick (Runs (session_seen lock (phase_seen posts p)))) n

  pub own-phase : (p : RustPhase) → own.Nothing ≡ own_of m lock.actor lock.tick n (Runs (session_seen lock (phase_seen posts p)))
  own-phase phase.Stamping = sym (none_if (told phase.Stamping))
  own-phase (phase.Seeking stamp passed) = sym (none_if (told (phase.Seeking stamp passed)))
  own-phase (phase.Taking stamp passed seen) = sym (none_if (told (phase.Taking stamp passed seen)))
  own-phase phase.Returning = sym (none_if (told phase.Returning))
  own-phase (phase.Filling c w) = sym (none_if (told (phase.Filling c w)))
  own-phase (phase.Reading c w) = sym (none_if (told (phase.Reading c w)))
  own-phase (phase.Copying c w seen) = sym (none_if (told (phase.Copying c w seen)))
  own-phase (phase.Giving c given) = sym (none_if (told (phase.Giving c given)))
  own-phase (phase.Storing c) = sym (none_if (told (phase.Storing c)))
  own-phase (phase.Granting c) = sym (none_if (told (phase.Granting c)))
  own-phase (phase.Unlocking c) = sym (none_if (told (phase.Unlocking c)))

-- ---- the change of the daemon

pub ask-thawed :
    (m : Machine) (lock : Lock) (posts : List ℕ) (c : RustCourse) (change : Change) →
    change ≡ change_made m (answer_of m) lock.actor lock.tick (session_seen lock Returning) (course_seen [] c) → lock.actor ≡ m.nodes →
    ask.Thawed change
    ≡ ask_of m lock.actor lock.tick (stages.Changed (session_seen lock (events.Unlocking (course_seen posts c))) (course_seen posts c))
ask-thawed m lock posts c change e d =
    let daemon : (lock.actor == m.nodes) ≡ true = grind (arith, nat_tests) in rw daemon (ap ask.Thawed e)

-- ---- whether a word is asked in a shootdown

asks-by :
    (m : Machine) (lock : Lock) (c : RustCourse) (s : ShootSeen) (shoot : Shoot) → GoesOn shoot →
    is_word_needed (need_by m s shoot) ≡ is_word_asked (ask_of m lock.actor lock.tick (shooting_by lock c shoot))
asks-by m lock c s (Makes posts shot) h = refl
asks-by m lock c s (Polls posts k) h = refl
asks-by m lock c s (Done posts) h = absurd h

pub asks-shooting :
    (m : Machine) (lock : Lock) (c : RustCourse) (s : ShootSeen) → GoesOn s.shoot →
    is_word_needed (need_of m s) ≡ is_word_asked (ask_of m lock.actor lock.tick (shooting_by lock c s.shoot))
asks-shooting m lock c s h = asks-by m lock c s s.shoot h

-- what asks for a word is one
pub is_word_asked-word : (a : Ask) → is_word_asked a ≡ true → (at : ℕ) × (op : Op) × (ask.Word at op ≡ a)
is_word_asked-word (ask.Word at op) h = (at, op, refl)
is_word_asked-word ask.Poll h = absurd cc
is_word_asked-word (ask.Granted change) h = absurd cc
is_word_asked-word (ask.Thawed change) h = absurd cc
is_word_asked-word ask.NotFrozen h = absurd cc
is_word_asked-word ask.NoFrames h = absurd cc
