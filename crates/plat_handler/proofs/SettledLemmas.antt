-- a session and its shootdown: where the one stands by where the other does
use Rattle.std.proofs.Common.{◌≡◌, ◌≢◌, ℕ, Bool, true, false, if◌then◌else◌, List, [], length, Option, Some, refl, ap, sym, subst, ◌∙◌}
use Rattle.std.specs.Prelude.{IsTrue, nat_lt}
use Rattle.plat_base.specs.Machine.{Machine}
use Rattle.plat_base.specs.Pages.{entries_of_page}
use Rattle.plat_base.specs.declared.words.Op.{Op}
use Rattle.plat_base.specs.declared.words.WordName.{WordName}
use Rattle.plat_events.specs.Events.{is_followed}
use Rattle.plat_events.specs.Shootdowns.{Shot, Posting, Asking, Shoot, Makes, Polls, Done, targets, shoot_from, shot_next, shot_after}
use Rattle.plat_events.specs.Sessions.{Phase, Returning, Shooting, Session, with_phase, with_shoot, shot_over, session_next, phase_after}
use Rattle.plat_shoot.specs.declared.needs.Need.{Need}
use Rattle.plat_shoot.specs.declared.needs.Need.TheVariants as need
use Rattle.plat_shoot.specs.ShootSeen.{ShootSeen, ShootsOn, need_of, need_by, is_finished, is_word_needed, shoot_after}
use Rattle.plat_handler.specs.Stages.{Runs, stage_shot, stage_after}
use Rattle.plat_handler.specs.Phases.{answer_of, fault_seen, session_seen, course_seen, phase_seen, then_seen, decided, posts_by, posts_in}
use Rattle.plat_handler.specs.Phases.{shooting_by, GoesOn}
use Rattle.plat_handler.specs.Fits.{SessionFits, StageShoots}
use Rattle.plat_handler.specs.Decided.{RemovesSome}
use Rattle.plat_handler.specs.Settled.{stage_with, IsOf, EntersOn, ThenShoots}
use Rattle.plat_handler.specs.declared.phases.Lock.{Lock}
use Rattle.plat_handler.specs.declared.phases.Course.{Course as RustCourse}
use Rattle.plat_handler.specs.declared.phases.Phase.{Phase as RustPhase}
use Rattle.plat_handler.specs.declared.phases.Phase.TheVariants as phase
use Rattle.plat_handler.specs.declared.phases.Then.{Then}
use Rattle.plat_handler.specs.declared.phases.Then.TheVariants as then_
use Rattle.plat_handler.proofs.FaultLemmas.{fault-page, fault-most}
use Rattle.plat_handler.proofs.StandingLemmas.{EarlyNone, early-after, late-over, shoot_fits-early}

pub finished : (n : Need) → is_finished n ≡ true → n ≡ need.Finished
finished (need.Word at op) h = absurd cc
finished need.Poll h = absurd cc
finished need.Finished h = refl

pub not_finished : (n : Need) → is_finished n ≡ false → n ≢ need.Finished
not_finished n h e = let k = sym h ∙ ap is_finished e in cc

module _ (m : Machine) (lock : Lock) (c : RustCourse) where
  abbrev pub running : Shoot → ShootSeen
  running shoot =
      record { actor = lock.actor; page = lock.fault.page; removed = (decided m lock c).removed; shoot = shoot }

  -- ---- a shootdown that is over, and one that is not

  over-by :
      (s : ShootSeen) (p : RustPhase) (shoot : Shoot) → need_by m s shoot ≡ need.Finished →
      ((posts : List ℕ) → phase_seen posts p
      ≡ shot_over m (answer_of m) lock.actor lock.tick (session_seen lock Returning) (course_seen posts c) (decided m lock c).action) →
      Runs (session_seen lock (phase_seen (posts_by shoot) p)) ≡ stage_with m lock c shoot
  over-by s p (Makes posts shot) h f = absurd cc
  over-by s p (Polls posts k) h f = absurd cc
  over-by s p (Done posts) h f = ap (λ (q : Phase). Runs (session_seen lock q)) (f posts)

  pub stage-over :
      (s : ShootSeen) (p : RustPhase) → need_of m s ≡ need.Finished →
      ((posts : List ℕ) → phase_seen posts p
      ≡ shot_over m (answer_of m) lock.actor lock.tick (session_seen lock Returning) (course_seen posts c) (decided m lock c).action) →
      Runs (session_seen lock (phase_seen (posts_by s.shoot) p)) ≡ stage_with m lock c s.shoot
  stage-over s p h f = over-by s p s.shoot h f

  goes-by : (s : ShootSeen) (shoot : Shoot) → need_by m s shoot ≢ need.Finished → GoesOn shoot
  goes-by s (Makes posts shot) h = tt
  goes-by s (Polls posts k) h = tt
  goes-by s (Done posts) h = h refl

  pub goes_on : (s : ShootSeen) → need_of m s ≢ need.Finished → GoesOn s.shoot
  goes_on s h = goes-by s s.shoot h

  pub stage-going : (shoot : Shoot) → GoesOn shoot → shooting_by lock c shoot ≡ stage_with m lock c shoot
  stage-going (Makes posts shot) h = refl
  stage-going (Polls posts k) h = refl
  stage-going (Done posts) h = absurd h

  is-running : (s : ShootSeen) → IsOf m lock c s → s ≡ running s.shoot
  is-running s h = λ i. record { actor = h.actor i; page = h.page i; removed = h.removed i; shoot = s.shoot }

  shoots-by :
      (shoot : Shoot) → GoesOn shoot → ShootsOn m (running shoot) →
      StageShoots m lock.actor lock.tick (Some (running shoot)) (shooting_by lock c shoot)
  shoots-by (Makes posts shot) h k = record { on = k; is = refl }
  shoots-by (Polls posts k) h l = record { on = l; is = refl }
  shoots-by (Done posts) h k = absurd h

  pub shoots-going :
      (s : ShootSeen) → IsOf m lock c s → GoesOn s.shoot → StageShoots m lock.actor lock.tick (Some s) (shooting_by lock c s.shoot)
  shoots-going s h g =
      let e = is-running s h in
      subst (λ (x : ShootSeen). StageShoots m lock.actor lock.tick (Some x) (shooting_by lock c s.shoot)) (sym e)
      (shoots-by s.shoot g (subst (λ (x : ShootSeen). ShootsOn m x) e h.on))

  pub shoots-over :
      (s : ShootSeen) (p : RustPhase) →
      ((posts : List ℕ) → phase_seen posts p
      ≡ shot_over m (answer_of m) lock.actor lock.tick (session_seen lock Returning) (course_seen posts c) (decided m lock c).action) →
      StageShoots m lock.actor lock.tick (Some s) (Runs (session_seen lock (phase_seen (posts_by s.shoot) p)))
  shoots-over s p f =
      let posts = posts_by s.shoot in
      shoot_fits-early m lock posts (Some s) (session_seen lock (phase_seen posts p)) p
      (subst (λ (q : Phase). EarlyNone (Some s) q) (sym (f posts))
      (late-over m lock.actor lock.tick (session_seen lock Returning) (Some s) (course_seen posts c) (decided m lock c).action))

  -- ---- a shootdown that begins

  from-by : (s : Session) (b d : Bool) (x y z : Shoot) → stage_shot s x ≡ Runs s → stage_shot s y ≡ Runs s → stage_shot s z ≡ Runs s →
      stage_shot s (if b then x else if d then y else z) ≡ Runs s
  from-by s true d x y z f g h = f
  from-by s false true x y z f g h = g
  from-by s false false x y z f g h = h

  pub stage-from :
      stage_with m lock c (shoot_from m lock.actor lock.fault.page [])
      ≡ Runs (session_seen lock (with_shoot m (answer_of m) lock.actor lock.tick (session_seen lock Returning) (course_seen [] c)
      (shoot_from m lock.actor lock.fault.page [])))
  stage-from =
      from-by (session_seen lock (with_shoot m (answer_of m) lock.actor lock.tick (session_seen lock Returning) (course_seen [] c)
      (shoot_from m lock.actor lock.fault.page [])))
      (nat_lt 0 (length (entries_of_page m lock.fault.page))) (nat_lt 0 (length (targets m lock.actor lock.fault.page [])))
      (Makes [] Posting) (Makes [] (Asking 0)) (Done []) refl refl refl

  -- ---- an operation of a shootdown

  with-by :
      (posts : List ℕ) (shot : Shot) (x : Shoot) →
      stage_with m lock c x
      ≡ stage_shot (with_phase (session_seen lock (Shooting (course_seen posts c) shot))
      (with_shoot m (answer_of m) lock.actor lock.tick (session_seen lock (Shooting (course_seen posts c) shot)) (course_seen posts c) x)) x
  with-by posts shot (Makes ps s) = refl
  with-by posts shot (Polls ps k) = refl
  with-by posts shot (Done ps) = refl

  followed-by :
      (b : Bool) (posts : List ℕ) (shot : Shot) (x : Shoot) →
      stage_with m lock c (if b then x else Makes posts shot)
      ≡ (if b then stage_shot (with_phase (session_seen lock (Shooting (course_seen posts c) shot))
      (with_shoot m (answer_of m) lock.actor lock.tick (session_seen lock (Shooting (course_seen posts c) shot)) (course_seen posts c) x)) x
      else Runs (session_seen lock (Shooting (course_seen posts c) shot)))
  followed-by true posts shot x = with-by posts shot x
  followed-by false posts shot x = refl

  after-by :
      (n : ℕ) (shoot : Shoot) → GoesOn shoot →
      stage_with m lock c (shoot_after m (running shoot) n shoot) ≡ stage_after m (answer_of m) lock.actor lock.tick n
      (shooting_by lock c shoot)
  after-by n (Makes posts shot) h =
      followed-by (is_followed m (Some (shot_next m lock.actor lock.fault.page (decided m lock c).removed posts shot)) n) posts shot
      (shot_after m lock.actor lock.fault.page posts n shot)
  after-by n (Polls posts k) h = refl
  after-by n (Done posts) h = absurd h

  pub stage-shot :
      (s : ShootSeen) (n : ℕ) → IsOf m lock c s → GoesOn s.shoot →
      stage_with m lock c (shoot_after m s n s.shoot) ≡ stage_after m (answer_of m) lock.actor lock.tick n (shooting_by lock c s.shoot)
  stage-shot s n h g =
      ap (λ (x : ShootSeen). stage_with m lock c (shoot_after m x n s.shoot)) (is-running s h) ∙ after-by n s.shoot g

word-by : (m : Machine) (s : ShootSeen) (shoot : Shoot) → IsTrue (is_word_needed (need_by m s shoot)) → GoesOn shoot
word-by m s (Makes posts shot) h = tt
word-by m s (Polls posts k) h = tt
word-by m s (Done posts) h = absurd cc

pub word-goes_on : (m : Machine) (s : ShootSeen) → IsTrue (is_word_needed (need_of m s)) → GoesOn s.shoot
word-goes_on m s h = word-by m s s.shoot h

-- ---- what follows a phase may be entered

pub enters_of :
    (m : Machine) (lock : Lock) (next : Then) → SessionFits m lock.actor (fault_seen lock.fault) lock.dir → RemovesSome m lock next →
    EntersOn m lock next
enters_of m lock (then_.Runs p) h k = tt
enters_of m lock (then_.Shoots c r) h k = record {
  removes = k;
  actor = fault-most m lock.actor (fault_seen lock.fault) h.fault;
  page = fault-page m lock.actor (fault_seen lock.fault) h.fault;
}

pub then_shoots_of :
    (m : Machine) (lock : Lock) (seen : Option ShootSeen) (p : RustPhase) (n : ℕ) (next : Then) →
    then_seen m lock (posts_in seen) next
    ≡ phase_after m (answer_of m) lock.actor lock.tick (session_seen lock Returning) n (phase_seen (posts_in seen) p) →
    EarlyNone seen (phase_seen (posts_in seen) p) → ThenShoots m lock seen next
then_shoots_of m lock seen p n (then_.Runs q) e h =
    shoot_fits-early m lock (posts_in seen) seen (session_seen lock (phase_seen (posts_in seen) q)) q
    (subst (λ (x : Phase). EarlyNone seen x) (sym e)
    (early-after m lock.actor lock.tick (session_seen lock Returning) seen n (phase_seen (posts_in seen) p) h))
then_shoots_of m lock seen p n (then_.Shoots c r) e h = tt

-- ---- an operation of a phase

abbrev ends : RustPhase → Bool
ends phase.Stamping = false
ends (phase.Seeking stamp passed) = false
ends (phase.Taking stamp passed seen) = false
ends phase.Returning = true
ends (phase.Filling c w) = false
ends (phase.Reading c w) = false
ends (phase.Copying c w seen) = false
ends (phase.Giving c given) = false
ends (phase.Storing c) = false
ends (phase.Granting c) = false
ends (phase.Unlocking c) = true

true_false : true ≡ false → ⊥
true_false e = cc

module _ (m : Machine) (lock : Lock) (posts : List ℕ) (n : ℕ) where
  -- a phase that does not end its session goes on to the next one
  goes-to :
      (p : RustPhase) → ends p ≡ false → is_followed m
      (Some (session_next m (answer_of m) lock.actor lock.tick (session_seen lock (phase_seen posts p)) (phase_seen posts p))) n ≡ true →
      Runs (session_seen lock (phase_after m (answer_of m) lock.actor lock.tick (session_seen lock Returning) n (phase_seen posts p)))
      ≡ stage_after m (answer_of m) lock.actor lock.tick n (Runs (session_seen lock (phase_seen posts p)))
  goes-to phase.Stamping e f = rw f refl
  goes-to (phase.Seeking stamp passed) e f = rw f refl
  goes-to (phase.Taking stamp passed seen) e f = rw f refl
  goes-to phase.Returning e f = absurd (true_false e)
  goes-to (phase.Filling c w) e f = refl
  goes-to (phase.Reading c w) e f = rw f refl
  goes-to (phase.Copying c w seen) e f = refl
  goes-to (phase.Giving c given) e f = rw f refl
  goes-to (phase.Storing c) e f = refl
  goes-to (phase.Granting c) e f = rw f refl
  goes-to (phase.Unlocking c) e f = absurd (true_false e)

  not_ending : (p : RustPhase) → (p ≡ phase.Returning → ⊥) → ((c : RustCourse) → p ≡ phase.Unlocking c → ⊥) → ends p ≡ false
  not_ending phase.Stamping f g = refl
  not_ending (phase.Seeking stamp passed) f g = refl
  not_ending (phase.Taking stamp passed seen) f g = refl
  not_ending phase.Returning f g = absurd (f refl)
  not_ending (phase.Filling c w) f g = refl
  not_ending (phase.Reading c w) f g = refl
  not_ending (phase.Copying c w seen) f g = refl
  not_ending (phase.Giving c given) f g = refl
  not_ending (phase.Storing c) f g = refl
  not_ending (phase.Granting c) f g = refl
  not_ending (phase.Unlocking c) f g = absurd (g c refl)

  pub stage-runs :
      (p : RustPhase) (next : Then) → (p ≡ phase.Returning → ⊥) → ((c : RustCourse) → p ≡ phase.Unlocking c → ⊥) →
      is_followed m (Some (session_next m (answer_of m) lock.actor lock.tick (session_seen lock (phase_seen posts p))
      (phase_seen posts p))) n ≡ true →
      then_seen m lock posts next
      ≡ phase_after m (answer_of m) lock.actor lock.tick (session_seen lock Returning) n (phase_seen posts p) →
      Runs (session_seen lock (then_seen m lock posts next))
      ≡ stage_after m (answer_of m) lock.actor lock.tick n (Runs (session_seen lock (phase_seen posts p)))
  stage-runs p next f g h e = ap (λ (q : Phase). Runs (session_seen lock q)) e ∙ goes-to p (not_ending p f g) h

  -- the operation of a phase, whatever masks were found
  pub next-posts :
      (p : RustPhase) →
      session_next m (answer_of m) lock.actor lock.tick (session_seen lock Returning) (phase_seen [] p)
      ≡ session_next m (answer_of m) lock.actor lock.tick (session_seen lock (phase_seen posts p)) (phase_seen posts p)
  next-posts phase.Stamping = refl
  next-posts (phase.Seeking stamp passed) = refl
  next-posts (phase.Taking stamp passed seen) = refl
  next-posts phase.Returning = refl
  next-posts (phase.Filling c w) = refl
  next-posts (phase.Reading c w) = refl
  next-posts (phase.Copying c w seen) = refl
  next-posts (phase.Giving c given) = refl
  next-posts (phase.Storing c) = refl
  next-posts (phase.Granting c) = refl
  next-posts (phase.Unlocking c) = refl

  -- an operation that is not followed leaves the stage as it is
  pub stage-stays :
      (p : RustPhase) →
      is_followed m (Some (session_next m (answer_of m) lock.actor lock.tick (session_seen lock Returning) (phase_seen [] p))) n ≡ false →
      Runs (session_seen lock (phase_seen posts p))
      ≡ stage_after m (answer_of m) lock.actor lock.tick n (Runs (session_seen lock (phase_seen posts p)))
  stage-stays p e =
      let f = ap (λ (x : WordName × Op). is_followed m (Some x) n) (sym (next-posts p)) ∙ e in
      rw f refl
