-- what an actor may use and what its session has done: translations that it may use, the granted entry, the frame in hand, and
-- frames that are given back
use Rattle.std.proofs.Common.{◌≡◌, ℕ, zero, suc, ◌<◌, Bool, true, false, List, [], ◌∷◌, length, Some, None, refl, arith, sym, ◌∙◌, take}
use Rattle.std.specs.Prelude.{◌==◌, ◌||◌, not, if◌then◌else◌, Option, is_some, unwrap_or}
use Rattle.std.specs.Option.{option_map_or}
use Rattle.std.specs.List.{list_any}
use Rattle.std.proofs.lemmas.Bool.{and_from, eq-eqb, eqb-true}
use Rattle.plat_base.specs.Verdicts.{Answer}
use Rattle.plat_base.specs.Machine.{Machine}
use Rattle.plat_base.specs.Pages.{space_of}
use Rattle.plat_base.specs.Copies.{same_frame, copy_on}
use Rattle.plat_base.specs.Held.{removes_all}
use Rattle.plat_base.specs.Decide.{row_of, moves_page, frozen_after, asks}
use Rattle.plat_base.specs.Rules.{names_got}
use Rattle.plat_base.specs.declared.frames.Frame.{Frame}
use Rattle.plat_base.specs.declared.items.Action.{Action}
use Rattle.plat_base.specs.declared.items.Action.TheVariants as action
use Rattle.plat_base.specs.declared.items.Removed.TheVariants as removed
use Rattle.plat_laws.proofs.GuestLaws.{IsReach-wanted}
use Rattle.plat_laws.proofs.SameLaws.{same_removed-true}
use Rattle.plat_events.specs.Sessions.{Course, Phase, Stamping, Seeking, Taking, Returning, Shooting, Filling, Reading, Copying, Giving}
use Rattle.plat_events.specs.Sessions.{Storing, Granting, Unlocking, Session, decision_of, entry_faulted, going}
use Rattle.plat_events.specs.Privates.{Private}
use Rattle.plat_events.specs.Events.{reach_now, entry_of}
use Rattle.plat_events.specs.Standings.{course_of, is_quiet, unlocking_of, frames_given, has_given, has_granted}
use Rattle.plat_events.specs.Kept.{session_of, has_left, activation_at, is_active, is_unscanned, is_usable}
use Rattle.plat_local_laws.specs.Faults.{WantsAccess, FaultOk}
use Rattle.plat_local_laws.specs.Phases.{gives_frames, fills_words, copies_words, CourseOk, SessionOk}
use Rattle.plat_local_laws.specs.Standing.{PlaceOk}
use Rattle.plat_local_laws.proofs.CourseLaws.{IsActor, row_does-removes, going-gives, fault_decides}
use Rattle.plat_local_laws.proofs.RunningLaws.{phase-course, session-no_activation}

-- ---- what may be used

-- where no activation scan is under way, each entry of the active space may be used
pub no_scan-usable : (m : Machine) (p : Private) (e : ℕ) → activation_at p.place ≡ None → is_active m p e ≡ true → is_usable m p e ≡ true
no_scan-usable m p e h k = and_from (is_active m p e) (not (is_unscanned m p e)) k (rw h refl)

-- a session uses its space
pub session-usable :
    (m : Machine) (answer : Answer) (a : ℕ) (p : Private) (s : Session) (e : ℕ) → PlaceOk m answer a p p.place
    → session_of p.place ≡ Some s → is_active m p e ≡ true → is_usable m p e ≡ true
session-usable m answer a p s e h k = no_scan-usable m p e (session-no_activation m answer a p p.place s h k)

-- the entry of the access under way is of the active space
pub entry_now-space : (m : Machine) (a : ℕ) (p : Private) → WantsAccess m a p → space_of m (entry_of m (reach_now m a p)) ≡ p.guest.space
entry_now-space m a p w =
    let r = reach_now m a p in
    let is = IsReach-wanted m a p.guest r.kind r.space r.addr r.operand w in is.in_space ∙ is.space

-- an access uses its translation
pub access-usable :
    (m : Machine) (a : ℕ) (p : Private) → WantsAccess m a p → activation_at p.place ≡ None → has_left p.place ≡ false
    → is_usable m p (entry_of m (reach_now m a p)) ≡ true
access-usable m a p w h k =
    let e = entry_of m (reach_now m a p) in
    no_scan-usable m p e h
    (and_from (space_of m e == p.guest.space) (not (has_left p.place)) (eq-eqb (space_of m e) p.guest.space (entry_now-space m a p w))
    (rw k refl))

-- ---- the granted entry

granted_at : (entry : Option ℕ) (c : Option Course) (e d : ℕ) →
    option_map_or (λ (x : Course). option_map_or (λ y. y == e) entry false) c false ≡ true → (unwrap_or entry d ≡ e) × (is_some c ≡ true)
granted_at (Some y) (Some c) e d h = (eqb-true y e h, refl)
granted_at (Some y) None e d h = absurd cc
granted_at None (Some c) e d h = absurd cc
granted_at None None e d h = absurd cc

-- what a session has granted is the translation of its fault's entry, and its unlock is next
pub granted-entry :
    (m : Machine) (s : Session) (e : ℕ) → has_granted s e ≡ true → (entry_faulted m s.fault ≡ e) × (is_some (unlocking_of s.phase) ≡ true)
granted-entry m s e h = granted_at s.fault.entry (unlocking_of s.phase) e (length m.entries) h

-- ---- the frame in hand

pub fills_got : (x : Action) → (fills_words x || copies_words x) ≡ true → names_got x ≡ true
fills_got action.Fill h = refl
fills_got action.MapLocal h = absurd cc
fills_got action.MapRemote h = absurd cc
fills_got action.Replicate h = refl
fills_got action.Migrate h = refl
fills_got action.Collapse h = absurd cc
fills_got action.Thaw h = absurd cc

got_named : (b : Bool) (f : Frame) (got : Option Frame) → b ≡ true → (if b then Some f else None) ≡ got → got ≡ Some f
got_named true f got h k = sym k
got_named false f got h k = absurd cc

-- the frame that is filled or copied into is the one in hand
pub filled-hand :
    (m : Machine) (answer : Answer) (a : ℕ) (p : Private) (s : Session) (c : Course) → a < m.nodes → FaultOk m a p s.fault
    → CourseOk m answer a p s c → names_got (decision_of m answer a p.now s c).action ≡ true
    → c.got ≡ Some (decision_of m answer a p.now s c).frame
filled-hand m answer a p s c l f k h =
    let d = decision_of m answer a p.now s c in
    got_named (names_got d.action) d.frame c.got h (fault_decides m answer a p s c f k l).got_back

-- ---- frames that are given back

-- who gives frames back removes all
pub gives-all :
    (m : Machine) (answer : Answer) (a now : ℕ) (s : Session) (c : Course) → gives_frames (decision_of m answer a now s c).action ≡ true
    → (decision_of m answer a now s c).removed ≡ removed.All
gives-all m answer a now s c h =
    let d = decision_of m answer a now s c in
    let v = answer s.dir c.stamp.last now in
    let k = s.fault.cause in
    let row = row_does-removes m (row_of k s.dir.state (is_some (copy_on a s.dir.copies)) (moves_page v c.got)) s.dir
    (frozen_after (asks k s.dir a) v s.dir.frozen) a c.got in
    let all : removes_all d.removed ≡ true = row ∙ rw h refl in
    same_removed-true d.removed removed.All all

some-in : (f : Frame) (fs : List Frame) → list_any (same_frame f) fs ≡ true → 0 < length fs
some-in f [] h = absurd cc
some-in f (g ∷ gs) h = omega arith

take-some : (f : Frame) (k : ℕ) (fs : List Frame) → list_any (same_frame f) (take k fs) ≡ true → 0 < length fs
take-some f zero fs h = absurd cc
take-some f (suc k) [] h = absurd cc
take-some f (suc k) (g ∷ gs) h = omega arith

given-some : (f : Frame) (phase : Phase) (fs : List Frame) → list_any (same_frame f) (frames_given fs phase) ≡ true →
    (0 < length fs) × (is_quiet phase ≡ true)
given-some f Stamping fs h = absurd cc
given-some f (Seeking st i) fs h = absurd cc
given-some f (Taking st i seen) fs h = absurd cc
given-some f Returning fs h = absurd cc
given-some f (Shooting c shot) fs h = absurd cc
given-some f (Filling c w) fs h = absurd cc
given-some f (Reading c w) fs h = absurd cc
given-some f (Copying c w seen) fs h = absurd cc
given-some f (Giving c k) fs h = (take-some f k fs h, refl)
given-some f (Storing c) fs h = (some-in f fs h, refl)
given-some f (Granting c) fs h = (some-in f fs h, refl)
given-some f (Unlocking c) fs h = (some-in f fs h, refl)

-- the row of a session that has given a frame back
given-course :
    (m : Machine) (answer : Answer) (a now : ℕ) (s : Session) (f : Frame) (o : Option Course)
    → option_map_or (λ c. list_any (same_frame f) (frames_given (going s.dir (decision_of m answer a now s c)) s.phase)) o false ≡ true
    → (c : Course) × (o ≡ Some c) × (list_any (same_frame f) (frames_given (going s.dir (decision_of m answer a now s c)) s.phase) ≡ true)
given-course m answer a now s f None h = absurd cc
given-course m answer a now s f (Some c) h = (c, refl, h)

-- a session that has given a frame back is quiet, and removes all
pub given-removes :
    (m : Machine) (answer : Answer) (a : ℕ) (p : Private) (s : Session) (f : Frame) → IsActor m a → SessionOk m answer a p s
    → has_given m answer a p.now s f ≡ true
    → (c : Course) × (course_of s.phase ≡ Some c) × (is_quiet s.phase ≡ true) × ((decision_of m answer a p.now s c).removed ≡ removed.All)
given-removes m answer a p s f actor h k =
    let x = given-course m answer a p.now s f (course_of s.phase) k in
    let some = given-some f s.phase (going s.dir (decision_of m answer a p.now s x.0)) x.2 in
    let course = phase-course m answer a p s s.phase x.0 h.phase x.1 in
    (x.0, x.1, some.1, gives-all m answer a p.now s x.0 (going-gives m answer a p s x.0 0 actor h.fault course some.0))
