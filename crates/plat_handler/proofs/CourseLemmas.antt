-- a session of the machine stays one, whatever number of the machine its operation finds
use Rattle.std.proofs.Common.{◌≡◌, ◌≢◌, ℕ, ◌+◌, ◌^◌, ◌<◌, ◌≤◌, Bool, true, false, if◌then◌else◌, List, [], ◌∷◌, length, Option, Some, None}
use Rattle.std.proofs.Common.{refl, arith}
use Rattle.std.specs.Prelude.{IsTrue, nat_lt, ◌==◌, ◌&&◌, is_none, slice_index}
use Rattle.std.proofs.lemmas.Bool.Decides.{nat_tests}
use Rattle.std.proofs.lemmas.Bool.{ltb-true}
use Rattle.plat_base.specs.Verdicts.{Answer}
use Rattle.plat_base.specs.Alike.{same_verdict}
use Rattle.plat_base.specs.Frames.{frame_at}
use Rattle.plat_base.specs.Messages.{removes_some}
use Rattle.plat_base.specs.Machine.{Machine}
use Rattle.plat_base.specs.Decide.{decide, is_dir, is_empty, asks, fits_cause, is_frame_on, is_some_frame}
use Rattle.plat_base.specs.declared.frames.Frame.{Frame}
use Rattle.plat_base.specs.declared.frames.Dir.{Dir}
use Rattle.plat_base.specs.declared.items.Action.{Action}
use Rattle.plat_base.specs.declared.items.Action.TheVariants as action
use Rattle.plat_base.specs.declared.items.Cause.{Cause}
use Rattle.plat_base.specs.declared.items.Cause.TheVariants as cause
use Rattle.plat_base.specs.declared.policies.Verdict.TheVariants as verdict
use Rattle.plat_base.specs.Rules.{names_got}
use Rattle.plat_words.proofs.Pools.{lowest_free-below}
use Rattle.plat_events.specs.Words.{last_read, seq_read, lowest_free}
use Rattle.plat_events.specs.Places.{most_changes}
use Rattle.plat_events.specs.Events.{is_followed}
use Rattle.plat_events.specs.Shootdowns.{Shoot, Makes, Polls, Done, shoot_from, shot_after}
use Rattle.plat_events.specs.Sessions.{Stamp, Course, Phase, Stamping, Seeking, Taking, Returning, Shooting, Filling, Reading, Copying}
use Rattle.plat_events.specs.Sessions.{Giving, Storing, Granting, Unlocking, Session, decision_of, by_distance, tried, going, give_from}
use Rattle.plat_events.specs.Sessions.{fill_from, copy_from, shot_over, with_posts, with_shoot, start_course, with_frame_got, seek_from}
use Rattle.plat_events.specs.Sessions.{pool_found, frame_taken, session_next, phase_after}
use Rattle.plat_handler.specs.Phases.{answer_of}
use Rattle.plat_handler.specs.Fits.{SessionFits, CourseFits, SeekFits, PhaseFits, may_begin}
use Rattle.plat_handler.proofs.ModuleLemmas.{by_distance-within, length-by_distance}
use Rattle.plat_handler.proofs.FaultLemmas.{fault-actor, fault-most, facts-decide, frozen-some}

-- ---- a page that is copied

abbrev is_copying : Action → Bool
is_copying action.Fill = false
is_copying action.MapLocal = false
is_copying action.MapRemote = false
is_copying action.Replicate = true
is_copying action.Migrate = true
is_copying action.Collapse = false
is_copying action.Thaw = false

copying-got : (x : Action) → is_copying x ≡ true → names_got x ≡ true
copying-got action.Replicate h = refl
copying-got action.Migrate h = refl
copying-got action.Fill h = absurd cc
copying-got action.MapLocal h = absurd cc
copying-got action.MapRemote h = absurd cc
copying-got action.Collapse h = absurd cc
copying-got action.Thaw h = absurd cc

copying-no_fill : (x : Action) → is_copying x ≡ true → x ≢ action.Fill
copying-no_fill x h e = grind arith

copied :
    (m : Machine) (answer : Answer) (dir : Dir) (last : Option ℕ) (now n : ℕ) (c : Cause) (got : Option Frame) →
    IsTrue (is_dir m dir) → IsTrue (fits_cause m answer dir last now n c got) → (c ≢ cause.Thaw → n < m.nodes) →
    is_copying (decide m answer dir last now n c got).action ≡ true → (is_empty dir.state ≡ false) × (n < m.nodes)
copied m answer dir last now n cause.Read got d f l h =
    let t : cause.Read ≢ cause.Thaw = λ e. cc in
    let x = (decide m answer dir last now n cause.Read got).action in
    ((facts-decide m answer dir last now n cause.Read got d f t).copied (copying-no_fill x h) (copying-got x h), l t)
copied m answer dir last now n cause.Write got d f l h =
    let t : cause.Write ≢ cause.Thaw = λ e. cc in
    let x = (decide m answer dir last now n cause.Write got).action in
    ((facts-decide m answer dir last now n cause.Write got d f t).copied (copying-no_fill x h) (copying-got x h), l t)
copied m answer dir last now n cause.Thaw got d f l h = absurd cc

-- ---- a frame that was taken, or none

one_of : (b : Bool) → (if b then true else true) ≡ true
one_of true = refl
one_of false = refl

pub none-fits :
    (m : Machine) (answer : Answer) (dir : Dir) (last : Option ℕ) (now n : ℕ) (c : Cause) → is_empty dir.state ≡ false →
    IsTrue (may_begin c dir) → IsTrue (fits_cause m answer dir last now n c None)
none-fits m answer dir last now n cause.Read e b =
    rw e (one_of _)
none-fits m answer dir last now n cause.Write e b =
    rw e (one_of _)
none-fits m answer dir last now n cause.Thaw e b = rw b refl

abbrev modules_by : Machine → (n : ℕ) → (empty moves : Bool) → List ℕ
modules_by m n empty moves = if empty then by_distance m n else if moves then n ∷ [] else []

abbrev got_by : Machine → (n : ℕ) → (empty moves : Bool) → Option Frame → Bool
got_by m n empty moves got = if empty then is_some_frame m got else if moves then is_frame_on m n got else is_none got

taken-fits :
    (m : Machine) (n : ℕ) (empty moves : Bool) (i number : ℕ) → i < length (modules_by m n empty moves) → n < m.nodes → number < m.frames →
    got_by m n empty moves (Some (frame_at (slice_index (modules_by m n empty moves) i) number)) ≡ true
taken-fits m n true moves i number h l k =
    let within : slice_index (by_distance m n) i < m.nodes = by_distance-within m n i (omega (arith, h, length-by_distance m n)) in
    grind (arith, nat_tests)
taken-fits m n false true i number h l k =
    let first : i ≡ 0 = omega arith in rw first (grind (arith, nat_tests))
taken-fits m n false false i number h l k = absurd (omega arith)

thaw_seeks-nothing : (m : Machine) (n : ℕ) (empty : Bool) (i : ℕ) → empty ≡ false → i < length (modules_by m n empty false) → ⊥
thaw_seeks-nothing m n true i e h = cc
thaw_seeks-nothing m n false i e h = omega arith

pub some-fits :
    (m : Machine) (answer : Answer) (dir : Dir) (last : Option ℕ) (now n : ℕ) (c : Cause) (i number : ℕ) → IsTrue (is_dir m dir) →
    IsTrue (may_begin c dir) → (c ≢ cause.Thaw → n < m.nodes) → number < m.frames →
    i < length (modules_by m n (is_empty dir.state) (asks c dir n && same_verdict (answer dir last now) verdict.Move)) →
    IsTrue (fits_cause m answer dir last now n c (Some
    (frame_at (slice_index (modules_by m n (is_empty dir.state) (asks c dir n && same_verdict (answer dir last now) verdict.Move)) i)
    number)))
some-fits m answer dir last now n cause.Read i number d b l k h =
    taken-fits m n (is_empty dir.state) (asks cause.Read dir n && same_verdict (answer dir last now) verdict.Move) i number h
    (l (λ e. cc)) k
some-fits m answer dir last now n cause.Write i number d b l k h =
    taken-fits m n (is_empty dir.state) (asks cause.Write dir n && same_verdict (answer dir last now) verdict.Move) i number h
    (l (λ e. cc)) k
some-fits m answer dir last now n cause.Thaw i number d b l k h =
    absurd (thaw_seeks-nothing m n (is_empty dir.state) i (frozen-some m dir d b) h)

-- ---- phase by phase, from the last to the first

module _ (m : Machine) (a now : ℕ) (s : Session) where
  either :
      (b : Bool) (x y : Phase) → (b ≡ true → PhaseFits m a now s x) → (b ≡ false → PhaseFits m a now s y) →
      PhaseFits m a now s (if b then x else y)
  either true x y f g = f refl
  either false x y f g = g refl

  give_from-fits : (c : Course) (k : ℕ) → CourseFits m a now s c → PhaseFits m a now s (give_from m (answer_of m) a now s c k)
  give_from-fits c k h =
      let n : ℕ = length (going s.dir (decision_of m (answer_of m) a now s c)) in
      either (nat_lt k n) (Giving c k) (Storing c) (λ e. (h, ltb-true k n e)) (λ e. h)

  fill_from-fits : (c : Course) (w : ℕ) → CourseFits m a now s c → PhaseFits m a now s (fill_from m (answer_of m) a now s c w)
  fill_from-fits c w h =
      either (nat_lt w m.words) (Filling c w) (give_from m (answer_of m) a now s c 0) (λ e. (h, ltb-true w m.words e))
      (λ e. give_from-fits c 0 h)

  copy_from-fits :
      (c : Course) (w : ℕ) → CourseFits m a now s c → is_empty s.dir.state ≡ false → a < m.nodes →
      PhaseFits m a now s (copy_from m (answer_of m) a now s c w)
  copy_from-fits c w h e l =
      either (nat_lt w m.words) (Reading c w) (give_from m (answer_of m) a now s c 0) (λ t. (h, ltb-true w m.words t, e, l))
      (λ t. give_from-fits c 0 h)

  shot_over-fits :
      (c : Course) (x : Action) → CourseFits m a now s c → (is_copying x ≡ true → (is_empty s.dir.state ≡ false) × (a < m.nodes)) →
      PhaseFits m a now s (shot_over m (answer_of m) a now s c x)
  shot_over-fits c action.Fill h f = fill_from-fits c 0 h
  shot_over-fits c action.MapLocal h f = give_from-fits c 0 h
  shot_over-fits c action.MapRemote h f = give_from-fits c 0 h
  shot_over-fits c action.Replicate h f = let p = f refl in copy_from-fits c 0 h p.0 p.1
  shot_over-fits c action.Migrate h f = let p = f refl in copy_from-fits c 0 h p.0 p.1
  shot_over-fits c action.Collapse h f = give_from-fits c 0 h
  shot_over-fits c action.Thaw h f = give_from-fits c 0 h

  module _ (session : SessionFits m a s.fault s.dir) where
    course-copied :
        (c : Course) → CourseFits m a now s c → is_copying (decision_of m (answer_of m) a now s c).action ≡ true →
        (is_empty s.dir.state ≡ false) × (a < m.nodes)
    course-copied c h e =
        copied m (answer_of m) s.dir c.stamp.last now a s.fault.cause c.got session.dir h.0 (fault-actor m a s.fault session.fault) e

    with_shoot-fits :
        (c : Course) (shoot : Shoot) → CourseFits m a now s c → PhaseFits m a now s (with_shoot m (answer_of m) a now s c shoot)
    with_shoot-fits c (Makes posts shot) h = h
    with_shoot-fits c (Polls posts k) h = h
    with_shoot-fits c (Done posts) h =
        shot_over-fits (with_posts c posts) (decision_of m (answer_of m) a now s c).action h (course-copied c h)

    start_course-fits : (c : Course) → CourseFits m a now s c → PhaseFits m a now s (start_course m (answer_of m) a now s c)
    start_course-fits c h =
        either (removes_some (decision_of m (answer_of m) a now s c).removed)
        (with_shoot m (answer_of m) a now s c (shoot_from m a s.fault.page []))
        (shot_over m (answer_of m) a now s c (decision_of m (answer_of m) a now s c).action)
        (λ e. with_shoot-fits c (shoot_from m a s.fault.page []) h)
        (λ e. shot_over-fits c (decision_of m (answer_of m) a now s c).action h (course-copied c h))

    with_frame_got-fits :
        (st : Stamp) (got : Option Frame) → IsTrue (fits_cause m (answer_of m) s.dir st.last now a s.fault.cause got) →
        st.seq ≤ most_changes →
        PhaseFits m a now s (with_frame_got m (answer_of m) a now s st got)
    with_frame_got-fits st got h k = start_course-fits (record { stamp = st; got = got; posts = [] }) (h, k)

    seek_from-fits :
        (st : Stamp) (i : ℕ) → IsTrue (may_begin s.fault.cause s.dir) → st.seq ≤ most_changes →
        PhaseFits m a now s (seek_from m (answer_of m) a now s st i)
    seek_from-fits st i b k =
        let n : ℕ = length (tried m (answer_of m) a now s st) in
        either (nat_lt i n) (Seeking st i)
        (if is_empty s.dir.state then Returning else with_frame_got m (answer_of m) a now s st None)
        (λ e. (b, ltb-true i n e, k))
        (λ e. either (is_empty s.dir.state) Returning (with_frame_got m (answer_of m) a now s st None) (λ t. tt)
        (λ t. with_frame_got-fits st None (none-fits m (answer_of m) s.dir st.last now a s.fault.cause t b) k))

    pool_found-fits :
        (st : Stamp) (i n : ℕ) → SeekFits m a now s st i → n < 2 ^ m.frames →
        PhaseFits m a now s (pool_found m (answer_of m) a now s st i n)
    pool_found-fits st i n h l =
        either (n == 0) (seek_from m (answer_of m) a now s st (i + 1)) (Taking st i n) (λ e. seek_from-fits st (i + 1) h.0 h.2)
        (λ e. (h, grind (arith, nat_tests), l))

    taking-fits :
        (st : Stamp) (i seen : ℕ) → SeekFits m a now s st i → 0 < seen → seen < 2 ^ m.frames → m.frames ≤ 64 →
        PhaseFits m a now s (with_frame_got m (answer_of m) a now s st (Some (frame_taken m (answer_of m) a now s st i seen)))
    taking-fits st i seen h some l most =
        with_frame_got-fits st (Some (frame_taken m (answer_of m) a now s st i seen))
        (some-fits m (answer_of m) s.dir st.last now a s.fault.cause i (lowest_free seen) session.dir h.0
        (fault-actor m a s.fault session.fault) (lowest_free-below seen m.frames some l most) h.1) h.2

    pub phase_after-fits :
        (n : ℕ) (p : Phase) → m.frames ≤ 64 → PhaseFits m a now s p →
        is_followed m (Some (session_next m (answer_of m) a now s p)) n ≡ true →
        PhaseFits m a now s (phase_after m (answer_of m) a now s n p)
    phase_after-fits n Stamping most h f =
        seek_from-fits (record { last = last_read n; seq = seq_read n }) 0 h (grind (arith, nat_tests))
    phase_after-fits n (Seeking st i) most h f = pool_found-fits st i n h (grind (arith, nat_tests))
    phase_after-fits n (Taking st i seen) most h f =
        either (n == seen) (with_frame_got m (answer_of m) a now s st (Some (frame_taken m (answer_of m) a now s st i seen)))
        (pool_found m (answer_of m) a now s st i n) (λ e. taking-fits st i seen h.0 h.1 h.2 most)
        (λ e. pool_found-fits st i n h.0 (grind (arith, nat_tests)))
    phase_after-fits n Returning most h f = tt
    phase_after-fits n (Shooting c shot) most h f = with_shoot-fits c (shot_after m a s.fault.page c.posts n shot) h
    phase_after-fits n (Filling c w) most h f = fill_from-fits c (w + 1) h.0
    phase_after-fits n (Reading c w) most h f = h
    phase_after-fits n (Copying c w seen) most h f = copy_from-fits c (w + 1) h.0 h.2 h.3
    phase_after-fits n (Giving c k) most h f = give_from-fits c (k + 1) h.0
    phase_after-fits n (Storing c) most h f =
        either (a == m.nodes) (Unlocking c) (Granting c) (λ e. h)
        (λ e. (h, let l = fault-most m a s.fault session.fault in grind (arith, nat_tests)))
    phase_after-fits n (Granting c) most h f = h.0
    phase_after-fits n (Unlocking c) most h f = h
