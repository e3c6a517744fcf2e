-- a frame that is taken from its pool keeps the invariant
use Rattle.std.specs.Prelude.{◌≡◌, ◌≢◌, ◌⊎◌, ℕ, zero, suc, ◌+◌, ◌-◌, ◌^◌, ◌<◌, ◌==◌, ◌&&◌, nat_lt, not, if◌then◌else◌, Bool, true, false}
use Rattle.std.specs.Prelude.{List, [], ◌∷◌, length, Some, None, is_none, IsTrue, sum_by, slice_index}
use Rattle.std.proofs.Common.{refl, ap, sym, ◌∙◌, inl, inr, arith, subst}
use Rattle.std.proofs.Math.Nat.{pow-le-pow_right}
use Rattle.std.proofs.lemmas.Bool.{cases_eq, and_parts, eq-eqb, ne_eqb, true≢false}
use Rattle.std.proofs.lemmas.Bool.Decides.{nat_tests}
use Rattle.std.proofs.Math.Bool.{and-false, and-true}
use Rattle.plat_base.specs.Verdicts.{Answer}
use Rattle.plat_base.specs.Machine.{Machine}
use Rattle.plat_base.specs.Pages.{numbers}
use Rattle.plat_base.specs.Alike.{same_verdict}
use Rattle.plat_base.specs.Copies.{same_frame, copy_on}
use Rattle.plat_base.specs.Decide.{asks, is_dir, is_empty, is_frame, may_decide}
use Rattle.plat_base.specs.Rules.{names_got, HasEnoughFrames}
use Rattle.plat_base.specs.declared.frames.Dir.{Dir}
use Rattle.plat_base.specs.declared.frames.Frame.{Frame}
use Rattle.plat_base.specs.declared.items.Cause.{Cause}
use Rattle.plat_base.specs.declared.items.Cause.TheVariants as cause
use Rattle.plat_base.specs.declared.policies.Verdict.TheVariants as verdict
use Rattle.plat_base.specs.declared.words.Op.TheVariants as op
use Rattle.plat_base.specs.declared.words.WordName.TheVariants as word
use Rattle.plat_base.proofs.CopiesLemmas.{same_frame-itself}
use Rattle.plat_words.proofs.Pools.{IsLowest, lowest_free-is, lowest_free-below, has_bit-taken}
use Rattle.plat_events.specs.Words.{has_bit, lowest_free, without_lowest}
use Rattle.plat_events.specs.Places.{is_name, is_word}
use Rattle.plat_events.specs.Sessions.{Stamp, Course, Phase, Taking, Session, decision_of, by_distance, tried, module_tried, phase_after}
use Rattle.plat_events.specs.Sessions.{pool_found, frame_taken, with_frame_got, with_phase}
use Rattle.plat_events.specs.Standings.{stamp_of, saw_no_frame}
use Rattle.plat_events.specs.Privates.{InSession, Private, actor_count}
use Rattle.plat_events.specs.Events.{at}
use Rattle.plat_events.specs.Kept.{session_of, session_on, is_kept, word_at, private_of}
use Rattle.plat_events.specs.Runs.{Fine, event}
use Rattle.plat_events.specs.Shown.{bit_of, is_free, is_hand, uses_of, Shows}
use Rattle.plat_laws.specs.Guests.{IsWithinLimits}
use Rattle.plat_laws.proofs.Limits.{frames-most}
use Rattle.plat_laws.proofs.TableLaws.{decide_facts, copy_on-empty}
use Rattle.plat_local_laws.specs.Phases.{TakingOk, PhaseOk, SessionOk}
use Rattle.plat_local_laws.proofs.CourseLaws.{module_tried-below, may_some, cause-fault}
use Rattle.plat_fine_laws.specs.Changes.{Changes}
use Rattle.plat_fine_laws.proofs.WordLaws.{word_at-new, word_at-other}
use Rattle.plat_fine_laws.proofs.SessionFootprints.{taking-changes}
use Rattle.plat_frame_laws.specs.Phased.{running}
use Rattle.plat_frame_laws.specs.StartPhases.{StartPhase}
use Rattle.plat_frame_laws.proofs.SumLaws.{sum-same, sum-one}
use Rattle.plat_frame_laws.proofs.FrameUseLaws.{page_uses, bit_one, bit_zero, free-unused, unused-kept}
use Rattle.plat_frame_laws.proofs.StartPhaseLaws.{Fixed, start-taking, fixed-start}
use Rattle.plat_frame_laws.proofs.StartGoesLaws.{start-kept, start-hand_before, start-hand_after, start-hand_other, shows-started}
use Rattle.plat_frame_laws.proofs.SessionHereLaws.{here, session, reached-session}
use Rattle.plat_frame_laws.proofs.StoreLaws.{pool-named, pool-apart, frame-node}
use Rattle.plat_frame_laws.proofs.StillFrameLaws.{KeepsFrames-pool}
use Rattle.plat_laws.proofs.SameLaws.{same_frame-true}
use Rattle.plat_laws.proofs.ItemLaws.{is_none-None}

-- ---- the module that is tried

-- for a page that is not empty the own module is tried, where the policy is asked
own-tried :
    (asked moves : Bool) (node i : ℕ) (near : List ℕ) → i < length (if false then near else if asked && moves then node ∷ [] else []) →
    (asked ≡ true) × (slice_index (if false then near else if asked && moves then node ∷ [] else []) i ≡ node)
own-tried true true node zero near inside = (refl, refl)
own-tried true true node (suc i) near inside = absurd (omega arith)
own-tried true false node i near inside = absurd (omega arith)
own-tried false moves node i near inside = absurd (omega arith)

asked-none : (c : Cause) (dir : Dir) (node : ℕ) → asks c dir node ≡ true → copy_on node dir.copies ≡ None
asked-none cause.Read dir node h = is_none-None (copy_on node dir.copies) (and_parts (not (is_empty dir.state)) (is_none (copy_on node
    dir.copies)) h).1
asked-none cause.Write dir node h = is_none-None (copy_on node dir.copies) (and_parts (not (is_empty dir.state)) (is_none (copy_on node
    dir.copies)) h).1
asked-none cause.Thaw dir node h = absurd cc

-- the page has no copy on a module that is tried
tried-apart :
    (m : Machine) (answer : Answer) (a now : ℕ) (x : Session) (st : Stamp) (i : ℕ) → is_dir m x.dir ≡ true →
    i < length (tried m answer a now x st) → copy_on (module_tried m answer a now x st i) x.dir.copies ≡ None
tried-apart m answer a now x st i fits inside = by (is_empty x.dir.state) refl
  where
    by : (b : Bool) → is_empty x.dir.state ≡ b → copy_on (module_tried m answer a now x st i) x.dir.copies ≡ None
    by true e = copy_on-empty m x.dir (module_tried m answer a now x st i) fits e
    by false e =
        let moves = same_verdict (answer x.dir st.last now) verdict.Move in
        let rest : List ℕ = if asks x.fault.cause x.dir a && moves then a ∷ [] else [] in
        let same : tried m answer a now x st ≡ (if false then by_distance m a else rest) = ap (λ b. if b then by_distance m a else rest)
        e in
        let own = own-tried (asks x.fault.cause x.dir a) moves a i (by_distance m a) (subst (λ ms. i < length ms) same inside) in
        let node : module_tried m answer a now x st i ≡ a = ap (λ ms. slice_index ms i) same ∙ own.1 in
        ap (λ mo. copy_on mo x.dir.copies) node ∙ asked-none x.fault.cause x.dir a own.0

-- ---- the take

module _ (m : Machine) (answer : Answer) (s : Fine) (a : ℕ) (x : Session) (st : Stamp) (i seen : ℕ) (limits : IsWithinLimits m)
    (shows : Shows m answer s) (within : a < actor_count m) (stands : (private_of m s a).place ≡ InSession x)
    (is : x.phase ≡ Taking st i seen)
    (found : word_at m s (word.Pool (module_tried m answer a (private_of m s a).now x st i)) ≡ seen) where
  abbrev p : Private
  p = private_of m s a

  abbrev page : ℕ
  page = x.fault.page

  abbrev mo : ℕ
  mo = module_tried m answer a p.now x st i

  abbrev n : ℕ
  n = word_at m s (word.Pool mo)

  abbrev f : Frame
  f = frame_taken m answer a p.now x st i seen

  abbrev next : Phase
  next = phase_after m answer a p.now x n x.phase

  abbrev t : Fine
  t = event m answer s a

  abbrev course : Course
  course = record { stamp = st; got = Some f; posts = [] }

  session-here : SessionOk m answer a p x
  session-here = session m answer s a x limits shows within stands

  takes : TakingOk m answer a p x st i seen
  takes = subst (PhaseOk m answer a p x) is session-here.phase

  node : mo < m.nodes
  node = module_tried-below m answer a p.now x st i takes.seeks.processor takes.seeks.left

  named : IsTrue (is_name m (word.Pool mo))
  named = pool-named m mo node

  n-fits : IsTrue (is_word m (word.Pool mo) n)
  n-fits = shows.words_encoded (word.Pool mo) named

  on : session_on s.privates page ≡ Some (running a p.now x)
  on = shows.one_session a x within (ap session_of stands)

  equal : (n == seen) ≡ true
  equal = eq-eqb n seen found

  -- ---- the frame

  some : 0 < seen
  some = let other = takes.some in omega arith

  below : seen < 2 ^ 64
  below =
      let most = frames-most m limits in let pool = takes.pool in
      omega (arith, pool, pow-le-pow_right {n = 2} (omega arith) {i = m.frames} {j = 64} most)

  lowest : IsLowest seen (lowest_free seen)
  lowest = lowest_free-is seen some below

  number-below : lowest_free seen < m.frames
  number-below = lowest_free-below seen m.frames some takes.pool (frames-most m limits)

  f-frame : is_frame m f ≡ true
  f-frame = let inside : mo < m.nodes = node in let low : lowest_free seen < m.frames = number-below in grind (arith, nat_tests)

  may : may_decide m answer x.dir st.last p.now a x.fault.cause (Some f) ≡ true
  may =
      may_some m answer a p.now x st i f session-here.dir (cause-fault m a p x session-here.fault takes.seeks.processor) takes.seeks.left
      f-frame
      refl

  -- the action is one that takes a frame
  names : (g : Frame) → Some f ≡ Some g → names_got (decision_of m answer a p.now x course).action ≡ true
  names g same =
      let facts =
      decide_facts m answer x.dir st.last p.now a x.fault.cause (Some f) (cause-fault m a p x session-here.fault takes.seeks.processor)
      may in
      by (names_got (decision_of m answer a p.now x course).action) facts.got_back
    where
      by : (b : Bool) → (if b then Some (decision_of m answer a p.now x course).frame else None) ≡ Some f → b ≡ true
      by true h = refl
      by false h = absurd cc

  -- ---- the phases

  from : StartPhase m answer a p.now x st None x.phase
  from = subst (StartPhase m answer a p.now x st None) (sym is) (start-taking m answer a p.now x st i seen)

  fixed : Fixed m answer a p.now x st (Some f) (with_frame_got m answer a p.now x st (Some f))
  fixed = fixed-start m answer a p.now x st (Some f) names

  leads : next ≡ with_frame_got m answer a p.now x st (Some f)
  leads =
      ap (phase_after m answer a p.now x n) is
      ∙ ap (λ b. if b then with_frame_got m answer a p.now x st (Some f) else pool_found m answer a p.now x st i n) equal

  to : StartPhase m answer a p.now x st (Some f) next
  to = subst (StartPhase m answer a p.now x st (Some f)) (sym leads) fixed.start

  changes : Changes m s t a (word.Pool mo) (without_lowest seen) (at p (InSession (with_phase x next))) None
  changes =
      subst (λ k. Changes m s t a (word.Pool mo) k (at p (InSession (with_phase x next))) None)
      (ap (λ b. if b then without_lowest seen else n) equal)
      (taking-changes m answer s a p x (here m answer s a x limits shows within stands) stands st i seen is n-fits)

  -- ---- what the session owes

  apart : (g : Frame) → Some f ≡ Some g → copy_on g.module x.dir.copies ≡ None
  apart g same =
      let e : f ≡ g = cc in
      subst (λ (y : Frame). copy_on y.module x.dir.copies ≡ None) e
      (tried-apart m answer a p.now x st i session-here.dir takes.seeks.left)

  -- with enough frames the nearest module had one
  finds : HasEnoughFrames m → IsTrue (is_empty x.dir.state) → saw_no_frame m a next ≡ false
  finds enough empty =
      let none : nat_lt 0 i ≡ false = sym (ap (saw_no_frame m a) is) ∙ shows.enough_finds enough page (running a p.now x) on empty in
      let first : i ≡ 0 = zero_from i none in
      let rest : List ℕ = if asks x.fault.cause x.dir a && same_verdict (answer x.dir st.last p.now) verdict.Move then a ∷ [] else [] in
      let near : mo ≡ slice_index (by_distance m a) 0 =
      ap (λ b. slice_index (if b then by_distance m a else rest) i) empty ∙ ap (slice_index (by_distance m a)) first in
      ap (saw_no_frame m a) leads
      ∙ (fixed.saw ∙ ap not (eq-eqb mo (slice_index (by_distance m a) 0) near))
    where
      zero_from : (k : ℕ) → nat_lt 0 k ≡ false → k ≡ 0
      zero_from k h = grind (arith, nat_tests)

  encoded : IsTrue (is_word m (word.Pool mo) (without_lowest seen))
  encoded = fits seen (2 ^ lowest_free seen) (2 ^ m.frames) takes.pool
    where
      fits : (k less top : ℕ) → k < top → nat_lt (k - less) top ≡ true
      fits k less top h = grind (arith, nat_tests)

  -- ---- the frames

  kept-same : (q : ℕ) (g : Frame) → is_kept m answer t q g ≡ is_kept m answer s q g
  kept-same q g =
      start-kept m answer s t a (word.Pool mo) (without_lowest seen) x next st (Some f) shows within stands changes named refl from to q g

  hand-other : (q : ℕ) (g : Frame) → q ≢ page → is_hand (session_on t.privates q) g ≡ is_hand (session_on s.privates q) g
  hand-other q g n =
      start-hand_other m answer s t a (word.Pool mo) (without_lowest seen) x next st (Some f) shows within stands changes named refl from
      to q g n

  hand-before : (g : Frame) → is_hand (session_on s.privates page) g ≡ false
  hand-before g =
      start-hand_before m answer s t a (word.Pool mo) (without_lowest seen) x next st (Some f) shows within stands changes named refl
      from to g

  hand-after : (g : Frame) → is_hand (session_on t.privates page) g ≡ same_frame g f
  hand-after g =
      start-hand_after m answer s t a (word.Pool mo) (without_lowest seen) x next st (Some f) shows within stands changes named refl from
      to g

  word-new : word_at m t (word.Pool mo) ≡ without_lowest seen
  word-new =
      word_at-new m s t a (word.Pool mo) (without_lowest seen) (at p (InSession (with_phase x next))) None changes shows.all_words named

  free-before : is_free m s f ≡ true
  free-before = ap (λ k. has_bit k (lowest_free seen)) found ∙ lowest.free

  free-after : is_free m t f ≡ false
  free-after =
      ap (λ k. has_bit k (lowest_free seen)) word-new
      ∙ (has_bit-taken seen (lowest_free seen) some below lowest.within
      ∙ (ap (λ b. has_bit seen (lowest_free seen) && not b) (eq-eqb (lowest_free seen) (lowest_free seen) refl)
      ∙ and-false (has_bit seen (lowest_free seen))))

  once-taken : uses_of m answer t f ≡ 1
  once-taken =
      let used = shows.frames_once f f-frame in
      let none = free-unused m answer s f used page session-here.fault.page free-before in
      let kept_after = bit_zero (is_kept m answer t page f) (kept-same page f ∙ unused-kept m answer s f page none) in
      let held = bit_one (is_hand (session_on t.privates page) f) (hand-after f ∙ same_frame-itself f) in
      let was_free = bit_one (is_free m s f) free-before in
      let is_taken = bit_zero (is_free m t f) free-after in
      let sums =
      sum-one (page_uses m answer t f) (page_uses m answer s f) m.pages page session-here.fault.page
      (λ q low other. λ i. bit_of (kept-same q f i) + bit_of (hand-other q f other i)) in
      counted (bit_of (is_free m s f)) (bit_of (is_free m t f)) (sum_by (page_uses m answer s f) (numbers m.pages))
      (sum_by (page_uses m answer t f) (numbers m.pages)) (page_uses m answer s f page) (page_uses m answer t f page) used was_free is_taken
      sums none (omega (arith, kept_after, held))
    where
      counted :
          (free_s free_t sum_s sum_t uses_s uses_t : ℕ) → free_s + sum_s ≡ 1 → free_s ≡ 1 → free_t ≡ 0 → sum_t + uses_s ≡ sum_s + uses_t →
          uses_s ≡ 0 → uses_t ≡ 1 → free_t + sum_t ≡ 1
      counted free_s free_t sum_s sum_t uses_s uses_t h0 h1 h2 h3 h4 h5 = omega arith

  module _ (g : Frame) (machine : is_frame m g ≡ true) (other : same_frame g f ≡ false) where
    hand-same : (q : ℕ) → is_hand (session_on t.privates q) g ≡ is_hand (session_on s.privates q) g
    hand-same q = by (cases_eq q page)
      where
        own : is_hand (session_on t.privates page) g ≡ is_hand (session_on s.privates page) g
        own = hand-after g ∙ (other ∙ sym (hand-before g))

        by : (q ≡ page) ⊎ (q ≢ page) → is_hand (session_on t.privates q) g ≡ is_hand (session_on s.privates q) g
        by (inl e) = rw e own
        by (inr k) = hand-other q g k

    free-same : is_free m t g ≡ is_free m s g
    free-same = by (cases_eq g.module mo)
      where
        by : (g.module ≡ mo) ⊎ (g.module ≢ mo) → is_free m t g ≡ is_free m s g
        by (inl e) =
            let number : (g.number == lowest_free seen) ≡ false =
            ne_eqb g.number (lowest_free seen)
            (λ k. true≢false (sym (subst (λ (y : Frame). same_frame g y ≡ true) (λ i. record { «module» = e i; number = k i })
            (same_frame-itself g)) ∙ other)) in
            let low : g.number < 64 = let most = frames-most m limits in grind (arith, nat_tests) in
            ap (λ k. has_bit (word_at m t (word.Pool k)) g.number) e
            ∙ (ap (λ k. has_bit k g.number) word-new
            ∙ (has_bit-taken seen g.number some below low
            ∙ (ap (λ b. has_bit seen g.number && not b) number
            ∙ (and-true (has_bit seen g.number)
            ∙ (ap (λ k. has_bit k g.number) (sym found) ∙ ap (λ k. has_bit (word_at m s (word.Pool k)) g.number) (sym e))))))
        by (inr k) =
            ap (λ v. has_bit v g.number)
            (word_at-other m s t a (word.Pool mo) (without_lowest seen) (at p (InSession (with_phase x next))) None changes (word.Pool
            g.module) named
            (pool-named m g.module (frame-node m g machine)) (pool-apart g.module mo k))

    once-other : uses_of m answer t g ≡ 1
    once-other =
        let pages : sum_by (page_uses m answer t g) (numbers m.pages) ≡ sum_by (page_uses m answer s g) (numbers m.pages) =
        sum-same (page_uses m answer t g) (page_uses m answer s g) m.pages
        (λ q low. λ i. bit_of (kept-same q g i) + bit_of (hand-same q i)) in
        (λ i. bit_of (free-same i) + pages i) ∙ shows.frames_once g machine

  once : (g : Frame) → IsTrue (is_frame m g) → uses_of m answer t g ≡ 1
  once g machine = by (same_frame g f) refl
    where
      by : (b : Bool) → same_frame g f ≡ b → uses_of m answer t g ≡ 1
      by true e = subst (λ (y : Frame). uses_of m answer t y ≡ 1) (sym (same_frame-true g f e)) once-taken
      by false e = once-other g machine e

  -- the lowest frame of a pool is taken, where the pool is still as seen
  pub keeps_pool_take : Shows m answer (event m answer s a)
  keeps_pool_take =
      shows-started m answer s t a (word.Pool mo) (without_lowest seen) x next st (Some f) shows within stands changes named refl from to
      limits
      (KeepsFrames-pool m s t a mo (without_lowest seen) (at p (InSession (with_phase x next))) node changes) (ap stamp_of is) apart
      finds once
      session-here.fault.page encoded
      (reached-session m answer s a x limits shows within stands (Taking st i seen) (word.Pool mo) (op.Exchange seen (without_lowest
      seen)) n is
      refl n-fits)
