-- a frame that is given back to its pool keeps the invariant
use Rattle.std.specs.Prelude.{◌≡◌, ◌≢◌, ◌⊎◌, ℕ, ◌+◌, ◌^◌, ◌<◌, ◌==◌, ◌&&◌, ◌||◌, not, nat_lt, Bool, true, false, List, length, take, Some}
use Rattle.std.specs.Prelude.{None, IsTrue, sum_by, bit_or}
use Rattle.std.proofs.Common.{refl, ap, sym, ◌∙◌, inl, inr, arith, subst}
use Rattle.std.specs.List.{list_any}
use Rattle.std.proofs.lemmas.Bool.{cases_eq, eq-eqb, ne_eqb, ltb-true}
use Rattle.std.proofs.lemmas.Bool.Decides.{nat_tests}
use Rattle.std.proofs.Math.Bool.{or-true}
use Rattle.plat_laws.proofs.ItemLaws.{or-false}
use Rattle.plat_base.specs.Verdicts.{Answer}
use Rattle.plat_base.specs.Machine.{Machine}
use Rattle.plat_base.specs.Pages.{numbers}
use Rattle.plat_base.specs.Copies.{same_frame}
use Rattle.plat_base.specs.Decide.{is_frame, no_frame}
use Rattle.plat_base.specs.declared.frames.Frame.{Frame}
use Rattle.plat_base.specs.declared.frames.Dir.{Dir}
use Rattle.plat_base.specs.declared.words.Op.TheVariants as op
use Rattle.plat_base.specs.declared.words.WordName.{WordName}
use Rattle.plat_base.specs.declared.words.WordName.TheVariants as word
use Rattle.plat_base.proofs.CopiesLemmas.{same_frame-itself}
use Rattle.plat_words.proofs.Pools.{given_below}
use Rattle.plat_events.specs.Words.{has_bit}
use Rattle.plat_events.specs.Places.{is_name, is_word}
use Rattle.plat_events.specs.Sessions.{Course, Phase, Giving, Session, decision_of, going, frame_going, phase_after, with_phase}
use Rattle.plat_events.specs.Standings.{words_filled, word_copied}
use Rattle.plat_events.specs.Privates.{InSession, Private, actor_count}
use Rattle.plat_events.specs.Events.{at}
use Rattle.plat_events.specs.Kept.{session_of, session_on, is_copy_of, is_kept, word_at, private_of}
use Rattle.plat_events.specs.Runs.{Fine, event}
use Rattle.plat_events.specs.Shown.{bit_of, is_free, is_hand, uses_of, Shows}
use Rattle.plat_laws.specs.Guests.{IsWithinLimits}
use Rattle.plat_laws.proofs.TableLaws.{dir_parts}
use Rattle.plat_local_laws.specs.Phases.{GivingOk, PhaseOk, SessionOk}
use Rattle.plat_fine_laws.specs.Changes.{Changes}
use Rattle.plat_fine_laws.proofs.WordLaws.{word_at-new, word_at-other}
use Rattle.plat_fine_laws.proofs.SessionFootprints.{giving-changes}
use Rattle.plat_frame_laws.specs.Phased.{running}
use Rattle.plat_frame_laws.specs.QuietPhases.{QuietPhase}
use Rattle.plat_frame_laws.proofs.SumLaws.{sum-same, sum-one}
use Rattle.plat_frame_laws.proofs.FrameUseLaws.{page_uses, bit_one, bit_zero, kept-uses, kept-no_hand, used-not_free}
use Rattle.plat_frame_laws.proofs.GoingLaws.{any-more, any-taken, any-at, any-filtered, rise-filtered, none-before}
use Rattle.plat_frame_laws.proofs.HandLaws.{kept-frame}
use Rattle.plat_frame_laws.proofs.QuietPhaseLaws.{quiet-giving, quiet-give_from}
use Rattle.plat_frame_laws.proofs.QuietGoesLaws.{hand-quiet, quiet-goes}
use Rattle.plat_frame_laws.proofs.FrameGoLaws.{kept-before, kept-after, kept-other, hand-still}
use Rattle.plat_frame_laws.proofs.PhasedLaws.{shows-phased}
use Rattle.plat_frame_laws.proofs.SessionHereLaws.{here, session, reached-session}
use Rattle.plat_frame_laws.proofs.StoreLaws.{pool-named, pool-apart, frame-node}
use Rattle.plat_frame_laws.proofs.StillFrameLaws.{KeepsFrames-pool, frames-still}
use Rattle.plat_words.proofs.SingleBits.{has_bit-set}
use Rattle.plat_laws.proofs.SameLaws.{same_frame-true}

module _ (m : Machine) (answer : Answer) (s : Fine) (a : ℕ) (x : Session) (c : Course) (k : ℕ) (limits : IsWithinLimits m)
    (shows : Shows m answer s) (within : a < actor_count m) (stands : (private_of m s a).place ≡ InSession x)
    (is : x.phase ≡ Giving c k) where
  abbrev p : Private
  p = private_of m s a

  abbrev page : ℕ
  page = x.fault.page

  -- the frames that go, and the one that is given back now
  abbrev goes : List Frame
  goes = going x.dir (decision_of m answer a p.now x c)

  abbrev f : Frame
  f = frame_going x.dir (decision_of m answer a p.now x c) k

  abbrev name : WordName
  name = word.Pool f.module

  abbrev found : ℕ
  found = word_at m s (word.Pool f.module)

  abbrev made : ℕ
  made = bit_or found (2 ^ f.number)

  abbrev next : Phase
  next = phase_after m answer a p.now x found x.phase

  abbrev t : Fine
  t = event m answer s a

  session-here : SessionOk m answer a p x
  session-here = session m answer s a x limits shows within stands

  ok : GivingOk m answer a p x c k
  ok = subst (PhaseOk m answer a p x) is session-here.phase

  inside : k < length goes
  inside = ok.left

  page_within : page < m.pages
  page_within = session-here.fault.page

  on : session_on s.privates page ≡ Some (running a p.now x)
  on = shows.one_session a x within (ap session_of stands)

  -- it is a copy of the page, and so a frame of the machine
  f-copy : is_copy_of x.dir.copies f ≡ true
  f-copy =
      any-filtered f (λ (g : Frame). not (list_any (same_frame g) (decision_of m answer a p.now x c).after.copies)) x.dir.copies
      (any-at no_frame k goes inside)

  f-frame : is_frame m f ≡ true
  f-frame =
      kept-frame m answer s page f shows page_within
      (ap (λ (d : Dir). is_copy_of d.copies f) (sym (shows.dir_read_is page (running a p.now x) on)) ∙ f-copy)

  named : IsTrue (is_name m name)
  named = pool-named m f.module (frame-node m f f-frame)

  found-fits : IsTrue (is_word m name found)
  found-fits = shows.words_encoded name named

  encoded : IsTrue (is_word m name made)
  encoded = fits found f.number m.frames (ltb-true found (2 ^ m.frames) found-fits) (number-below f-frame)
    where
      number-below : is_frame m f ≡ true → f.number < m.frames
      number-below h = grind (arith, nat_tests)

      fits : (n j frames : ℕ) → n < 2 ^ frames → j < frames → nat_lt (bit_or n (2 ^ j)) (2 ^ frames) ≡ true
      fits n j frames h l = let most = given_below n j frames h l in grind (arith, nat_tests)

  changes : Changes m s t a name made (at p (InSession (with_phase x next))) None
  changes = giving-changes m answer s a p x (here m answer s a x limits shows within stands) stands c k is found-fits

  from : QuietPhase m answer a p.now x c x.phase m.words None (take k goes)
  from =
      subst (λ (ph : Phase). QuietPhase m answer a p.now x c ph m.words None (take k goes)) (sym is) (quiet-giving m answer a p.now x c k)

  to : QuietPhase m answer a p.now x c next m.words None (take (k + 1) goes)
  to =
      subst (λ (ph : Phase). QuietPhase m answer a p.now x c ph m.words None (take (k + 1) goes))
      (sym (ap (phase_after m answer a p.now x found) is)) (quiet-give_from m answer a p.now x c (k + 1) (omega (arith, inside)))

  -- ---- what is kept

  before : (g : Frame) → is_kept m answer s page g ≡ (is_copy_of x.dir.copies g && not (list_any (same_frame g) (take k goes)))
  before g =
      kept-before m answer s t a name made x next shows within stands changes named refl c m.words m.words None None (take k goes)
      (take (k + 1) goes) from to g

  after :
      (g : Frame) → is_kept m answer t page g
      ≡ (is_copy_of x.dir.copies g && not (list_any (same_frame g) (take k goes) || same_frame g f))
  after g =
      kept-after m answer s t a name made x next shows within stands changes named refl c m.words m.words None None (take k goes)
      (take (k + 1) goes) from to g
      ∙ ap (λ b. is_copy_of x.dir.copies g && not b) (any-more g no_frame k goes inside)

  other-page : (q : ℕ) (g : Frame) → q ≢ page → is_kept m answer t q g ≡ is_kept m answer s q g
  other-page q g apart =
      kept-other m answer s t a name made x next shows within stands changes named refl c m.words m.words None None (take k goes)
      (take (k + 1) goes) from to q g apart

  hand-same : (q : ℕ) (g : Frame) → is_hand (session_on t.privates q) g ≡ is_hand (session_on s.privates q) g
  hand-same q g =
      hand-still m answer s t a name made x next shows within stands changes named refl c m.words m.words None None (take k goes)
      (take (k + 1) goes) from to q g

  kept-was : (q : ℕ) (g : Frame) → q < m.pages → is_kept m answer t q g ≡ true → is_kept m answer s q g ≡ true
  kept-was q g below kept = by (cases_eq q page)
    where
      fewer : (b d e : Bool) → (b && not (d || e)) ≡ true → (b && not d) ≡ true
      fewer true true e h = absurd cc
      fewer true false e h = refl
      fewer false d e h = absurd cc

      by : (q ≡ page) ⊎ (q ≢ page) → is_kept m answer s q g ≡ true
      by (inl e) =
          let own : is_kept m answer t page g ≡ true = ap (λ n. is_kept m answer t n g) (sym e) ∙ kept in
          ap (λ n. is_kept m answer s n g) e
          ∙ (before g
          ∙ fewer (is_copy_of x.dir.copies g) (list_any (same_frame g) (take k goes)) (same_frame g f) (sym (after g) ∙ own))
      by (inr n) = sym (other-page q g n) ∙ kept

  -- ---- the frame that is given back

  f-kept : is_kept m answer s page f ≡ true
  f-kept =
      before f
      ∙ ((λ i. f-copy i && not (list_any (same_frame f) (take k goes)))
      ∙ ap (λ b. true && not b)
      (none-before no_frame 0 k goes
      (rise-filtered 0 (λ (g : Frame). not (list_any (same_frame g) (decision_of m answer a p.now x c).after.copies)) x.dir.copies
      (dir_parts m x.dir session-here.dir).1) inside))

  f-gone : is_kept m answer t page f ≡ false
  f-gone = after f ∙ (ap (λ b. is_copy_of x.dir.copies f && not (list_any (same_frame f) (take k goes) || b)) (same_frame-itself f)
      ∙ none (is_copy_of x.dir.copies f) (list_any (same_frame f) (take k goes)))
    where
      none : (b d : Bool) → (b && not (d || true)) ≡ false
      none true true = refl
      none true false = refl
      none false d = refl

  word-new : word_at m t name ≡ made
  word-new = word_at-new m s t a name made (at p (InSession (with_phase x next))) None changes shows.all_words named

  free-now : is_free m t f ≡ true
  free-now =
      ap (λ n. has_bit n f.number) word-new
      ∙ (has_bit-set found f.number f.number
      ∙ (ap (λ b. has_bit found f.number || b) (eq-eqb f.number f.number refl) ∙ or-true (has_bit found f.number)))

  once-given : uses_of m answer t f ≡ 1
  once-given =
      let used = shows.frames_once f f-frame in
      let uses = kept-uses m answer s f page f-kept in
      let was_free = bit_zero (is_free m s f) (used-not_free m answer s f used page page_within uses) in
      let no_hand = kept-no_hand m answer s f used page page_within f-kept in
      let hand_before = bit_zero (is_hand (session_on s.privates page) f) no_hand in
      let hand_after = bit_zero (is_hand (session_on t.privates page) f) (hand-same page f ∙ no_hand) in
      let kept_before = bit_one (is_kept m answer s page f) f-kept in
      let kept_after = bit_zero (is_kept m answer t page f) f-gone in
      let free = bit_one (is_free m t f) free-now in
      let sums =
      sum-one (page_uses m answer t f) (page_uses m answer s f) m.pages page page_within
      (λ q below apart. λ i. bit_of (other-page q f apart i) + bit_of (hand-same q f i)) in
      counted (bit_of (is_free m s f)) (bit_of (is_free m t f)) (sum_by (page_uses m answer s f) (numbers m.pages))
      (sum_by (page_uses m answer t f) (numbers m.pages)) (page_uses m answer s f page) (page_uses m answer t f page) used was_free free
      sums
      (omega (arith, kept_before, hand_before)) (omega (arith, kept_after, hand_after))
    where
      counted :
          (free_s free_t sum_s sum_t uses_s uses_t : ℕ) → free_s + sum_s ≡ 1 → free_s ≡ 0 → free_t ≡ 1 → sum_t + uses_s ≡ sum_s + uses_t →
          uses_s ≡ 1 → uses_t ≡ 0 → free_t + sum_t ≡ 1
      counted free_s free_t sum_s sum_t uses_s uses_t h0 h1 h2 h3 h4 h5 = omega arith

  -- ---- each other frame

  module _ (g : Frame) (machine : is_frame m g ≡ true) (apart : g ≢ f) where
    same-false : same_frame g f ≡ false
    same-false = by (same_frame g f) refl
      where
        by : (b : Bool) → same_frame g f ≡ b → same_frame g f ≡ false
        by true e = absurd (apart (same_frame-true g f e))
        by false e = e

    kept-same : (q : ℕ) → is_kept m answer t q g ≡ is_kept m answer s q g
    kept-same q = by (cases_eq q page)
      where
        own : is_kept m answer t page g ≡ is_kept m answer s page g
        own =
            after g
            ∙ (ap (λ b. is_copy_of x.dir.copies g && not (list_any (same_frame g) (take k goes) || b)) same-false
            ∙ (ap (λ b. is_copy_of x.dir.copies g && not b) (or-false (list_any (same_frame g) (take k goes))) ∙ sym (before g)))

        by : (q ≡ page) ⊎ (q ≢ page) → is_kept m answer t q g ≡ is_kept m answer s q g
        by (inl e) = rw e own
        by (inr n) = other-page q g n

    free-same : is_free m t g ≡ is_free m s g
    free-same = by (cases_eq g.module f.module)
      where
        by : (g.module ≡ f.module) ⊎ (g.module ≢ f.module) → is_free m t g ≡ is_free m s g
        by (inl e) =
            let number : (g.number == f.number) ≡ false =
            ne_eqb g.number f.number (λ n. apart (λ i. record { «module» = e i; number = n i })) in
            ap (λ mo. has_bit (word_at m t (word.Pool mo)) g.number) e
            ∙ (ap (λ n. has_bit n g.number) word-new
            ∙ (has_bit-set found f.number g.number
            ∙ (ap (λ b. has_bit found g.number || b) number
            ∙ (or-false (has_bit found g.number) ∙ ap (λ mo. has_bit (word_at m s (word.Pool mo)) g.number) (sym e)))))
        by (inr n) =
            ap (λ v. has_bit v g.number)
            (word_at-other m s t a name made (at p (InSession (with_phase x next))) None changes (word.Pool g.module) named
            (pool-named m g.module (frame-node m g machine)) (pool-apart g.module f.module n))

    once-other : uses_of m answer t g ≡ 1
    once-other =
        let pages : sum_by (page_uses m answer t g) (numbers m.pages) ≡ sum_by (page_uses m answer s g) (numbers m.pages) =
        sum-same (page_uses m answer t g) (page_uses m answer s g) m.pages
        (λ q below. λ i. bit_of (kept-same q i) + bit_of (hand-same q g i)) in
        (λ i. bit_of (free-same i) + pages i) ∙ shows.frames_once g machine

  once : (g : Frame) → IsTrue (is_frame m g) → uses_of m answer t g ≡ 1
  once g machine = by (same_frame g f) refl
    where
      by : (b : Bool) → same_frame g f ≡ b → uses_of m answer t g ≡ 1
      by true e = subst (λ (y : Frame). uses_of m answer t y ≡ 1) (sym (same_frame-true g f e)) once-given
      by false e = once-other g machine (λ same. not_same (ap (same_frame g) (sym same) ∙ same_frame-itself g) e)
        where
          not_same : same_frame g f ≡ true → same_frame g f ≡ false → ⊥
          not_same h n = let clash : true ≡ false = sym h ∙ n in absurd cc

  -- a frame is given back
  pub keeps_give : Shows m answer (event m answer s a)
  keeps_give =
      shows-phased m answer s t a name made x next shows within stands changes named refl
      (quiet-goes m answer s a p.now x c next m.words m.words None None (take k goes) (take (k + 1) goes) shows on from to
      ok.quiet.course.may session-here.dir (λ g gone. any-taken g (k + 1) goes gone))
      (frames-still m answer s t a p.now x next limits shows on
      (KeepsFrames-pool m s t a f.module made (at p (InSession (with_phase x next))) (frame-node m f f-frame) changes) once kept-was
      (λ v g hand below. (
        hand-quiet m answer a p.now x c x.phase m.words None (take k goes) from
            ∙ (sym (hand-quiet m answer a p.now x c next m.words None (take (k + 1) goes) to) ∙ hand),
        let most : words_filled m next ≡ m.words = to.filled in let was : words_filled m x.phase ≡ m.words = from.filled in omega arith,
      ))
      (λ y read. let none : word_copied next ≡ None = to.copied in absurd cc))
      page_within encoded
      (reached-session m answer s a x limits shows within stands (Giving c k) name (op.Or (2 ^ f.number)) found is refl found-fits)
