-- each frame is used once: the page that uses it is the only one, and with enough frames a session that has none finds one
use Rattle.std.specs.Prelude.{◌≡◌, ◌≢◌, ◌⊎◌, ℕ, ◌+◌, ◌<◌, ◌≤◌, ◌==◌, not, if◌then◌else◌, Bool, true, false, sum_by, Option, Some, None}
use Rattle.std.specs.Prelude.{IsTrue}
use Rattle.std.proofs.Common.{refl, ap, sym, ◌∙◌, inl, inr, arith}
use Rattle.std.specs.Option.{option_map_or}
use Rattle.std.proofs.lemmas.Bool.{and_parts, eq-eqb}
use Rattle.std.proofs.lemmas.Bool.Decides.{nat_tests}
use Rattle.std.proofs.lemmas.Nat.Bits.{bit_at-zero}
use Rattle.plat_base.specs.Verdicts.{Answer}
use Rattle.plat_base.specs.Machine.{Machine}
use Rattle.plat_base.specs.Pages.{numbers}
use Rattle.plat_base.specs.Frames.{frame_at}
use Rattle.plat_base.specs.Copies.{same_frame, copy_on}
use Rattle.plat_base.specs.Decide.{is_frame, is_empty}
use Rattle.plat_base.specs.Directories.{dir_of}
use Rattle.plat_base.specs.Rules.{HasEnoughFrames}
use Rattle.plat_base.specs.declared.frames.Frame.{Frame}
use Rattle.plat_base.specs.declared.frames.Dir.{Dir}
use Rattle.plat_base.specs.declared.words.WordName.TheVariants as word
use Rattle.plat_events.specs.Words.{has_bit}
use Rattle.plat_events.specs.Standings.{hand_of}
use Rattle.plat_events.specs.Kept.{Running, session_on, gave_back, is_copy_of, is_kept, word_at}
use Rattle.plat_events.specs.Runs.{Fine}
use Rattle.plat_events.specs.Shown.{bit_of, is_free, is_hand, uses_of, Shows}
use Rattle.plat_laws.proofs.TableLaws.{dir_parts, copy_on-empty}
use Rattle.plat_laws.proofs.NumberLaws.{pigeon-holes}
use Rattle.plat_fine_laws.proofs.TableFacts.{is_copy_of-on}
use Rattle.plat_frame_laws.proofs.SumLaws.{sum-at, sum-two, sum-some}
use Rattle.plat_laws.proofs.SameLaws.{same_frame-true}

-- how often a page uses a frame: as a kept copy, and in the hand of its session
abbrev pub page_uses : Machine → Answer → Fine → Frame → (page : ℕ) → ℕ
page_uses m answer s f page = bit_of (is_kept m answer s page f) + bit_of (is_hand (session_on s.privates page) f)

-- ---- bits

pub bit_one : (b : Bool) → b ≡ true → bit_of b ≡ 1
bit_one true h = refl
bit_one false h = absurd cc

pub bit_zero : (b : Bool) → b ≡ false → bit_of b ≡ 0
bit_zero false h = refl
bit_zero true h = absurd cc

pub zero_bit : (b : Bool) → bit_of b ≡ 0 → b ≡ false
zero_bit true h = absurd (omega arith)
zero_bit false h = refl

pub one_bit : (b : Bool) → 0 < bit_of b → b ≡ true
one_bit true h = refl
one_bit false h = absurd (omega arith)

either_bit : (b c : Bool) → 0 < bit_of b + bit_of c → (b ≡ true) ⊎ (c ≡ true)
either_bit true c h = inl refl
either_bit false c h = inr (one_bit c (omega arith))

-- ---- the frame in hand

pub is_hand-some : (o : Option Running) (f : Frame) → is_hand o f ≡ true → (r : Running) × (o ≡ Some r) × (hand_of r.session ≡ Some f)
is_hand-some None f h = absurd cc
is_hand-some (Some r) f h = (r, refl, by (hand_of r.session) h)
  where
    by : (o : Option Frame) → option_map_or (same_frame f) o false ≡ true → o ≡ Some f
    by None h = absurd cc
    by (Some g) h = ap (λ (x : Frame). Some x) (sym (same_frame-true f g h))

-- ---- a frame that is used once

module _ (m : Machine) (answer : Answer) (s : Fine) (f : Frame) (once : uses_of m answer s f ≡ 1) (page : ℕ) (within : page < m.pages) where
  abbrev total : ℕ
  total = sum_by (page_uses m answer s f) (numbers m.pages)

  at_page : page_uses m answer s f page ≤ total
  at_page = sum-at (page_uses m answer s f) m.pages page within

  whole : bit_of (is_free m s f) + total ≡ 1
  whole = once

  -- by this page: then it is not free, and no other page uses it
  pub used-not_free : 0 < page_uses m answer s f page → is_free m s f ≡ false
  used-not_free used = zero_bit (is_free m s f) (omega (arith, at_page, whole))

  pub used-apart : 0 < page_uses m answer s f page → (q : ℕ) → q < m.pages → q ≢ page → page_uses m answer s f q ≡ 0
  used-apart used q inside apart =
      let two = sum-two (page_uses m answer s f) m.pages q page inside within apart in omega (arith, two, whole)

  -- a kept copy is in no hand, and the frame in a hand is no kept copy
  pub kept-no_hand : is_kept m answer s page f ≡ true → is_hand (session_on s.privates page) f ≡ false
  kept-no_hand kept =
      let one = bit_one (is_kept m answer s page f) kept in
      zero_bit (is_hand (session_on s.privates page) f) (omega (arith, at_page, whole, one))

  pub hand-not_kept : is_hand (session_on s.privates page) f ≡ true → is_kept m answer s page f ≡ false
  hand-not_kept hand =
      let one = bit_one (is_hand (session_on s.privates page) f) hand in
      zero_bit (is_kept m answer s page f) (omega (arith, at_page, whole, one))

  pub free-unused : is_free m s f ≡ true → page_uses m answer s f page ≡ 0
  free-unused free = let one = bit_one (is_free m s f) free in omega (arith, at_page, whole, one)

pub kept-uses :
    (m : Machine) (answer : Answer) (s : Fine) (f : Frame) (page : ℕ) → is_kept m answer s page f ≡ true → 0 < page_uses m answer s f page
kept-uses m answer s f page kept = let one = bit_one (is_kept m answer s page f) kept in omega (arith, one)

pub hand-uses :
    (m : Machine) (answer : Answer) (s : Fine) (f : Frame) (page : ℕ) → is_hand (session_on s.privates page) f ≡ true →
    0 < page_uses m answer s f page
hand-uses m answer s f page hand = let one = bit_one (is_hand (session_on s.privates page) f) hand in omega (arith, one)

pub unused-kept :
    (m : Machine) (answer : Answer) (s : Fine) (f : Frame) (page : ℕ) → page_uses m answer s f page ≡ 0 → is_kept m answer s page f ≡ false
unused-kept m answer s f page none = zero_bit (is_kept m answer s page f) (omega (arith, none))

pub unused-hand :
    (m : Machine) (answer : Answer) (s : Fine) (f : Frame) (page : ℕ) → page_uses m answer s f page ≡ 0 →
    is_hand (session_on s.privates page) f ≡ false
unused-hand m answer s f page none = zero_bit (is_hand (session_on s.privates page) f) (omega (arith, none))

-- ---- enough frames

-- the number of the frame in hand, where it is on the module
abbrev hand_number : (mo : ℕ) → Option Frame → Option ℕ
hand_number mo None = None
hand_number mo (Some f) = if f.module == mo then Some f.number else None

abbrev running_number : (mo : ℕ) → Option Running → Option ℕ
running_number mo None = None
running_number mo (Some r) = hand_number mo (hand_of r.session)

abbrev number_or : Option Frame → Option ℕ → Option ℕ
number_or None other = other
number_or (Some f) other = Some f.number

-- the number of the frame of a module that a page uses: a copy, or the one in hand
abbrev number_used : (mo : ℕ) → Fine → (page : ℕ) → Option ℕ
number_used mo s page = number_or (copy_on mo (dir_of s.history page).copies) (running_number mo (session_on s.privates page))

module _ (m : Machine) (answer : Answer) (s : Fine) (shows : Shows m answer s) (mo : ℕ) where
  kept-number :
      (q i : ℕ) → q < m.pages → is_kept m answer s q (frame_at mo i) ≡ true → number_used mo s q ≡ Some i
  kept-number q i inside kept =
      let f = frame_at mo i in let copies = (dir_of s.history q).copies in
      let parts = and_parts (is_copy_of copies f) (not (gave_back m answer (session_on s.privates q) f)) kept in
      let on : copy_on mo copies ≡ Some f =
      is_copy_of-on 0 copies f (dir_parts m (dir_of s.history q) (shows.copies_fit q inside)).1 parts.0 in
      ap (λ (o : Option Frame). number_or o (running_number mo (session_on s.privates q))) on

  hand-number :
      (q i : ℕ) → is_hand (session_on s.privates q) (frame_at mo i) ≡ true → number_used mo s q ≡ Some i
  hand-number q i hand =
      let f = frame_at mo i in
      let there = is_hand-some (session_on s.privates q) f hand in
      let apart : copy_on mo (dir_of s.history q).copies ≡ None = shows.hand_apart q there.0 f there.1 there.2 in
      let same : (mo == mo) ≡ true = eq-eqb mo mo refl in
      ap (λ (o : Option Frame). number_or o (running_number mo (session_on s.privates q))) apart
      ∙ (ap (running_number mo) there.1 ∙ (ap (hand_number mo) there.2 ∙ ap (λ b. if b then Some i else None) same))

  -- where the pool is 0 each frame of the module is used by some page
  used-somewhere :
      mo < m.nodes → word_at m s (word.Pool mo) ≡ 0 → (i : ℕ) → i < m.frames → (q : ℕ) × (q < m.pages) × (number_used mo s q ≡ Some i)
  used-somewhere node none i below =
      let f = frame_at mo i in
      let frame : IsTrue (is_frame m f) = grind (arith, nat_tests) in
      let once : bit_of (is_free m s f) + sum_by (page_uses m answer s f) (numbers m.pages) ≡ 1 = shows.frames_once f frame in
      let taken : is_free m s f ≡ false = ap (λ n. has_bit n i) none ∙ ap (λ b. b == 1) (bit_at-zero i) in
      let zero_free = bit_zero (is_free m s f) taken in
      let there = sum-some (page_uses m answer s f) m.pages (omega (arith, once, zero_free)) in (
        there.0,
        there.1,
        by there.0 there.1 (either_bit (is_kept m answer s there.0 f) (is_hand (session_on s.privates there.0) f) there.2),
      )
    where
      by :
          (q : ℕ) → q < m.pages → (is_kept m answer s q (frame_at mo i) ≡ true) ⊎ (is_hand (session_on s.privates q) (frame_at mo i) ≡
          true) →
          number_used mo s q ≡ Some i
      by q inside (inl kept) = kept-number q i inside kept
      by q inside (inr hand) = hand-number q i hand

  -- with enough frames a session on an empty page, with no frame in hand, finds no pool empty
  pub pool-some :
      (page : ℕ) (r : Running) → HasEnoughFrames m → page < m.pages → session_on s.privates page ≡ Some r →
      is_empty r.session.dir.state ≡ true → hand_of r.session ≡ None → mo < m.nodes → word_at m s (word.Pool mo) ≢ 0
  pool-some page r enough within on empty hand node none =
      let dir = shows.dir_read_is page r on in
      let vacant : copy_on mo (dir_of s.history page).copies ≡ None =
      copy_on-empty m (dir_of s.history page) mo (shows.copies_fit page within) (ap (λ (d : Dir). is_empty d.state) (sym dir) ∙ empty) in
      let unused : number_used mo s page ≡ None =
      ap (λ (o : Option Frame). number_or o (running_number mo (session_on s.privates page))) vacant
      ∙ (ap (running_number mo) on ∙ ap (hand_number mo) hand) in
      let fewer = pigeon-holes (number_used mo s) m.frames m.pages page (used-somewhere node none) within unused in
      absurd (omega arith)
