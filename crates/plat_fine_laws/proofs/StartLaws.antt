-- the invariant holds at the start of every machine within its limits
use Rattle.std.specs.Prelude.{◌≡◌, ◌≢◌, ℕ, zero, suc, ◌+◌, ◌<◌, ◌≤◌, ◌==◌, nat_lt, nat_le, ◌&&◌, not, if◌then◌else◌, Bool, true, false}
use Rattle.std.specs.Prelude.{List, [], ◌∷◌, map, take, length, find, cond, Option, Some, None, is_some, IsTrue}
use Rattle.std.proofs.Common.{refl, ap, sym, ◌∙◌, arith}
use Rattle.std.specs.List.{sum_by, count_by, filter_map, enumerate_from, range_with_len, cons_option}
use Rattle.std.specs.Option.{option_map, option_map_or}
use Rattle.std.proofs.lemmas.Bool.{and_parts}
use Rattle.std.proofs.lemmas.Bool.Decides.{nat_tests}
use Rattle.std.proofs.lemmas.List.{get_or-map, get_or-replicate, length-map}
use Rattle.std.proofs.lemmas.List.FromFn.{length-map-range_with_len, get_or-map-range_with_len, take-map-range_with_len}
use Rattle.std.proofs.lemmas.List.Sums.{sum_by-cons}
use Rattle.plat_base.specs.Verdicts.{Answer}
use Rattle.plat_base.specs.Machine.{Machine}
use Rattle.plat_base.specs.Pages.{numbers, page_of, program_of}
use Rattle.plat_base.specs.Ends.{ended_of, cut_at}
use Rattle.plat_base.specs.Decide.{is_frame}
use Rattle.plat_base.specs.Rules.{Good, is_end, is_in_order}
use Rattle.plat_base.specs.declared.frames.Frame.{Frame}
use Rattle.plat_base.specs.declared.items.Message.{Message}
use Rattle.plat_base.specs.declared.endings.End.TheVariants as end
use Rattle.plat_base.specs.declared.endings.Ended.{Ended}
use Rattle.plat_base.specs.declared.words.WordName.TheVariants as word
use Rattle.plat_laws.specs.Guests.{IsWithinLimits}
use Rattle.plat_laws.proofs.GuestLaws.{IsGuest-start}
use Rattle.plat_laws.proofs.EndLaws.{is_end-cut, first_bad-none}
use Rattle.plat_events.specs.Words.{has_bit, has_reference, has_invalidate, has_restrict, invalidate_place, restrict_place, is_locked}
use Rattle.plat_events.specs.Words.{dir_read}
use Rattle.plat_events.specs.Places.{entry_count}
use Rattle.plat_events.specs.Sessions.{Session}
use Rattle.plat_events.specs.Privates.{Private, Place, LiveLooking, Polling, NewTurn, is_over, translation_at, actor_count, first_place}
use Rattle.plat_events.specs.Privates.{first_private, first_privates}
use Rattle.plat_events.specs.Kept.{Running, running_of, runs_on, session_on, session_of, has_left, message_at, word_at, private_of}
use Rattle.plat_events.specs.Views.{Nobody, View, EntryOk, HeldView, HeldOk, InvalidateStays, is_restrict, session_view, view, held_view}
use Rattle.plat_events.specs.Views.{translation_of}
use Rattle.plat_events.specs.Runs.{fine_start, end_at, ended_by, ends_of}
use Rattle.plat_events.specs.Shown.{bit_of, is_hand, uses_of, act_of, stamp_by, goes_to, IsReachedAlone, Shows}
use Rattle.plat_words.proofs.SingleBits.{has_bit-above}
use Rattle.plat_fine_laws.proofs.StartWordLaws.{first_words-length, act-start, dir-start, stamp-start, cmap-start, pool-start}
use Rattle.plat_fine_laws.proofs.StartWordLaws.{encoded-start, dir_read-zero, has_bit-full}
use Rattle.plat_words.proofs.Masks.{has_bit-none}

-- ---- views without a translation

pub empty_ok : (v : View) → v.has ≡ false → v.invalidate ≡ false → v.restrict ≡ false → v.restricting ≡ false → EntryOk v
empty_ok v h0 h1 h2 h3 = search arith

pub empty_waits : (v : View) → v.invalidating ≡ false → InvalidateStays v
empty_waits v h0 = search arith

empty_held : (v : View) (h : HeldView) → v.has ≡ false → v.whose ≡ Nobody → h.held ≡ false → HeldOk v h
empty_held v h h0 h1 h2 = search arith

-- ---- the private states at the start

-- none runs a session, and none has ended
record IsFirst (place : Place) : Type 0 where
  session : session_of place ≡ None
  over : is_over place ≡ false
  left : has_left place ≡ false
  ended : end_at place ≡ end.Cut
  framed : goes_to place ≢ Some end.NoFrames
  message : (m : Machine) (p : Private) → message_at m p place ≡ None

first-if : (b : Bool) → IsFirst (if b then LiveLooking else Polling NewTurn)
first-if true = search arith
first-if false = search arith

first : (m : Machine) (a : ℕ) → IsFirst (first_place m a)
first m a = first-if (a == m.nodes)

nobody_from :
    (m : Machine) (page k a n : ℕ) →
    find (runs_on page) (filter_map running_of (enumerate_from k (map (first_private m) (range_with_len a n)))) ≡ None
nobody_from m page k a zero = refl
nobody_from m page k a (suc n) =
    ap (λ o. find (runs_on page) (cons_option o (filter_map running_of (enumerate_from (k + 1) (map (first_private m) (range_with_len
    (a + 1) n))))))
    (ap (option_map (λ (x : Session). record { actor = k; now = 0; session = x })) (first m a).session)
    ∙ nobody_from m page (k + 1) (a + 1) n

module _ (m : Machine) where
  nobody : (page : ℕ) → session_on (first_privates m) page ≡ None
  nobody page = nobody_from m page 0 0 (actor_count m)

  privates-length : length (first_privates m) ≡ actor_count m
  privates-length = length-map-range_with_len (first_private m) 0 (actor_count m)

  private-start : (a : ℕ) → a < actor_count m → private_of m (fine_start m) a ≡ first_private m a
  private-start a below = get_or-map-range_with_len (first_private m) 0 (actor_count m) a a (first_private m a) below (omega arith)

  -- what holds of a first private state holds of each actor's
  at-start : (Q : ℕ → Private → Type 0) → ((a : ℕ) → Q a (first_private m a)) → (a : ℕ) → a < actor_count m →
      Q a (private_of m (fine_start m) a)
  at-start Q each a below = rw (private-start a below) (each a)

-- ---- sums

sum-zero : {A : Type 0} (f : A → ℕ) (xs : List A) → ((x : A) → f x ≡ 0) → sum_by f xs ≡ 0
sum-zero f [] none = refl
sum-zero f (x ∷ xs) none = let rest = sum-zero f xs none in omega (arith, sum_by-cons f x xs, none x)

sum-ones : {A : Type 0} (f : A → ℕ) (xs : List A) → ((x : A) → f x ≡ 1) → sum_by f xs ≡ length xs
sum-ones f [] one = refl
sum-ones f (x ∷ xs) one = let rest = sum-ones f xs one in omega (arith, sum_by-cons f x xs, one x)

sum-map-zero : (m : Machine) (n a : ℕ) → sum_by (λ (p : Private). p.turns) (map (first_private m) (range_with_len a n)) ≡ 0
sum-map-zero m zero a = refl
sum-map-zero m (suc n) a =
    let rest = sum-map-zero m n (a + 1) in
    omega (arith, sum_by-cons (λ (p : Private). p.turns) (first_private m a) (map (first_private m) (range_with_len (a + 1) n)))

count-map-all :
    (m : Machine) (n a : ℕ) → count_by (λ (p : Private). not (is_over p.place)) (map (first_private m) (range_with_len a n)) ≡ n
count-map-all m zero a = refl
count-map-all m (suc n) a =
    let rest = count-map-all m n (a + 1) in
    let one : ◌≡◌ {A = ℕ} (cond (not (is_over (first_place m a))) 1 0) 1 = ap (λ b. cond (not b) 1 0) (first m a).over in
    omega (
      arith,
      one,
      sum_by-cons (λ (p : Private). cond (not (is_over p.place)) 1 0) (first_private m a) (map (first_private m) (range_with_len
          (a + 1) n)),
    )

-- ---- the ends

ended-first : (m : Machine) (a : ℕ) → ended_by (first_private m a) ≡ cut_at 0
ended-first m a = λ i. record { end = (first m a).ended i; turns = 0 }

module _ (m : Machine) where
  processors-first : take m.nodes (first_privates m) ≡ map (first_private m) (range_with_len 0 m.nodes)
  processors-first = take-map-range_with_len (first_private m) 0 (actor_count m) m.nodes (omega arith)

  ends-length : length (ends_of m (first_privates m)) ≡ m.nodes
  ends-length =
      length-map (take m.nodes (first_privates m)) ended_by
      ∙ (ap length processors-first ∙ length-map-range_with_len (first_private m) 0 m.nodes)

  ended-start : (q : ℕ) → q < m.nodes → ended_of (ends_of m (first_privates m)) q ≡ cut_at 0
  ended-start q inside =
      ap (λ ps. ended_of (map ended_by ps) q) processors-first
      ∙ (get_or-map ended_by (map (first_private m) (range_with_len 0 m.nodes)) q (first_private m q) (cut_at 0)
      (omega (arith, length-map-range_with_len (first_private m) 0 m.nodes))
      ∙ (ap ended_by (get_or-map-range_with_len (first_private m) 0 m.nodes q q (first_private m q) inside (omega arith))
      ∙ ended-first m q))

  in_order-start : (q : ℕ) → q < m.nodes → is_in_order m [] (ends_of m (first_privates m)) q ≡ true
  in_order-start q inside =
      let cut = is_end-cut m [] 0 q (IsGuest-start m q) in
      ap (λ (x : Ended). nat_le x.turns m.budget && is_end m [] q x.end x.turns) (ended-start q inside)
      ∙ (let some : nat_le 0 m.budget ≡ true = grind (arith, nat_tests) in rw (some, cut) refl)

  good-start : (answer : Answer) → Good m answer [] (ends_of m (first_privates m))
  good-start answer = first_bad-none m answer [] (ends_of m (first_privates m)) refl ends-length in_order-start

-- ---- the whole

module _ (m : Machine) (answer : Answer) (limits : IsWithinLimits m) where
  free-start : (f : Frame) → IsTrue (is_frame m f) → uses_of m answer (fine_start m) f ≡ 1
  free-start f frame =
      let parts = and_parts (nat_lt f.module m.nodes) (nat_lt f.number m.frames) frame in
      let free : has_bit (word_at m (fine_start m) (word.Pool f.module)) f.number ≡ true =
      ap (λ n. has_bit n f.number) (pool-start m f.module (grind (arith, nat_tests))) ∙ has_bit-full m.frames f.number (grind
      (arith, nat_tests)) in
      let none =
      sum-zero (λ page. bit_of false + bit_of (is_hand (session_on (first_privates m) page) f)) (numbers m.pages)
      (λ page. ap (λ r. bit_of false + bit_of (is_hand r f)) (nobody m page)) in
      omega (arith, none, ap bit_of free)

  module _ (q e : ℕ) (inside : q < m.nodes) (below : e < entry_count m) where
    no_translation : translation_of m (fine_start m) q e ≡ None
    no_translation =
        let actor : q < actor_count m = omega arith in
        ap (λ (p : Private). translation_at p e) (private-start m q actor) ∙ get_or-replicate (entry_count m) e None None below

    no_message : message_at m (private_of m (fine_start m) q) (private_of m (fine_start m) q).place ≡ None
    no_message =
        let actor : q < actor_count m = omega arith in
        at-start m (λ a p. message_at m p p.place ≡ None) (λ a. (first m a).message m (first_private m a)) q actor

    mask-start : word_at m (fine_start m) (word.Cmap e) ≡ 0
    mask-start = cmap-start m e below

    views-start : EntryOk (view m answer (fine_start m) q e)
    views-start =
        empty_ok (view m answer (fine_start m) q e) (ap is_some no_translation)
        (ap (λ n. has_invalidate n q) mask-start ∙ has_bit-none (invalidate_place q))
        (ap (λ n. has_restrict n q) mask-start ∙ has_bit-none (restrict_place q))
        (ap (λ (o : Option (ℕ × Message)). option_map_or (λ (x : ℕ × Message). x.0 == e && is_restrict x.1) o false) no_message)

    waits-start : InvalidateStays (view m answer (fine_start m) q e)
    waits-start =
        empty_waits (view m answer (fine_start m) q e)
        (ap (λ (o : Option (ℕ × Message)). option_map_or (λ (x : ℕ × Message). x.0 == e && not (is_restrict x.1)) o false) no_message)

    held-start : HeldOk (view m answer (fine_start m) q e) (held_view m (fine_start m) q e)
    held-start =
        empty_held (view m answer (fine_start m) q e) (held_view m (fine_start m) q e) (ap is_some no_translation)
        (ap (λ (r : Option Running). (session_view m answer q e (translation_of m (fine_start m) q e) r).whose) (nobody m (page_of m e)))
        refl

    reference-start : has_reference (word_at m (fine_start m) (word.Cmap e)) q ≡ is_some (translation_of m (fine_start m) q e)
    reference-start = ap (λ n. has_reference n q) mask-start ∙ (has_bit-none q ∙ sym (ap is_some no_translation))

  -- no session is on a page
  nobody-runs : {A : Type 0} (page : ℕ) (r : Running) → session_on (first_privates m) page ≡ Some r → A
  nobody-runs page r on = let none = nobody m page in absurd cc

  pub shows-start : Shows m answer (fine_start m)
  shows-start = record {
    all_words = first_words-length m;
    all_privates = privates-length m;
    words_encoded = encoded-start m limits;
    time_is_turns = sym (sum-map-zero m (actor_count m) 0);
    times_past = at-start m (λ a (p : Private). p.now ≤ 0) (λ a. omega arith);
    live_counts = sym (ap (count_by (λ (p : Private). not (is_over p.place))) (processors-first m) ∙ count-map-all m m.nodes 0);
    act_shows = λ q inside. act-start m q inside ∙ sym (acts q inside);
    lock_is_session = λ page inside. ap is_locked (dir-start m page inside) ∙ sym (ap is_some (nobody m page));
    one_session = λ a x within at. absurd (none-runs a x within at);
    dir_read_is = λ page r on. nobody-runs page r on;
    stamp_read_is = λ page r st on read. nobody-runs page r on;
    dir_is_history = λ page inside. ap dir_read (dir-start m page inside) ∙ dir_read-zero;
    stamp_is_history = λ page inside. stamp-start m page inside ∙ sym (ap (stamp_by m answer [] page) (nobody m page));
    copies_fit = λ page inside. refl;
    frames_once = free-start;
    hand_apart = λ page r f on hand. nobody-runs page r on;
    enough_finds = λ enough page r on empty. nobody-runs page r on;
    enough_stays = λ enough. at-start m (λ a (p : Private). goes_to p.place ≢ Some end.NoFrames) (λ a. (first m a).framed);
    kept_flat = λ page w f within inside kept. absurd cc;
    hand_flat = λ page w r f on hand filled. nobody-runs page r on;
    read_flat = λ page r x on copied. nobody-runs page r on;
    reference_is_pmap = reference-start;
    views = views-start;
    invalidates_stay = waits-start;
    held_is_pmap = held-start;
    fault_not_held = λ page e r on entry. nobody-runs page r on;
    posts_made = λ page r on quiet removes. nobody-runs page r on;
    history_good = good-start m answer;
    journals_are_history = at-start m (λ a (p : Private). p.journal ≡ []) (λ a. refl);
    reached_alone = at-start m (λ a p. IsReachedAlone m answer a p) (λ a. ([], tt, refl));
  }
    where
      acts : (q : ℕ) → q < m.nodes → act_of (private_of m (fine_start m) q) ≡ (program_of m q).space + 1
      acts q inside =
          let actor : q < actor_count m = omega arith in
          at-start m (λ a p. act_of p ≡ (program_of m a).space + 1)
          (λ a. ap (λ b. if b then 0 else (program_of m a).space + 1) (first m a).left) q actor

      none-runs : (a : ℕ) (x : Session) → a < actor_count m → session_of (private_of m (fine_start m) a).place ≡ Some x → ⊥
      none-runs a x within at =
          let none = at-start m (λ b (p : Private). session_of p.place ≡ None) (λ b. (first m b).session) a within in absurd cc
