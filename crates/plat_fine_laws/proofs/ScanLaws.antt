-- a scan's look at a mask keeps the invariant
use Rattle.std.specs.Prelude.{◌≡◌, ℕ, zero, suc, ◌+◌, ◌<◌, ◌≤◌, ◌==◌, ◌&&◌, ◌||◌, not, nat_lt, if◌then◌else◌, Bool, true, false, List, []}
use Rattle.std.specs.Prelude.{◌∷◌, length, drop, filter, cond, slice_index, slice_get, Some, None, IsTrue}
use Rattle.std.proofs.Common.{refl, ap, sym, arith, subst}
use Rattle.std.specs.List.{list_any, list_all, range_with_len}
use Rattle.std.proofs.lemmas.Bool.{and_parts, eqb-true}
use Rattle.std.proofs.lemmas.Bool.Decides.{nat_tests}
use Rattle.std.proofs.lemmas.List.{drop_all}
use Rattle.plat_base.specs.Verdicts.{Answer}
use Rattle.plat_base.specs.Machine.{Machine}
use Rattle.plat_base.specs.Pages.{space_of, entries_of_space}
use Rattle.plat_base.specs.declared.items.Message.TheVariants as message
use Rattle.plat_base.specs.declared.items.Moment.{Moment}
use Rattle.plat_base.specs.declared.items.Moment.TheVariants as moment
use Rattle.plat_base.specs.declared.words.Op.TheVariants as op
use Rattle.plat_base.specs.declared.words.WordName.TheVariants as word
use Rattle.plat_events.specs.Words.{has_invalidate, has_restrict}
use Rattle.plat_events.specs.Places.{entry_count, is_name, is_word}
use Rattle.plat_events.specs.Privates.{Onward, Place, Looking, Applying, Ticking, Private, actor_count}
use Rattle.plat_events.specs.Scans.{entry_scanned, go_on, scan_from, look_place}
use Rattle.plat_events.specs.Events.{at}
use Rattle.plat_events.specs.Kept.{session_behind, has_left, word_at, private_of}
use Rattle.plat_events.specs.Views.{place_view}
use Rattle.plat_events.specs.Runs.{Fine, event}
use Rattle.plat_events.specs.Shown.{Shows}
use Rattle.plat_local_laws.specs.Standing.{PlaceOk, ScanningOk}
use Rattle.plat_local_laws.specs.Alone.{PrivateOk}
use Rattle.plat_fine_laws.specs.Changes.{Changes, GoesOn, Moves, KeepsWords}
use Rattle.plat_fine_laws.specs.Placed.{Scans}
use Rattle.plat_fine_laws.proofs.PlacedLaws.{Scans-still}
use Rattle.plat_fine_laws.proofs.WordLaws.{KeepsWords-loaded}
use Rattle.plat_fine_laws.proofs.PrivateLaws.{private_of-get}
use Rattle.plat_fine_laws.proofs.PlaceLaws.{looking-goes, look_place-goes, scan_from-goes, moves-on, IsPlain, plain-if, go_on-plain}
use Rattle.plat_fine_laws.proofs.PlaceLaws.{plain_view, go_on-goes}
use Rattle.plat_fine_laws.proofs.ReachedLaws.{reached-moved}
use Rattle.plat_fine_laws.proofs.Footprints.{look-changes}
use Rattle.plat_fine_laws.proofs.MovedLaws.{scanned-entries, shows-moved}
use Rattle.plat_base.proofs.LimitLemmas.{holds_at}

-- ---- the entries of a space are entries of the machine, in that space

entries_first :
    (test : ℕ → Bool) (a n : ℕ) (rest : List ℕ) (b : Bool) → test a ≡ b →
    list_all (λ e. nat_lt e (a + suc n) && test e) rest ≡ true →
    list_all (λ e. nat_lt e (a + suc n) && test e) (cond b (a ∷ rest) rest) ≡ true
entries_first test a n rest true is all =
    let below : nat_lt a (a + suc n) ≡ true = grind (arith, nat_tests) in rw (below, is) all
entries_first test a n rest false is all = all

entries_within :
    (test : ℕ → Bool) (a n : ℕ) → list_all (λ e. nat_lt e (a + n) && test e) (filter test (range_with_len a n)) ≡ true
entries_within test a zero = refl
entries_within test a (suc n) =
    let number : a + 1 + n ≡ a + suc n = omega arith in
    entries_first test a n (filter test (range_with_len (a + 1) n)) (test a) refl
    (subst (λ k. list_all (λ e. nat_lt e k && test e) (filter test (range_with_len (a + 1) n)) ≡ true) number
    (entries_within test (a + 1) n))

pub entry_of_space :
    (m : Machine) (space i : ℕ) → i < length (entries_of_space m space) →
    (slice_index (entries_of_space m space) i < entry_count m) × (space_of m (slice_index (entries_of_space m space) i) ≡ space)
entry_of_space m space i inside =
    let e = slice_index (entries_of_space m space) i in
    let both : (nat_lt e (0 + entry_count m) && (space_of m e == space)) ≡ true =
    holds_at (λ x. nat_lt x (0 + entry_count m) && (space_of m x == space)) (entries_of_space m space) i 0
    (entries_within (λ x. space_of m x == space) 0 (entry_count m)) inside in
    let parts = and_parts (nat_lt e (0 + entry_count m)) (space_of m e == space) both in
    (grind (arith, nat_tests), eqb-true (space_of m e) space parts.1)

-- ---- what a look says of each entry

-- the entry between the rest of a list and the rest behind the next place
drop-any :
    (xs : List ℕ) (i e : ℕ) → list_any (λ x. x == e) (drop i xs) ≡ true → list_any (λ x. x == e) (drop (i + 1) xs) ≡ false →
    slice_index xs i ≡ e
drop-any [] zero e before after = absurd cc
drop-any [] (suc i) e before after = absurd cc
drop-any (x ∷ xs) zero e before after =
    eqb-true x e (first (x == e) before)
  where
    first : (b : Bool) → (b || list_any (λ y. y == e) xs) ≡ true → b ≡ true
    first true h = refl
    first false h = absurd cc
drop-any (x ∷ xs) (suc i) e before after =
    let number : suc i + 1 ≡ suc (i + 1) = omega arith in
    drop-any xs i e before (rw number at after)

-- an entry that becomes usable was still to be passed, and is passed
passed-now :
    (act before after : Bool) → (act && true && not after) ≡ true → (act && true && not before) ≡ false → (before ≡ true) × (after ≡ false)
passed-now true true false now was = (refl, refl)
passed-now true true true now was = absurd cc
passed-now true false after now was = absurd cc
passed-now false before after now was = absurd cc

module _ (m : Machine) (a : ℕ) (p : Private) (i : ℕ) (onward : Onward) (e mask n : ℕ)
    (same : entry_scanned m p i ≡ e → mask ≡ n) where
  -- a message was found
  invalidate-scans :
      (moment : Moment) → has_invalidate n a ≡ true →
      Scans mask a (place_view m (at p (Looking i moment onward)) e) (place_view m (at p (Applying i message.Invalidate moment onward)) e)
  invalidate-scans moment waits = record {
    active = refl;
    passes = λ after before. absurd cc;
    restricts = λ after before. absurd (grind arith);
    invalidates = λ after before.
        rw (same (eqb-true (entry_scanned m p i) e (and_parts (entry_scanned m p i == e) true after).0)) waits;
  }

  restrict-scans :
      (moment : Moment) → has_invalidate n a ≡ false → has_restrict n a ≡ true →
      Scans mask a (place_view m (at p (Looking i moment onward)) e) (place_view m (at p (Applying i message.Restrict moment onward)) e)
  restrict-scans moment other waits = record {
    active = refl;
    passes = λ after before. absurd cc;
    restricts = λ after before.
        let here : mask ≡ n = same (eqb-true (entry_scanned m p i) e (and_parts (entry_scanned m p i == e) true after).0) in
        rw here (waits, other);
    invalidates = λ after before. absurd (grind arith);
  }

  -- no message was found, and the scan goes on

  interrupt-scans :
      (place : Place) → has_left place ≡ false → IsPlain m (at p place) place →
      Scans mask a (place_view m (at p (Looking i moment.Interrupt onward)) e) (place_view m (at p place) e)
  interrupt-scans place left plain =
      Scans-still mask a (place_view m (at p (Looking i moment.Interrupt onward)) e) (place_view m (at p place) e)
      (plain_view m (at p (Looking i moment.Interrupt onward)) (at p place) e refl left (record { scan = refl; message = refl }) plain)

  -- an activation scan passes the entry that it looked at
  next-scans :
      has_invalidate n a ≡ false → has_restrict n a ≡ false →
      Scans mask a (place_view m (at p (Looking i moment.Activation onward)) e) (place_view m (at p (Looking
      (i + 1) moment.Activation onward)) e)
  next-scans other clear = record {
    active = refl;
    passes = λ after before.
        let xs = entries_of_space m p.guest.space in
        let now = passed-now (space_of m e == p.guest.space) (list_any (λ x. x == e) (drop i xs)) (list_any (λ x. x == e) (drop (i + 1) xs))
        after before in
        rw (same (drop-any xs i e now.0 now.1)) (other, clear);
    restricts = λ after before. absurd cc;
    invalidates = λ after before. absurd cc;
  }

  last-scans :
      has_invalidate n a ≡ false → has_restrict n a ≡ false → length (entries_of_space m p.guest.space) ≤ i + 1 →
      Scans mask a (place_view m (at p (Looking i moment.Activation onward)) e) (place_view m (at p Ticking) e)
  last-scans other clear last = record {
    active = refl;
    passes = λ after before.
        let xs = entries_of_space m p.guest.space in
        let now = passed-now (space_of m e == p.guest.space) (list_any (λ x. x == e) (drop i xs)) false after before in
        let none : list_any (λ x. x == e) (drop (i + 1) xs) ≡ false = ap (list_any (λ x. x == e)) (drop_all (i + 1) xs last) in
        rw (same (drop-any xs i e now.0 none)) (other, clear);
    restricts = λ after before. absurd cc;
    invalidates = λ after before. absurd cc;
  }

  activation-scans :
      (b : Bool) → nat_lt (i + 1) (length (entries_of_space m p.guest.space)) ≡ b → has_invalidate n a ≡ false → has_restrict n a ≡ false →
      Scans mask a (place_view m (at p (Looking i moment.Activation onward)) e)
      (place_view m (at p (if b then Looking (i + 1) moment.Activation onward else go_on m p.turns onward)) e)
  activation-scans true more other clear = next-scans other clear
  activation-scans false more other clear =
      let last : length (entries_of_space m p.guest.space) ≤ i + 1 = grind (arith, nat_tests) in
      subst (Scans mask a (place_view m (at p (Looking i moment.Activation onward)) e))
      (sym (plain_view m (at p Ticking) (at p (go_on m p.turns onward)) e refl (go_on-goes m p.turns onward).left
      (record { scan = refl; message = refl }) (go_on-plain m (at p (go_on m p.turns onward)) p.turns onward)))
      (last-scans other clear last)

  clear-scans :
      (moment : Moment) → has_invalidate n a ≡ false → has_restrict n a ≡ false →
      Scans mask a (place_view m (at p (Looking i moment onward)) e)
      (place_view m (at p (scan_from m p.turns p.guest.space (i + 1) moment onward)) e)
  clear-scans moment.Interrupt other clear =
      let place = scan_from m p.turns p.guest.space (i + 1) moment.Interrupt onward in
      interrupt-scans place (scan_from-goes m p.turns p.guest.space (i + 1) moment.Interrupt onward).left
      (plain-if m (at p place) (nat_lt (i + 1) (length (entries_of_space m p.guest.space))) (Looking (i + 1) moment.Interrupt onward)
      (go_on m p.turns onward) (record { scan = refl; message = refl }) (go_on-plain m (at p place) p.turns onward))
  clear-scans moment.Activation other clear =
      activation-scans (nat_lt (i + 1) (length (entries_of_space m p.guest.space))) refl other clear

  look-scans-by :
      (moment : Moment) (b c : Bool) → has_invalidate n a ≡ b → has_restrict n a ≡ c →
      Scans mask a (place_view m (at p (Looking i moment onward)) e)
      (place_view m (at p (if b then Applying i message.Invalidate moment onward
      else if c then Applying i message.Restrict moment onward
      else scan_from m p.turns p.guest.space (i + 1) moment onward)) e)
  look-scans-by moment true c first second = invalidate-scans moment first
  look-scans-by moment false true first second = restrict-scans moment first second
  look-scans-by moment false false first second = clear-scans moment first second

  pub look-scans :
      (moment : Moment) →
      Scans mask a (place_view m (at p (Looking i moment onward)) e) (place_view m (at p (look_place m a p i moment onward n)) e)
  look-scans moment = look-scans-by moment (has_invalidate n a) (has_restrict n a) refl refl

-- ---- the look

module _ (m : Machine) (answer : Answer) (s : Fine) (a i : ℕ) (moment : Moment) (onward : Onward) (shows : Shows m answer s)
    (alone : PrivateOk m answer a (private_of m s a)) (stands : (private_of m s a).place ≡ Looking i moment onward) where
  scanning : ScanningOk m answer a (private_of m s a) i moment onward
  scanning = subst (PlaceOk m answer a (private_of m s a)) stands alone.standing.place

  within : a < actor_count m
  within = let inside : a < m.nodes = scanning.processor in omega arith

  here : slice_get s.privates a ≡ Some (private_of m s a)
  here = let inside : a < actor_count m = within in private_of-get m s a (omega (arith, shows.all_privates))

  abbrev entry : ℕ
  entry = entry_scanned m (private_of m s a) i

  named : IsTrue (is_name m (word.Cmap entry))
  named = let below = (entry_of_space m (private_of m s a).guest.space i scanning.left).0 in grind (arith, nat_tests)

  found : IsTrue (is_word m (word.Cmap entry) (word_at m s (word.Cmap entry)))
  found = shows.words_encoded (word.Cmap entry) named

  abbrev place : Place
  place = look_place m a (private_of m s a) i moment onward (word_at m s (word.Cmap entry))

  changes : Changes m s (event m answer s a) a (word.Cmap entry) (word_at m s (word.Cmap entry)) (at (private_of m s a) place) None
  changes = look-changes m answer s a (private_of m s a) here i moment onward stands found

  moves : Moves m a (private_of m s a) (at (private_of m s a) place)
  moves =
      moves-on m a (private_of m s a) place (session_behind onward)
      (subst (GoesOn (session_behind onward)) (sym stands) (looking-goes i moment onward))
      (look_place-goes m a (private_of m s a) i moment onward (word_at m s (word.Cmap entry)))

  words : KeepsWords m s (event m answer s a)
  words = KeepsWords-loaded m s (event m answer s a) a (word.Cmap entry) (at (private_of m s a) place) None changes

  scans :
      (e : ℕ) → Scans (word_at m s (word.Cmap e)) a (place_view m (private_of m s a) e) (place_view m (at (private_of m s a) place) e)
  scans e =
      subst (λ (x : Place). Scans (word_at m s (word.Cmap e)) a (place_view m (at (private_of m s a) x) e)
      (place_view m (at (private_of m s a) place) e)) (sym stands)
      (look-scans m a (private_of m s a) i onward e (word_at m s (word.Cmap e)) (word_at m s (word.Cmap entry))
      (λ same. ap (λ (x : ℕ). word_at m s (word.Cmap x)) (sym same)) moment)

  pub keeps_look : Shows m answer (event m answer s a)
  keeps_look =
      shows-moved m answer s (event m answer s a) a (word.Cmap entry) (word_at m s (word.Cmap entry)) (at (private_of m s a) place)
      shows within changes moves named found words (shows.times_past a within)
      (scanned-entries m answer s (event m answer s a) a (word.Cmap entry) (word_at m s (word.Cmap entry)) (at (private_of m s a) place)
      shows within changes moves words scans)
      (reached-moved m answer a (private_of m s a) (Looking i moment onward) (word_at m s (word.Cmap entry)) (word.Cmap entry) op.Load
      (shows.reached_alone a within) stands refl found)
