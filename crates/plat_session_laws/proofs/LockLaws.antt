-- the lock of a directory keeps the invariant: found set, its actor polls and locks again; found clear, a session begins
use Rattle.std.specs.Prelude.{◌≡◌, ℕ, ◌<◌, ◌^◌, ◌==◌, ◌&&◌, not, if◌then◌else◌, Bool, true, false, slice_get, bit_or, Some, None, IsTrue}
use Rattle.std.proofs.Common.{refl, ap, sym, ◌∙◌, arith, subst}
use Rattle.std.proofs.lemmas.Bool.Decides.{nat_tests}
use Rattle.plat_base.specs.Verdicts.{Answer}
use Rattle.plat_base.specs.Machine.{Machine}
use Rattle.plat_base.specs.declared.words.Op.TheVariants as op
use Rattle.plat_base.specs.declared.words.WordName.{WordName}
use Rattle.plat_base.specs.declared.words.WordName.TheVariants as word
use Rattle.plat_laws.specs.Guests.{IsWithinLimits}
use Rattle.plat_words.proofs.Locks.{dir_word-locked, dir_word_read}
use Rattle.plat_events.specs.Words.{lock_place, dir_read, dir_word, is_locked}
use Rattle.plat_events.specs.Places.{is_name, is_word}
use Rattle.plat_events.specs.Sessions.{Fault, Session, Stamping, Returning}
use Rattle.plat_events.specs.Privates.{Place, Polling, Relock, Locking, InSession, Private, actor_count}
use Rattle.plat_events.specs.Events.{at}
use Rattle.plat_events.specs.Kept.{word_at, private_of}
use Rattle.plat_events.specs.Runs.{Fine, event}
use Rattle.plat_events.specs.Shown.{IsReachedAlone, Shows}
use Rattle.plat_local_laws.specs.Standing.{LockingOk, PlaceOk}
use Rattle.plat_fine_laws.specs.Changes.{Changes, GoesOn}
use Rattle.plat_fine_laws.proofs.PrivateLaws.{private_of-get}
use Rattle.plat_fine_laws.proofs.AloneLaws.{alone_ok}
use Rattle.plat_fine_laws.proofs.PlaceLaws.{IsPlain, goes-if, plain-if, polling-goes}
use Rattle.plat_fine_laws.proofs.ReachedLaws.{reached-moved}
use Rattle.plat_fine_laws.proofs.Footprints.{lock-changes}
use Rattle.plat_fine_laws.proofs.ExpectLaws.{shows-loaded}

-- the word of a directory whose lock is set stays as it is
locked-same : (m : Machine) (n : ℕ) → IsTrue (is_word m (word.Dir 0) n) → is_locked n ≡ true → bit_or n 8 ≡ n
locked-same m n found set =
    let r = dir_word_read m n found in
    ap (λ x. bit_or x 8) (sym r.back)
    ∙ (dir_word-locked (dir_read n) (is_locked n) ∙ (ap (dir_word (dir_read n)) (sym set) ∙ r.back))

locking-goes : (fault : Fault) → GoesOn None (Locking fault)
locking-goes fault = record { session = refl; over = refl; left = refl; ended = refl; framed = λ e. absurd cc }

module _ (m : Machine) (answer : Answer) (s : Fine) (a : ℕ) (limits : IsWithinLimits m) (shows : Shows m answer s)
    (within : a < actor_count m) (fault : Fault) (stands : (private_of m s a).place ≡ Locking fault) where
  abbrev p : Private
  p = private_of m s a

  abbrev name : WordName
  name = word.Dir fault.page

  abbrev n : ℕ
  n = word_at m s (word.Dir fault.page)

  pub locking : LockingOk m a (private_of m s a) fault
  locking = subst (PlaceOk m answer a p) stands (alone_ok m answer s a limits shows within).standing.place

  pub lock-here : slice_get s.privates a ≡ Some (private_of m s a)
  lock-here = private_of-get m s a (omega (arith, shows.all_privates))

  pub lock-named : IsTrue (is_name m (word.Dir fault.page))
  lock-named = let below = locking.locks.page in grind (arith, nat_tests)

  pub lock-found : IsTrue (is_word m (word.Dir fault.page) (word_at m s (word.Dir fault.page)))
  lock-found = shows.words_encoded name lock-named

  -- where the actor waits, and its session
  abbrev waiting : Place
  waiting = if a == m.nodes then Locking fault else Polling (Relock fault)

  abbrev pub begun : Session
  begun = record {
    fault = fault;
    dir = dir_read (word_at m s (word.Dir fault.page));
    phase = if a == m.nodes && not (dir_read (word_at m s (word.Dir fault.page))).frozen then Returning else Stamping;
  }

  abbrev stood : Bool → Private
  stood b = at p (if b then waiting else InSession begun)

  -- what the lock changes, and that its actor alone comes there, by what it found
  changes-by :
      (b : Bool) → is_locked n ≡ b → Changes m s (event m answer s a) a name (bit_or n 8) (stood b) None
      × IsReachedAlone m answer a (stood b)
  changes-by b is = (
    subst (λ c. Changes m s (event m answer s a) a name (bit_or n 8) (stood c) None)
        is (lock-changes m answer s a p lock-here fault stands lock-found),
    subst (λ c. IsReachedAlone m answer a (stood c)) is
        (reached-moved m answer a p (Locking fault) n name (op.Or (2 ^ lock_place)) (shows.reached_alone a within) stands refl lock-found),
  )

  pub begins :
      is_locked (word_at m s (word.Dir fault.page)) ≡ false →
      Changes m s (event m answer s a) a (word.Dir fault.page) (bit_or (word_at m s (word.Dir fault.page)) 8)
      (at (private_of m s a) (InSession begun)) None
      × IsReachedAlone m answer a (at (private_of m s a) (InSession begun))
  begins clear = changes-by false clear

  pub keeps_lock_found_set : is_locked (word_at m s (word.Dir fault.page)) ≡ true → Shows m answer (event m answer s a)
  keeps_lock_found_set set =
      let parts = changes-by true set in
      shows-loaded m answer s (event m answer s a) a name waiting shows within
      (subst (λ k. Changes m s (event m answer s a) a name k (at p waiting) None) (locked-same m n lock-found set) parts.0)
      (subst (GoesOn None) (sym stands) (locking-goes fault))
      (goes-if None (a == m.nodes) (Locking fault) (Polling (Relock fault)) (locking-goes fault) (polling-goes (Relock fault)))
      (subst (IsPlain m p) (sym stands) (record { scan = refl; message = refl }))
      (plain-if m (at p waiting) (a == m.nodes) (Locking fault) (Polling (Relock fault)) (record { scan = refl; message = refl })
      (record { scan = refl; message = refl }))
      lock-named parts.1
