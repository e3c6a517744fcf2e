-- what the operation of each place changes: which word gets which number, what becomes of the actor, and the item
use Rattle.std.specs.Prelude.{◌≡◌, ℕ, ◌+◌, ◌-◌, ◌%◌, ◌^◌, ◌==◌, if◌then◌else◌, Some, None, IsTrue, slice_get, bit_and, bit_or}
use Rattle.std.specs.Prelude.{◌≢◌, true, false}
use Rattle.std.proofs.Common.{refl}
use Rattle.std.proofs.lemmas.Bool.{eq-eqb, ne_eqb}
use Rattle.plat_base.specs.Verdicts.{Answer}
use Rattle.plat_base.specs.Machine.{Machine}
use Rattle.plat_base.specs.declared.endings.End.{End}
use Rattle.plat_base.specs.declared.items.Message.{Message}
use Rattle.plat_base.specs.declared.items.Moment.{Moment}
use Rattle.plat_base.specs.declared.items.Moment.TheVariants as moment
use Rattle.plat_base.specs.declared.items.Item.TheVariants as item
use Rattle.plat_base.specs.declared.words.Op.TheVariants as op
use Rattle.plat_base.specs.declared.words.WordName.TheVariants as word
use Rattle.plat_events.specs.Words.{lock_place, bits_applied, all_but}
use Rattle.plat_events.specs.Places.{is_word}
use Rattle.plat_events.specs.Sessions.{Fault}
use Rattle.plat_events.specs.Privates.{Onward, TurnOver, Gone, Polling, Looking, Applying, Ticking, Switching, Loading, Expecting}
use Rattle.plat_events.specs.Privates.{Exchanging, Locking, Leaving, Lessening, LiveLooking, TimeLooking, Over, Private, translation_at}
use Rattle.plat_events.specs.Scans.{entry_scanned, scan_from, poll_place, look_place}
use Rattle.plat_events.specs.Events.{at, memory_now, word_after, reach_now, ticked, apply_message, switched, access_over, access_made}
use Rattle.plat_events.specs.Events.{applied_item, lock_place_after, pass_begun, with_item}
use Rattle.plat_events.specs.Kept.{word_at}
use Rattle.plat_events.specs.Runs.{Fine, event}
use Rattle.plat_fine_laws.specs.Changes.{Changes}
use Rattle.plat_fine_laws.proofs.EventLaws.{event-changes}

module _ (m : Machine) (answer : Answer) (s : Fine) (a : ℕ) (p : Private) (here : slice_get s.privates a ≡ Some p) where
  pub poll-changes :
      (onward : Onward) → p.place ≡ Polling onward → IsTrue (is_word m (word.Intr a) (word_at m s (word.Intr a))) →
      Changes m s (event m answer s a) a (word.Intr a) 0 (at p (poll_place m p onward (word_at m s (word.Intr a)))) None
  poll-changes onward stands found =
      event-changes m answer a p (Polling onward) stands s (word.Intr a) (op.Swap 0) here refl found

  pub look-changes :
      (i : ℕ) (moment : Moment) (onward : Onward) → p.place ≡ Looking i moment onward →
      IsTrue (is_word m (word.Cmap (entry_scanned m p i)) (word_at m s (word.Cmap (entry_scanned m p i)))) →
      Changes m s (event m answer s a) a (word.Cmap (entry_scanned m p i)) (word_at m s (word.Cmap (entry_scanned m p i)))
      (at p (look_place m a p i moment onward (word_at m s (word.Cmap (entry_scanned m p i))))) None
  look-changes i moment onward stands found =
      event-changes m answer a p (Looking i moment onward) stands s (word.Cmap (entry_scanned m p i)) op.Load here refl found

  -- the private state after a message was applied
  abbrev pub applied_private : (i : ℕ) → Message → Moment → Onward → Private
  applied_private i msg moment onward =
      record (at (apply_message p (entry_scanned m p i) msg) (scan_from m p.turns p.guest.space (i + 1) moment onward)) {
        journal = with_item p.journal (applied_item a (entry_scanned m p i) msg moment (translation_at p (entry_scanned m p i)));
      }

  pub apply-changes :
      (i : ℕ) (msg : Message) (moment : Moment) (onward : Onward) → p.place ≡ Applying i msg moment onward →
      IsTrue (is_word m (word.Cmap (entry_scanned m p i)) (word_at m s (word.Cmap (entry_scanned m p i)))) →
      Changes m s (event m answer s a) a (word.Cmap (entry_scanned m p i))
      (bit_and (word_at m s (word.Cmap (entry_scanned m p i))) (all_but (bits_applied msg a)))
      (applied_private i msg moment onward)
      (applied_item a (entry_scanned m p i) msg moment (translation_at p (entry_scanned m p i)))
  apply-changes i msg moment onward stands found =
      event-changes m answer a p (Applying i msg moment onward) stands s (word.Cmap (entry_scanned m p i))
      (op.And (all_but (bits_applied msg a))) here refl found

  pub tick-changes :
      p.place ≡ Ticking → IsTrue (is_word m word.Time (word_at m s word.Time)) →
      Changes m s (event m answer s a) a word.Time ((word_at m s word.Time + 1) % 2 ^ 64)
      (record (ticked m a p (word_at m s word.Time + 1)) { journal = p.journal }) None
  tick-changes stands found = event-changes m answer a p Ticking stands s word.Time (op.Add 1) here refl found

  pub switch-changes :
      (space : ℕ) → p.place ≡ Switching space → IsTrue (is_word m (word.Act a) (word_at m s (word.Act a))) →
      Changes m s (event m answer s a) a (word.Act a) (space + 1)
      (record (at (switched m a p) (scan_from m p.turns space 0 moment.Activation TurnOver)) {
        journal = with_item p.journal (Some (item.Switch (record { actor = a; space = space })));
      })
      (Some (item.Switch (record { actor = a; space = space })))
  switch-changes space stands found =
      event-changes m answer a p (Switching space) stands s (word.Act a) (op.Swap (space + 1)) here refl found

  -- the private state after an access
  abbrev pub accessed_private : ℕ → Private
  accessed_private n = record (access_over m a p n) { journal = with_item p.journal (Some (access_made m a p n)) }

  pub load-changes :
      p.place ≡ Loading → IsTrue (is_word m (memory_now m a p) (word_at m s (memory_now m a p))) →
      Changes m s (event m answer s a) a (memory_now m a p) (word_at m s (memory_now m a p))
      (accessed_private (word_at m s (memory_now m a p)))
      (Some (access_made m a p (word_at m s (memory_now m a p))))
  load-changes stands found = event-changes m answer a p Loading stands s (memory_now m a p) op.Load here refl found

  pub expect-changes :
      p.place ≡ Expecting → IsTrue (is_word m (memory_now m a p) (word_at m s (memory_now m a p))) →
      Changes m s (event m answer s a) a (memory_now m a p) (word_at m s (memory_now m a p))
      (at p (Exchanging (word_at m s (memory_now m a p)))) None
  expect-changes stands found = event-changes m answer a p Expecting stands s (memory_now m a p) op.Load here refl found

  -- the write where the word is still the one that was seen, and where it is another
  pub exchange-made :
      (seen : ℕ) → p.place ≡ Exchanging seen → word_at m s (memory_now m a p) ≡ seen →
      IsTrue (is_word m (memory_now m a p) (word_at m s (memory_now m a p))) →
      Changes m s (event m answer s a) a (memory_now m a p) (word_after (reach_now m a p) seen)
      (accessed_private (word_at m s (memory_now m a p)))
      (Some (access_made m a p (word_at m s (memory_now m a p))))
  exchange-made seen stands same found =
      let equal : (word_at m s (memory_now m a p) == seen) ≡ true = eq-eqb (word_at m s (memory_now m a p)) seen same in
      rw equal at
      (event-changes m answer a p (Exchanging seen) stands s (memory_now m a p) (op.Exchange seen (word_after (reach_now m a p) seen))
      here refl found)

  pub exchange-failed :
      (seen : ℕ) → p.place ≡ Exchanging seen → word_at m s (memory_now m a p) ≢ seen →
      IsTrue (is_word m (memory_now m a p) (word_at m s (memory_now m a p))) →
      Changes m s (event m answer s a) a (memory_now m a p) (word_at m s (memory_now m a p))
      (at p (Exchanging (word_at m s (memory_now m a p)))) None
  exchange-failed seen stands other found =
      let unequal : (word_at m s (memory_now m a p) == seen) ≡ false = ne_eqb (word_at m s (memory_now m a p)) seen other in
      rw unequal at
      (event-changes m answer a p (Exchanging seen) stands s (memory_now m a p) (op.Exchange seen (word_after (reach_now m a p) seen))
      here refl found)

  pub lock-changes :
      (fault : Fault) → p.place ≡ Locking fault → IsTrue (is_word m (word.Dir fault.page) (word_at m s (word.Dir fault.page))) →
      Changes m s (event m answer s a) a (word.Dir fault.page) (bit_or (word_at m s (word.Dir fault.page)) (2 ^ lock_place))
      (at p (lock_place_after m a fault (word_at m s (word.Dir fault.page)))) None
  lock-changes fault stands found =
      event-changes m answer a p (Locking fault) stands s (word.Dir fault.page) (op.Or (2 ^ lock_place)) here refl found

  pub leave-changes :
      (e : End) → p.place ≡ Leaving e → IsTrue (is_word m (word.Act a) (word_at m s (word.Act a))) →
      Changes m s (event m answer s a) a (word.Act a) 0 (at p (Lessening e)) None
  leave-changes e stands found = event-changes m answer a p (Leaving e) stands s (word.Act a) (op.Swap 0) here refl found

  pub lessen-changes :
      (e : End) → p.place ≡ Lessening e → IsTrue (is_word m word.Live (word_at m s word.Live)) →
      Changes m s (event m answer s a) a word.Live ((word_at m s word.Live + (2 ^ 64 - 1)) % 2 ^ 64) (at p (Gone e)) None
  lessen-changes e stands found = event-changes m answer a p (Lessening e) stands s word.Live (op.Sub 1) here refl found

  pub live-changes :
      p.place ≡ LiveLooking → IsTrue (is_word m word.Live (word_at m s word.Live)) →
      Changes m s (event m answer s a) a word.Live (word_at m s word.Live)
      (at p (if word_at m s word.Live == 0 then Over else TimeLooking)) None
  live-changes stands found = event-changes m answer a p LiveLooking stands s word.Live op.Load here refl found

  pub time-changes :
      p.place ≡ TimeLooking → IsTrue (is_word m word.Time (word_at m s word.Time)) →
      Changes m s (event m answer s a) a word.Time (word_at m s word.Time)
      (record (pass_begun p (word_at m s word.Time)) { journal = p.journal }) None
  time-changes stands found = event-changes m answer a p TimeLooking stands s word.Time op.Load here refl found
