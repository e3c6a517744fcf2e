-- the last two operations of a processor keep the invariant: it leaves its space, and is live no more
use Rattle.std.specs.Prelude.{◌≡◌, ℕ, ◌+◌, ◌*◌, ◌<◌, ◌==◌, ◌&&◌, Bool, true, false, List, slice_get, Option, Some, None, IsTrue}
use Rattle.std.proofs.Common.{refl, ap, sym, ◌∙◌, arith, subst}
use Rattle.std.specs.Option.{option_map}
use Rattle.std.proofs.lemmas.Bool.Decides.{nat_tests}
use Rattle.plat_base.specs.Verdicts.{Answer}
use Rattle.plat_base.specs.Machine.{Machine}
use Rattle.plat_base.specs.Pages.{space_of}
use Rattle.plat_base.specs.Flat.{flat_value, flat_writes}
use Rattle.plat_base.specs.declared.items.Item.{Item}
use Rattle.plat_base.specs.declared.endings.End.{End}
use Rattle.plat_base.specs.declared.words.Op.TheVariants as op
use Rattle.plat_base.specs.declared.words.WordName.TheVariants as word
use Rattle.plat_laws.specs.Guests.{IsWithinLimits}
use Rattle.plat_events.specs.Places.{place_of, is_name, is_word}
use Rattle.plat_events.specs.Sessions.{Session}
use Rattle.plat_events.specs.Privates.{Leaving, Lessening, Private, actor_count, is_over}
use Rattle.plat_events.specs.Events.{at}
use Rattle.plat_events.specs.Kept.{session_of, word_at, private_of}
use Rattle.plat_events.specs.Runs.{Fine, event, end_at, ends_of}
use Rattle.plat_events.specs.Shown.{act_of, goes_to, Shows}
use Rattle.plat_local_laws.specs.Standing.{PlaceOk, EndingOk}
use Rattle.plat_local_laws.specs.Alone.{PrivateOk}
use Rattle.plat_fine_laws.specs.Changes.{Changes, KeepsFlat, Stays, LeavesPages}
use Rattle.plat_fine_laws.proofs.WordLaws.{behind-kept, page_words-kept, named-kept, word_at-new}
use Rattle.plat_fine_laws.proofs.PrivateLaws.{private_of-get}
use Rattle.plat_fine_laws.proofs.ActorFieldLaws.{each-private}
use Rattle.plat_fine_laws.proofs.EndFieldLaws.{turns-still, live-still, ends-still}
use Rattle.plat_fine_laws.proofs.ReachedLaws.{reached-moved}
use Rattle.plat_fine_laws.proofs.AloneLaws.{alone_ok}
use Rattle.plat_fine_laws.proofs.Footprints.{leave-changes}
use Rattle.plat_fine_laws.proofs.StayLaws

-- ---- no item

pub leaves-none : (m : Machine) (items : List Item) → LeavesPages m items items
leaves-none m items = search arith

pub flat-none : (m : Machine) (s t : Fine) → t.history ≡ s.history → (page w : ℕ) → KeepsFlat m s t page w
flat-none m s t same page w = record {
  value = ap (λ h. flat_value m h page w) same;
  writes = ap (λ h. flat_writes h page w) same;
}

-- ---- a processor leaves its space

module _ (m : Machine) (answer : Answer) (s : Fine) (a : ℕ) (e : End) (limits : IsWithinLimits m) (shows : Shows m answer s)
    (within : a < actor_count m) (stands : (private_of m s a).place ≡ Leaving e) where
  alone : PrivateOk m answer a (private_of m s a)
  alone = alone_ok m answer s a limits shows within

  ending : EndingOk m a (private_of m s a) e
  ending = subst (PlaceOk m answer a (private_of m s a)) stands alone.standing.place

  here : slice_get s.privates a ≡ Some (private_of m s a)
  here = private_of-get m s a (omega (arith, shows.all_privates))

  named : IsTrue (is_name m (word.Act a))
  named = let inside : a < m.nodes = ending.processor in grind (arith, nat_tests)

  found : IsTrue (is_word m (word.Act a) (word_at m s (word.Act a)))
  found = shows.words_encoded (word.Act a) named

  abbrev gone : Private
  gone = at (private_of m s a) (Lessening e)

  changes : Changes m s (event m answer s a) a (word.Act a) 0 gone None
  changes = leave-changes m answer s a (private_of m s a) here e stands found

  front : place_of m (word.Act a) < 2 + 2 * m.nodes
  front = let inside : a < m.nodes = ending.processor in omega arith

  stays : Stays m a (private_of m s a) gone None
  stays = record {
    pmap = refl;
    running = sym (ap (λ (o : Option Session). option_map (λ (x : Session). record {
      actor = a;
      now =
          (private_of m s a).now;
      session = x;
    }) o) (ap session_of stands));
    journal = refl;
    own = λ i is. absurd cc;
    framed = λ enough framed. shows.enough_stays enough a within (ap goes_to stands ∙ framed);
  }

  leaves : LeavesPages m s.history (event m answer s a).history
  leaves = subst (LeavesPages m s.history) (sym changes.history) (leaves-none m s.history)

  acts : (q : ℕ) → q < m.nodes → word_at m (event m answer s a) (word.Act q) ≡ act_of (private_of m (event m answer s a) q)
  acts q inside =
      each-private m s (event m answer s a) a (word.Act a) 0 gone None changes answer shows
      (λ b (x : Private). b < m.nodes → word_at m (event m answer s a) (word.Act b) ≡ act_of x) within
      (λ below. word_at-new m s (event m answer s a) a (word.Act a) 0 gone None changes shows.all_words named)
      (λ b apart below nodes.
      named-kept m s (event m answer s a) a (word.Act a) 0 gone None changes (word.Act b) named (grind (arith, nat_tests))
      (λ same. apart (same_act b a same))
      ∙ shows.act_shows b nodes)
      q (omega arith) inside
    where
      same_act : (b c : ℕ) → word.Act b ≡ word.Act c → b ≡ c
      same_act b c same = cc

  unusable : (b c : Bool) → (b && false && c) ≡ false
  unusable true c = refl
  unusable false c = refl

  pub keeps_leave : Shows m answer (event m answer s a)
  keeps_leave =
      let time : word_at m (event m answer s a) word.Time ≡ word_at m s word.Time =
      named-kept m s (event m answer s a) a (word.Act a) 0 gone None changes word.Time named refl (λ same. absurd cc) in
      let live : word_at m (event m answer s a) word.Live ≡ word_at m s word.Live =
      named-kept m s (event m answer s a) a (word.Act a) 0 gone None changes word.Live named refl (λ same. absurd cc) in
      let words = page_words-kept m s (event m answer s a) a (word.Act a) 0 gone None changes front in
      let ends : ends_of m (event m answer s a).privates ≡ ends_of m s.privates =
      ends-still m s (event m answer s a) a (word.Act a) 0 gone None changes here
      (λ inside. λ i. record { end = sym (ap end_at stands) i; turns = (private_of m s a).turns }) in
      let past = shows.times_past a within in
      StayLaws.shows-stayed m answer s (event m answer s a) a (word.Act a) 0 gone None shows within changes stays leaves named
      (grind (arith, nat_tests)) words
      (time
      ∙ (shows.time_is_turns
      ∙ sym (turns-still m s (event m answer s a) a (word.Act a) 0 gone None changes here refl)))
      (omega (arith, time)) (omega (arith, time, past))
      (live
      ∙ (shows.live_counts
      ∙ sym
      (live-still m s (event m answer s a) a (word.Act a) 0 gone None changes here (λ inside. sym (ap is_over stands)))))
      acts
      (StayLaws.flat-kept m answer s (event m answer s a) a (word.Act a) 0 gone None shows within changes stays leaves
      (flat-none m s (event m answer s a) changes.history)
      (λ f w. behind-kept m s (event m answer s a) a (word.Act a) 0 gone None changes front (word.Memory f.module f.number w) refl))
      (StayLaws.left-entries m answer s (event m answer s a) a (word.Act a) 0 gone None shows within changes stays leaves words
      (λ k below. (unusable (space_of m k == (private_of m s a).guest.space) true, refl, refl)))
      (rw (changes.history, ends) shows.history_good)
      (reached-moved m answer a (private_of m s a) (Leaving e) (word_at m s (word.Act a)) (word.Act a) (op.Swap 0)
      (shows.reached_alone a within) stands refl found)
