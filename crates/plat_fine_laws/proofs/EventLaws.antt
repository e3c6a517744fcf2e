-- what the event of an actor changes, where the word that it found is one that the machine may have
use Rattle.std.specs.Prelude.{◌≡◌, ℕ, Some, IsTrue, slice_get, slice_set}
use Rattle.std.proofs.Common.{refl, ap, ◌∙◌}
use Rattle.plat_base.specs.Verdicts.{Answer}
use Rattle.plat_base.specs.Machine.{Machine}
use Rattle.plat_base.specs.declared.words.Op.{Op}
use Rattle.plat_base.specs.declared.words.WordName.{WordName}
use Rattle.plat_events.specs.Places.{place_of}
use Rattle.plat_events.specs.Operations.{written, told}
use Rattle.plat_events.specs.Privates.{Place, Private}
use Rattle.plat_events.specs.Events.{named_next, next_of, moved_at, item_at, is_followed, item_of, with_item, after}
use Rattle.plat_events.specs.Kept.{word_at}
use Rattle.plat_events.specs.Runs.{Fine, event_at, event_by, event}
use Rattle.plat_fine_laws.specs.Changes.{Changes}

-- the private state after the operation of a place told n, with its journal
abbrev pub moved_with : Machine → Answer → (a : ℕ) → Private → ℕ → Place → Private
moved_with m answer a p n place =
    record (moved_at m answer a p n place) { journal = with_item p.journal (item_at m answer a p n place) }

module _ (m : Machine) (answer : Answer) (a : ℕ) (p : Private) (place : Place) (at : p.place ≡ place) where
  next_of-named :
      (name : WordName) (operation : Op) → named_next m answer a p place ≡ Some (name, operation) →
      next_of m answer a p ≡ Some (place_of m name, operation)
  unfolding next_of
  next_of-named name operation named = rw (at, named) refl

  pub after-followed : (n : ℕ) → IsTrue (is_followed m (named_next m answer a p place) n) →
      after m answer a p n ≡ moved_with m answer a p n place
  unfolding after
  after-followed n followed = rw (at, followed) refl

  pub item_of-followed : (n : ℕ) → IsTrue (is_followed m (named_next m answer a p place) n) →
      item_of m answer a p n ≡ item_at m answer a p n place
  unfolding item_of
  item_of-followed n followed = rw (at, followed) refl

  pub event-changes :
      (s : Fine) (name : WordName) (operation : Op) → slice_get s.privates a ≡ Some p →
      named_next m answer a p place ≡ Some (name, operation) →
      IsTrue (is_followed m (Some (name, operation)) (told operation (word_at m s name))) →
      Changes m s (event m answer s a) a name (written operation (word_at m s name))
      (moved_with m answer a p (told operation (word_at m s name)) place)
      (item_at m answer a p (told operation (word_at m s name)) place)
  event-changes s name operation here named found =
      let n = told operation (word_at m s name) in
      let followed : IsTrue (is_followed m (named_next m answer a p place) n) = rw named found in
      let whole : event m answer s a ≡ event_at m answer s a p (Some (place_of m name, operation)) =
      ap (event_by m answer s a) here ∙ ap (event_at m answer s a p) (next_of-named name operation named) in
      record {
        words = ap (λ (x : Fine). x.words) whole;
        privates = ap (λ (x : Fine). x.privates) whole ∙ ap (slice_set s.privates a) (after-followed n followed);
        history = ap (λ (x : Fine). x.history) whole ∙ ap (with_item s.history) (item_of-followed n followed);
      }
