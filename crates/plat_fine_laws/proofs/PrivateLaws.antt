-- the private states after an operation: its actor's is new, and each other is as it was
use Rattle.std.specs.Prelude.{◌≡◌, ◌≢◌, ℕ, ◌<◌, Option, Some, length, slice_get}
use Rattle.std.proofs.Common.{ap, ◌∙◌}
use Rattle.std.proofs.lemmas.List.{length-set, get_or-set_same, get_or-set_other}
use Rattle.std.proofs.lemmas.Option.{slice_get-get_or}
use Rattle.plat_base.specs.Machine.{Machine}
use Rattle.plat_base.specs.declared.items.Item.{Item}
use Rattle.plat_base.specs.declared.words.WordName.{WordName}
use Rattle.plat_events.specs.Privates.{Private, first_private}
use Rattle.plat_events.specs.Kept.{private_of}
use Rattle.plat_events.specs.Runs.{Fine}
use Rattle.plat_fine_laws.specs.Changes.{Changes}

-- the private state of an actor of the state
pub private_of-get : (m : Machine) (s : Fine) (a : ℕ) → a < length s.privates → slice_get s.privates a ≡ Some (private_of m s a)
private_of-get m s a within = slice_get-get_or s.privates a (first_private m a) within

module _ (m : Machine) (s t : Fine) (a : ℕ) (name : WordName) (word : ℕ) (p : Private) (item : Option Item)
    (changes : Changes m s t a name word p item) where
  pub private_of-new : a < length s.privates → private_of m t a ≡ p
  private_of-new within = rw changes.privates (get_or-set_same s.privates a p (first_private m a) within)

  pub private_of-other : (b : ℕ) → b ≢ a → private_of m t b ≡ private_of m s b
  private_of-other b apart = rw changes.privates (get_or-set_other s.privates a b p (first_private m b) apart)

  pub privates-length : length t.privates ≡ length s.privates
  privates-length = ap length changes.privates ∙ length-set s.privates a p
