-- what an item of another actor leaves alone
use Rattle.std.specs.Prelude.{◌≡◌, ℕ, ◌==◌, false, Option, None}
use Rattle.std.proofs.Common.{refl}
use Rattle.plat_base.specs.Machine.{Machine}
use Rattle.plat_base.specs.Done.{value_of, done_of}
use Rattle.plat_base.specs.Held.{held_after, active_after}
use Rattle.plat_base.specs.declared.items.Translation.{Translation}
use Rattle.plat_base.specs.declared.items.Item.{Item}
use Rattle.plat_base.specs.declared.items.Item.TheVariants as item
use Rattle.plat_events.specs.Shown.{actor_of}

pub value_of-other : (q : ℕ) (i : Item) → (actor_of i == q) ≡ false → value_of q i ≡ None
value_of-other q (item.Access a) h = rw h refl
value_of-other q (item.Change c) h = refl
value_of-other q (item.Applied x) h = refl
value_of-other q (item.Switch s) h = refl

pub done_of-other : (q : ℕ) (i : Item) → (actor_of i == q) ≡ false → done_of q i ≡ None
done_of-other q (item.Access a) h = rw h refl
done_of-other q (item.Change c) h = refl
done_of-other q (item.Applied x) h = refl
done_of-other q (item.Switch s) h = rw h refl

pub active_after-other : (q space : ℕ) (i : Item) → (actor_of i == q) ≡ false → active_after q space i ≡ space
active_after-other q space (item.Access a) h = refl
active_after-other q space (item.Change c) h = refl
active_after-other q space (item.Applied x) h = refl
active_after-other q space (item.Switch s) h = rw h refl

pub held_after-other : (m : Machine) (q e : ℕ) (t : Option Translation) (i : Item) → (actor_of i == q) ≡ false → held_after m q e t i ≡ t
held_after-other m q e t (item.Access a) h = refl
held_after-other m q e t (item.Change c) h = rw h refl
held_after-other m q e t (item.Applied x) h = rw h refl
held_after-other m q e t (item.Switch s) h = refl
