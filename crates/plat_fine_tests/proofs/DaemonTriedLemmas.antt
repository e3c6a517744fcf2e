-- what an operation tells, for the port of this crate's tests
use Rattle.std.proofs.Common.{◌≡◌, ℕ, refl}
use Rattle.plat_base.specs.declared.words.Op.{Op}
use Rattle.plat_base.specs.declared.words.Op.TheVariants as op
use Rattle.plat_events.specs.Operations.{told}

pub told-any : (o : Op) (n : ℕ) → ((value : ℕ) → o ≡ op.Store value → ⊥) → (k : ℕ) × (n ≡ told o k)
told-any op.Load n h = (n, refl)
told-any (op.Store value) n h = absurd (h value refl)
told-any (op.Swap value) n h = (n, refl)
told-any (op.Add k) n h = (n, refl)
told-any (op.Sub k) n h = (n, refl)
told-any (op.And k) n h = (n, refl)
told-any (op.Or k) n h = (n, refl)
told-any (op.Exchange old new) n h = (n, refl)
