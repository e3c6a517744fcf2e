-- where no rule is broken, none of its parts is
use Rattle.std.proofs.Common.{◌≡◌, ℕ, Bool, true, false, Option, Some, None, refl}
use Rattle.plat_base.specs.Rules.{unless, first_rule, bad_at, bad_or}
use Rattle.plat_base.specs.declared.statuses.Bad.{Bad}
use Rattle.plat_base.specs.declared.statuses.Rule.{Rule}

pub unless-none : (ok : Bool) (r : Rule) → unless ok r ≡ None → ok ≡ true
unless-none true r h = refl
unless-none false r h = absurd cc

pub first_rule-none : (a b : Option Rule) → first_rule a b ≡ None → (a ≡ None) × (b ≡ None)
first_rule-none None b h = (refl, h)
first_rule-none (Some r) b h = absurd cc

pub bad_at-none : (n : ℕ) (r : Option Rule) (rest : Option Bad) → bad_at n r rest ≡ None → (r ≡ None) × (rest ≡ None)
bad_at-none n None rest h = (refl, h)
bad_at-none n (Some r) rest h = absurd cc

pub bad_or-none : (a b : Option Bad) → bad_or a b ≡ None → (a ≡ None) × (b ≡ None)
bad_or-none None b h = (refl, h)
bad_or-none (Some x) b h = absurd cc
