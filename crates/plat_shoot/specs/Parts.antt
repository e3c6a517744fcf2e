-- the three parts of a mask as one number
use Rattle.std.specs.Prelude.{ℕ, [], ◌∷◌}
use Rattle.plat_events.specs.Words.{most_nodes, packed}

abbrev pub parts_word : (reference invalidate restrict : ℕ) → ℕ
parts_word reference invalidate restrict = packed ((reference, most_nodes) ∷ (invalidate, most_nodes) ∷ (restrict, most_nodes) ∷ [])
