-- two writings of pieces, one after the other
use Rattle.std.proofs.Common.{◌≡◌, ℕ, ◌≤◌, ◌||◌, Bool, true, false, List, [], ◌++◌, Option, Result, Ok, Err, inl, inr, refl, sym, ap, ◌∙◌}
use Rattle.std.proofs.Common.{arith}
use Rattle.std.specs.Result.{IsErr}
use Rattle.std.proofs.lemmas.Bool.{or_left, or_right}
use Rattle.plat_io.specs.Streams.{added, HasRisen}
use Rattle.plat_io.specs.Adds.{Adds}
use Rattle.plat_io.specs.declared.sinks.Sink.{Ghosts}
use Rattle.plat_io.proofs.Pieces.{added_append, added_none, is_part_append, HasRisen-later}

pub adds_nothing : {K E : Type 0} (sink : Ghosts K) (k : K) → Adds {E = E} sink k k (Ok (tt {0})) []
adds_nothing sink k = record { whole = sym (added_none (sink.holds k)); part = tt; risen = tt; count = omega arith; size = refl }

-- a piece that was written whole, and then another, whole or in part
pub adds_then :
    {K E : Type 0} (sink : Ghosts K) (a b c : K) (u : Unit {0}) (r : Result (Unit {0}) E) (p q : List ℕ)
    → Adds {E = E} sink a b (Ok u) p → Adds sink b c r q → Adds sink a c r (p ++ q)
adds_then sink a b c u (Ok v) p q h k = record {
  whole = k.whole ∙ (ap (λ (held : Option (List ℕ)). added held q) h.whole ∙ sym (added_append (sink.holds a) p q));
  part = tt;
  risen = tt;
  count = omega (arith, h.count, k.count);
  size = k.size ∙ h.size;
}
adds_then sink a b c u (Err e) p q h k = record {
  whole = tt;
  part = rw is_part_append (or_right _ _ (rw h.whole at k.part));
  risen = HasRisen-later _ _ _ h.count k.risen;
  count = omega (arith, h.count, k.count);
  size = k.size ∙ h.size;
}

-- a piece that was written in part is a part of this piece and more
pub adds_begun :
    {K E : Type 0} (sink : Ghosts K) (a b : K) (e : E) (r : Result (Unit {0}) E) (p q : List ℕ)
    → IsErr r → Adds sink a b (Err e) p → Adds sink a b r (p ++ q)
adds_begun sink a b e (Ok u) p q f h = absurd cc
adds_begun sink a b e (Err fault) p q f h = record {
  whole = tt;
  part = rw is_part_append (or_left _ _ h.part);
  risen = h.risen;
  count = h.count;
  size = h.size;
}
