-- lines that are written one after another by one function
use Rattle.std.proofs.Common.{◌≡◌, ℕ, ◌||◌, List, [], ◌∷◌, ◌++◌, Option, Result, Ok, Err, refl, sym, ap}
use Rattle.std.proofs.Common.{◌∙◌, arith}
use Rattle.std.specs.Result.{IsErr}
use Rattle.std.proofs.lemmas.Bool.{or_left, or_right}
use Rattle.plat_base.specs.Canon.{Words}
use Rattle.plat_io.specs.Streams.{added}
use Rattle.plat_io.specs.Adds.{is_part}
use Rattle.plat_io.specs.Lines.{text, AddsLines}
use Rattle.plat_io.specs.declared.sinks.Sink.{Ghosts}
use Rattle.plat_io.proofs.LineLemmas.{added_line, added_lines, added_no_line, is_part_line, is_part_lines}
use Rattle.plat_io.proofs.Pieces.{HasRisen-later}

-- ---- lines in turn

pub added_lines_left : (held : Option (List ℕ)) (l m : Words) (ls : List Words) →
    added held (text (l ∷ m ∷ ls)) ≡ added (added held (text (l ∷ []))) (text (m ∷ ls))
added_lines_left held l m ls = added_line held l (m ∷ ls)

pub is_part_lines_left : (held : Option (List ℕ)) (l m : Words) (ls : List Words) (now : Option (List ℕ)) →
    is_part held (text (l ∷ m ∷ ls)) now ≡ (is_part held (text (l ∷ [])) now || is_part (added held (text (l ∷ []))) (text (m ∷ ls)) now)
is_part_lines_left held l m ls now = is_part_line held l (m ∷ ls) now

-- for a function that writes several lines: only where more than one line is left, since each `||` costs a split
pub ruleset lines_in_turn = (added_lines_left, is_part_lines_left)

-- ---- two writings, one after the other

pub adds_none : {K E : Type 0} (sink : Ghosts K) (k : K) → AddsLines {E = E} sink k k (Ok (tt {0})) []
adds_none sink k = record {
  whole = sym (added_no_line (sink.holds k));
  part = tt;
  risen = tt;
  count = omega arith;
  size = refl;
}

-- lines that were written whole, and then more lines, whole or in part
pub adds_more :
    {K E : Type 0} (sink : Ghosts K) (a b c : K) (u : Unit {0}) (r : Result (Unit {0}) E) (ls ms : List Words)
    → AddsLines {E = E} sink a b (Ok u) ls → AddsLines sink b c r ms → AddsLines sink a c r (ls ++ ms)
adds_more sink a b c u (Ok v) ls ms h k = record {
  whole = k.whole ∙ (ap (λ (held : Option (List ℕ)). added held (text ms)) h.whole ∙ sym (added_lines (sink.holds a) ls ms));
  part = tt;
  risen = tt;
  count = omega (arith, h.count, k.count);
  size = k.size ∙ h.size;
}
adds_more sink a b c u (Err e) ls ms h k = record {
  whole = tt;
  part = rw is_part_lines (or_right _ _ (rw h.whole at k.part));
  risen = HasRisen-later _ _ _ h.count k.risen;
  count = omega (arith, h.count, k.count);
  size = k.size ∙ h.size;
}

-- lines that were written in part are a part of these lines and more
pub adds_part :
    {K E : Type 0} (sink : Ghosts K) (a b : K) (e : E) (r : Result (Unit {0}) E) (ls ms : List Words)
    → IsErr r → AddsLines sink a b (Err e) ls → AddsLines sink a b r (ls ++ ms)
adds_part sink a b e (Ok u) ls ms f h = absurd cc
adds_part sink a b e (Err fault) ls ms f h = record {
  whole = tt;
  part = rw is_part_lines (or_left _ _ h.part);
  risen = h.risen;
  count = h.count;
  size = h.size;
}
