-- lines that are written one after another
use Rattle.std.proofs.Common.{◌≡◌, ℕ, zero, suc, ◌+◌, ◌-◌, ◌<◌, ◌≤◌, Bool, true, false, ◌||◌, List, [], ◌∷◌, ◌++◌, map, Option, Result, Ok}
use Rattle.std.proofs.Common.{Err, refl, sym, ap, ◌∙◌, arith, inl, inr}
use Rattle.std.specs.List.{flat_map, range_with_len}
use Rattle.std.proofs.lemmas.List.{append-nil}
use Rattle.plat_base.specs.Pages.{numbers}
use Rattle.plat_io.specs.declared.faults.WriteFault.{WriteFault}
use Rattle.std.proofs.lemmas.Grind.{flat_map-append}
use Rattle.std.proofs.lemmas.Bool.{or_left, or_right}
use Rattle.plat_base.specs.Canon.{Words}
use Rattle.plat_io.specs.declared.sinks.Sink.{Ghosts}
use Rattle.plat_io.specs.Streams.{added, HasRisen}
use Rattle.plat_io.specs.Lines.{text, AddsLines}
use Rattle.plat_io.proofs.LineLemmas.{added_lines, added_no_line, is_part_lines}
use Rattle.plat_base.proofs.ListLemmas.{numbers-more}
use Rattle.plat_io.proofs.Pieces.{HasRisen-later}

pub adds_none : {K E : Type 0} (sink : Ghosts K) (k : K) → AddsLines {E = E} sink k k (Ok (tt {0})) []
adds_none sink k = record {
  whole = sym (added_no_line (sink.holds k));
  part = tt;
  risen = tt;
  count = omega arith;
  size = refl;
}

-- lines that were written whole, and then more lines, whole or in part
pub adds_more : {K E : Type 0} (sink : Ghosts K) (a b c : K) (r : Result (Unit {0}) E) (ls ms : List Words)
    → AddsLines {E = E} sink a b (Ok (tt {0})) ls → AddsLines sink b c r ms → AddsLines sink a c r (ls ++ ms)
adds_more sink a b c (Ok u) ls ms h k = record {
  whole = k.whole ∙ (ap (λ (held : Option (List ℕ)). added held (text ms)) h.whole ∙ sym (added_lines (sink.holds a) ls ms));
  part = tt;
  risen = tt;
  count = omega (arith, h.count, k.count);
  size = k.size ∙ h.size;
}
adds_more sink a b c (Err e) ls ms h k = record {
  whole = tt;
  part = rw is_part_lines (or_right _ _ (rw h.whole at k.part));
  risen = HasRisen-later _ _ _ h.count k.risen;
  count = omega (arith, h.count, k.count);
  size = k.size ∙ h.size;
}

-- lines that were written in part are a part of these lines and more
pub adds_part : {K E : Type 0} (sink : Ghosts K) (a b : K) (e fault : E) (ls ms : List Words) → AddsLines sink a b (Err e) ls →
    AddsLines sink a b (Err fault) (ls ++ ms)
adds_part sink a b e fault ls ms h = record {
  whole = tt;
  part = rw is_part_lines (or_left _ _ h.part);
  risen = h.risen;
  count = h.count;
  size = h.size;
}

-- ---- lines of each of the numbers below some

range-append : (a i k : ℕ) → range_with_len a (i + k) ≡ range_with_len a i ++ range_with_len (a + i) k
range-append a zero k =
    let e : 0 + k ≡ k = omega arith in
    let f : a + 0 ≡ a = omega arith in rw (e, f) refl
range-append a (suc i) k =
    let e : suc i + k ≡ suc (i + k) = omega arith in
    let f : a + suc i ≡ (a + 1) + i = omega arith in rw (e, f) (ap (λ (xs : List ℕ). a ∷ xs) (range-append (a + 1) i k))

from_zero : (i : ℕ) → 0 + i ≡ i
from_zero i = omega arith

-- the lines of one number and of those after it
numbers_cut : (f : ℕ → List Words) (i k n : ℕ) → n ≡ i + suc k →
    flat_map f (numbers n) ≡ flat_map f (numbers i) ++ (f i ++ flat_map f (range_with_len (i + 1) k))
numbers_cut f i k n e =
    let split : range_with_len 0 (i + suc k) ≡ range_with_len 0 i ++ range_with_len i (suc k) =
    rw from_zero at (range-append 0 i (suc k)) in
    rw e (ap (flat_map f) split ∙ flat_map-append f (numbers i) (range_with_len i (suc k)))

pub listed_more :
    {K : Type 0} (sink : Ghosts K) (f : ℕ → List Words) (i : ℕ) (old now then : K)
    → AddsLines {E = WriteFault} sink old now (Ok (tt {0})) (flat_map f (numbers i)) →
    AddsLines {E = WriteFault} sink now then (Ok (tt {0})) (f i)
    → AddsLines {E = WriteFault} sink old then (Ok (tt {0})) (flat_map f (numbers (i + 1)))
listed_more sink f i old now then h k =
    rw (numbers-more, flat_map-append, append-nil) (adds_more sink old now then (Ok (tt {0})) (flat_map f (numbers i)) (f i) h k)

pub listed_failed :
    {K : Type 0} (sink : Ghosts K) (f : ℕ → List Words) (n i : ℕ) (old now then : K) (e fault : WriteFault) → i < n
    → AddsLines {E = WriteFault} sink old now (Ok (tt {0})) (flat_map f (numbers i)) → AddsLines sink now then (Err e) (f i)
    → AddsLines sink old then (Err fault) (flat_map f (numbers n))
listed_failed sink f n i old now then e fault below h k =
    let rest : List Words = flat_map f (range_with_len (i + 1) (n - (i + 1))) in
    rw (numbers_cut f i (n - (i + 1)) n (omega arith))
    (adds_more sink old now then (Err fault) (flat_map f (numbers i)) (f i ++ rest) h (adds_part sink now then e fault (f i) rest k))

-- ---- functions that give the same lines for each of the numbers below some

range-same : {X : Type 0} (f g : ℕ → List X) (a n : ℕ) → ((i : ℕ) → a ≤ i → i < a + n → f i ≡ g i) →
    flat_map f (range_with_len a n) ≡ flat_map g (range_with_len a n)
range-same f g a zero h = refl
range-same f g a (suc n) h =
    rw (h a (omega arith) (omega arith), range-same f g (a + 1) n (λ i low high. h i (omega arith) (omega arith))) refl

pub numbers_same : {X : Type 0} (f g : ℕ → List X) (n : ℕ) → ((i : ℕ) → i < n → f i ≡ g i) → flat_map f (numbers n) ≡ flat_map g (numbers n)
numbers_same f g n h = range-same f g 0 n (λ i low high. h i (omega arith))

pub map_is_flat_map : {X Y : Type 0} (f : X → Y) (xs : List X) → map f xs ≡ flat_map (λ x. f x ∷ []) xs
map_is_flat_map f [] = refl
map_is_flat_map f (x ∷ xs) = ap (λ (ys : List _). f x ∷ ys) (map_is_flat_map f xs)
