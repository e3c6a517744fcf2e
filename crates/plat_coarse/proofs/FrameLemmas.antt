-- free frames: the numbers of the used ones as a set of bits, and the nearest of several
use Rattle.std.proofs.Common.{◌≡◌, ℕ, ◌+◌, ◌^◌, ◌<◌, ◌≤◌, w64, not, Bool, true, false, ◌||◌, List, [], ◌∷◌, ◌++◌, Option, Some, None, refl}
use Rattle.std.proofs.Common.{ap, ◌∙◌, inl, inr, arith}
use Rattle.std.specs.Prelude.{◌==◌, unwrap_or}
use Rattle.std.specs.Option.{option_map}
use lib.Count.{count_trailing_zeros}
use Rattle.std.specs.Int.{bit_at, trailing_ones}
use Rattle.std.specs.List.{filter_map, cons_option, list_any}
use Rattle.std.proofs.lemmas.Bool.{cases_eq}
use Rattle.std.proofs.lemmas.Bool.Decides.{nat_tests}
use Rattle.std.proofs.lemmas.Nat.Bits.{bit_at-trailing_ones, bit_at_ones}
use Rattle.std.proofs.lemmas.Grind.{fold-append}
use Rattle.std.proofs.lemmas.List.{append-nil}
use Rattle.std.proofs.lemmas.List.Elements.{filter_map-append}
use Rattle.plat_base.specs.Machine.{Machine}
use Rattle.plat_base.specs.Pages.{numbers}
use Rattle.plat_base.specs.Copies.{copy_on}
use Rattle.plat_base.specs.Directories.{dir_of}
use Rattle.plat_base.specs.Decide.{nearer}
use Rattle.plat_base.specs.Frames.{is_used, frame_at, free_frame, nearest_in}
use Rattle.plat_base.specs.declared.frames.Frame.{Frame}
use Rattle.plat_base.specs.declared.items.Item.{Item}
use Rattle.plat_coarse.specs.Nearer.{nearer_of}
use Rattle.plat_coarse.proofs.NumberLemmas.{list_any_numbers-more, find_numbers_first}
use Rattle.plat_base.proofs.ListLemmas.{numbers-more, find-numbers_none}

-- ---- frames that are copies of pages

abbrev has_number : ℕ → Option Frame → Bool
has_number number f = unwrap_or (option_map (λ (f : Frame). f.number == number) f) false

-- some page below a bound has this frame as its copy
abbrev pub is_used_before : ℕ → List Item → (mo number : ℕ) → Bool
is_used_before pages items mo number = list_any (λ p. has_number number (copy_on mo (dir_of items p).copies)) (numbers pages)

pub is_used_before-more : (page : ℕ) (items : List Item) (mo number : ℕ) → is_used_before (page + 1) items mo number
    ≡ (is_used_before page items mo number || has_number number (copy_on mo (dir_of items page).copies))
is_used_before-more page items mo number = list_any_numbers-more (λ p. has_number number (copy_on mo (dir_of items p).copies)) page

-- ---- the lowest number that is not in a set

-- a set of numbers below 64 has those below this one; it has not this one, or this one is 64
pub record LowestMissing (set at : ℕ) : Type 0 where
  pub below : (n : ℕ) → n < at → (bit_at set n == 1) ≡ true
  pub here : at < 64 → (bit_at set at == 1) ≡ false
  pub most : at ≤ 64

missing_full : LowestMissing 18446744073709551615 (trailing_ones w64 18446744073709551615)
unfolding count_trailing_zeros
missing_full = record {
  below = λ n less. grind (arith, nat_tests, bit_at_ones 64 n less);
  here = λ less. absurd (omega arith);
  most = omega arith;
}

pub trailing_ones_missing : (set at : ℕ) → set < 2 ^ 64 → at ≡ trailing_ones w64 set → LowestMissing set at
trailing_ones_missing set at within is =
    elim (cases_eq set 18446744073709551615) [
      | inl full ↦ rw (is, full) missing_full
      | inr differ ↦
          let found = bit_at-trailing_ones w64 set (omega arith)
          in rw is (record {
            below = λ n less. grind (arith, nat_tests, found.2 n less);
            here = λ less. grind (arith, nat_tests, found.1);
            most = omega (arith, found.0);
          })
    ]

module _ (m : Machine) (items : List Item) (mo used : ℕ) (few : m.frames ≤ 64) (is : (n : ℕ) → n < 64 →
    (bit_at used n == 1) ≡ is_used m items mo n) where
  pub free_frame_missing : (at : ℕ) → LowestMissing used at → at < m.frames → free_frame m items mo ≡ Some (frame_at mo at)
  free_frame_missing at missing within =
      ap (option_map (frame_at mo))
      (find_numbers_first (λ n. not (is_used m items mo n)) m.frames at
      (λ n less. grind (arith, is n, missing.below n less)) within (grind (arith, is at, missing.here)))

  pub free_frame_nowhere : (at : ℕ) → LowestMissing used at → m.frames ≤ at → free_frame m items mo ≡ None
  free_frame_nowhere at missing above =
      ap (option_map (frame_at mo))
      (find-numbers_none (λ n. not (is_used m items mo n)) m.frames (λ n less. grind (arith, is n, missing.below n (omega arith))))

-- ---- the nearest frame

pub nearest_in-more : (m : Machine) (node : ℕ) (fs : List Frame) (f : Frame) →
    nearest_in m node (fs ++ f ∷ []) ≡ Some (nearer_of m node (nearest_in m node fs) f)
nearest_in-more m node [] f = refl
nearest_in-more m node (g ∷ gs) f = ap (λ best. Some best) (fold-append (nearer m node) g gs (f ∷ []))

abbrev nearer_if : Machine → ℕ → Option Frame → Option Frame → Option Frame
nearer_if m node best None = best
nearer_if m node best (Some f) = Some (nearer_of m node best f)

-- the nearest of the frames of one more module
pub nearest_in_numbers-more : (m : Machine) (node : ℕ) (f : ℕ → Option Frame) (n : ℕ) → nearest_in m node (filter_map f (numbers (n + 1)))
    ≡ nearer_if m node (nearest_in m node (filter_map f (numbers n))) (f n)
nearest_in_numbers-more m node f n =
    ap (λ ns. nearest_in m node (filter_map f ns)) (numbers-more n)
    ∙ ap (nearest_in m node) (filter_map-append f (numbers n) (n ∷ []))
    ∙ by (f n)
  where
    by : (o : Option Frame) → nearest_in m node (filter_map f (numbers n) ++ cons_option o [])
        ≡ nearer_if m node (nearest_in m node (filter_map f (numbers n))) o
    by None = ap (nearest_in m node) (append-nil (filter_map f (numbers n)))
    by (Some g) = nearest_in-more m node (filter_map f (numbers n)) g
