-- readings of one word: what is read is spelled so, and what is spelled so is read
use Rattle.std.proofs.Common.{◌≡◌, ℕ, ◌^◌, ◌<◌, ◌≤◌, true, ltb, leb, List, Result, Ok, bytes_eq, refl}
use Rattle.std.proofs.Common.{ap, sym, ◌∙◌, arith}
use Rattle.std.specs.Fmt.{decimal}
use Rattle.std.proofs.lemmas.Bool.{and_parts, and_from, ltb-true, leb-true, lt-ltb, le-leb}
use Rattle.std.proofs.lemmas.Slice.Eq.{bytes_eq-Decides}
use Rattle.plat_grammar.specs.Lines.{number_of}
use Rattle.plat_base.specs.Machine.{is_within}
use Rattle.plat_grammar.specs.Forms.{exactly, within, number_in, under, number_below}
use Rattle.plat_base.specs.declared.faults.Why.{Why}
use Rattle.plat_base.specs.declared.faults.Why.TheVariants.{Expected, OutOfRange}
use Rattle.plat_text.proofs.Results.{taking, then_ok, let_through}
use Rattle.plat_text.proofs.NumberLemmas.{number_of-takes, number_of-again}

-- the function reads just the spellings of values that fit, each as its value
pub record IsWordForm {A : Type 0} (of : List ℕ → Result A Why) (spell : A → List ℕ) (fits : A → Type 0) : Type 0 where
  pub takes : (w : List ℕ) (x : A) → of w ≡ Ok x → (w ≡ spell x) × fits x
  pub again : (x : A) → fits x → of (spell x) ≡ Ok x

pub any-law : IsWordForm number_of decimal (λ n. n < 2 ^ 32)
any-law = record { takes = number_of-takes; again = number_of-again }

pub is_within-true : (low high n : ℕ) → is_within low high n ≡ true → (low ≤ n) × (n ≤ high)
is_within-true low high n e = let parts = and_parts (leb low n) (leb n high) e in (leb-true low n parts.0, leb-true n high parts.1)

pub is_within-from : (low high n : ℕ) → low ≤ n → n ≤ high → is_within low high n ≡ true
is_within-from low high n a b = and_from (leb low n) (leb n high) (le-leb low n a) (le-leb n high b)

pub number-law : (low high : ℕ) → high < 2 ^ 32 → IsWordForm (number_in low high) decimal (λ n. (low ≤ n) × (n ≤ high))
number-law low high fits = record {
  takes = λ w n e. taking (number_of w) (within low high) n e (λ m m-is e1.
      let in_range = let_through (is_within low high m) m n OutOfRange e1 in (
        (number_of-takes w m m-is).0 ∙ ap decimal in_range.1,
        is_within-true low high n (ap (is_within low high) (sym in_range.1) ∙ in_range.0),
      ));
  again = λ n h. then_ok (number_of (decimal n)) (within low high) n _ (number_of-again n (omega (arith, h, fits)))
      (rw (is_within-from low high n h.0 h.1) refl);
}

pub below-law : (limit : ℕ) → limit ≤ 2 ^ 32 → IsWordForm (number_below limit) decimal (λ n. n < limit)
below-law limit fits = record {
  takes = λ w n e. taking (number_of w) (under limit) n e (λ m m-is e1.
      let in_range = let_through (ltb m limit) m n OutOfRange e1 in
      ((number_of-takes w m m-is).0 ∙ ap decimal in_range.1, ltb-true n limit (ap (λ k. ltb k limit) (sym in_range.1) ∙ in_range.0)));
  again = λ n h. then_ok (number_of (decimal n)) (under limit) n _ (number_of-again n (omega (arith, h, fits)))
      (rw (lt-ltb n limit h) refl);
}

pub exactly-law : (key : List ℕ) → IsWordForm (exactly key) (λ _. key) (λ _. Unit {0})
exactly-law key = record {
  takes = λ w x e. ((bytes_eq-Decides w key).0 (let_through (bytes_eq w key) (tt {0}) x Expected e).0, tt);
  again = λ x h. rw ((bytes_eq-Decides key key).1 refl) refl;
}
