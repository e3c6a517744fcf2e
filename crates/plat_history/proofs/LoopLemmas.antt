-- one step of the loops over items and over ends
use Rattle.std.proofs.Common.{◌≡◌, ℕ, suc, ◌+◌, ◌-◌, ◌<◌, ◌≤◌, List, [], ◌∷◌, ◌++◌, length, Ok, Err, codes, refl, arith}
use Rattle.std.proofs.lemmas.List.{length_push}
use Rattle.plat_grammar.specs.Forms.{Row, Rest, row_at, line_at}
use Rattle.plat_base.specs.Machine.{Machine}
use Rattle.plat_base.specs.declared.faults.Refused.{Refused}
use Rattle.plat_base.specs.declared.items.Item.{Item}
use Rattle.plat_base.specs.declared.endings.Ended.{Ended}
use Rattle.plat_grammar.specs.HistoryForms.{item_line, ended_line}
use Rattle.plat_grammar.specs.HistoryFaults.{items_from, ends_from}

counted : (n i : ℕ) → i < n → n - i ≡ suc (n - (i + 1))
counted n i inside = omega arith

-- ---- items

module _ (m : Machine) (n i : ℕ) (seen : List Item) (rest : Rest) (inside : i < n) where
  pub items-more : (row : Row) (after : Rest) (item : Item) → row_at rest ≡ Ok (row, after) → item_line m row ≡ Ok item
      → items_from m (n - i) seen rest ≡ items_from m (n - (i + 1)) (seen ++ item ∷ []) after
  unfolding items_from
  items-more row after item r e = rw (counted n i inside, r, e) refl

  pub items-wrong : (row : Row) (after : Rest) (fault : Refused) → row_at rest ≡ Ok (row, after) → item_line m row ≡ Err fault →
      items_from m (n - i) seen rest ≡ Err fault
  unfolding items_from
  items-wrong row after fault r e = rw (counted n i inside, r, e) refl

  pub items-none : (fault : Refused) → row_at rest ≡ Err fault → items_from m (n - i) seen rest ≡ Err fault
  unfolding items_from
  items-none fault r = rw (counted n i inside, r) refl

pub items-end : (m : Machine) (n i : ℕ) (seen : List Item) (rest : Rest) → n ≤ i → items_from m (n - i) seen rest ≡ Ok (seen, rest)
unfolding items_from
items-end m n i seen rest past = let none : n - i ≡ 0 = omega arith in rw none refl

pub ruleset item_steps = (items-more, items-wrong, items-none, items-end, length_push)

-- ---- ends

module _ (n q : ℕ) (seen : List Ended) (rest : Rest) (inside : q < n) (number : length seen ≡ q) where
  pub ends-more : (ended : Ended) (after : Rest) → line_at (codes "processor") (ended_line q) rest ≡ Ok (ended, after)
      → ends_from (n - q) seen rest ≡ ends_from (n - (q + 1)) (seen ++ ended ∷ []) after
  unfolding ends_from
  ends-more ended after e = rw (counted n q inside, number, e) refl

  pub ends-wrong : (fault : Refused) → line_at (codes "processor") (ended_line q) rest ≡ Err fault → ends_from (n - q) seen rest ≡ Err fault
  unfolding ends_from
  ends-wrong fault e = rw (counted n q inside, number, e) refl

pub ends-end : (n q : ℕ) (seen : List Ended) (rest : Rest) → n ≤ q → ends_from (n - q) seen rest ≡ Ok (seen, rest)
unfolding ends_from
ends-end n q seen rest past = let none : n - q ≡ 0 = omega arith in rw none refl

pub ruleset end_steps = (ends-more, ends-wrong, ends-end, length_push)
