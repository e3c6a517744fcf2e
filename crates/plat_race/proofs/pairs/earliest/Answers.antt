use Rattle.std.proofs.Common.{◌≡◌, ◌≤◌, ◌<◌, ℕ, List, ap, sym, ◌∙◌, arith, length, get_or, take, below_more, length-take}
use Rattle.std.specs.Option.{option_map}
use Rattle.std.proofs.lemmas.List.{get_or-take, get_or_default}
use Rattle.plat_base.specs.declared.items.Item.{Item}
use Rattle.plat_race.specs.Races.{item_at, no_item, is_race, pair}
use Rattle.plat_race.proofs.Racing.{find_numbers-first}
use Rattle.plat_base.proofs.ListLemmas.{find-numbers_none}
use Rattle.plat_race.proofs.pairs.earliest.Goals as goal

-- the item that was read, among all items
read : (items : List Item) (n i : ℕ) (x : Item) → n < length items → i < length (take n items) → x ≡ get_or (take n items) i x
    → item_at items i ≡ x
read items n i x few l e =
    let below : i < n = omega (arith, length-take n items)
    in get_or_default items i no_item x (omega arith) ∙ (sym (get_or-take n items i x below) ∙ sym e)

below_place : (items : List Item) (n i : ℕ) → i < length (take n items) → i < n
below_place items n i l = omega (arith, length-take n items)

all_places : (items : List Item) (n i : ℕ) → n < length items → length (take n items) ≤ i → n ≤ i
all_places items n i few l = omega (arith, length-take n items)

pub is_race-requires : goal.is_race-requires
is_race-requires c = record {
  mark = λ a e.
      c.requires.marks c.loop-first.first a
      (read c.args.items.now c.args.place c.loop-first.first c.item-item.result c.requires.place c.loop-first-test.true c.item-item.is
      ∙ e);
}

pub returns-then-is_race : goal.returns-then-is_race
returns-then-is_race c =
    let items = c.args.items.now
    in let there = read items c.args.place c.loop-first.first c.item-item.result c.requires.place c.loop-first-test.true c.item-item.is
    in let below = below_place items c.args.place c.loop-first.first c.loop-first-test.true
    in let race = sym (c.is_race.ensures items c.args.place there c.requires.here below c.requires.heard) ∙ c.if-is_race.true
    in sym (ap (option_map (λ i. pair i c.args.place)) (find_numbers-first
    (λ i. is_race items i c.args.place) c.args.place c.loop-first.first below race c.loop-first.invariant))

pub loop-first-preserved : goal.loop-first-preserved
loop-first-preserved c =
    let items = c.args.items.now
    in let there = read items c.args.place c.loop-first.first c.item-item.result c.requires.place c.loop-first-test.true c.item-item.is
    in let below = below_place items c.args.place c.loop-first.first c.loop-first-test.true
    in let none = sym (c.is_race.ensures items c.args.place there c.requires.here below c.requires.heard) ∙ c.if-is_race.false
    in below_more _ _ c.loop-first.invariant none

pub returns : goal.returns
returns c =
    let items = c.args.items.now
    in let all = all_places items c.args.place c.loop-first.first c.requires.place c.loop-first-test.false
    in sym (ap (option_map (λ i. pair i c.args.place)) (find-numbers_none (λ i. is_race items i c.args.place) c.args.place
    (λ i l. c.loop-first.invariant i (omega arith))))
