-- what a history that was read and judged gives to a search for races, and what its answer says
use Rattle.std.proofs.Common.{◌≡◌, ℕ, zero, suc, true, List, [], ◌∷◌, refl, ap, subst, ◌∙◌}
use Rattle.std.specs.Prelude.{Option, None, IfNone}
use Rattle.std.specs.List.{AllByRecursion}
use Rattle.std.proofs.lemmas.Bool.{lt-ltb}
use Rattle.plat_base.specs.Histories.{IsLegalMemory}
use Rattle.plat_base.specs.Machine.{Machine}
use Rattle.plat_base.specs.declared.items.Item.{Item}
use Rattle.plat_base.specs.declared.items.Item.TheVariants as item
use Rattle.plat_grammar.specs.HistoryGrammar.{IsTold}
use Rattle.plat_io.specs.Lines.{text}
use Rattle.plat_race.specs.Orders.{is_in_range, AreInRange, KeepsOrder, items_at, EveryOrderIsLegal}
use Rattle.plat_race.specs.Races.{first_race}
use Rattle.plat_race.specs.declared.pairs.Pair.{Pair}
use Rattle.plat_cmd.specs.Races.{race_lines, race_text}

told_is_in_range : (m : Machine) (i : Item) → IsTold m i → is_in_range m i ≡ true
told_is_in_range m (item.Access a) told =
    rw (lt-ltb a.actor m.nodes told.actor, lt-ltb a.page m.pages told.page, lt-ltb a.word m.words told.word) refl
told_is_in_range m (item.Change c) told = refl
told_is_in_range m (item.Applied x) told = refl
told_is_in_range m (item.Switch s) told = refl

pub told_are_in_range : (m : Machine) (items : List Item) → AllByRecursion (IsTold m) items → AreInRange m items
told_are_in_range m [] told i = refl
told_are_in_range m (x ∷ items) told zero = told_is_in_range m x told.0
told_are_in_range m (x ∷ items) told (suc i) = told_are_in_range m items told.1 i

module _ (m : Machine) (items : List Item) (race : Option Pair) (is : race ≡ first_race items) where
  pub race_text_is : text (race_lines race) ≡ race_text items
  unfolding text race_text
  race_text_is = ap (λ r. text (race_lines r)) is

  -- where memory is legal as it stands, it is in every other order
  pub free_is :
      IfNone race (EveryOrderIsLegal m items) → IsLegalMemory m items → first_race items ≡ None
      → (places : List ℕ) → KeepsOrder items places → IsLegalMemory m (items_at items places)
  free_is free legal none = subst (λ (r : Option Pair). IfNone r (EveryOrderIsLegal m items)) (is ∙ none) free legal
