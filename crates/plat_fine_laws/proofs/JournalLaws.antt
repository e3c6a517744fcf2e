-- each item is its actor's, so each journal stays its actor's part of the history
use Rattle.std.specs.Prelude.{◌≡◌, ◌≢◌, ℕ, ◌==◌, if◌then◌else◌, true, false, List, [], ◌∷◌, ◌++◌, Option, Some, None}
use Rattle.std.proofs.Common.{refl, ap, sym, ◌∙◌}
use Rattle.std.proofs.lemmas.Bool.{eq-eqb, ne_eqb}
use Rattle.std.proofs.lemmas.List.{append-nil}
use Rattle.std.proofs.lemmas.List.Elements.{filter-append}
use Rattle.plat_base.specs.declared.items.Item.{Item}
use Rattle.plat_events.specs.Events.{with_item}
use Rattle.plat_events.specs.Shown.{actor_of, items_by}
use Rattle.plat_fine_laws.specs.Changes.{IsBy}

items_by-one : (a : ℕ) (items : List Item) (i : Item) → items_by a (items ++ i ∷ []) ≡ items_by a items ++ items_by a (i ∷ [])
items_by-one a items i = filter-append (λ j. actor_of j == a) items (i ∷ [])

pub items_by-own :
    (a : ℕ) (items : List Item) (made : Option Item) → IsBy a made → items_by a (with_item items made) ≡ with_item (items_by a items) made
items_by-own a items None by = refl
items_by-own a items (Some i) by =
    let own : (actor_of i == a) ≡ true = eq-eqb (actor_of i) a (by i refl) in
    items_by-one a items i ∙ ap (λ b. items_by a items ++ (if b then i ∷ [] else [])) own

pub items_by-other :
    (a b : ℕ) (items : List Item) (made : Option Item) → IsBy a made → b ≢ a → items_by b (with_item items made) ≡ items_by b items
items_by-other a b items None by apart = refl
items_by-other a b items (Some i) by apart =
    let other : (actor_of i == b) ≡ false = ne_eqb (actor_of i) b (λ e. apart (sym e ∙ by i refl)) in
    items_by-one b items i ∙ (ap (λ c. items_by b items ++ (if c then i ∷ [] else [])) other ∙ append-nil (items_by b items))
