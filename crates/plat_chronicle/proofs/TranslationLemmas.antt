-- the maps of the processors after a change
use Rattle.std.proofs.Common.{◌≡◌, ℕ, ◌<◌, List, [], ◌∷◌, ◌++◌, length, get_or, set, Some, None, false, inl, inr, arith}
use Rattle.std.specs.Prelude.{Option, ◌==◌, if◌then◌else◌}
use Rattle.std.proofs.lemmas.Bool.{cases_eq}
use Rattle.std.proofs.lemmas.Bool.Decides.{nat_tests}
use Rattle.std.proofs.lemmas.List.{get_or-set_same, get_or-set_other, length-set}
use Rattle.plat_laws.proofs.ItemLaws.{held-change_own, held-change_other}
use Rattle.plat_base.specs.Machine.{Machine}
use Rattle.plat_base.specs.Pages.{page_of}
use Rattle.plat_base.specs.Held.{kept_of, granted_to}
use Rattle.plat_base.specs.declared.items.Change.{Change}
use Rattle.plat_base.specs.declared.items.Grant.{Grant}
use Rattle.plat_base.specs.declared.items.Translation.{Translation}
use Rattle.plat_base.specs.declared.items.Item.{Item}
use Rattle.plat_base.specs.declared.items.Item.TheVariants as item
use Rattle.plat_chronicle.specs.Translations.{ShowsTranslations}

-- the maps show the history with one more change, if the actor's new map is what the change leaves and grants
pub ShowsTranslations-change : (m : Machine) (items : List Item) (c : Change) (pmaps : List (List (Option Translation)))
    (new : List (Option Translation))
    → ShowsTranslations m items pmaps → c.actor < m.nodes → length new ≡ length m.entries
    → ((entry : ℕ) → entry < length m.entries
    → get_or new entry None
    ≡ granted_to entry c.seq c.granted (if page_of m entry == c.page then kept_of c.removed (get_or (get_or pmaps c.actor []) entry None)
    else get_or (get_or pmaps c.actor []) entry None))
    → ShowsTranslations m (items ++ item.Change c ∷ []) (set pmaps c.actor new)
ShowsTranslations-change m items c pmaps new shows node wide is = record {
  size = grind (arith, length-set {A = List (Option Translation)}, shows.size);
  wide = λ q within. elim (cases_eq q c.actor) [
    | inl same ↦ grind (arith, get_or-set_same pmaps c.actor new [], shows.size)
    | inr differ ↦ grind (arith, get_or-set_other pmaps c.actor q new [], shows.wide q within)
  ];
  at = λ q entry within inside. elim (cases_eq q c.actor) [
    | inl same ↦
        grind (
          arith,
          get_or-set_same pmaps c.actor new [],
          shows.size,
          is entry inside,
          shows.at c.actor entry node inside,
          held-change_own m items c entry,
        )
    | inr differ ↦
        grind (arith, get_or-set_other pmaps c.actor q new [], shows.at q entry within inside, held-change_other m items c q entry)
  ];
}

-- a map after a grant, at any place
pub get_or-granted : (xs : List (Option Translation)) (g : Grant) (seq entry : ℕ) → g.entry < length xs
    → get_or (set xs g.entry (Some (record { grant = g; seq = seq; restricted = false }))) entry None
    ≡ granted_to entry seq (Some g) (get_or xs entry None)
get_or-granted xs g seq entry within =
    elim (cases_eq entry g.entry) [
      | inl same ↦ grind (arith, nat_tests, get_or-set_same xs g.entry (Some (record { grant = g; seq = seq; restricted = false })) None)
      | inr differ ↦ grind (
        arith,
        nat_tests,
        get_or-set_other xs g.entry entry (Some (record { grant = g; seq = seq; restricted = false }))
            None,
      )
    ]
