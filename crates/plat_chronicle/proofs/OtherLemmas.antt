-- an item that a part of the present does not look at leaves it showing the history
use Rattle.std.proofs.Common.{◌≡◌, ℕ, Bool, List, [], ◌∷◌, ◌++◌, get_or, false, refl, ◌∙◌, arith}
use Rattle.plat_laws.proofs.ItemLaws as laws
use Rattle.plat_base.specs.Items.{is_change, is_switch, is_access}
use Rattle.plat_base.specs.Machine.{Machine}
use Rattle.plat_base.specs.Held.{removes_all, removes_writes}
use Rattle.plat_base.specs.declared.items.Removed.{Removed}
use Rattle.plat_base.specs.declared.items.Item.{Item}
use Rattle.plat_base.specs.declared.items.Item.TheVariants as item
use Rattle.plat_base.specs.declared.items.Translation.{Translation}
use Rattle.std.specs.Prelude.{Option}
use Rattle.plat_flat.specs.FlatSeen.{FlatSeen, IsFlatOf}
use Rattle.plat_chronicle.specs.declared.pages.PageState.{PageState}
use Rattle.plat_chronicle.specs.declared.removals.Highest.{Highest}
use Rattle.plat_chronicle.specs.Kinds.{is_held}
use Rattle.plat_chronicle.specs.Pages.{ShowsPages}
use Rattle.plat_chronicle.specs.Spaces.{ShowsSpaces}
use Rattle.plat_chronicle.specs.Removals.{ShowsHighest, ShowsRemovals, no_removal}
use Rattle.plat_chronicle.specs.Translations.{ShowsTranslations}

pub ShowsPages-other : (pages : ℕ) (items : List Item) (states : List PageState) (i : Item) → is_change i ≡ false
    → ShowsPages pages items states → ShowsPages pages (items ++ i ∷ []) states
ShowsPages-other pages items states (item.Access a) e shows =
    record {
      size = shows.size;
      at =
          λ page within. grind (
            arith,
            laws.dir_of-access items a page,
            laws.seq_of-access items a page,
            laws.last_of-access items a page,
            shows.at page within,
          );
    }
ShowsPages-other pages items states (item.Change c) e shows = absurd (cc)
ShowsPages-other pages items states (item.Applied x) e shows =
    record {
      size = shows.size;
      at =
          λ page within. grind (
            arith,
            laws.dir_of-applied items (item.Applied x ∷ []) page refl,
            laws.seq_of-applied items (item.Applied x ∷ []) page refl,
            laws.last_of-applied items (item.Applied x ∷ []) page refl,
            shows.at page within,
          );
    }
ShowsPages-other pages items states (item.Switch s) e shows =
    record {
      size = shows.size;
      at =
          λ page within. grind (
            arith,
            laws.dir_of-switch items s page,
            laws.seq_of-switch items s page,
            laws.last_of-switch items s page,
            shows.at page within,
          );
    }

pub ShowsSpaces-other : (m : Machine) (items : List Item) (spaces : List ℕ) (i : Item) → is_switch i ≡ false
    → ShowsSpaces m items spaces → ShowsSpaces m (items ++ i ∷ []) spaces
ShowsSpaces-other m items spaces (item.Access a) e shows =
    record { size = shows.size; at = λ q within. grind (arith, laws.active-access m items a q, shows.at q within) }
ShowsSpaces-other m items spaces (item.Change c) e shows =
    record { size = shows.size; at = λ q within. grind (arith, laws.active-change m items c q, shows.at q within) }
ShowsSpaces-other m items spaces (item.Applied x) e shows =
    record {
      size = shows.size;
      at = λ q within. grind (arith, laws.active-applied m items (item.Applied x ∷ []) q refl, shows.at q within);
    }
ShowsSpaces-other m items spaces (item.Switch s) e shows = absurd (cc)

ShowsHighest-other : (test : Removed → Bool) (items : List Item) (page : ℕ) (highs : List ℕ) (i : Item) → is_change i ≡ false
    → ShowsHighest test items page highs → ShowsHighest test (items ++ i ∷ []) page highs
ShowsHighest-other test items page highs (item.Access a) e shows =
    record {
      size = shows.size;
      others = λ q seq. laws.by_other-access test items a q page seq ∙ shows.others q seq;
      above = λ seq. laws.later-access test items a page seq ∙ shows.above seq;
    }
ShowsHighest-other test items page highs (item.Change c) e shows = absurd (cc)
ShowsHighest-other test items page highs (item.Applied x) e shows =
    record {
      size = shows.size;
      others = λ q seq. laws.by_other-applied test items (item.Applied x ∷ []) q page seq refl
          ∙ shows.others q seq;
      above = λ seq. laws.later-applied test items (item.Applied x ∷ []) page seq refl ∙ shows.above seq;
    }
ShowsHighest-other test items page highs (item.Switch s) e shows =
    record {
      size = shows.size;
      others = λ q seq. laws.by_other-switch test items s q page seq ∙ shows.others q seq;
      above = λ seq. laws.later-switch test items s page seq ∙ shows.above seq;
    }

pub ShowsRemovals-other : (pages : ℕ) (items : List Item) (highest : List Highest) (i : Item) → is_change i ≡ false
    → ShowsRemovals pages items highest → ShowsRemovals pages (items ++ i ∷ []) highest
ShowsRemovals-other pages items highest i e shows = record {
  size = shows.size;
  all = λ page. ShowsHighest-other removes_all items page (get_or highest page no_removal).all i e (shows.all page);
  writes = λ page. ShowsHighest-other removes_writes items page (get_or highest page no_removal).writes i e (shows.writes page);
}

pub ShowsTranslations-other : (m : Machine) (items : List Item) (pmaps : List (List (Option Translation))) (i : Item) → is_held i ≡ false
    → ShowsTranslations m items pmaps → ShowsTranslations m (items ++ i ∷ []) pmaps
ShowsTranslations-other m items pmaps (item.Access a) e shows =
    record {
      size = shows.size;
      wide = shows.wide;
      at = λ q entry within inside. grind (arith, laws.held-access m items a q entry, shows.at q entry within inside);
    }
ShowsTranslations-other m items pmaps (item.Change c) e shows = absurd (cc)
ShowsTranslations-other m items pmaps (item.Applied x) e shows = absurd (cc)
ShowsTranslations-other m items pmaps (item.Switch s) e shows =
    record {
      size = shows.size;
      wide = shows.wide;
      at = λ q entry within inside. grind (arith, laws.held-switch m items s q entry, shows.at q entry within inside);
    }

pub IsFlatOf-other : (m : Machine) (items : List Item) (flat : FlatSeen) (i : Item) → is_access i ≡ false
    → IsFlatOf m items flat → IsFlatOf m (items ++ i ∷ []) flat
IsFlatOf-other m items flat (item.Access a) e shows = absurd (cc)
IsFlatOf-other m items flat (item.Change c) e shows =
    record {
      pages = shows.pages;
      words = shows.words;
      value = λ page word within inside. grind (arith, laws.flat_value-change m items c page word, shows.value page word within inside);
      version = λ page word within inside. grind (arith, laws.flat_writes-change items c page word, shows.version page word within inside);
    }
IsFlatOf-other m items flat (item.Applied x) e shows =
    record {
      pages = shows.pages;
      words = shows.words;
      value = λ page word within inside. grind (
        arith,
        laws.flat_value-applied m items (item.Applied x ∷ []) page word refl,
        shows.value page word within inside,
      );
      version = λ page word within inside. grind (
        arith,
        laws.flat_writes-applied items (item.Applied x ∷ []) page word refl,
        shows.version page word within inside,
      );
    }
IsFlatOf-other m items flat (item.Switch s) e shows =
    record {
      pages = shows.pages;
      words = shows.words;
      value = λ page word within inside. grind (arith, laws.flat_value-switch m items s page word, shows.value page word within inside);
      version = λ page word within inside. grind (arith, laws.flat_writes-switch items s page word, shows.version page word within inside);
    }
