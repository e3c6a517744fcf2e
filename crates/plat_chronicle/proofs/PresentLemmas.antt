-- the present shows the history with one more item
use Rattle.std.proofs.Common.{ℕ, ◌+◌, ◌≤◌, List, [], ◌∷◌, ◌++◌, length, refl, arith, length-append}
use Rattle.std.specs.Prelude.{Option, Some, None, if◌then◌else◌}
use Rattle.std.specs.List.{fold}
use Rattle.std.proofs.lemmas.Bool.Decides.{nat_tests}
use Rattle.plat_base.specs.Machine.{Machine}
use Rattle.plat_base.specs.Directories.{seq_of, seq_after, change_on}
use Rattle.plat_base.specs.Flat.{flat_writes, writes_word}
use Rattle.plat_base.specs.declared.items.Access.{Access}
use Rattle.plat_base.specs.declared.items.Applied.{Applied}
use Rattle.plat_base.specs.declared.items.Change.{Change}
use Rattle.plat_base.specs.declared.items.Switch.{Switch}
use Rattle.plat_base.specs.declared.items.Translation.{Translation}
use Rattle.plat_base.specs.declared.items.Item.{Item}
use Rattle.plat_base.specs.declared.items.Item.TheVariants as item
use Rattle.plat_flat.specs.FlatSeen.{FlatSeen, IsFlatOf}
use Rattle.plat_chronicle.specs.declared.pages.PageState.{PageState}
use Rattle.plat_chronicle.specs.declared.removals.Highest.{Highest}
use Rattle.plat_chronicle.specs.Pages.{ShowsPages}
use Rattle.plat_chronicle.specs.Spaces.{ShowsSpaces}
use Rattle.plat_chronicle.specs.Removals.{ShowsRemovals}
use Rattle.plat_chronicle.specs.Translations.{ShowsTranslations}
use Rattle.plat_chronicle.specs.Present.{PresentSeen, Shows, Fits}
use Rattle.plat_chronicle.specs.Chronicle.{Follows, most_items}
use Rattle.plat_chronicle.proofs.OtherLemmas.{ShowsPages-other, ShowsSpaces-other, ShowsRemovals-other, ShowsTranslations-other}
use Rattle.plat_chronicle.proofs.OtherLemmas.{IsFlatOf-other}

pub Shows-access : (m : Machine) (items : List Item) (present : PresentSeen) (now : FlatSeen) (a : Access) → Shows m items present
    → IsFlatOf m (items ++ item.Access a ∷ []) now → Shows m (items ++ item.Access a ∷ []) (record present { flat = now })
Shows-access m items present now a shows memory = record {
  pages = ShowsPages-other m.pages items present.pages (item.Access a) refl shows.pages;
  spaces = ShowsSpaces-other m items present.active (item.Access a) refl shows.spaces;
  removals = ShowsRemovals-other m.pages items present.removals (item.Access a) refl shows.removals;
  translations = ShowsTranslations-other m items present.held (item.Access a) refl shows.translations;
  flat = memory;
}

pub Shows-change : (m : Machine) (items : List Item) (present : PresentSeen) (states : List PageState) (removals : List Highest)
    (held : List (List (Option Translation))) (c : Change)
    → Shows m items present → ShowsPages m.pages (items ++ item.Change c ∷ []) states
    → ShowsRemovals m.pages (items ++ item.Change c ∷ []) removals → ShowsTranslations m (items ++ item.Change c ∷ []) held
    → Shows m (items ++ item.Change c ∷ [])
    (record { pages = states; active = present.active; removals = removals; held = held; flat = present.flat })
Shows-change m items present states removals held c shows pages removed translations = record {
  pages = pages;
  spaces = ShowsSpaces-other m items present.active (item.Change c) refl shows.spaces;
  removals = removed;
  translations = translations;
  flat = IsFlatOf-other m items present.flat (item.Change c) refl shows.flat;
}

pub Shows-applied : (m : Machine) (items : List Item) (present : PresentSeen) (held : List (List (Option Translation))) (x : Applied)
    → Shows m items present → ShowsTranslations m (items ++ item.Applied x ∷ []) held
    → Shows m (items ++ item.Applied x ∷ []) (record present { held = held })
Shows-applied m items present held x shows translations = record {
  pages = ShowsPages-other m.pages items present.pages (item.Applied x) refl shows.pages;
  spaces = ShowsSpaces-other m items present.active (item.Applied x) refl shows.spaces;
  removals = ShowsRemovals-other m.pages items present.removals (item.Applied x) refl shows.removals;
  translations = translations;
  flat = IsFlatOf-other m items present.flat (item.Applied x) refl shows.flat;
}

pub Shows-switch : (m : Machine) (items : List Item) (present : PresentSeen) (active : List ℕ) (s : Switch)
    → Shows m items present → ShowsSpaces m (items ++ item.Switch s ∷ []) active
    → Shows m (items ++ item.Switch s ∷ []) (record present { active = active })
Shows-switch m items present active s shows spaces = record {
  pages = ShowsPages-other m.pages items present.pages (item.Switch s) refl shows.pages;
  spaces = spaces;
  removals = ShowsRemovals-other m.pages items present.removals (item.Switch s) refl shows.removals;
  translations = ShowsTranslations-other m items present.held (item.Switch s) refl shows.translations;
  flat = IsFlatOf-other m items present.flat (item.Switch s) refl shows.flat;
}

-- the present of any items fits the machine
pub Shows-fits : (m : Machine) (items : List Item) (present : PresentSeen) → Shows m items present → Fits m present
Shows-fits m items present shows = record {
  pages = shows.pages.size;
  removals = shows.removals.size;
  active = shows.spaces.size;
  processors = shows.translations.size;
  entries = shows.translations.wide;
}

-- a history with room for one more item, and the present with it
pub Follows-more : (m : Machine) (items : List Item) (present : PresentSeen) (i : Item) → length items + length (i ∷ []) ≤ most_items
    → Shows m (items ++ i ∷ []) present → Follows m (items ++ i ∷ []) present
Follows-more m items present i few shows = record { few = omega (arith, length-append items (i ∷ [])); shows = shows }

-- ---- counts are no greater than the number of items

fold-at_most : {A : Type 0} (f : ℕ → A → ℕ) → ((n : ℕ) (x : A) → f n x ≤ n + 1) → (n : ℕ) (xs : List A) → fold f n xs ≤ n + length xs
fold-at_most f step n [] = omega arith
fold-at_most f step n (x ∷ xs) = omega (arith, fold-at_most f step (f n x) xs, step n x)

seq_after-step : (n : ℕ) (c : Option Change) → seq_after n c ≤ n + 1
seq_after-step n None = omega arith
seq_after-step n (Some c) = omega arith

pub seq_of-at_most : (items : List Item) (page : ℕ) → seq_of items page ≤ length items
seq_of-at_most items page = omega
    (arith, fold-at_most (λ n i. seq_after n (change_on page i)) (λ n i. seq_after-step n (change_on page i)) 0 items)

pub flat_writes-at_most : (items : List Item) (page word : ℕ) → flat_writes items page word ≤ length items
flat_writes-at_most items page word =
    let step : (n : ℕ) (i : Item) → (if writes_word page word i then n + 1 else n) ≤ n + 1 = λ n i. grind (arith, nat_tests) in
    omega (arith, fold-at_most (λ n i. if writes_word page word i then n + 1 else n) step 0 items)
