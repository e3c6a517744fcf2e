-- what the history says of pages behind a change: of its page what the change says, and of each other page what it said
use Rattle.std.specs.Prelude.{◌≡◌, ◌≢◌, ℕ, ◌+◌, ◌==◌, nat_lt, ◌&&◌, ◌||◌, if◌then◌else◌, Bool, true, false, List, [], ◌∷◌, ◌++◌, Some, None}
use Rattle.std.proofs.Common.{ap, sym, ◌∙◌}
use Rattle.std.proofs.lemmas.Bool.{eq-eqb, ne_eqb}
use Rattle.plat_base.specs.Directories.{dir_of, seq_of, last_of, last_after, sets_last}
use Rattle.plat_base.specs.Held.{later}
use Rattle.plat_base.specs.declared.items.Change.{Change}
use Rattle.plat_base.specs.declared.items.Item.{Item}
use Rattle.plat_base.specs.declared.items.Item.TheVariants as item
use Rattle.plat_base.specs.declared.items.Removed.{Removed}
use Rattle.plat_laws.proofs.ItemLaws.{or-false, dir_of-change, seq_of-change, later-change, last_of-append}

module _ (items : List Item) (c : Change) where
  last_of-change :
      (page : ℕ) → last_of (items ++ item.Change c ∷ []) page ≡ last_after (last_of items page) (if c.page == page then Some c else None)
  last_of-change page = last_of-append items (item.Change c ∷ []) page

  -- ---- another page

  module _ (page : ℕ) (other : page ≢ c.page) where
    apart : (c.page == page) ≡ false
    apart = ne_eqb c.page page (λ e. other (sym e))

    pub other-dir : dir_of (items ++ item.Change c ∷ []) page ≡ dir_of items page
    other-dir = dir_of-change items c page ∙ ap (λ b. if b then c.after else dir_of items page) apart

    pub other-seq : seq_of (items ++ item.Change c ∷ []) page ≡ seq_of items page
    other-seq = seq_of-change items c page ∙ ap (λ b. if b then seq_of items page + 1 else seq_of items page) apart

    pub other-last : last_of (items ++ item.Change c ∷ []) page ≡ last_of items page
    other-last = last_of-change page ∙ ap (λ b. last_after (last_of items page) (if b then Some c else None)) apart

    pub other-later : (test : Removed → Bool) (seq : ℕ) → later test (items ++ item.Change c ∷ []) page seq ≡ later test items page seq
    other-later test seq =
        later-change test items c page seq
        ∙ (ap (λ b. later test items page seq || (b && nat_lt seq c.seq && test c.removed)) apart ∙ or-false (later test items page seq))

  -- ---- the page of the change

  module _ (page : ℕ) (own : c.page ≡ page) where
    here : (c.page == page) ≡ true
    here = eq-eqb c.page page own

    pub own-dir : dir_of (items ++ item.Change c ∷ []) page ≡ c.after
    own-dir = dir_of-change items c page ∙ ap (λ b. if b then c.after else dir_of items page) here

    pub own-seq : seq_of (items ++ item.Change c ∷ []) page ≡ seq_of items page + 1
    own-seq = seq_of-change items c page ∙ ap (λ b. if b then seq_of items page + 1 else seq_of items page) here

    pub own-last : last_of (items ++ item.Change c ∷ []) page ≡ (if sets_last c.action then Some c.time else last_of items page)
    own-last = last_of-change page ∙ ap (λ b. last_after (last_of items page) (if b then Some c else None)) here

    pub own-later :
        (test : Removed → Bool) (seq : ℕ) →
        later test (items ++ item.Change c ∷ []) page seq ≡ (later test items page seq || (nat_lt seq c.seq && test c.removed))
    own-later test seq =
        later-change test items c page seq ∙ ap (λ b. later test items page seq || (b && nat_lt seq c.seq && test c.removed)) here
