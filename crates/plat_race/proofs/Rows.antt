-- worked histories, computed: the first race of each
use Rattle.std.specs.Prelude.{◌≡◌, ℕ, List, [], ◌∷◌, Some, None, refl}
use Rattle.plat_base.specs.declared.items.Item.{Item}
use Rattle.plat_base.specs.declared.items.Item.TheVariants as item
use Rattle.plat_base.specs.declared.items.Kind.{Kind}
use Rattle.plat_base.specs.declared.items.Kind.TheVariants as kind
use Rattle.plat_race.specs.Races.{is_before, pair, first_race}

-- an access of page 0
abbrev access : ℕ → Kind → (word old new version mo seq : ℕ) → Item
access actor k word old new version mo seq = item.Access (record {
  actor = actor;
  kind = k;
  space = 0;
  addr = word;
  page = 0;
  word = word;
  old = old;
  new = new;
  version = version;
  frame = record { «module» = mo; number = 0 };
  grant = seq;
})

-- an item that is no access stands for the changes
abbrev other : ℕ → Item
other actor = item.Switch (record { actor = actor; space = 0 })

-- processor 0 stores a value and raises a flag by a fetch-and-add; processor 1 adds nothing to the flag and loads the value
flag_first : List Item
flag_first =
    other 0 ∷ access 0 kind.Store 0 0 7 1 0 0 ∷ access 0 kind.Add 1 0 1 1 0 0 ∷ other 1 ∷ access 1 kind.Add 1 1 1 2 0 1 ∷ access 1
    kind.Load 0 7 7 1 0 1 ∷ []

flag_first-none : first_race flag_first ≡ None
unfolding flag_first is_before
flag_first-none = refl

-- the same program, where processor 1 comes before the flag
flag_later : List Item
flag_later =
    other 0 ∷ access 0 kind.Store 0 0 7 1 0 0 ∷ other 1 ∷ access 1 kind.Add 1 0 0 1 0 1 ∷ access 1 kind.Load 0 7 7 1 0 1 ∷ access 0
    kind.Add 1 0 1 2 0 0 ∷ []

flag_later-some : first_race flag_later ≡ Some (pair 1 4)
unfolding flag_later is_before
flag_later-some = refl
