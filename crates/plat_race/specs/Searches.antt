-- the tables of a search, against the items that it has met
use Rattle.std.specs.Prelude.{◌≡◌, ℕ, ◌+◌, ◌<◌, Bool, List, is_some}
use Rattle.plat_base.specs.declared.items.Access.{Access}
use Rattle.plat_base.specs.declared.items.Item.{Item}
use Rattle.plat_base.specs.declared.items.Item.TheVariants as item
use Rattle.plat_race.specs.declared.tables.Tables.{Tables}
use Rattle.plat_race.specs.Races.{item_at, race_at}
use Rattle.plat_race.specs.Marks.{HasMark, AreClocks}
use Rattle.plat_race.specs.Tabled.{AreAfter}

-- the tables have met the first n items
abbrev pub HaveMet : Tables → List Item → ℕ → Type 0
HaveMet t items n = AreAfter items n t.pages t.words t.clocks.items t.adds.items t.accesses.items t.writes.items

-- each access is by an actor that the tables have room for, to a word that they have
pub record Suits (t : Tables) (items : List Item) : Type 0 where
  pub actor : (i : ℕ) → HasMark (item_at items i)
  pub page : (i : ℕ) (a : Access) → item_at items i ≡ item.Access a → a.page < t.pages
  pub word : (i : ℕ) (a : Access) → item_at items i ≡ item.Access a → a.word < t.words

-- the marks are the clock of the access, wherever it comes next
abbrev pub IsClockOf : Tables → Access → List ℕ → Type 0
IsClockOf t a marks =
    (items : List Item) (n : ℕ) → HaveMet t items n → item_at items n ≡ item.Access a → AreClocks items n marks

-- the answer is whether a race ends at the access, wherever it comes next
abbrev pub TellsRaces : Tables → Access → List ℕ → Bool → Type 0
TellsRaces t a clock answer =
    (items : List Item) (n : ℕ)
    → HaveMet t items n → Suits t items → item_at items n ≡ item.Access a → AreClocks items n clock → answer ≡ is_some (race_at items n)

-- the tables have taken in the access at a place
abbrev pub HaveTaken : Tables → Access → List ℕ → ℕ → Tables → Type 0
HaveTaken old a clock place new =
    (items : List Item)
    → HaveMet old items place → item_at items place ≡ item.Access a → AreClocks items place clock → HaveMet new items (place + 1)
