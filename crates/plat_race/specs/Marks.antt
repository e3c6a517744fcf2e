-- marks: of an actor, how far its accesses are known. The accesses of one actor are before one another, so what is known
-- of it is always a front of them, and a mark says where that front ends
use Rattle.std.specs.Prelude.{◌≡◌, ◌⊎◌, ℕ, suc, ◌<◌, ◌≤◌, ◌==◌, ◌&&◌, Bool, true, max, List, slice_index}
use Rattle.plat_base.specs.declared.limits.TheConstants.{MODULES}
use Rattle.plat_base.specs.Flat.{is_write}
use Rattle.plat_base.specs.declared.items.Access.{Access}
use Rattle.plat_base.specs.declared.items.Item.{Item}
use Rattle.plat_base.specs.declared.items.Item.TheVariants as item
use Rattle.plat_base.specs.Items.{is_access_that}
use Rattle.plat_race.specs.Races.{item_at, is_add, IsBefore, is_race}

-- where the item is an access, its actor has a mark; the daemon makes none
abbrev pub HasMark : Item → Type 0
HasMark i = (a : Access) → i ≡ item.Access a → a.actor < MODULES

-- ---- which items

abbrev pub is_by : ℕ → Item → Bool
is_by b i = is_access_that (λ a. a.actor == b) i

abbrev pub adds_to : (page word : ℕ) → Item → Bool
adds_to page word i = is_access_that (λ a. is_add a.kind && a.page == page && a.word == word) i

abbrev pub uses : (page word b : ℕ) → Item → Bool
uses page word b i = is_access_that (λ a. a.actor == b && a.page == page && a.word == word) i

abbrev pub writes : (page word b : ℕ) → Item → Bool
writes page word b i = is_access_that (λ a. is_write a.kind && a.actor == b && a.page == page && a.word == word) i

-- ---- one mark

-- the item at i is one of those below n that pass the test, or is before one
abbrev pub Reaches : List Item → (Item → Bool) → (n i : ℕ) → Type 0
Reaches items test n i = (k : ℕ) × (k < n) × (test (item_at items k) ≡ true) × ((i ≡ k) ⊎ IsBefore items i k)

-- below the mark, and there alone, stand the accesses of actor b that reach such an item
pub record IsMark (items : List Item) (test : Item → Bool) (n b mark : ℕ) : Type 0 where
  pub low : mark ≤ n
  pub sound : (i : ℕ) → i < mark → is_by b (item_at items i) ≡ true → Reaches items test n i
  pub complete : (i : ℕ) → is_by b (item_at items i) ≡ true → Reaches items test n i → i < mark

-- below the mark, and there alone, stand the accesses of actor b that are before the one at n
pub record IsClock (items : List Item) (n b mark : ℕ) : Type 0 where
  pub low : mark ≤ n
  pub sound : (i : ℕ) → i < mark → is_by b (item_at items i) ≡ true → IsBefore items i n
  pub complete : (i : ℕ) → is_by b (item_at items i) ≡ true → IsBefore items i n → i < mark

-- the mark is one more than the last place below n that passes the test, or 0
pub record IsLast (items : List Item) (test : Item → Bool) (n mark : ℕ) : Type 0 where
  pub above : (i : ℕ) → i < n → test (item_at items i) ≡ true → i < mark
  pub there : (i : ℕ) → suc i ≡ mark → (i < n) × (test (item_at items i) ≡ true)

-- ---- the marks of all actors

abbrev pub AreMarks : List Item → (Item → Bool) → ℕ → List ℕ → Type 0
AreMarks items test n marks = (b : ℕ) → b < MODULES → IsMark items test n b (slice_index marks b)

abbrev pub AreClocks : List Item → ℕ → List ℕ → Type 0
AreClocks items n marks = (b : ℕ) → b < MODULES → IsClock items n b (slice_index marks b)

abbrev pub AreLasts : List Item → (ℕ → Item → Bool) → ℕ → List ℕ → Type 0
AreLasts items test n marks = (b : ℕ) → b < MODULES → IsLast items (test b) n (slice_index marks b)

-- the answer is whether the item at a place races with a later access that has this clock
abbrev pub TellsRace : Item → ℕ → Access → List ℕ → Bool → Type 0
TellsRace earlier place later clock answer =
    (items : List Item) (n : ℕ)
    → item_at items place ≡ earlier → item_at items n ≡ item.Access later → place < n → AreClocks items n clock
    → answer ≡ is_race items place n

-- ---- two rows of marks

abbrev pub AreJoined : (some others joined : List ℕ) → Type 0
AreJoined some others joined = (b : ℕ) → b < MODULES → slice_index joined b ≡ max (slice_index some b) (slice_index others b)

abbrev pub IsOneAbove : (some others : List ℕ) → Type 0
IsOneAbove some others = (b : ℕ) × (b < MODULES) × (slice_index others b < slice_index some b)

abbrev pub AreNoneAbove : (some others : List ℕ) → Type 0
AreNoneAbove some others = (b : ℕ) → b < MODULES → slice_index some b ≤ slice_index others b
