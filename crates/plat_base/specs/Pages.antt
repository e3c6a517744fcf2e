-- what a machine says of its pages: entries, distances, starting values
use Rattle.std.specs.Prelude.{ℕ, ◌&&◌, ◌==◌, ◌/◌, if◌then◌else◌, List, [], length, Option, unwrap_or, slice_index_or, find, filter}
use Rattle.std.specs.Option.{option_map}
use Rattle.std.specs.List.{position_from, range_with_len}
use Rattle.plat_base.specs.Machine.{Machine, Program}
use Rattle.plat_base.specs.declared.limits.TheConstants.{PAGES, SPACES, VIRTUAL_PAGES}
use Rattle.plat_base.specs.declared.configs.Distance.{Distance}
use Rattle.plat_base.specs.declared.configs.Entry.{Entry}
use Rattle.plat_base.specs.declared.configs.Init.{Init}

-- the numbers below n, rising
abbrev pub numbers : ℕ → List ℕ
numbers n = range_with_len 0 n

-- what stands for an entry that a machine does not have: a page of a space that no machine has
abbrev pub no_entry : Entry
no_entry = record { space = SPACES; vpage = VIRTUAL_PAGES; page = PAGES }

abbrev pub no_program : Program
no_program = record { space = 0; code = []; labels = [] }

-- the guest of processor q
abbrev pub program_of : Machine → ℕ → Program
program_of m q = slice_index_or m.guests q no_program

-- the entry of a virtual page in a space, by its number
abbrev pub entry_at : Machine → (space vpage : ℕ) → Option ℕ
entry_at m space vpage = position_from (λ e. e.space == space && e.vpage == vpage) 0 m.entries

abbrev pub page_of : Machine → ℕ → ℕ
page_of m entry = (slice_index_or m.entries entry no_entry).page

abbrev pub space_of : Machine → ℕ → ℕ
space_of m entry = (slice_index_or m.entries entry no_entry).space

-- the entry of an address in a space; where it has none, a number past the last entry
abbrev pub entry_reached : Machine → (space addr : ℕ) → ℕ
entry_reached m space addr = unwrap_or (entry_at m space (addr / m.words)) (length m.entries)

abbrev pub entries_of_page : Machine → ℕ → List ℕ
entries_of_page m page = filter (λ e. page_of m e == page) (numbers (length m.entries))

abbrev pub entries_of_space : Machine → ℕ → List ℕ
entries_of_space m space = filter (λ e. space_of m e == space) (numbers (length m.entries))

-- from a node to itself 0; to another what the text says, else 1
abbrev pub distance : Machine → ℕ → ℕ → ℕ
distance m a b =
    if a == b then 0 else unwrap_or (option_map (λ (d : Distance). d.d) (find (λ d. d.a == a && d.b == b) m.distances)) 1

-- the value of a word at the start
abbrev pub initial_value : Machine → (page word : ℕ) → ℕ
initial_value m page word = unwrap_or (option_map (λ (i : Init). i.value) (find (λ i. i.page == page && i.word == word) m.inits)) 0
