-- flat memory: the value of each word, and how often it was written
use Rattle.std.specs.Prelude.{ℕ, ◌+◌, ◌==◌, ◌&&◌, if◌then◌else◌, Bool, true, false, List}
use Rattle.std.specs.List.{fold}
use Rattle.std.specs.Option.{option_map_or}
use Rattle.plat_base.specs.Items.{access_of, is_access_that}
use Rattle.plat_base.specs.Machine.{Machine}
use Rattle.plat_base.specs.Pages.{initial_value}
use Rattle.plat_base.specs.declared.items.Item.{Item}
use Rattle.plat_base.specs.declared.items.Kind.{Kind}
use Rattle.plat_base.specs.declared.items.Kind.TheVariants as kind

abbrev pub is_write : Kind → Bool
is_write kind.Load = false
is_write kind.Store = true
is_write kind.Add = true

abbrev pub writes_word : (page word : ℕ) → Item → Bool
writes_word page word = is_access_that (λ a. is_write a.kind && a.page == page && a.word == word)

abbrev pub written : Item → ℕ
written i = option_map_or (λ a. a.new) (access_of i) 0

-- the value of a word after these items
abbrev pub flat_value : Machine → List Item → (page word : ℕ) → ℕ
flat_value m items page word = fold (λ v i. if writes_word page word i then written i else v) (initial_value m page word) items

-- how many of these items wrote a word
abbrev pub flat_writes : List Item → (page word : ℕ) → ℕ
flat_writes items page word = fold (λ n i. if writes_word page word i then n + 1 else n) 0 items
