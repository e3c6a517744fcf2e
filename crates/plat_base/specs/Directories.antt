-- what a history says of a page: its directory, the number of its changes, and its last invalidation
use Rattle.std.specs.Prelude.{ℕ, ◌+◌, ◌==◌, if◌then◌else◌, Bool, true, false, List, [], Option, Some, None}
use Rattle.std.specs.List.{fold}
use Rattle.std.specs.Option.{option_and_then}
use Rattle.plat_base.specs.Items.{change_of}
use Rattle.plat_base.specs.declared.frames.Dir.{Dir}
use Rattle.plat_base.specs.declared.frames.State.TheVariants.{Empty}
use Rattle.plat_base.specs.declared.items.Action.{Action}
use Rattle.plat_base.specs.declared.items.Action.TheVariants as action
use Rattle.plat_base.specs.declared.items.Change.{Change}
use Rattle.plat_base.specs.declared.items.Item.{Item}

-- the change that an item is, if it is one of this page
abbrev pub change_on : ℕ → Item → Option Change
change_on page i = option_and_then (λ c. if c.page == page then Some c else None) (change_of i)

abbrev pub empty_dir : Dir
empty_dir = record { state = Empty; frozen = false; copies = [] }

abbrev pub dir_after : Dir → Option Change → Dir
dir_after d None = d
dir_after d (Some c) = c.after

-- the directory of a page: that of its last change, or empty
abbrev pub dir_of : List Item → ℕ → Dir
dir_of items page = fold (λ d i. dir_after d (change_on page i)) empty_dir items

abbrev pub seq_after : ℕ → Option Change → ℕ
seq_after n None = n
seq_after n (Some c) = n + 1

-- the number of a page's changes
abbrev pub seq_of : List Item → ℕ → ℕ
seq_of items page = fold (λ n i. seq_after n (change_on page i)) 0 items

-- migrations and collapses set the time of the last invalidation
abbrev pub sets_last : Action → Bool
sets_last action.Fill = false
sets_last action.MapLocal = false
sets_last action.MapRemote = false
sets_last action.Replicate = false
sets_last action.Migrate = true
sets_last action.Collapse = true
sets_last action.Thaw = false

abbrev pub last_after : Option ℕ → Option Change → Option ℕ
last_after last None = last
last_after last (Some c) = if sets_last c.action then Some c.time else last

-- the tick of a page's last invalidation by the protocol
abbrev pub last_of : List Item → ℕ → Option ℕ
last_of items page = fold (λ last i. last_after last (change_on page i)) None items
