-- readers of items by kind, and the tests of items of one kind
use Rattle.std.specs.Prelude.{Bool, true, false, Option, Some, None}
use Rattle.std.specs.Option.{option_map_or}
use Rattle.plat_base.specs.declared.items.Access.{Access}
use Rattle.plat_base.specs.declared.items.Applied.{Applied}
use Rattle.plat_base.specs.declared.items.Change.{Change}
use Rattle.plat_base.specs.declared.items.Item.{Item}
use Rattle.plat_base.specs.declared.items.Item.TheVariants as item
use Rattle.plat_base.specs.declared.items.Switch.{Switch}

abbrev pub access_of : Item → Option Access
access_of (item.Access a) = Some a
access_of (item.Change c) = None
access_of (item.Applied x) = None
access_of (item.Switch s) = None

abbrev pub change_of : Item → Option Change
change_of (item.Access a) = None
change_of (item.Change c) = Some c
change_of (item.Applied x) = None
change_of (item.Switch s) = None

abbrev pub applied_of : Item → Option Applied
applied_of (item.Access a) = None
applied_of (item.Change c) = None
applied_of (item.Applied x) = Some x
applied_of (item.Switch s) = None

abbrev pub switch_of : Item → Option Switch
switch_of (item.Access a) = None
switch_of (item.Change c) = None
switch_of (item.Applied x) = None
switch_of (item.Switch s) = Some s

abbrev pub is_access_that : (Access → Bool) → Item → Bool
is_access_that test i = option_map_or test (access_of i) false

abbrev pub is_change_that : (Change → Bool) → Item → Bool
is_change_that test i = option_map_or test (change_of i) false

abbrev pub is_applied_that : (Applied → Bool) → Item → Bool
is_applied_that test i = option_map_or test (applied_of i) false

abbrev pub is_switch_that : (Switch → Bool) → Item → Bool
is_switch_that test i = option_map_or test (switch_of i) false

abbrev pub is_access : Item → Bool
is_access = is_access_that (λ _. true)

abbrev pub is_change : Item → Bool
is_change = is_change_that (λ _. true)

abbrev pub is_applied : Item → Bool
is_applied = is_applied_that (λ _. true)

abbrev pub is_switch : Item → Bool
is_switch = is_switch_that (λ _. true)
