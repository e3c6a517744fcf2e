-- items that change what their actor holds
use Rattle.std.specs.Prelude.{Bool, true, false}
use Rattle.plat_base.specs.declared.items.Item.{Item}
use Rattle.plat_base.specs.declared.items.Item.TheVariants as item

-- an item that changes what its actor holds
abbrev pub is_held : Item → Bool
is_held (item.Access a) = false
is_held (item.Change c) = true
is_held (item.Applied x) = true
is_held (item.Switch s) = false
