-- a history that grows: what was added in parts, and the room that is left
use Rattle.std.proofs.Common.{◌≡◌, ◌≤◌, List, ◌++◌, length, length-append, append_assoc, ap, ◌∙◌, arith}
use Rattle.plat_base.specs.declared.items.Item.{Item}
use Rattle.plat_chronicle.specs.Chronicle.{Chronicled, HasAdded, HasRoom}

pub HasAdded-more : (before now after : Chronicled) (xs ys all : List Item) → HasAdded before now xs → HasAdded now after ys →
    all ≡ xs ++ ys → HasAdded before after all
HasAdded-more before now after xs ys all h k is = record {
  machine = k.machine ∙ h.machine;
  items = k.items ∙ rw (h.items, is) (append_assoc before.items xs ys);
  spare = omega (arith, h.spare, k.spare, ap length is, length-append xs ys);
}

-- where there is room for all, there is room for the next ones
pub HasRoom-more : (before now : Chronicled) (xs ys more all : List Item) → HasRoom before all → HasAdded before now xs → more ≡ xs ++ ys →
    length more ≤ length all → HasRoom now ys
HasRoom-more before now xs ys more all room h is part = record {
  spare = omega (arith, room.spare, h.spare, ap length is, length-append xs ys);
  few = omega (arith, room.few, ap length h.items, length-append before.items xs, ap length is, length-append xs ys);
}
