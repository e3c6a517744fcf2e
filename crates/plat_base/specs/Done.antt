-- what a history holds of one processor's guest: the values that it got, and the operations that it made
use Rattle.std.specs.Prelude.{ℕ, ◌+◌, ◌%◌, ◌==◌, ◌&&◌, if◌then◌else◌, Bool, true, false, List, [], ◌∷◌, Option, Some, None}
use Rattle.std.specs.List.{filter_map}
use Rattle.std.specs.Option.{option_and_then}
use Rattle.plat_base.specs.Items.{access_of}
use Rattle.plat_base.specs.GuestRun.{Operation, Reaches, Switches, Reach, word_modulus}
use Rattle.plat_base.specs.Alike.{same_kind}
use Rattle.plat_base.specs.declared.items.Kind.{Kind}
use Rattle.plat_base.specs.declared.items.Kind.TheVariants as kind
use Rattle.plat_base.specs.declared.items.Access.{Access}
use Rattle.plat_base.specs.declared.items.Item.{Item}
use Rattle.plat_base.specs.declared.items.Item.TheVariants as item

abbrev pub reads_word : Kind → Bool
reads_word kind.Load = true
reads_word kind.Store = false
reads_word kind.Add = true

abbrev pub value_of : ℕ → Item → Option ℕ
value_of q i = option_and_then (λ a. if a.actor == q && reads_word a.kind then Some a.old else None) (access_of i)

-- the values that processor q's loads and fetch-and-adds got
abbrev pub values_of : ℕ → List Item → List ℕ
values_of q items = filter_map (value_of q) items

-- an operation in a history
pub data Done : Type 0 where
  Accessed : (access : Access) → Done
  Switched : (space : ℕ) → Done

abbrev pub done_of : ℕ → Item → Option Done
done_of q (item.Access a) = if a.actor == q then Some (Accessed a) else None
done_of q (item.Change c) = None
done_of q (item.Applied x) = None
done_of q (item.Switch s) = if s.actor == q then Some (Switched s.space) else None

-- processor q's accesses and switches
abbrev pub operations_of : ℕ → List Item → List Done
operations_of q items = filter_map (done_of q) items

-- the word after an access: the stored value, the wrapping sum, or the old word
abbrev pub new_value : Kind → (old operand : ℕ) → ℕ
new_value kind.Load old operand = old
new_value kind.Store old operand = operand
new_value kind.Add old operand = (old + operand) % word_modulus

-- this access is that operation of the guest
abbrev pub is_done_access : Reach → Access → Bool
is_done_access r a =
    same_kind r.kind a.kind && r.space == a.space && r.addr == a.addr && r.page == a.page && r.word == a.word
    && a.new == new_value r.kind a.old r.operand

abbrev pub is_done : Operation → Done → Bool
is_done (Reaches r) (Accessed a) = is_done_access r a
is_done (Reaches r) (Switched space) = false
is_done (Switches s) (Accessed a) = false
is_done (Switches s) (Switched space) = s == space

-- these are those operations, each once and in order
abbrev pub are_done : List Operation → List Done → Bool
are_done [] [] = true
are_done [] (d ∷ ds) = false
are_done (o ∷ os) [] = false
are_done (o ∷ os) (d ∷ ds) = is_done o d && are_done os ds
