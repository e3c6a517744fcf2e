-- the messages of a coarse run: those that are owed, and those that are applied at an interrupt or an activation
use Rattle.std.specs.Prelude.{ℕ, ◌==◌, ◌&&◌, not, if◌then◌else◌, Bool, true, false, List, [], ◌∷◌, map, filter, Option, Some, None, is_some}
use Rattle.std.specs.Option.{option_map}
use Rattle.std.specs.List.{list_any, filter_map, flat_map}
use Rattle.plat_base.specs.Items.{is_change_that}
use Rattle.plat_base.specs.Machine.{Machine}
use Rattle.plat_base.specs.Pages.{numbers, page_of, space_of, entries_of_page, entries_of_space}
use Rattle.plat_base.specs.Held.{held, active, is_later_change, removes_all, removes_writes}
use Rattle.plat_base.specs.declared.items.Removed.{Removed}
use Rattle.plat_base.specs.declared.items.Removed.TheVariants as removed
use Rattle.plat_base.specs.declared.items.Message.{Message}
use Rattle.plat_base.specs.declared.items.Message.TheVariants as message
use Rattle.plat_base.specs.declared.items.Moment.TheVariants as moment
use Rattle.plat_base.specs.declared.items.Translation.{Translation}
use Rattle.plat_base.specs.declared.items.Item.{Item}
use Rattle.plat_base.specs.declared.items.Item.TheVariants as item
use Rattle.plat_base.specs.Ends.{is_live}
use Rattle.plat_base.specs.Coarse.{Coarse}

abbrev pub is_owed_for : (Removed → Bool) → (q page seq : ℕ) → Item → Bool
is_owed_for test q page seq = is_change_that (λ c. is_later_change test page seq (item.Change c) && not (c.actor == q))

-- a change of the page by another actor, of a greater number, removed what the test names
abbrev pub by_other : (Removed → Bool) → List Item → (q page seq : ℕ) → Bool
by_other test items q page seq = list_any (is_owed_for test q page seq) items

abbrev pub owed_for : List Item → (q page : ℕ) → Option Translation → Option Message
owed_for items q page None = None
owed_for items q page (Some t) =
    if by_other removes_all items q page t.seq then Some message.Invalidate
    else if not t.restricted && by_other removes_writes items q page t.seq then Some message.Restrict else None

-- the message that processor q still has to apply to its translation of an entry
abbrev pub owed : Machine → List Item → (q entry : ℕ) → Option Message
owed m items q entry = owed_for items q (page_of m entry) (held m items q entry)

abbrev pub message_of : Removed → Message
message_of removed.Nothing = message.Restrict
message_of removed.Writes = message.Restrict
message_of removed.All = message.Invalidate

abbrev pub removes_some : Removed → Bool
removes_some removed.Nothing = false
removes_some removed.Writes = true
removes_some removed.All = true

-- a live processor other than the initiator that holds the entry and is active in its space
abbrev pub is_target : Machine → Coarse → (initiator entry r : ℕ) → Bool
is_target m s initiator entry r =
    not (r == initiator) && is_live s.ends r && is_some (held m s.history r entry) && active m s.history r == space_of m entry

abbrev pub interrupt_of : Removed → (entry r : ℕ) → Item
interrupt_of rem entry r =
    item.Applied (record { actor = r; entry = entry; message = message_of rem; moment = moment.Interrupt })

-- the messages applied by interrupt before a change, by entry and then by processor
abbrev pub interrupts : Machine → Coarse → (initiator page : ℕ) → Removed → List Item
interrupts m s initiator page rem =
    if removes_some rem
    then flat_map (λ e. map (interrupt_of rem e) (filter (is_target m s initiator e) (numbers m.nodes))) (entries_of_page m page)
    else []

abbrev pub activation_of : (q entry : ℕ) → Message → Item
activation_of q entry msg = item.Applied (record { actor = q; entry = entry; message = msg; moment = moment.Activation })

abbrev pub activation : Machine → List Item → (q entry : ℕ) → Option Item
activation m items q entry = option_map (activation_of q entry) (owed m items q entry)

-- a switch, and the messages that wait for the entries of the new space
abbrev pub switch_items : Machine → List Item → (q space : ℕ) → List Item
switch_items m items q space =
    item.Switch (record { actor = q; space = space }) ∷ filter_map (activation m items q) (entries_of_space m space)
