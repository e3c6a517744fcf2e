-- a port of the table: whose words it changes, and whom it serves
use Rattle.std.specs.Prelude.{◌≡◌, ℕ, ◌<◌, List, Some, slice_get}
use Rattle.std.specs.List.{fold}
use Rattle.plat_base.specs.Machine.{Machine}
use Rattle.plat_base.specs.Seen.{machine}
use Rattle.plat_base.specs.Verdicts.{policy_answer}
use Rattle.plat_base.specs.declared.configs.Config.{Config}
use Rattle.plat_base.specs.declared.words.Op.{Op}
use Rattle.plat_events.specs.Places.{word_count}
use Rattle.plat_events.specs.Privates.{Private}
use Rattle.plat_events.specs.Events.{next_of, after}
use Rattle.atomic_table.specs.Table.{Me}
use Rattle.atomic_table.specs.Seated.{TableId}
use Rattle.plat_table.specs.Rule.{Held, Known, moved}

-- the seat is of this table, which has the words of the machine that the seat knows
pub record IsAtItsTable (table : TableId) (key : Config) (seat : TableId) (v : Known) : Type 0 where
  pub same : seat ≡ table
  pub knows : v.machine ≡ machine key
  pub words : table.words ≡ word_count v.machine

-- whatever numbers its operations tell, the next one is on a word of the machine
abbrev pub StaysWithin : Machine → (a : ℕ) → Private → Type 0
StaysWithin m a p =
    (found : List ℕ) (x : ℕ × Op) →
    next_of m (policy_answer m.policy) a (fold (after m (policy_answer m.policy) a) p found) ≡ Some x → x.0 < word_count m

abbrev pub StaysWithinAt : (at : ℕ) → Known → Type 0
StaysWithinAt at v = (h : Held) → slice_get v.crew at ≡ Some h → StaysWithin v.machine h.0 h.1

-- one event of the actor at a place
abbrev pub IsStep : (at : ℕ) → (before now : Me ℕ Known) → Type 0
IsStep at before now = (n : ℕ) × (now ≡ (moved at before.0 n, before.1))
