-- what a run means to whoever wrote its guests, and nothing of what it cost
use Rattle.std.specs.Prelude.{◌≡◌, ◌≢◌, ℕ, ◌<◌, List, map, Option, Some, None}
use Rattle.std.specs.List.{filter_map}
use Rattle.plat_base.specs.Machine.{Machine}
use Rattle.plat_base.specs.Pages.{numbers}
use Rattle.plat_base.specs.GuestRun.{GuestState}
use Rattle.plat_base.specs.Flat.{flat_value}
use Rattle.plat_base.specs.Report.{printed}
use Rattle.plat_base.specs.Ends.{ended_of}
use Rattle.plat_base.specs.Coarse.{Coarse}
use Rattle.plat_base.specs.Turns.{guest_now}
use Rattle.plat_base.specs.declared.endings.End.TheVariants as end
use Rattle.plat_base.specs.declared.endings.Ended.{Ended}
use Rattle.plat_base.specs.declared.items.Kind.{Kind}
use Rattle.plat_base.specs.declared.items.Switch.{Switch}
use Rattle.plat_base.specs.declared.items.Item.{Item}
use Rattle.plat_base.specs.declared.items.Item.TheVariants as item
use Rattle.plat_base.specs.declared.policies.PolicyKind.{PolicyKind}

-- an access in all but the frame that it went to and the change that granted its translation; or a switch
pub data Meant : Type 0 where
  Accessed : (actor : ℕ) (kind : Kind) (space addr page word old new version : ℕ) → Meant
  Switched : (switch : Switch) → Meant

-- what an item means; a change of a page and an applied message mean nothing
abbrev pub meant : Item → Option Meant
meant (item.Access a) = Some (Accessed a.actor a.kind a.space a.addr a.page a.word a.old a.new a.version)
meant (item.Change c) = None
meant (item.Applied x) = None
meant (item.Switch s) = Some (Switched s)

-- the accesses and the switches of a history, in their common order
abbrev pub items_meant : List Item → List Meant
items_meant items = filter_map meant items

pub record Meaning : Type 0 where
  -- the accesses and the switches
  pub items : List Meant
  -- the registers, the position and the space of each guest
  pub guests : List GuestState
  -- the values that each guest printed
  pub prints : List (List ℕ)
  -- memory, page by page and word by word
  pub memory : List (List ℕ)
  -- how each processor ended, and after how many turns
  pub ends : List Ended

-- the meaning of a run, or of a run so far
abbrev pub meaning : Machine → Coarse → Meaning
meaning m run = record {
  items = items_meant run.history;
  guests = map (λ q. (guest_now m run q).state) (numbers m.nodes);
  prints = map (printed m run.history run.ends) (numbers m.nodes);
  memory = map (λ page. map (flat_value m run.history page) (numbers m.words)) (numbers m.pages);
  ends = run.ends;
}

-- no processor of the run ended for want of a frame
abbrev pub StarvesNobody : Machine → Coarse → Type 0
StarvesNobody m run = (q : ℕ) → q < m.nodes → (ended_of run.ends q).end ≢ end.NoFrames

-- the machine whose text names another policy
abbrev pub with_policy : Machine → PolicyKind → Machine
with_policy m policy = record {
  nodes = m.nodes;
  frames = m.frames;
  words = m.words;
  pages = m.pages;
  policy = policy;
  budget = m.budget;
  schedule = m.schedule;
  distances = m.distances;
  entries = m.entries;
  inits = m.inits;
  guests = m.guests;
}

-- two machines whose texts differ in the policy alone
abbrev pub DifferInPolicy : Machine → Machine → Type 0
DifferInPolicy m n = n ≡ with_policy m n.policy
