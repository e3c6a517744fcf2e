-- history texts: the ranges of their numbers, and the relation between bytes and the history that they tell
use Rattle.std.specs.Prelude.{◌≡◌, ℕ, ◌≤◌, ◌<◌, ◌^◌, Bool, true, ◌&&◌, nat_lt, List, length, Option, Some, None, IsTrue}
use Rattle.std.specs.List.{AllByRecursion, list_all}
use Rattle.plat_grammar.specs.Lines.{lines_of}
use Rattle.plat_base.specs.Machine.{Machine}
use Rattle.plat_base.specs.Decide.{is_frame, modules_rise}
use Rattle.plat_base.specs.Canon.{is_short}
use Rattle.plat_grammar.specs.Grammar.{IsMachine, IsClean, word_lists}
use Rattle.plat_grammar.specs.HistoryCanon.{History, canon_history, history_text, most_history_bytes, most_items}
use Rattle.plat_base.specs.declared.frames.Frame.{Frame}
use Rattle.plat_base.specs.declared.frames.Dir.{Dir}
use Rattle.plat_base.specs.declared.items.Grant.{Grant}
use Rattle.plat_base.specs.declared.items.Access.{Access}
use Rattle.plat_base.specs.declared.items.Change.{Change}
use Rattle.plat_base.specs.declared.items.Applied.{Applied}
use Rattle.plat_base.specs.declared.items.Switch.{Switch}
use Rattle.plat_base.specs.declared.items.Item.{Item}
use Rattle.plat_base.specs.declared.items.Item.TheVariants as item
use Rattle.plat_base.specs.declared.endings.Ended.{Ended}
use Rattle.plat_base.specs.declared.limits.TheConstants.{BUDGET}

-- ---- ranges

-- frames that the machine has, on modules that rise
abbrev pub are_frames : Machine → List Frame → Bool
are_frames m frames = list_all (is_frame m) frames && modules_rise 0 frames

-- a directory as a history text can tell it; whether its state goes with its copies is not asked
abbrev pub is_told_dir : Machine → Dir → Bool
is_told_dir m d = are_frames m d.copies

abbrev pub is_told_grant : Machine → Option Grant → Bool
is_told_grant m None = true
is_told_grant m (Some g) = nat_lt g.entry (length m.entries) && is_frame m g.frame

pub record IsToldAccess (m : Machine) (a : Access) : Type 0 where
  pub actor : a.actor < m.nodes
  pub space : a.space ≤ 7
  pub addr : a.addr < 2 ^ 32
  pub page : a.page < m.pages
  pub word : a.word < m.words
  pub old : a.old < 2 ^ 32
  pub new : a.new < 2 ^ 32
  pub version : a.version < 2 ^ 32
  pub frame : IsTrue (is_frame m a.frame)
  pub grant : a.grant < 2 ^ 32

-- the actor of a change may be the daemon
pub record IsToldChange (m : Machine) (c : Change) : Type 0 where
  pub actor : c.actor ≤ m.nodes
  pub page : c.page < m.pages
  pub seq : c.seq < 2 ^ 32
  pub time : c.time < 2 ^ 32
  pub before : IsTrue (is_told_dir m c.before)
  pub after : IsTrue (is_told_dir m c.after)
  pub granted : IsTrue (is_told_grant m c.granted)

pub record IsToldApplied (m : Machine) (a : Applied) : Type 0 where
  pub actor : a.actor < m.nodes
  pub entry : a.entry < length m.entries

pub record IsToldSwitch (m : Machine) (s : Switch) : Type 0 where
  pub actor : s.actor < m.nodes
  pub space : s.space ≤ 7

-- an item whose numbers are in the ranges of a history text
abbrev pub IsTold : Machine → Item → Type 0
IsTold m (item.Access a) = IsToldAccess m a
IsTold m (item.Change c) = IsToldChange m c
IsTold m (item.Applied a) = IsToldApplied m a
IsTold m (item.Switch s) = IsToldSwitch m s

-- the turns of an end may be as many as the largest budget, whatever the budget of the machine
abbrev pub IsToldEnd : Ended → Type 0
IsToldEnd e = e.turns ≤ BUDGET

-- all numbers of a history are in range, that of its items included, and each node has an end
pub record IsInRange (h : History) : Type 0 where
  pub items : AllByRecursion (IsTold h.machine) h.items
  pub few : length h.items ≤ most_items
  pub count : length h.ends ≡ h.machine.nodes
  pub ends : AllByRecursion IsToldEnd h.ends

-- a history that a text can tell, its size aside
pub record IsHistory (h : History) : Type 0 where
  pub machine : IsMachine h.machine
  pub short : IsTrue (is_short h.machine)
  pub numbers : IsInRange h

-- ---- texts

-- the bytes are a text of the history
pub record IsHistoryTextOf (bytes : List ℕ) (h : History) : Type 0 where
  pub size : length bytes ≤ most_history_bytes
  pub clean : AllByRecursion IsClean (lines_of 1 bytes)
  pub words : word_lists (lines_of 1 bytes) ≡ canon_history h

-- the canonical text is within the size of a history text
abbrev pub IsShortHistory : History → Type 0
IsShortHistory h = length (history_text h) ≤ most_history_bytes
