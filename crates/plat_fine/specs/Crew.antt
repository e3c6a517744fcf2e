-- the processors of a run, and one event of one of them
use Rattle.std.specs.Prelude.{◌≡◌, ℕ, ◌<◌, List, [], ◌∷◌, ◌++◌, length, map, Option, Some, None, slice_get, slice_index_or, if◌then◌else◌}
use Rattle.plat_base.specs.Machine.{Machine}
use Rattle.plat_base.specs.Pages.{numbers}
use Rattle.plat_base.specs.Rules.{has_daemon}
use Rattle.plat_base.specs.declared.items.Item.{Item}
use Rattle.plat_events.specs.Privates.{Private, Over, first_private}
use Rattle.plat_ports.specs.Ports.{IsEvent}
use Rattle.plat_proc.specs.ProcSeen.{ProcSeen}
use Rattle.plat_proc.specs.Fits.{Fits}
use Rattle.plat_daemon.specs.DaemonSeen.{DaemonSeen, state_of}

-- what stands for a processor that a run does not have
abbrev pub no_private : Private
no_private = record {
  turns = 0;
  now = 0;
  guest = record { registers = []; at = 0; space = 0 };
  pmap = [];
  atc = [];
  due = 0;
  place = Over;
  journal = [];
}

abbrev pub no_proc : ProcSeen
no_proc = record { actor = 0; state = no_private; room = 0; slots = []; handler = None }

abbrev pub proc_at : List ProcSeen → ℕ → ProcSeen
proc_at procs q = slice_index_or procs q no_proc

abbrev pub states : List ProcSeen → List Private
states procs = map (λ (x : ProcSeen). x.state) procs

-- of the daemon, where there is one
abbrev pub daemon_states : Machine → Option DaemonSeen → List Private
daemon_states m None = []
daemon_states m (Some x) = state_of m x ∷ []

-- of the processors, and then of the daemon
abbrev pub privates_of : Machine → List ProcSeen → Option DaemonSeen → List Private
privates_of m procs daemon = states procs ++ daemon_states m daemon

-- of the first n processors, at the start
abbrev pub first_states : Machine → ℕ → List Private
first_states m n = map (first_private m) (numbers n)

-- of the daemon, at the start
abbrev pub first_daemon : Machine → List Private
first_daemon m = if has_daemon m.policy then first_private m m.nodes ∷ [] else []

-- what the event of processor q made of the processors and of the words
abbrev pub HasMoved : Machine → (q : ℕ) → (procs now : List ProcSeen) → (words found : List ℕ) → Type 0
HasMoved m q procs now words found = IsEvent m q (proc_at procs q).state (proc_at now q).state (Some words) (Some found)

-- the item that processor q has made since
abbrev pub item_since : (q : ℕ) → (procs now : List ProcSeen) → Option Item
item_since q procs now = slice_get (proc_at now q).state.journal (length (proc_at procs q).state.journal)

-- processor q of the machine
pub record IsProc (m : Machine) (q : ℕ) (x : ProcSeen) : Type 0 where
  pub actor : x.actor ≡ q
  pub fits : Fits m x

-- each stands at its number
pub record IsCrew (m : Machine) (procs : List ProcSeen) : Type 0 where
  pub each : (q : ℕ) → q < length procs → IsProc m q (proc_at procs q)
