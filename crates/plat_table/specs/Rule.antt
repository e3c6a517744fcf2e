-- the rule of the table: its words are those of a run of live actors, and each actor's private state is known to one seat
use Rattle.std.specs.Prelude.{◌≡◌, ℕ, ◌+◌, ◌-◌, ◌/◌, ◌<◌, ◌==◌, if◌then◌else◌, List, [], ◌∷◌, ◌++◌, length, map, take, drop, All, Option}
use Rattle.std.specs.Prelude.{Some, None, slice_get, slice_set}
use Rattle.plat_base.specs.Machine.{Machine, robin}
use Rattle.plat_base.specs.Seen.{machine}
use Rattle.plat_base.specs.Verdicts.{policy_answer}
use Rattle.plat_base.specs.Pages.{numbers}
use Rattle.plat_base.specs.declared.configs.Config.{Config}
use Rattle.plat_base.specs.declared.policies.PolicyKind.TheVariants as policy
use Rattle.plat_base.specs.declared.words.Op.{Op}
use Rattle.plat_events.specs.Operations.{told}
use Rattle.plat_events.specs.Privates.{Private, actor_count, first_private}
use Rattle.plat_events.specs.Events.{next_of, after}
use Rattle.plat_events.specs.Runs.{Reached}
use Rattle.plat_ports.specs.Ports.{Told}
use Rattle.atomic_table.specs.Table.{State, Step, Me}

-- an actor's number, and its private state
abbrev pub Held : Type 0
Held = ℕ × Private

-- what a seat knows: the machine, and the actors that ride on it
pub record Known : Type 0 where
  pub machine : Machine
  pub crew : List Held

abbrev pub crew_of : Known → List Held
crew_of v = v.crew

-- ---- what the rule says

-- how often an actor is among these
abbrev pub times : ℕ → List Held → ℕ
times a [] = 0
times a (h ∷ hs) = (if h.0 == a then 1 else 0) + times a hs

abbrev pub times_in : ℕ → List (List Held) → ℕ
times_in a [] = 0
times_in a (v ∷ vs) = times a v + times_in a vs

-- the private state is the one that this actor has
abbrev pub IsStateIn : List Private → Held → Type 0
IsStateIn privates h = slice_get privates h.0 ≡ Some h.1

abbrev pub AreStatesIn : List Private → List Held → Type 0
AreStatesIn privates crew = All (IsStateIn privates) crew

-- the events of these actors, each live when it came, lead to these words and private states; the latter are what the seats
-- know, and each actor is known to one seat
pub record Kept (m : Machine) (words : List ℕ) (crews : List (List Held)) (who : List ℕ) (privates : List Private) : Type 0 where
  pub reached : Reached m (policy_answer m.policy) words privates who
  pub known : All (AreStatesIn privates) crews
  pub once : (a : ℕ) → a < length privates → times_in a crews ≡ 1

abbrev pub Holds : Config → State ℕ Known → Type 0
Holds cfg t = (who : List ℕ) × (privates : List Private) × Kept (machine cfg) t.words (map crew_of t.views) who privates

-- ---- the seats

abbrev pub held_first : Machine → ℕ → Held
held_first m a = (a, first_private m a)

-- all actors before their first operations
abbrev pub all_begun : Config → Known
all_begun cfg = record { machine = machine cfg; crew = map (held_first (machine cfg)) (numbers (actor_count (machine cfg))) }

abbrev pub no_machine : Machine
no_machine = record {
  nodes = 0;
  frames = 0;
  words = 0;
  pages = 0;
  policy = policy.Place;
  budget = 0;
  schedule = robin;
  distances = [];
  entries = [];
  inits = [];
  guests = [];
}

-- what a seat knows that has given its actors away
abbrev pub nobody : Known
nobody = record { machine = no_machine; crew = [] }

-- how many of its actors stay at a split
abbrev pub kept_of : {A : Type 0} → List A → ℕ
kept_of xs = length xs - length xs / 2

abbrev pub low_half : Known → Known
low_half v = record { machine = v.machine; crew = take (kept_of v.crew) v.crew }

abbrev pub high_half : Known → Known
high_half v = record { machine = v.machine; crew = drop (kept_of v.crew) v.crew }

abbrev pub both_of : Known → Known → Known
both_of v w = record { machine = v.machine; crew = v.crew ++ w.crew }

-- ---- one step

-- what an operation tells, where there is one
abbrev pub told_by : Option (ℕ × Op) → ℕ → ℕ
told_by None n = n
told_by (Some x) n = told x.1 n

-- the actor after its next operation found n
abbrev pub held_after : Machine → Held → ℕ → Held
held_after m h n =
    let answer = policy_answer m.policy in (h.0, after m answer h.0 h.1 (told_by (next_of m answer h.0 h.1) n))

abbrev pub crew_after : Machine → (at : ℕ) → List Held → ℕ → Option Held → List Held
crew_after m at crew n None = crew
crew_after m at crew n (Some h) = slice_set crew at (held_after m h n)

-- the actor at a place has made its next operation, which found n
abbrev pub moved : (at : ℕ) → Known → ℕ → Known
moved at v n = record { machine = v.machine; crew = crew_after v.machine at v.crew n (slice_get v.crew at) }

abbrev pub Makes : ℕ → Step ℕ → Me ℕ Known → ℕ → Me ℕ Known → Type 0
Makes at s me n now = now ≡ (moved at me.0 n, me.1)

-- whom a port serves: the actor at this place of the seat
abbrev pub served_in : Machine → Option Held → Option Told
served_in m None = None
served_in m (Some h) = Some (record { machine = m; actor = h.0; state = h.1 })

abbrev pub served : (at : ℕ) → Known → Option Told
served at v = served_in v.machine (slice_get v.crew at)
