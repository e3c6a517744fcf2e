-- worked runs, computed: the items, the ends and the report of each, and that each history is good
use Rattle.std.specs.Prelude.{◌≡◌, ℕ, Bool, true, false, List, [], ◌∷◌, take, Option, Some, None, codes, refl}
use Rattle.std.specs.Fmt.{decimal, digits}
use Rattle.plat_base.specs.Machine.{Machine, Program, robin, listed, is_machine}
use Rattle.plat_base.specs.Schedule.{coarse_run}
use Rattle.plat_base.specs.Rules.{first_bad}
use Rattle.plat_base.specs.Report.{report_lines}
use Rattle.plat_base.specs.Flat.{flat_value}
use Rattle.plat_base.specs.CopyWords.{copy_value, frame_value}
use Rattle.plat_base.specs.Canon.{canon}
use Rattle.plat_base.specs.Verdicts.{policy_answer}
use Rattle.plat_base.specs.declared.frames.Frame.{Frame}
use Rattle.plat_base.specs.declared.frames.State.{State}
use Rattle.plat_base.specs.declared.frames.State.TheVariants as state
use Rattle.plat_base.specs.declared.frames.Dir.{Dir}
use Rattle.plat_base.specs.declared.configs.Entry.{Entry}
use Rattle.plat_base.specs.declared.guests.Instr.{Instr}
use Rattle.plat_base.specs.declared.guests.Instr.TheVariants as instr
use Rattle.plat_base.specs.declared.guests.Label.{Label}
use Rattle.plat_base.specs.declared.items.Right.{Right}
use Rattle.plat_base.specs.declared.items.Right.TheVariants as right
use Rattle.plat_base.specs.declared.items.Kind.{Kind}
use Rattle.plat_base.specs.declared.items.Kind.TheVariants as kind
use Rattle.plat_base.specs.declared.items.Cause.{Cause}
use Rattle.plat_base.specs.declared.items.Cause.TheVariants as cause
use Rattle.plat_base.specs.declared.items.Action.{Action}
use Rattle.plat_base.specs.declared.items.Action.TheVariants as action
use Rattle.plat_base.specs.declared.items.Removed.{Removed}
use Rattle.plat_base.specs.declared.items.Removed.TheVariants as removed
use Rattle.plat_base.specs.declared.items.Message.{Message}
use Rattle.plat_base.specs.declared.items.Message.TheVariants as message
use Rattle.plat_base.specs.declared.items.Moment.{Moment}
use Rattle.plat_base.specs.declared.items.Moment.TheVariants as moment
use Rattle.plat_base.specs.declared.items.Grant.{Grant}
use Rattle.plat_base.specs.declared.items.Item.{Item}
use Rattle.plat_base.specs.declared.items.Item.TheVariants as item
use Rattle.plat_base.specs.declared.endings.End.{End}
use Rattle.plat_base.specs.declared.endings.End.TheVariants as end
use Rattle.plat_base.specs.declared.endings.Ended.{Ended}
use Rattle.plat_base.specs.declared.policies.PolicyKind.TheVariants as policy
use Rattle.plat_base.specs.declared.statuses.Bad.{Bad}
use Rattle.plat_base.specs.declared.statuses.Rule.{Rule}
use Rattle.plat_base.specs.declared.statuses.Rule.TheVariants as rule

-- ---- short forms of items, as the lines of a history text write them

abbrev frame : ℕ → ℕ → Frame
frame mo number = record { «module» = mo; number = number }

abbrev entry : ℕ → ℕ → ℕ → Entry
entry space vpage page = record { space = space; vpage = vpage; page = page }

abbrev label : List ℕ → ℕ → Label
label name at = record { name = name; at = at }

abbrev program : ℕ → List Instr → List Label → Program
program space code labels = record { space = space; code = code; labels = labels }

abbrev directory : State → Bool → List Frame → Dir
directory state frozen copies = record { state = state; frozen = frozen; copies = copies }

abbrev granted : (entry mo number : ℕ) → Right → Option Grant
granted entry mo number right = Some (record { entry = entry; frame = frame mo number; right = right })

abbrev access : ℕ → Kind → (space addr page word old new version mo number grant : ℕ) → Item
access actor kind space addr page word old new version mo number grant = item.Access (record {
  actor = actor;
  kind = kind;
  space = space;
  addr = addr;
  page = page;
  word = word;
  old = old;
  new = new;
  version = version;
  frame = frame mo number;
  grant = grant;
})

abbrev change : (actor page seq time : ℕ) → Cause → Action → Removed → Dir → Dir → Option Grant → Item
change actor page seq time cause action removed before after granted = item.Change (record {
  actor = actor;
  page = page;
  seq = seq;
  time = time;
  cause = cause;
  action = action;
  removed = removed;
  before = before;
  after = after;
  granted = granted;
})

abbrev applied : (actor entry : ℕ) → Message → Moment → Item
applied actor entry msg moment = item.Applied (record { actor = actor; entry = entry; message = msg; moment = moment })

abbrev switch : ℕ → ℕ → Item
switch actor space = item.Switch (record { actor = actor; space = space })

abbrev ended : End → ℕ → Ended
ended end turns = record { end = end; turns = turns }

abbrev bad : ℕ → Rule → Option Bad
bad item rule = Some (record { item = item; rule = rule })

-- ---- the smallest run: one guest stores, loads and prints

abbrev smallest : Machine
smallest = record {
  nodes = 1;
  frames = 1;
  words = 4;
  pages = 1;
  policy = policy.Place;
  budget = 10;
  schedule = robin;
  distances = [];
  entries = entry 0 0 0 ∷ [];
  inits = [];
  guests =
      program 0 (instr.Set 1 5 ∷ instr.Store 1 0 None ∷ instr.Load 2 0 None ∷ instr.Print 2 ∷ instr.Halt ∷ []) ([])
      ∷ [];
}

abbrev smallest_items : List Item
smallest_items =
    change 0 0 0 2 cause.Write action.Fill removed.Nothing (directory state.Empty false [])
    (directory state.Modified false (frame 0 0 ∷ [])) (granted 0 0 0 right.Write)
    ∷ access 0 kind.Store 0 0 0 0 0 5 1 0 0 0
    ∷ access 0 kind.Load 0 0 0 0 5 5 1 0 0 0
    ∷ []

abbrev smallest_ends : List Ended
smallest_ends = ended end.Halted 5 ∷ []

smallest-is_machine : is_machine smallest ≡ true
smallest-is_machine = refl

smallest-run : coarse_run smallest (policy_answer smallest.policy) ≡ record { history = smallest_items; ends = smallest_ends }
unfolding coarse_run
smallest-run = refl

pub smallest-good : first_bad smallest (policy_answer smallest.policy) smallest_items smallest_ends ≡ None
unfolding first_bad
smallest-good = refl

smallest-report : report_lines smallest smallest_items smallest_ends
    ≡ (codes "platinum" ∷ codes "report" ∷ codes "1" ∷ [])
    ∷ (codes "processor" ∷ decimal 0 ∷ codes "halted" ∷ decimal 5 ∷ [])
    ∷ (codes "print" ∷ decimal 0 ∷ decimal 5 ∷ [])
    ∷ (codes "word" ∷ decimal 0 ∷ decimal 0 ∷ decimal 5 ∷ [])
    ∷ (codes "access" ∷ decimal 0 ∷ codes "loads" ∷ decimal 1 ∷ codes "stores" ∷ decimal 1 ∷ codes "adds" ∷ decimal 0 ∷ codes "local"
    ∷ decimal 2 ∷ codes "remote" ∷ decimal 0 ∷ [])
    ∷ (codes "atc" ∷ decimal 0 ∷ codes "hits" ∷ decimal 1 ∷ codes "misses" ∷ decimal 1 ∷ [])
    ∷ (codes "changes" ∷ codes "fill" ∷ decimal 1 ∷ codes "maplocal" ∷ decimal 0 ∷ codes "mapremote" ∷ decimal 0 ∷ codes "replicate"
    ∷ decimal 0 ∷ codes "migrate" ∷ decimal 0 ∷ codes "collapse" ∷ decimal 0 ∷ codes "thaw" ∷ decimal 0 ∷ codes "freezes" ∷ decimal 0
    ∷ [])
    ∷ (codes "applied" ∷ codes "interrupt" ∷ decimal 0 ∷ codes "activation" ∷ decimal 0 ∷ [])
    ∷ (codes "items" ∷ decimal 3 ∷ [])
    ∷ []
unfolding digits
smallest-report = refl

-- ---- two processors read one page; the second maps it remotely

abbrev shared_read : Machine
shared_read = record {
  nodes = 2;
  frames = 4;
  words = 4;
  pages = 1;
  policy = policy.Place;
  budget = 100;
  schedule = listed (0 ∷ 0 ∷ 1 ∷ 1 ∷ 1 ∷ []);
  distances = [];
  entries = entry 0 0 0 ∷ [];
  inits = record { page = 0; word = 0; value = 9 } ∷ [];
  guests =
      program 0 (instr.Load 1 0 None ∷ instr.Halt ∷ []) ([])
      ∷ program 0 (instr.Load 1 0 None ∷ instr.Print 1 ∷ instr.Halt ∷ []) ([])
      ∷ [];
}

abbrev shared_read_items : List Item
shared_read_items =
    change 0 0 0 1 cause.Read action.Fill removed.Nothing (directory state.Empty false []) (directory state.Present1 false (frame 0 0 ∷ []))
    (granted 0 0 0 right.Read)
    ∷ access 0 kind.Load 0 0 0 0 9 9 0 0 0 0
    ∷ change 1 0 1 3 cause.Read action.MapRemote removed.Nothing (directory state.Present1 false (frame 0 0 ∷ []))
    (directory state.Present1 false (frame 0 0 ∷ [])) (granted 0 0 0 right.Read)
    ∷ access 1 kind.Load 0 0 0 0 9 9 0 0 0 1
    ∷ []

abbrev shared_read_ends : List Ended
shared_read_ends = ended end.Halted 2 ∷ ended end.Halted 3 ∷ []

shared_read-is_machine : is_machine shared_read ≡ true
shared_read-is_machine = refl

shared_read-run : coarse_run shared_read (policy_answer shared_read.policy)
    ≡ record { history = shared_read_items; ends = shared_read_ends }
unfolding coarse_run
shared_read-run = refl

shared_read-good : first_bad shared_read (policy_answer shared_read.policy) shared_read_items shared_read_ends ≡ None
unfolding first_bad
shared_read-good = refl

shared_read-report : report_lines shared_read shared_read_items shared_read_ends
    ≡ (codes "platinum" ∷ codes "report" ∷ codes "1" ∷ [])
    ∷ (codes "processor" ∷ decimal 0 ∷ codes "halted" ∷ decimal 2 ∷ [])
    ∷ (codes "processor" ∷ decimal 1 ∷ codes "halted" ∷ decimal 3 ∷ [])
    ∷ (codes "print" ∷ decimal 1 ∷ decimal 9 ∷ [])
    ∷ (codes "word" ∷ decimal 0 ∷ decimal 0 ∷ decimal 9 ∷ [])
    ∷ (codes "access" ∷ decimal 0 ∷ codes "loads" ∷ decimal 1 ∷ codes "stores" ∷ decimal 0 ∷ codes "adds" ∷ decimal 0 ∷ codes "local"
    ∷ decimal 1 ∷ codes "remote" ∷ decimal 0 ∷ [])
    ∷ (codes "atc" ∷ decimal 0 ∷ codes "hits" ∷ decimal 0 ∷ codes "misses" ∷ decimal 1 ∷ [])
    ∷ (codes "access" ∷ decimal 1 ∷ codes "loads" ∷ decimal 1 ∷ codes "stores" ∷ decimal 0 ∷ codes "adds" ∷ decimal 0 ∷ codes "local"
    ∷ decimal 0 ∷ codes "remote" ∷ decimal 1 ∷ [])
    ∷ (codes "atc" ∷ decimal 1 ∷ codes "hits" ∷ decimal 0 ∷ codes "misses" ∷ decimal 1 ∷ [])
    ∷ (codes "changes" ∷ codes "fill" ∷ decimal 1 ∷ codes "maplocal" ∷ decimal 0 ∷ codes "mapremote" ∷ decimal 1 ∷ codes "replicate"
    ∷ decimal 0 ∷ codes "migrate" ∷ decimal 0 ∷ codes "collapse" ∷ decimal 0 ∷ codes "thaw" ∷ decimal 0 ∷ codes "freezes" ∷ decimal 0
    ∷ [])
    ∷ (codes "applied" ∷ codes "interrupt" ∷ decimal 0 ∷ codes "activation" ∷ decimal 0 ∷ [])
    ∷ (codes "items" ∷ decimal 4 ∷ [])
    ∷ []
unfolding digits
shared_read-report = refl

-- ---- a page is replicated and then written: its copies collapse

abbrev shootdown : Machine
shootdown = record {
  nodes = 2;
  frames = 4;
  words = 4;
  pages = 1;
  policy = policy.Replicate;
  budget = 100;
  schedule = listed (0 ∷ 0 ∷ 1 ∷ 0 ∷ 0 ∷ 1 ∷ 1 ∷ 0 ∷ []);
  distances = [];
  entries = entry 0 0 0 ∷ [];
  inits = [];
  guests =
      program 0 (instr.Set 1 7 ∷ instr.Store 1 0 None ∷ instr.Set 1 8 ∷ instr.Store 1 0 None ∷ instr.Halt ∷ []) ([])
      ∷ program 0 (instr.Load 2 0 None ∷ instr.Print 2 ∷ instr.Halt ∷ []) ([])
      ∷ [];
}

abbrev shootdown_items : List Item
shootdown_items =
    change 0 0 0 2 cause.Write action.Fill removed.Nothing (directory state.Empty false [])
    (directory state.Modified false (frame 0 0 ∷ [])) (granted 0 0 0 right.Write)
    ∷ access 0 kind.Store 0 0 0 0 0 7 1 0 0 0
    ∷ applied 0 0 message.Restrict moment.Interrupt
    ∷ change 1 0 1 3 cause.Read action.Replicate removed.Writes (directory state.Modified false (frame 0 0 ∷ []))
    (directory state.PresentPlus false (frame 0 0 ∷ frame 1 0 ∷ [])) (granted 0 1 0 right.Read)
    ∷ access 1 kind.Load 0 0 0 0 7 7 1 1 0 1
    ∷ applied 1 0 message.Invalidate moment.Interrupt
    ∷ change 0 0 2 5 cause.Write action.Collapse removed.All (directory state.PresentPlus false (frame 0 0 ∷ frame 1 0 ∷ []))
    (directory state.Modified false (frame 0 0 ∷ [])) (granted 0 0 0 right.Write)
    ∷ access 0 kind.Store 0 0 0 0 7 8 2 0 0 2
    ∷ []

abbrev shootdown_ends : List Ended
shootdown_ends = ended end.Halted 5 ∷ ended end.Halted 3 ∷ []

shootdown-is_machine : is_machine shootdown ≡ true
shootdown-is_machine = refl

shootdown-run : coarse_run shootdown (policy_answer shootdown.policy) ≡ record { history = shootdown_items; ends = shootdown_ends }
unfolding coarse_run
shootdown-run = refl

shootdown-good : first_bad shootdown (policy_answer shootdown.policy) shootdown_items shootdown_ends ≡ None
unfolding first_bad
shootdown-good = refl

shootdown-report : report_lines shootdown shootdown_items shootdown_ends
    ≡ (codes "platinum" ∷ codes "report" ∷ codes "1" ∷ [])
    ∷ (codes "processor" ∷ decimal 0 ∷ codes "halted" ∷ decimal 5 ∷ [])
    ∷ (codes "processor" ∷ decimal 1 ∷ codes "halted" ∷ decimal 3 ∷ [])
    ∷ (codes "print" ∷ decimal 1 ∷ decimal 7 ∷ [])
    ∷ (codes "word" ∷ decimal 0 ∷ decimal 0 ∷ decimal 8 ∷ [])
    ∷ (codes "access" ∷ decimal 0 ∷ codes "loads" ∷ decimal 0 ∷ codes "stores" ∷ decimal 2 ∷ codes "adds" ∷ decimal 0 ∷ codes "local"
    ∷ decimal 2 ∷ codes "remote" ∷ decimal 0 ∷ [])
    ∷ (codes "atc" ∷ decimal 0 ∷ codes "hits" ∷ decimal 0 ∷ codes "misses" ∷ decimal 2 ∷ [])
    ∷ (codes "access" ∷ decimal 1 ∷ codes "loads" ∷ decimal 1 ∷ codes "stores" ∷ decimal 0 ∷ codes "adds" ∷ decimal 0 ∷ codes "local"
    ∷ decimal 1 ∷ codes "remote" ∷ decimal 0 ∷ [])
    ∷ (codes "atc" ∷ decimal 1 ∷ codes "hits" ∷ decimal 0 ∷ codes "misses" ∷ decimal 1 ∷ [])
    ∷ (codes "changes" ∷ codes "fill" ∷ decimal 1 ∷ codes "maplocal" ∷ decimal 0 ∷ codes "mapremote" ∷ decimal 0 ∷ codes "replicate"
    ∷ decimal 1 ∷ codes "migrate" ∷ decimal 0 ∷ codes "collapse" ∷ decimal 1 ∷ codes "thaw" ∷ decimal 0 ∷ codes "freezes" ∷ decimal 0
    ∷ [])
    ∷ (codes "applied" ∷ codes "interrupt" ∷ decimal 2 ∷ codes "activation" ∷ decimal 0 ∷ [])
    ∷ (codes "items" ∷ decimal 8 ∷ [])
    ∷ []
unfolding digits
shootdown-report = refl

-- ---- a page that is invalidated again soon is frozen

abbrev frozen : Machine
frozen = record {
  nodes = 2;
  frames = 4;
  words = 4;
  pages = 1;
  policy = policy.Platinum 10 64;
  budget = 100;
  schedule = robin;
  distances = [];
  entries = entry 0 0 0 ∷ [];
  inits = [];
  guests =
      program 0 (instr.Store 0 0 None ∷ instr.Store 0 0 None ∷ instr.Store 0 0 None ∷ instr.Halt ∷ []) ([])
      ∷ program 0 (instr.Store 0 0 None ∷ instr.Store 0 0 None ∷ instr.Halt ∷ []) ([])
      ∷ [];
}

abbrev frozen_items : List Item
frozen_items =
    change 0 0 0 1 cause.Write action.Fill removed.Nothing (directory state.Empty false [])
    (directory state.Modified false (frame 0 0 ∷ [])) (granted 0 0 0 right.Write)
    ∷ access 0 kind.Store 0 0 0 0 0 0 1 0 0 0
    ∷ applied 0 0 message.Invalidate moment.Interrupt
    ∷ change 1 0 1 2 cause.Write action.Migrate removed.All (directory state.Modified false (frame 0 0 ∷ []))
    (directory state.Modified false (frame 1 0 ∷ [])) (granted 0 1 0 right.Write)
    ∷ access 1 kind.Store 0 0 0 0 0 0 2 1 0 1
    ∷ change 0 0 2 3 cause.Write action.MapRemote removed.Nothing (directory state.Modified false (frame 1 0 ∷ []))
    (directory state.Modified true (frame 1 0 ∷ [])) (granted 0 1 0 right.Write)
    ∷ access 0 kind.Store 0 0 0 0 0 0 3 1 0 2
    ∷ access 1 kind.Store 0 0 0 0 0 0 4 1 0 1
    ∷ access 0 kind.Store 0 0 0 0 0 0 5 1 0 2
    ∷ []

abbrev frozen_ends : List Ended
frozen_ends = ended end.Halted 4 ∷ ended end.Halted 3 ∷ []

frozen-is_machine : is_machine frozen ≡ true
frozen-is_machine = refl

frozen-run : coarse_run frozen (policy_answer frozen.policy) ≡ record { history = frozen_items; ends = frozen_ends }
unfolding coarse_run
frozen-run = refl

frozen-good : first_bad frozen (policy_answer frozen.policy) frozen_items frozen_ends ≡ None
unfolding first_bad
frozen-good = refl

frozen-report : report_lines frozen frozen_items frozen_ends
    ≡ (codes "platinum" ∷ codes "report" ∷ codes "1" ∷ [])
    ∷ (codes "processor" ∷ decimal 0 ∷ codes "halted" ∷ decimal 4 ∷ [])
    ∷ (codes "processor" ∷ decimal 1 ∷ codes "halted" ∷ decimal 3 ∷ [])
    ∷ (codes "access" ∷ decimal 0 ∷ codes "loads" ∷ decimal 0 ∷ codes "stores" ∷ decimal 3 ∷ codes "adds" ∷ decimal 0 ∷ codes "local"
    ∷ decimal 1 ∷ codes "remote" ∷ decimal 2 ∷ [])
    ∷ (codes "atc" ∷ decimal 0 ∷ codes "hits" ∷ decimal 1 ∷ codes "misses" ∷ decimal 2 ∷ [])
    ∷ (codes "access" ∷ decimal 1 ∷ codes "loads" ∷ decimal 0 ∷ codes "stores" ∷ decimal 2 ∷ codes "adds" ∷ decimal 0 ∷ codes "local"
    ∷ decimal 2 ∷ codes "remote" ∷ decimal 0 ∷ [])
    ∷ (codes "atc" ∷ decimal 1 ∷ codes "hits" ∷ decimal 1 ∷ codes "misses" ∷ decimal 1 ∷ [])
    ∷ (codes "changes" ∷ codes "fill" ∷ decimal 1 ∷ codes "maplocal" ∷ decimal 0 ∷ codes "mapremote" ∷ decimal 1 ∷ codes "replicate"
    ∷ decimal 0 ∷ codes "migrate" ∷ decimal 1 ∷ codes "collapse" ∷ decimal 0 ∷ codes "thaw" ∷ decimal 0 ∷ codes "freezes" ∷ decimal 1
    ∷ [])
    ∷ (codes "applied" ∷ codes "interrupt" ∷ decimal 1 ∷ codes "activation" ∷ decimal 0 ∷ [])
    ∷ (codes "items" ∷ decimal 9 ∷ [])
    ∷ []
unfolding digits
frozen-report = refl

-- ---- a frozen page is thawed by the daemon

abbrev thawed : Machine
thawed = record {
  nodes = 2;
  frames = 4;
  words = 4;
  pages = 1;
  policy = policy.Platinum 10 64;
  budget = 100;
  schedule = robin;
  distances = [];
  entries = entry 0 0 0 ∷ [];
  inits = [];
  guests =
      program 0 (instr.Store 0 0 None ∷ instr.Store 0 0 None ∷ instr.Set 1 1 ∷ instr.Set 2 30 ∷ instr.Add 3 3 1 ∷ instr.Less 3 2 0
      ∷ instr.Load 4 0 None ∷ instr.Print 4 ∷ instr.Halt ∷ []) (label (codes "spin") 4 ∷ [])
      ∷ program 0 (instr.Store 0 0 None ∷ instr.Halt ∷ []) ([])
      ∷ [];
}

abbrev thawed_items : List Item
thawed_items =
    change 0 0 0 1 cause.Write action.Fill removed.Nothing (directory state.Empty false [])
    (directory state.Modified false (frame 0 0 ∷ [])) (granted 0 0 0 right.Write)
    ∷ access 0 kind.Store 0 0 0 0 0 0 1 0 0 0
    ∷ applied 0 0 message.Invalidate moment.Interrupt
    ∷ change 1 0 1 2 cause.Write action.Migrate removed.All (directory state.Modified false (frame 0 0 ∷ []))
    (directory state.Modified false (frame 1 0 ∷ [])) (granted 0 1 0 right.Write)
    ∷ access 1 kind.Store 0 0 0 0 0 0 2 1 0 1
    ∷ change 0 0 2 3 cause.Write action.MapRemote removed.Nothing (directory state.Modified false (frame 1 0 ∷ []))
    (directory state.Modified true (frame 1 0 ∷ [])) (granted 0 1 0 right.Write)
    ∷ access 0 kind.Store 0 0 0 0 0 0 3 1 0 2
    ∷ applied 0 0 message.Invalidate moment.Interrupt
    ∷ change 2 0 3 64 cause.Thaw action.Thaw removed.All (directory state.Modified true (frame 1 0 ∷ []))
    (directory state.Present1 false (frame 1 0 ∷ [])) None
    ∷ change 0 0 4 67 cause.Read action.Replicate removed.Nothing (directory state.Present1 false (frame 1 0 ∷ []))
    (directory state.PresentPlus false (frame 0 0 ∷ frame 1 0 ∷ [])) (granted 0 0 0 right.Read)
    ∷ access 0 kind.Load 0 0 0 0 0 0 3 0 0 4
    ∷ []

abbrev thawed_ends : List Ended
thawed_ends = ended end.Halted 67 ∷ ended end.Halted 2 ∷ []

thawed-is_machine : is_machine thawed ≡ true
thawed-is_machine = refl

thawed-run : coarse_run thawed (policy_answer thawed.policy) ≡ record { history = thawed_items; ends = thawed_ends }
unfolding coarse_run
thawed-run = refl

thawed-good : first_bad thawed (policy_answer thawed.policy) thawed_items thawed_ends ≡ None
unfolding first_bad
thawed-good = refl

thawed-report : report_lines thawed thawed_items thawed_ends
    ≡ (codes "platinum" ∷ codes "report" ∷ codes "1" ∷ [])
    ∷ (codes "processor" ∷ decimal 0 ∷ codes "halted" ∷ decimal 67 ∷ [])
    ∷ (codes "print" ∷ decimal 0 ∷ decimal 0 ∷ [])
    ∷ (codes "processor" ∷ decimal 1 ∷ codes "halted" ∷ decimal 2 ∷ [])
    ∷ (codes "access" ∷ decimal 0 ∷ codes "loads" ∷ decimal 1 ∷ codes "stores" ∷ decimal 2 ∷ codes "adds" ∷ decimal 0 ∷ codes "local"
    ∷ decimal 2 ∷ codes "remote" ∷ decimal 1 ∷ [])
    ∷ (codes "atc" ∷ decimal 0 ∷ codes "hits" ∷ decimal 0 ∷ codes "misses" ∷ decimal 3 ∷ [])
    ∷ (codes "access" ∷ decimal 1 ∷ codes "loads" ∷ decimal 0 ∷ codes "stores" ∷ decimal 1 ∷ codes "adds" ∷ decimal 0 ∷ codes "local"
    ∷ decimal 1 ∷ codes "remote" ∷ decimal 0 ∷ [])
    ∷ (codes "atc" ∷ decimal 1 ∷ codes "hits" ∷ decimal 0 ∷ codes "misses" ∷ decimal 1 ∷ [])
    ∷ (codes "changes" ∷ codes "fill" ∷ decimal 1 ∷ codes "maplocal" ∷ decimal 0 ∷ codes "mapremote" ∷ decimal 1 ∷ codes "replicate"
    ∷ decimal 1 ∷ codes "migrate" ∷ decimal 1 ∷ codes "collapse" ∷ decimal 0 ∷ codes "thaw" ∷ decimal 1 ∷ codes "freezes" ∷ decimal 1
    ∷ [])
    ∷ (codes "applied" ∷ codes "interrupt" ∷ decimal 2 ∷ codes "activation" ∷ decimal 0 ∷ [])
    ∷ (codes "items" ∷ decimal 11 ∷ [])
    ∷ []
unfolding digits
thawed-report = refl

-- ---- a message waits for a processor that is active in another space

abbrev inactive : Machine
inactive = record {
  nodes = 2;
  frames = 4;
  words = 4;
  pages = 1;
  policy = policy.Replicate;
  budget = 100;
  schedule = listed (1 ∷ 1 ∷ 0 ∷ 0 ∷ 1 ∷ 1 ∷ 1 ∷ []);
  distances = [];
  entries = entry 0 0 0 ∷ [];
  inits = [];
  guests =
      program 0 (instr.Set 1 4 ∷ instr.Store 1 0 None ∷ instr.Halt ∷ []) ([])
      ∷ program 0 (instr.Load 1 0 None ∷ instr.Switch 1 ∷ instr.Switch 0 ∷ instr.Load 1 0 None ∷ instr.Print 1 ∷ instr.Halt ∷ []) ([])
      ∷ [];
}

abbrev inactive_items : List Item
inactive_items =
    change 1 0 0 1 cause.Read action.Fill removed.Nothing (directory state.Empty false []) (directory state.Present1 false (frame 1 0 ∷ []))
    (granted 0 1 0 right.Read)
    ∷ access 1 kind.Load 0 0 0 0 0 0 0 1 0 0
    ∷ switch 1 1
    ∷ change 0 0 1 4 cause.Write action.Migrate removed.All (directory state.Present1 false (frame 1 0 ∷ []))
    (directory state.Modified false (frame 0 0 ∷ [])) (granted 0 0 0 right.Write)
    ∷ access 0 kind.Store 0 0 0 0 0 4 1 0 0 1
    ∷ switch 1 0
    ∷ applied 1 0 message.Invalidate moment.Activation
    ∷ applied 0 0 message.Restrict moment.Interrupt
    ∷ change 1 0 2 6 cause.Read action.Replicate removed.Writes (directory state.Modified false (frame 0 0 ∷ []))
    (directory state.PresentPlus false (frame 0 0 ∷ frame 1 0 ∷ [])) (granted 0 1 0 right.Read)
    ∷ access 1 kind.Load 0 0 0 0 4 4 1 1 0 2
    ∷ []

abbrev inactive_ends : List Ended
inactive_ends = ended end.Halted 3 ∷ ended end.Halted 6 ∷ []

inactive-is_machine : is_machine inactive ≡ true
inactive-is_machine = refl

inactive-run : coarse_run inactive (policy_answer inactive.policy) ≡ record { history = inactive_items; ends = inactive_ends }
unfolding coarse_run
inactive-run = refl

inactive-good : first_bad inactive (policy_answer inactive.policy) inactive_items inactive_ends ≡ None
unfolding first_bad
inactive-good = refl

inactive-report : report_lines inactive inactive_items inactive_ends
    ≡ (codes "platinum" ∷ codes "report" ∷ codes "1" ∷ [])
    ∷ (codes "processor" ∷ decimal 0 ∷ codes "halted" ∷ decimal 3 ∷ [])
    ∷ (codes "processor" ∷ decimal 1 ∷ codes "halted" ∷ decimal 6 ∷ [])
    ∷ (codes "print" ∷ decimal 1 ∷ decimal 4 ∷ [])
    ∷ (codes "word" ∷ decimal 0 ∷ decimal 0 ∷ decimal 4 ∷ [])
    ∷ (codes "access" ∷ decimal 0 ∷ codes "loads" ∷ decimal 0 ∷ codes "stores" ∷ decimal 1 ∷ codes "adds" ∷ decimal 0 ∷ codes "local"
    ∷ decimal 1 ∷ codes "remote" ∷ decimal 0 ∷ [])
    ∷ (codes "atc" ∷ decimal 0 ∷ codes "hits" ∷ decimal 0 ∷ codes "misses" ∷ decimal 1 ∷ [])
    ∷ (codes "access" ∷ decimal 1 ∷ codes "loads" ∷ decimal 2 ∷ codes "stores" ∷ decimal 0 ∷ codes "adds" ∷ decimal 0 ∷ codes "local"
    ∷ decimal 2 ∷ codes "remote" ∷ decimal 0 ∷ [])
    ∷ (codes "atc" ∷ decimal 1 ∷ codes "hits" ∷ decimal 0 ∷ codes "misses" ∷ decimal 2 ∷ [])
    ∷ (codes "changes" ∷ codes "fill" ∷ decimal 1 ∷ codes "maplocal" ∷ decimal 0 ∷ codes "mapremote" ∷ decimal 0 ∷ codes "replicate"
    ∷ decimal 1 ∷ codes "migrate" ∷ decimal 1 ∷ codes "collapse" ∷ decimal 0 ∷ codes "thaw" ∷ decimal 0 ∷ codes "freezes" ∷ decimal 0
    ∷ [])
    ∷ (codes "applied" ∷ codes "interrupt" ∷ decimal 1 ∷ codes "activation" ∷ decimal 1 ∷ [])
    ∷ (codes "items" ∷ decimal 10 ∷ [])
    ∷ []
unfolding digits
inactive-report = refl

smallest-canon : canon smallest
    ≡ (codes "platinum" ∷ codes "1" ∷ [])
    ∷ (codes "nodes" ∷ codes "1" ∷ [])
    ∷ (codes "frames" ∷ codes "1" ∷ [])
    ∷ (codes "words" ∷ codes "4" ∷ [])
    ∷ (codes "pages" ∷ codes "1" ∷ [])
    ∷ (codes "policy" ∷ codes "place" ∷ [])
    ∷ (codes "budget" ∷ codes "10" ∷ [])
    ∷ (codes "schedule" ∷ codes "robin" ∷ [])
    ∷ (codes "map" ∷ codes "0" ∷ codes "0" ∷ codes "0" ∷ [])
    ∷ (codes "guest" ∷ codes "0" ∷ [])
    ∷ (codes "set" ∷ codes "r1" ∷ codes "5" ∷ [])
    ∷ (codes "store" ∷ codes "r1" ∷ codes "0" ∷ [])
    ∷ (codes "load" ∷ codes "r2" ∷ codes "0" ∷ [])
    ∷ (codes "print" ∷ codes "r2" ∷ [])
    ∷ (codes "halt" ∷ [])
    ∷ (codes "end" ∷ [])
    ∷ []
unfolding digits
smallest-canon = refl

-- ---- each of these changes of the shootdown run breaks one rule

-- an access at another address
abbrev other_address_items : List Item
other_address_items =
    change 0 0 0 2 cause.Write action.Fill removed.Nothing (directory state.Empty false [])
    (directory state.Modified false (frame 0 0 ∷ [])) (granted 0 0 0 right.Write)
    ∷ access 0 kind.Store 0 0 0 0 0 7 1 0 0 0
    ∷ applied 0 0 message.Restrict moment.Interrupt
    ∷ change 1 0 1 3 cause.Read action.Replicate removed.Writes (directory state.Modified false (frame 0 0 ∷ []))
    (directory state.PresentPlus false (frame 0 0 ∷ frame 1 0 ∷ [])) (granted 0 1 0 right.Read)
    ∷ access 1 kind.Load 0 1 0 0 7 7 1 1 0 1
    ∷ applied 1 0 message.Invalidate moment.Interrupt
    ∷ change 0 0 2 5 cause.Write action.Collapse removed.All (directory state.PresentPlus false (frame 0 0 ∷ frame 1 0 ∷ []))
    (directory state.Modified false (frame 0 0 ∷ [])) (granted 0 0 0 right.Write)
    ∷ access 0 kind.Store 0 0 0 0 7 8 2 0 0 2
    ∷ []

other_address-judged : first_bad shootdown (policy_answer shootdown.policy) other_address_items shootdown_ends ≡ bad 4 rule.Order
unfolding first_bad
other_address-judged = refl

-- a load of another value
abbrev other_value_items : List Item
other_value_items =
    change 0 0 0 2 cause.Write action.Fill removed.Nothing (directory state.Empty false [])
    (directory state.Modified false (frame 0 0 ∷ [])) (granted 0 0 0 right.Write)
    ∷ access 0 kind.Store 0 0 0 0 0 7 1 0 0 0
    ∷ applied 0 0 message.Restrict moment.Interrupt
    ∷ change 1 0 1 3 cause.Read action.Replicate removed.Writes (directory state.Modified false (frame 0 0 ∷ []))
    (directory state.PresentPlus false (frame 0 0 ∷ frame 1 0 ∷ [])) (granted 0 1 0 right.Read)
    ∷ access 1 kind.Load 0 0 0 0 6 6 1 1 0 1
    ∷ applied 1 0 message.Invalidate moment.Interrupt
    ∷ change 0 0 2 5 cause.Write action.Collapse removed.All (directory state.PresentPlus false (frame 0 0 ∷ frame 1 0 ∷ []))
    (directory state.Modified false (frame 0 0 ∷ [])) (granted 0 0 0 right.Write)
    ∷ access 0 kind.Store 0 0 0 0 7 8 2 0 0 2
    ∷ []

other_value-judged : first_bad shootdown (policy_answer shootdown.policy) other_value_items shootdown_ends ≡ bad 4 rule.Legal
unfolding first_bad
other_value-judged = refl

-- a write of an older version
abbrev old_version_items : List Item
old_version_items =
    change 0 0 0 2 cause.Write action.Fill removed.Nothing (directory state.Empty false [])
    (directory state.Modified false (frame 0 0 ∷ [])) (granted 0 0 0 right.Write)
    ∷ access 0 kind.Store 0 0 0 0 0 7 1 0 0 0
    ∷ applied 0 0 message.Restrict moment.Interrupt
    ∷ change 1 0 1 3 cause.Read action.Replicate removed.Writes (directory state.Modified false (frame 0 0 ∷ []))
    (directory state.PresentPlus false (frame 0 0 ∷ frame 1 0 ∷ [])) (granted 0 1 0 right.Read)
    ∷ access 1 kind.Load 0 0 0 0 7 7 1 1 0 1
    ∷ applied 1 0 message.Invalidate moment.Interrupt
    ∷ change 0 0 2 5 cause.Write action.Collapse removed.All (directory state.PresentPlus false (frame 0 0 ∷ frame 1 0 ∷ []))
    (directory state.Modified false (frame 0 0 ∷ [])) (granted 0 0 0 right.Write)
    ∷ access 0 kind.Store 0 0 0 0 7 8 1 0 0 2
    ∷ []

old_version-judged : first_bad shootdown (policy_answer shootdown.policy) old_version_items shootdown_ends ≡ bad 7 rule.Legal
unfolding first_bad
old_version-judged = refl

-- an access before the messages that must follow it
abbrev moved_access_items : List Item
moved_access_items =
    change 0 0 0 2 cause.Write action.Fill removed.Nothing (directory state.Empty false [])
    (directory state.Modified false (frame 0 0 ∷ [])) (granted 0 0 0 right.Write)
    ∷ access 0 kind.Store 0 0 0 0 0 7 1 0 0 0
    ∷ applied 0 0 message.Restrict moment.Interrupt
    ∷ change 1 0 1 3 cause.Read action.Replicate removed.Writes (directory state.Modified false (frame 0 0 ∷ []))
    (directory state.PresentPlus false (frame 0 0 ∷ frame 1 0 ∷ [])) (granted 0 1 0 right.Read)
    ∷ applied 1 0 message.Invalidate moment.Interrupt
    ∷ change 0 0 2 5 cause.Write action.Collapse removed.All (directory state.PresentPlus false (frame 0 0 ∷ frame 1 0 ∷ []))
    (directory state.Modified false (frame 0 0 ∷ [])) (granted 0 0 0 right.Write)
    ∷ access 1 kind.Load 0 0 0 0 7 7 1 1 0 1
    ∷ access 0 kind.Store 0 0 0 0 7 8 2 0 0 2
    ∷ []

moved_access-judged : first_bad shootdown (policy_answer shootdown.policy) moved_access_items shootdown_ends ≡ bad 6 rule.Grant
unfolding first_bad
moved_access-judged = refl

-- a change that does not follow the last one
abbrev wrong_before_items : List Item
wrong_before_items =
    change 0 0 0 2 cause.Write action.Fill removed.Nothing (directory state.Empty false [])
    (directory state.Modified false (frame 0 0 ∷ [])) (granted 0 0 0 right.Write)
    ∷ access 0 kind.Store 0 0 0 0 0 7 1 0 0 0
    ∷ applied 0 0 message.Restrict moment.Interrupt
    ∷ change 1 0 1 3 cause.Read action.Replicate removed.Writes (directory state.PresentPlus false (frame 0 0 ∷ frame 1 0 ∷ []))
    (directory state.PresentPlus false (frame 0 0 ∷ frame 1 0 ∷ [])) (granted 0 1 0 right.Read)
    ∷ access 1 kind.Load 0 0 0 0 7 7 1 1 0 1
    ∷ applied 1 0 message.Invalidate moment.Interrupt
    ∷ change 0 0 2 5 cause.Write action.Collapse removed.All (directory state.PresentPlus false (frame 0 0 ∷ frame 1 0 ∷ []))
    (directory state.Modified false (frame 0 0 ∷ [])) (granted 0 0 0 right.Write)
    ∷ access 0 kind.Store 0 0 0 0 7 8 2 0 0 2
    ∷ []

wrong_before-judged : first_bad shootdown (policy_answer shootdown.policy) wrong_before_items shootdown_ends ≡ bad 3 rule.Chain
unfolding first_bad
wrong_before-judged = refl

-- a message given twice
abbrev message_twice_items : List Item
message_twice_items =
    change 0 0 0 2 cause.Write action.Fill removed.Nothing (directory state.Empty false [])
    (directory state.Modified false (frame 0 0 ∷ [])) (granted 0 0 0 right.Write)
    ∷ access 0 kind.Store 0 0 0 0 0 7 1 0 0 0
    ∷ applied 0 0 message.Restrict moment.Interrupt
    ∷ change 1 0 1 3 cause.Read action.Replicate removed.Writes (directory state.Modified false (frame 0 0 ∷ []))
    (directory state.PresentPlus false (frame 0 0 ∷ frame 1 0 ∷ [])) (granted 0 1 0 right.Read)
    ∷ access 1 kind.Load 0 0 0 0 7 7 1 1 0 1
    ∷ applied 1 0 message.Invalidate moment.Interrupt
    ∷ applied 1 0 message.Invalidate moment.Interrupt
    ∷ change 0 0 2 5 cause.Write action.Collapse removed.All (directory state.PresentPlus false (frame 0 0 ∷ frame 1 0 ∷ []))
    (directory state.Modified false (frame 0 0 ∷ [])) (granted 0 0 0 right.Write)
    ∷ access 0 kind.Store 0 0 0 0 7 8 2 0 0 2
    ∷ []

message_twice-judged : first_bad shootdown (policy_answer shootdown.policy) message_twice_items shootdown_ends ≡ bad 6 rule.Held
unfolding first_bad
message_twice-judged = refl

-- an end with fewer turns

short_end-judged : first_bad shootdown (policy_answer shootdown.policy) shootdown_items (ended end.Halted 5 ∷ ended end.Halted 2 ∷ [])
    ≡ bad 8 rule.Ends
unfolding first_bad
short_end-judged = refl

-- ---- the words of copies

-- a fill puts the starting values into its frame, and a remote mapping nothing
shared_read-words :
    (copy_value shared_read shared_read_items 0 0 (frame 0 0) ≡ 9) × (copy_value shared_read shared_read_items 0 1 (frame 0 0) ≡ 0)
    × (copy_value shared_read shared_read_items 0 0 (frame 1 0) ≡ 0)
shared_read-words = (refl, refl, refl)

-- a frame that was a copy keeps its old word, while the copy that is left is written
shootdown-words :
    (copy_value shootdown shootdown_items 0 0 (frame 0 0) ≡ 8) × (copy_value shootdown shootdown_items 0 0 (frame 1 0) ≡ 7)
    × (flat_value shootdown shootdown_items 0 0 ≡ 8)
shootdown-words = (refl, refl, refl)

-- a migration copies the word before the page is written
inactive-words :
    (copy_value shared_read (take 4 inactive_items) 0 0 (frame 0 0) ≡ 9)
    × (copy_value shared_read (take 5 inactive_items) 0 0 (frame 0 0) ≡ 4)
    × (copy_value shared_read (take 5 inactive_items) 0 0 (frame 1 0) ≡ 9)
inactive-words = (refl, refl, refl)

-- where copies differ, as in no good history, it is the nearest one that is copied
abbrev three_nodes : Machine
three_nodes = record smallest {
  nodes = 3;
  distances = record { a = 2; b = 0; d = 3 } ∷ record { a = 2; b = 1; d = 2 } ∷ [];
}

abbrev differing_items : List Item
differing_items =
    change 0 0 0 1 cause.Read action.Fill removed.Nothing (directory state.Empty false []) (directory state.Present1 false (frame 0 0 ∷ []))
    (granted 0 0 0 right.Read)
    ∷ change 1 0 1 2 cause.Read action.Replicate removed.Nothing (directory state.Present1 false (frame 0 0 ∷ []))
    (directory state.PresentPlus false (frame 0 0 ∷ frame 1 0 ∷ [])) (granted 0 1 0 right.Read)
    ∷ access 1 kind.Store 0 0 0 0 0 5 1 1 0 1
    ∷ change 2 0 2 3 cause.Read action.Replicate removed.Nothing (directory state.PresentPlus false (frame 0 0 ∷ frame 1 0 ∷ []))
    (directory state.PresentPlus false (frame 0 0 ∷ frame 1 0 ∷ frame 2 0 ∷ [])) (granted 0 2 0 right.Read)
    ∷ []

differing-words :
    (copy_value three_nodes differing_items 0 0 (frame 0 0) ≡ 0) × (copy_value three_nodes differing_items 0 0 (frame 1 0) ≡ 5)
    × (copy_value three_nodes differing_items 0 0 (frame 2 0) ≡ 5)
differing-words = (refl, refl, refl)

-- a frame has one word at a time, whichever page it is a copy of
abbrev shared_frame_items : List Item
shared_frame_items =
    change 0 0 0 1 cause.Read action.Fill removed.Nothing (directory state.Empty false []) (directory state.Present1 false (frame 0 0 ∷ []))
    (granted 0 0 0 right.Read)
    ∷ change 0 1 0 2 cause.Read action.Fill removed.Nothing (directory state.Empty false [])
    (directory state.Present1 false (frame 0 0 ∷ [])) (granted 0 0 0 right.Read)
    ∷ []

shared_frame-words :
    (frame_value shared_read (take 1 shared_frame_items) 0 (frame 0 0) ≡ 9) × (frame_value shared_read shared_frame_items 0 (frame 0 0) ≡ 0)
    × (copy_value shared_read shared_frame_items 0 0 (frame 0 0) ≡ 9) × (frame_value shootdown shootdown_items 0 (frame 1 0) ≡ 7)
shared_frame-words = (refl, refl, refl, refl)
