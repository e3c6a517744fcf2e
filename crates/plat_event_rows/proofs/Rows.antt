-- worked runs of single operations, computed: the words at the start and at the end, the items, the ends, and that each
-- history is good
use Rattle.std.specs.Prelude.{◌≡◌, ℕ, Bool, false, List, [], ◌∷◌, Option, Some, None, refl}
use Rattle.plat_base.specs.Verdicts.{policy_answer}
use Rattle.plat_base.specs.declared.frames.Frame.{Frame}
use Rattle.plat_base.specs.declared.frames.State.{State}
use Rattle.plat_base.specs.declared.frames.State.TheVariants as state
use Rattle.plat_base.specs.declared.frames.Dir.{Dir}
use Rattle.plat_base.specs.declared.configs.Entry.{Entry}
use Rattle.plat_base.specs.declared.guests.Instr.{Instr}
use Rattle.plat_base.specs.declared.guests.Instr.TheVariants as instr
use Rattle.plat_base.specs.declared.guests.Label.{Label}
use Rattle.plat_base.specs.declared.items.Right.{Right}
use Rattle.plat_base.specs.declared.items.Right.TheVariants as right
use Rattle.plat_base.specs.declared.items.Kind.{Kind}
use Rattle.plat_base.specs.declared.items.Kind.TheVariants as kind
use Rattle.plat_base.specs.declared.items.Cause.{Cause}
use Rattle.plat_base.specs.declared.items.Cause.TheVariants as cause
use Rattle.plat_base.specs.declared.items.Action.{Action}
use Rattle.plat_base.specs.declared.items.Action.TheVariants as action
use Rattle.plat_base.specs.declared.items.Removed.{Removed}
use Rattle.plat_base.specs.declared.items.Removed.TheVariants as removed
use Rattle.plat_base.specs.declared.items.Message.{Message}
use Rattle.plat_base.specs.declared.items.Message.TheVariants as message
use Rattle.plat_base.specs.declared.items.Moment.{Moment}
use Rattle.plat_base.specs.declared.items.Moment.TheVariants as moment
use Rattle.plat_base.specs.declared.items.Grant.{Grant}
use Rattle.plat_base.specs.declared.items.Item.{Item}
use Rattle.plat_base.specs.declared.items.Item.TheVariants as item
use Rattle.plat_base.specs.declared.endings.End.{End}
use Rattle.plat_base.specs.declared.endings.End.TheVariants as end
use Rattle.plat_base.specs.declared.endings.Ended.{Ended}
use Rattle.plat_base.specs.declared.policies.PolicyKind.TheVariants as policy
use Rattle.plat_base.specs.Machine.{Machine, Program, robin, listed}
use Rattle.plat_base.specs.Rules.{first_bad}
use Rattle.plat_events.specs.Words.{dir_word, copies_read, mask_word, lowest_free}
use Rattle.plat_events.specs.Places.{first_words}
use Rattle.plat_events.specs.Events.{next_of, after, item_of}
use Rattle.plat_events.specs.Runs.{run, ends_of, live_actors, scheduled_events}

-- ---- short forms of items, as the lines of a history text write them

abbrev frame : ℕ → ℕ → Frame
frame mo number = record { «module» = mo; number = number }

abbrev entry : ℕ → ℕ → ℕ → Entry
entry space vpage page = record { space = space; vpage = vpage; page = page }

abbrev label : List ℕ → ℕ → Label
label name at = record { name = name; at = at }

abbrev program : ℕ → List Instr → List Label → Program
program space code labels = record { space = space; code = code; labels = labels }

abbrev directory : State → Bool → List Frame → Dir
directory state frozen copies = record { state = state; frozen = frozen; copies = copies }

abbrev granted : (entry mo number : ℕ) → Right → Option Grant
granted entry mo number right = Some (record { entry = entry; frame = frame mo number; right = right })

abbrev access : ℕ → Kind → (space addr page word old new version mo number grant : ℕ) → Item
access actor kind space addr page word old new version mo number grant = item.Access (record {
  actor = actor;
  kind = kind;
  space = space;
  addr = addr;
  page = page;
  word = word;
  old = old;
  new = new;
  version = version;
  frame = frame mo number;
  grant = grant;
})

abbrev change : (actor page seq time : ℕ) → Cause → Action → Removed → Dir → Dir → Option Grant → Item
change actor page seq time cause action removed before after granted = item.Change (record {
  actor = actor;
  page = page;
  seq = seq;
  time = time;
  cause = cause;
  action = action;
  removed = removed;
  before = before;
  after = after;
  granted = granted;
})

abbrev applied : (actor entry : ℕ) → Message → Moment → Item
applied actor entry msg moment = item.Applied (record { actor = actor; entry = entry; message = msg; moment = moment })

abbrev switch : ℕ → ℕ → Item
switch actor space = item.Switch (record { actor = actor; space = space })

abbrev ended : End → ℕ → Ended
ended end turns = record { end = end; turns = turns }

-- ---- a switch to the space that is active already: its entry is looked at

abbrev switching : Machine
switching = record {
  nodes = 1;
  frames = 1;
  words = 4;
  pages = 1;
  policy = policy.Place;
  budget = 10;
  schedule = robin;
  distances = [];
  entries = entry 0 0 0 ∷ [];
  inits = [];
  guests = program 0 (instr.Switch 0 ∷ instr.Print 0 ∷ instr.Halt ∷ []) [] ∷ [];
}

abbrev switching_actors : List ℕ
switching_actors =
    0 ∷ 0 ∷ 0 ∷ 0 ∷ 0 ∷ 0 ∷ 0 ∷ 0 ∷ 0 ∷ 0 ∷ []

abbrev switching_items : List Item
switching_items =
    switch 0 0
    ∷ []

abbrev switching_words : List ℕ
switching_words =
    3 ∷ 0 ∷ 0 ∷ 0 ∷ 0 ∷ 0 ∷ 0 ∷ 1 ∷ 0 ∷ 0 ∷ 0 ∷ 0 ∷ []

switching-first : first_words switching ≡
    0 ∷ 1 ∷ 1 ∷ 0 ∷ 0 ∷ 0 ∷ 0 ∷ 1 ∷ 0 ∷ 0 ∷ 0 ∷ 0 ∷ []
switching-first = refl

switching-items : (run switching (policy_answer switching.policy) switching_actors).history ≡ switching_items
unfolding run next_of item_of after dir_word copies_read mask_word lowest_free
switching-items = refl

switching-words : (run switching (policy_answer switching.policy) switching_actors).words ≡ switching_words
unfolding run next_of item_of after dir_word copies_read mask_word lowest_free
switching-words = refl

switching-ends : ends_of switching (run switching (policy_answer switching.policy) switching_actors).privates ≡ ended end.Halted 3 ∷ []
unfolding run next_of item_of after dir_word copies_read mask_word lowest_free
switching-ends = refl

switching-good : first_bad switching (policy_answer switching.policy) switching_items (ended end.Halted 3 ∷ []) ≡ None
unfolding first_bad
switching-good = refl

-- the schedule chooses the same actors, and then nobody is left
switching-scheduled : (scheduled_events switching (policy_answer switching.policy) 10).fine.history ≡ switching_items
unfolding next_of item_of after dir_word copies_read mask_word lowest_free
switching-scheduled = refl

switching-over : live_actors (scheduled_events switching (policy_answer switching.policy) 10).fine.privates ≡ []
unfolding next_of item_of after dir_word copies_read mask_word lowest_free
switching-over = refl

-- ---- one guest stores, loads and prints

abbrev smallest : Machine
smallest = record {
  nodes = 1;
  frames = 1;
  words = 4;
  pages = 1;
  policy = policy.Place;
  budget = 10;
  schedule = robin;
  distances = [];
  entries = entry 0 0 0 ∷ [];
  inits = [];
  guests = program 0 (instr.Set 1 5 ∷ instr.Store 1 0 None ∷ instr.Load 2 0 None ∷ instr.Print 2 ∷ instr.Halt ∷ []) [] ∷ [];
}

abbrev smallest_actors : List ℕ
smallest_actors =
    0 ∷ 0 ∷ 0 ∷ 0 ∷ 0 ∷ 0 ∷ 0 ∷ 0 ∷ 0 ∷ 0 ∷ 0 ∷ 0 ∷ 0 ∷ 0 ∷ 0 ∷ 0 ∷ 0 ∷ 0 ∷ 0 ∷ 0 ∷ 0 ∷ 0 ∷ 0 ∷ 0 ∷ 0 ∷ 0 ∷ []

abbrev smallest_items : List Item
smallest_items =
    change 0 0 0 2 cause.Write action.Fill removed.Nothing (directory state.Empty false [])
    (directory state.Modified false (frame 0 0 ∷ [])) (granted 0 0 0 right.Write)
    ∷ access 0 kind.Store 0 0 0 0 0 5 1 0 0 0
    ∷ access 0 kind.Load 0 0 0 0 5 5 1 0 0 0
    ∷ []

abbrev smallest_words : List ℕ
smallest_words =
    5 ∷ 0 ∷ 0 ∷ 0 ∷ 259 ∷ 4294967296 ∷ 1 ∷ 0 ∷ 4294967301 ∷ 0 ∷ 0 ∷ 0 ∷ []

smallest-first : first_words smallest ≡
    0 ∷ 1 ∷ 1 ∷ 0 ∷ 0 ∷ 0 ∷ 0 ∷ 1 ∷ 0 ∷ 0 ∷ 0 ∷ 0 ∷ []
smallest-first = refl

smallest-items : (run smallest (policy_answer smallest.policy) smallest_actors).history ≡ smallest_items
unfolding run next_of item_of after dir_word copies_read mask_word lowest_free
smallest-items = refl

smallest-words : (run smallest (policy_answer smallest.policy) smallest_actors).words ≡ smallest_words
unfolding run next_of item_of after dir_word copies_read mask_word lowest_free
smallest-words = refl

smallest-ends : ends_of smallest (run smallest (policy_answer smallest.policy) smallest_actors).privates ≡ ended end.Halted 5 ∷ []
unfolding run next_of item_of after dir_word copies_read mask_word lowest_free
smallest-ends = refl

smallest-good : first_bad smallest (policy_answer smallest.policy) smallest_items (ended end.Halted 5 ∷ []) ≡ None
unfolding first_bad
smallest-good = refl

-- the schedule chooses the same actors, and then nobody is left
smallest-scheduled : (scheduled_events smallest (policy_answer smallest.policy) 26).fine.history ≡ smallest_items
unfolding next_of item_of after dir_word copies_read mask_word lowest_free
smallest-scheduled = refl

smallest-over : live_actors (scheduled_events smallest (policy_answer smallest.policy) 26).fine.privates ≡ []
unfolding next_of item_of after dir_word copies_read mask_word lowest_free
smallest-over = refl

-- ---- processor 0 runs to its end, and then processor 1

abbrev one_by_one : Machine
one_by_one = record {
  nodes = 2;
  frames = 4;
  words = 4;
  pages = 2;
  policy = policy.Replicate;
  budget = 100;
  schedule = listed (0 ∷ 0 ∷ 0 ∷ 0 ∷ 0 ∷ 0 ∷ 0 ∷ 0 ∷ 0 ∷ 0 ∷ 0 ∷ 0 ∷ 0 ∷ 0 ∷ 0 ∷ 0 ∷ 0 ∷ 0 ∷ 0 ∷ 0 ∷ 0 ∷ 0 ∷ 0 ∷ 0 ∷ 0 ∷ 0 ∷ 0 ∷ 0 ∷ 0 ∷ 0
      ∷ 0 ∷ 0 ∷ 0 ∷ 0 ∷ 0 ∷ 0 ∷ 0 ∷ 0 ∷ 0 ∷ 0 ∷ 0 ∷ 0 ∷ 0 ∷ 0 ∷ 0 ∷ 0 ∷ 0 ∷ 0 ∷ 0 ∷ 0 ∷ 0 ∷ 0 ∷ 0 ∷ 0 ∷ 0 ∷ 0 ∷ 0 ∷ 0 ∷ 0 ∷ 0 ∷ 0 ∷ 0 ∷ 0
      ∷ 0
      ∷ []);
  distances = [];
  entries = entry 0 0 0 ∷ entry 0 1 1 ∷ [];
  inits = [];
  guests = program 0 (instr.Set 1 1 ∷ instr.Store 1 0 None ∷ instr.Load 2 4 None ∷ instr.Print 2 ∷ instr.Halt ∷ []) []
      ∷ program 0 (instr.Set 1 1 ∷ instr.Store 1 4 None ∷ instr.Load 2 0 None ∷ instr.Print 2 ∷ instr.Halt ∷ []) [] ∷ [];
}

abbrev one_by_one_actors : List ℕ
one_by_one_actors =
    0 ∷ 0 ∷ 0 ∷ 0 ∷ 0 ∷ 0 ∷ 0 ∷ 0 ∷ 0 ∷ 0 ∷ 0 ∷ 0 ∷ 0 ∷ 0 ∷ 0 ∷ 0 ∷ 0 ∷ 0 ∷ 0 ∷ 0 ∷ 0 ∷ 0 ∷ 0 ∷ 0 ∷ 0 ∷ 0 ∷ 0 ∷ 0 ∷ 0 ∷ 0 ∷ 0 ∷ 0 ∷
    0 ∷ 0 ∷ 0 ∷ 0 ∷ 0 ∷ 1 ∷ 1 ∷ 1 ∷ 1 ∷ 1 ∷ 1 ∷ 1 ∷ 1 ∷ 1 ∷ 1 ∷ 1 ∷ 1 ∷ 1 ∷ 1 ∷ 1 ∷ 1 ∷ 1 ∷ 1 ∷ 1 ∷ 1 ∷ 1 ∷ 1 ∷ 1 ∷ 1 ∷ 1 ∷ 1 ∷ 1 ∷
    1 ∷ 1 ∷ 1 ∷ 1 ∷ 1 ∷ 1 ∷ 1 ∷ 1 ∷ 1 ∷ 1 ∷ 1 ∷ 1 ∷ 1 ∷ 1 ∷ 1 ∷ 1 ∷ 1 ∷ 1 ∷ 1 ∷ 1 ∷ 1 ∷ 1 ∷ 1 ∷ 1 ∷ 1 ∷ []

abbrev one_by_one_items : List Item
one_by_one_items =
    change 0 0 0 2 cause.Write action.Fill removed.Nothing (directory state.Empty false [])
    (directory state.Modified false (frame 0 0 ∷ [])) (granted 0 0 0 right.Write)
    ∷ access 0 kind.Store 0 0 0 0 0 1 1 0 0 0
    ∷ change 0 1 0 3 cause.Read action.Fill removed.Nothing (directory state.Empty false [])
    (directory state.Present1 false (frame 0 1 ∷ [])) (granted 1 0 1 right.Read)
    ∷ access 0 kind.Load 0 4 1 0 0 0 0 0 1 0
    ∷ change 1 1 1 7 cause.Write action.Migrate removed.All (directory state.Present1 false (frame 0 1 ∷ []))
    (directory state.Modified false (frame 1 0 ∷ [])) (granted 1 1 0 right.Write)
    ∷ access 1 kind.Store 0 4 1 0 0 1 1 1 0 1
    ∷ change 1 0 1 8 cause.Read action.Replicate removed.Writes (directory state.Modified false (frame 0 0 ∷ []))
    (directory state.PresentPlus false (frame 0 0 ∷ frame 1 1 ∷ [])) (granted 0 1 1 right.Read)
    ∷ access 1 kind.Load 0 0 0 0 1 1 1 1 1 1
    ∷ []

abbrev one_by_one_words : List ℕ
one_by_one_words =
    10 ∷ 0 ∷ 0 ∷ 0 ∷ 0 ∷ 0 ∷ 4195074 ∷ 515 ∷ 8589934592 ∷ 8589934600 ∷ 65539 ∷ 259 ∷ 14 ∷ 12 ∷ 4294967297 ∷ 0 ∷ 0 ∷ 0 ∷ 0 ∷ 0 ∷ 0 ∷
    0 ∷ 0 ∷ 0 ∷ 0 ∷ 0 ∷ 0 ∷ 0 ∷ 0 ∷ 0 ∷ 4294967297 ∷ 0 ∷ 0 ∷ 0 ∷ 4294967297 ∷ 0 ∷ 0 ∷ 0 ∷ 0 ∷ 0 ∷ 0 ∷ 0 ∷ 0 ∷ 0 ∷ 0 ∷ 0 ∷ []

one_by_one-first : first_words one_by_one ≡
    0 ∷ 2 ∷ 1 ∷ 1 ∷ 0 ∷ 0 ∷ 0 ∷ 0 ∷ 0 ∷ 0 ∷ 0 ∷ 0 ∷ 15 ∷ 15 ∷ 0 ∷ 0 ∷ 0 ∷ 0 ∷ 0 ∷ 0 ∷ 0 ∷ 0 ∷ 0 ∷ 0 ∷ 0 ∷ 0 ∷ 0 ∷ 0 ∷ 0 ∷ 0 ∷ 0 ∷
    0 ∷ 0 ∷ 0 ∷ 0 ∷ 0 ∷ 0 ∷ 0 ∷ 0 ∷ 0 ∷ 0 ∷ 0 ∷ 0 ∷ 0 ∷ 0 ∷ 0 ∷ []
one_by_one-first = refl

one_by_one-items : (run one_by_one (policy_answer one_by_one.policy) one_by_one_actors).history ≡ one_by_one_items
unfolding run next_of item_of after dir_word copies_read mask_word lowest_free
one_by_one-items = refl

one_by_one-words : (run one_by_one (policy_answer one_by_one.policy) one_by_one_actors).words ≡ one_by_one_words
unfolding run next_of item_of after dir_word copies_read mask_word lowest_free
one_by_one-words = refl

one_by_one-ends : ends_of one_by_one (run one_by_one (policy_answer one_by_one.policy) one_by_one_actors).privates
    ≡ ended end.Halted 5 ∷ ended end.Halted 5 ∷ []
unfolding run next_of item_of after dir_word copies_read mask_word lowest_free
one_by_one-ends = refl

one_by_one-good : first_bad one_by_one (policy_answer one_by_one.policy) one_by_one_items (ended end.Halted 5 ∷ ended end.Halted 5 ∷ [])
    ≡ None
unfolding first_bad
one_by_one-good = refl

-- the schedule chooses the same actors, and then nobody is left
one_by_one-scheduled : (scheduled_events one_by_one (policy_answer one_by_one.policy) 89).fine.history ≡ one_by_one_items
unfolding next_of item_of after dir_word copies_read mask_word lowest_free
one_by_one-scheduled = refl

one_by_one-over : live_actors (scheduled_events one_by_one (policy_answer one_by_one.policy) 89).fine.privates ≡ []
unfolding next_of item_of after dir_word copies_read mask_word lowest_free
one_by_one-over = refl

-- ---- two shootdowns that wait for each other: each initiator polls while it waits, and applies the other one's message

abbrev crossing : Machine
crossing = record {
  nodes = 2;
  frames = 4;
  words = 4;
  pages = 2;
  policy = policy.Replicate;
  budget = 100;
  schedule = robin;
  distances = [];
  entries = entry 0 0 0 ∷ entry 0 1 1 ∷ [];
  inits = [];
  guests = program 0 (instr.Set 1 1 ∷ instr.Store 1 0 None ∷ instr.Load 2 4 None ∷ instr.Print 2 ∷ instr.Halt ∷ []) []
      ∷ program 0 (instr.Set 1 1 ∷ instr.Store 1 4 None ∷ instr.Load 2 0 None ∷ instr.Print 2 ∷ instr.Halt ∷ []) [] ∷ [];
}

abbrev crossing_actors : List ℕ
crossing_actors =
    0 ∷ 1 ∷ 0 ∷ 1 ∷ 0 ∷ 1 ∷ 0 ∷ 1 ∷ 0 ∷ 1 ∷ 0 ∷ 1 ∷ 0 ∷ 1 ∷ 0 ∷ 1 ∷ 0 ∷ 1 ∷ 0 ∷ 1 ∷ 0 ∷ 1 ∷ 0 ∷ 1 ∷ 0 ∷ 1 ∷ 0 ∷ 1 ∷ 0 ∷ 1 ∷ 0 ∷ 1 ∷
    0 ∷ 1 ∷ 0 ∷ 1 ∷ 0 ∷ 1 ∷ 0 ∷ 1 ∷ 0 ∷ 1 ∷ 0 ∷ 1 ∷ 0 ∷ 1 ∷ 0 ∷ 1 ∷ 0 ∷ 1 ∷ 0 ∷ 1 ∷ 0 ∷ 1 ∷ 0 ∷ 1 ∷ 0 ∷ 1 ∷ 0 ∷ 1 ∷ 0 ∷ 1 ∷ 0 ∷ 1 ∷
    0 ∷ 1 ∷ 0 ∷ 1 ∷ 0 ∷ 1 ∷ 0 ∷ 1 ∷ 0 ∷ 1 ∷ 0 ∷ 1 ∷ 0 ∷ 1 ∷ 0 ∷ 1 ∷ 0 ∷ 1 ∷ 0 ∷ 1 ∷ 0 ∷ 1 ∷ 0 ∷ 1 ∷ 0 ∷ 1 ∷ 0 ∷ 1 ∷ 0 ∷ 1 ∷ 0 ∷ 1 ∷
    0 ∷ 1 ∷ 0 ∷ 1 ∷ 0 ∷ 1 ∷ 0 ∷ 1 ∷ []

abbrev crossing_items : List Item
crossing_items =
    change 0 0 0 3 cause.Write action.Fill removed.Nothing (directory state.Empty false [])
    (directory state.Modified false (frame 0 0 ∷ [])) (granted 0 0 0 right.Write)
    ∷ change 1 1 0 4 cause.Write action.Fill removed.Nothing (directory state.Empty false [])
    (directory state.Modified false (frame 1 0 ∷ [])) (granted 1 1 0 right.Write)
    ∷ access 0 kind.Store 0 0 0 0 0 1 1 0 0 0
    ∷ access 1 kind.Store 0 4 1 0 0 1 1 1 0 0
    ∷ applied 0 0 message.Restrict moment.Interrupt
    ∷ applied 1 1 message.Restrict moment.Interrupt
    ∷ change 0 1 1 5 cause.Read action.Replicate removed.Writes (directory state.Modified false (frame 1 0 ∷ []))
    (directory state.PresentPlus false (frame 0 1 ∷ frame 1 0 ∷ [])) (granted 1 0 1 right.Read)
    ∷ change 1 0 1 6 cause.Read action.Replicate removed.Writes (directory state.Modified false (frame 0 0 ∷ []))
    (directory state.PresentPlus false (frame 0 0 ∷ frame 1 1 ∷ [])) (granted 0 1 1 right.Read)
    ∷ access 0 kind.Load 0 4 1 0 1 1 1 0 1 1
    ∷ access 1 kind.Load 0 0 0 0 1 1 1 1 1 1
    ∷ []

abbrev crossing_words : List ℕ
crossing_words =
    10 ∷ 0 ∷ 0 ∷ 0 ∷ 0 ∷ 0 ∷ 4195074 ∷ 66306 ∷ 8589934592 ∷ 8589934592 ∷ 3 ∷ 3 ∷ 12 ∷ 12 ∷ 4294967297 ∷ 0 ∷ 0 ∷ 0 ∷ 4294967297 ∷
    0 ∷ 0 ∷ 0 ∷ 0 ∷ 0 ∷ 0 ∷ 0 ∷ 0 ∷ 0 ∷ 0 ∷ 0 ∷ 4294967297 ∷ 0 ∷ 0 ∷ 0 ∷ 4294967297 ∷ 0 ∷ 0 ∷ 0 ∷ 0 ∷ 0 ∷ 0 ∷ 0 ∷ 0 ∷ 0 ∷ 0 ∷ 0 ∷ []

crossing-first : first_words crossing ≡
    0 ∷ 2 ∷ 1 ∷ 1 ∷ 0 ∷ 0 ∷ 0 ∷ 0 ∷ 0 ∷ 0 ∷ 0 ∷ 0 ∷ 15 ∷ 15 ∷ 0 ∷ 0 ∷ 0 ∷ 0 ∷ 0 ∷ 0 ∷ 0 ∷ 0 ∷ 0 ∷ 0 ∷ 0 ∷ 0 ∷ 0 ∷ 0 ∷ 0 ∷ 0 ∷ 0 ∷
    0 ∷ 0 ∷ 0 ∷ 0 ∷ 0 ∷ 0 ∷ 0 ∷ 0 ∷ 0 ∷ 0 ∷ 0 ∷ 0 ∷ 0 ∷ 0 ∷ 0 ∷ []
crossing-first = refl

crossing-items : (run crossing (policy_answer crossing.policy) crossing_actors).history ≡ crossing_items
unfolding run next_of item_of after dir_word copies_read mask_word lowest_free
crossing-items = refl

crossing-words : (run crossing (policy_answer crossing.policy) crossing_actors).words ≡ crossing_words
unfolding run next_of item_of after dir_word copies_read mask_word lowest_free
crossing-words = refl

crossing-ends : ends_of crossing (run crossing (policy_answer crossing.policy) crossing_actors).privates
    ≡ ended end.Halted 5 ∷ ended end.Halted 5 ∷ []
unfolding run next_of item_of after dir_word copies_read mask_word lowest_free
crossing-ends = refl

crossing-good : first_bad crossing (policy_answer crossing.policy) crossing_items (ended end.Halted 5 ∷ ended end.Halted 5 ∷ []) ≡ None
unfolding first_bad
crossing-good = refl

-- the schedule chooses the same actors, and then nobody is left
crossing-scheduled : (scheduled_events crossing (policy_answer crossing.policy) 104).fine.history ≡ crossing_items
unfolding next_of item_of after dir_word copies_read mask_word lowest_free
crossing-scheduled = refl

crossing-over : live_actors (scheduled_events crossing (policy_answer crossing.policy) 104).fine.privates ≡ []
unfolding next_of item_of after dir_word copies_read mask_word lowest_free
crossing-over = refl
