-- a worked run: its machine, its history, the journals of its two processors and their merge
use Rattle.std.specs.Prelude.{ℕ, false, List, [], ◌∷◌, Option, Some, None}
use Rattle.plat_base.specs.Machine.{Machine, Program, listed}
use Rattle.plat_base.specs.declared.configs.Entry.{Entry}
use Rattle.plat_base.specs.declared.endings.End.TheVariants as end
use Rattle.plat_base.specs.declared.endings.Ended.{Ended}
use Rattle.plat_base.specs.declared.frames.Dir.{Dir}
use Rattle.plat_base.specs.declared.frames.Frame.{Frame}
use Rattle.plat_base.specs.declared.frames.State.TheVariants as state
use Rattle.plat_base.specs.declared.guests.Instr.{Instr}
use Rattle.plat_base.specs.declared.guests.Instr.TheVariants as instr
use Rattle.plat_base.specs.declared.items.Action.TheVariants as action
use Rattle.plat_base.specs.declared.items.Cause.TheVariants as cause
use Rattle.plat_base.specs.declared.items.Grant.{Grant}
use Rattle.plat_base.specs.declared.items.Item.{Item}
use Rattle.plat_base.specs.declared.items.Item.TheVariants as item
use Rattle.plat_base.specs.declared.items.Kind.{Kind}
use Rattle.plat_base.specs.declared.items.Kind.TheVariants as kind
use Rattle.plat_base.specs.declared.items.Message.{Message}
use Rattle.plat_base.specs.declared.items.Message.TheVariants as message
use Rattle.plat_base.specs.declared.items.Moment.TheVariants as moment
use Rattle.plat_base.specs.declared.items.Removed.TheVariants as removed
use Rattle.plat_base.specs.declared.items.Right.{Right}
use Rattle.plat_base.specs.declared.items.Right.TheVariants as right
use Rattle.plat_base.specs.declared.policies.PolicyKind.TheVariants as policy
use Rattle.plat_events.specs.Merges.{Journals}

-- ---- a page is replicated and then written: its copies collapsed

abbrev pub frame : ℕ → Frame
frame mo = record { «module» = mo; number = 0 }

abbrev pub first_copy : Dir
first_copy = record { state = state.Modified; frozen = false; copies = frame 0 ∷ [] }

abbrev pub both_copies : Dir
both_copies = record { state = state.PresentPlus; frozen = false; copies = frame 0 ∷ frame 1 ∷ [] }

abbrev pub no_copy : Dir
no_copy = record { state = state.Empty; frozen = false; copies = [] }

abbrev pub granted : ℕ → Right → Option Grant
granted mo r = Some (record { entry = 0; frame = frame mo; right = r })

abbrev pub access : (actor : ℕ) → Kind → (old new version grant : ℕ) → Item
access actor k old new version grant = item.Access (record {
  actor = actor;
  kind = k;
  space = 0;
  addr = 0;
  page = 0;
  word = 0;
  old = old;
  new = new;
  version = version;
  frame = frame actor;
  grant = grant;
})

abbrev pub applied : (actor : ℕ) → Message → Item
applied actor msg = item.Applied (record { actor = actor; entry = 0; message = msg; moment = moment.Interrupt })

abbrev pub filled : Item
filled = item.Change (record {
  actor = 0;
  page = 0;
  seq = 0;
  time = 2;
  cause = cause.Write;
  action = action.Fill;
  removed = removed.Nothing;
  before = no_copy;
  after = first_copy;
  granted = granted 0 right.Write;
})

abbrev pub replicated : Item
replicated = item.Change (record {
  actor = 1;
  page = 0;
  seq = 1;
  time = 3;
  cause = cause.Read;
  action = action.Replicate;
  removed = removed.Writes;
  before = first_copy;
  after = both_copies;
  granted = granted 1 right.Read;
})

abbrev pub collapsed : Item
collapsed = item.Change (record {
  actor = 0;
  page = 0;
  seq = 2;
  time = 5;
  cause = cause.Write;
  action = action.Collapse;
  removed = removed.All;
  before = both_copies;
  after = first_copy;
  granted = granted 0 right.Write;
})

-- one guest writes the page twice, and one reads it
abbrev pub writer : List Instr
writer = instr.Set 1 7 ∷ instr.Store 1 0 None ∷ instr.Set 1 8 ∷ instr.Store 1 0 None ∷ instr.Halt ∷ []

abbrev pub reader : List Instr
reader = instr.Load 2 0 None ∷ instr.Print 2 ∷ instr.Halt ∷ []

abbrev pub program : List Instr → Program
program code = record { space = 0; code = code; labels = [] }

abbrev pub turns : List ℕ
turns = 0 ∷ 0 ∷ 1 ∷ 0 ∷ 0 ∷ 1 ∷ 1 ∷ 0 ∷ []

abbrev pub one_entry : List Entry
one_entry = record { space = 0; vpage = 0; page = 0 } ∷ []

abbrev pub shootdown : Machine
shootdown = record {
  nodes = 2;
  frames = 4;
  words = 4;
  pages = 1;
  policy = policy.Replicate;
  budget = 100;
  schedule = listed turns;
  distances = [];
  entries = one_entry;
  inits = [];
  guests = program writer ∷ program reader ∷ [];
}

-- its history, in the order of its run
abbrev pub run_order : List Item
run_order =
    filled
    ∷ access 0 kind.Store 0 7 1 0
    ∷ applied 0 message.Restrict
    ∷ replicated
    ∷ access 1 kind.Load 7 7 1 1
    ∷ applied 1 message.Invalidate
    ∷ collapsed
    ∷ access 0 kind.Store 7 8 2 2
    ∷ []

abbrev pub ends : List Ended
ends = record { end = end.Halted; turns = 5 } ∷ record { end = end.Halted; turns = 3 } ∷ []

abbrev pub writer_journal : List Item
writer_journal =
    filled ∷ access 0 kind.Store 0 7 1 0 ∷ applied 0 message.Restrict ∷ collapsed ∷ access 0 kind.Store 7 8 2 2 ∷ []

abbrev pub reader_journal : List Item
reader_journal = replicated ∷ access 1 kind.Load 7 7 1 1 ∷ applied 1 message.Invalidate ∷ []

abbrev pub journals : Journals
journals = writer_journal ∷ reader_journal ∷ []

-- the last message of processor 1 stands at the end, since nothing waits for it
abbrev pub merge_order : List Item
merge_order =
    filled
    ∷ access 0 kind.Store 0 7 1 0
    ∷ applied 0 message.Restrict
    ∷ replicated
    ∷ access 1 kind.Load 7 7 1 1
    ∷ collapsed
    ∷ access 0 kind.Store 7 8 2 2
    ∷ applied 1 message.Invalidate
    ∷ []
