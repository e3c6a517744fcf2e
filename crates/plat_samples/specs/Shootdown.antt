-- a run of two processors that share one page, item by item: it is filled, copied, and then collapses
use Rattle.std.specs.Prelude.{ℕ, false, List, [], ◌∷◌, Option, Some}
use Rattle.plat_base.specs.declared.endings.End.TheVariants as end
use Rattle.plat_base.specs.declared.endings.Ended.{Ended}
use Rattle.plat_base.specs.declared.frames.Dir.{Dir}
use Rattle.plat_base.specs.declared.frames.Frame.{Frame}
use Rattle.plat_base.specs.declared.frames.State.TheVariants as state
use Rattle.plat_base.specs.declared.items.Access.{Access}
use Rattle.plat_base.specs.declared.items.Action.TheVariants as action
use Rattle.plat_base.specs.declared.items.Cause.TheVariants as cause
use Rattle.plat_base.specs.declared.items.Change.{Change}
use Rattle.plat_base.specs.declared.items.Grant.{Grant}
use Rattle.plat_base.specs.declared.items.Item.{Item}
use Rattle.plat_base.specs.declared.items.Item.TheVariants as item
use Rattle.plat_base.specs.declared.items.Kind.{Kind}
use Rattle.plat_base.specs.declared.items.Kind.TheVariants as kind
use Rattle.plat_base.specs.declared.items.Message.{Message}
use Rattle.plat_base.specs.declared.items.Message.TheVariants as message
use Rattle.plat_base.specs.declared.items.Moment.TheVariants as moment
use Rattle.plat_base.specs.declared.items.Removed.TheVariants as removed
use Rattle.plat_base.specs.declared.items.Right.{Right}
use Rattle.plat_base.specs.declared.items.Right.TheVariants as right

-- ---- the page and its copies, which are frames of number 0

abbrev pub frame : ℕ → Frame
frame mo = record { «module» = mo; number = 0 }

abbrev pub no_copy : Dir
no_copy = record { state = state.Empty; frozen = false; copies = [] }

abbrev pub first_copy : Dir
first_copy = record { state = state.Modified; frozen = false; copies = frame 0 ∷ [] }

abbrev pub both_copies : Dir
both_copies = record { state = state.PresentPlus; frozen = false; copies = frame 0 ∷ frame 1 ∷ [] }

-- ---- its changes

abbrev pub grant_of : ℕ → Right → Option Grant
grant_of node right = Some (record { entry = 0; frame = frame node; right = right })

abbrev pub filled : Change
filled = record {
  actor = 0;
  page = 0;
  seq = 0;
  time = 2;
  cause = cause.Write;
  action = action.Fill;
  removed = removed.Nothing;
  before = no_copy;
  after = first_copy;
  granted = grant_of 0 right.Write;
}

abbrev pub copied : Change
copied = record {
  actor = 1;
  page = 0;
  seq = 1;
  time = 3;
  cause = cause.Read;
  action = action.Replicate;
  removed = removed.Writes;
  before = first_copy;
  after = both_copies;
  granted = grant_of 1 right.Read;
}

abbrev pub collapsed : Change
collapsed = record {
  actor = 0;
  page = 0;
  seq = 2;
  time = 5;
  cause = cause.Write;
  action = action.Collapse;
  removed = removed.All;
  before = both_copies;
  after = first_copy;
  granted = grant_of 0 right.Write;
}

-- ---- its history

abbrev pub access : (actor : ℕ) → Kind → (old new version grant : ℕ) → Access
access actor k old new version grant = record {
  actor = actor;
  kind = k;
  space = 0;
  addr = 0;
  page = 0;
  word = 0;
  old = old;
  new = new;
  version = version;
  frame = frame actor;
  grant = grant;
}

abbrev pub interrupt : (actor : ℕ) → Message → Item
interrupt actor msg = item.Applied (record { actor = actor; entry = 0; message = msg; moment = moment.Interrupt })

abbrev pub history : List Item
history =
    item.Change filled
    ∷ item.Access (access 0 kind.Store 0 7 1 0)
    ∷ interrupt 0 message.Restrict
    ∷ item.Change copied
    ∷ item.Access (access 1 kind.Load 7 7 1 1)
    ∷ interrupt 1 message.Invalidate
    ∷ item.Change collapsed
    ∷ item.Access (access 0 kind.Store 7 8 2 2)
    ∷ []

abbrev pub halted : ℕ → Ended
halted turns = record { end = end.Halted; turns = turns }
