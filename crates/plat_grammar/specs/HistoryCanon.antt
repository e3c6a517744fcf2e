-- the canonical text of a history
use Rattle.std.specs.Prelude.{ℕ, ◌+◌, List, [], ◌∷◌, ◌++◌, map, length, codes, Option, Some, None, Bool, true, false}
use Rattle.std.specs.List.{join_with_byte}
use Rattle.std.specs.Fmt.{decimal}
use Rattle.plat_base.specs.Text.{text_bytes}
use Rattle.plat_base.specs.Machine.{Machine}
use Rattle.plat_base.specs.Canon.{Words, number_line, canon}
use Rattle.plat_base.specs.Report.{end_word}
use Rattle.plat_base.specs.declared.frames.Frame.{Frame}
use Rattle.plat_base.specs.declared.frames.State.{State}
use Rattle.plat_base.specs.declared.frames.State.TheVariants as state
use Rattle.plat_base.specs.declared.frames.Dir.{Dir}
use Rattle.plat_base.specs.declared.items.Right.{Right}
use Rattle.plat_base.specs.declared.items.Right.TheVariants as right
use Rattle.plat_base.specs.declared.items.Grant.{Grant}
use Rattle.plat_base.specs.declared.items.Kind.{Kind}
use Rattle.plat_base.specs.declared.items.Kind.TheVariants as kind
use Rattle.plat_base.specs.declared.items.Cause.{Cause}
use Rattle.plat_base.specs.declared.items.Cause.TheVariants as cause
use Rattle.plat_base.specs.declared.items.Action.{Action}
use Rattle.plat_base.specs.declared.items.Action.TheVariants as action
use Rattle.plat_base.specs.declared.items.Removed.{Removed}
use Rattle.plat_base.specs.declared.items.Removed.TheVariants as removed
use Rattle.plat_base.specs.declared.items.Message.{Message}
use Rattle.plat_base.specs.declared.items.Message.TheVariants as message
use Rattle.plat_base.specs.declared.items.Moment.{Moment}
use Rattle.plat_base.specs.declared.items.Moment.TheVariants as moment
use Rattle.plat_base.specs.declared.items.Access.{Access}
use Rattle.plat_base.specs.declared.items.Change.{Change}
use Rattle.plat_base.specs.declared.items.Applied.{Applied}
use Rattle.plat_base.specs.declared.items.Switch.{Switch}
use Rattle.plat_base.specs.declared.items.Item.{Item}
use Rattle.plat_base.specs.declared.items.Item.TheVariants as item
use Rattle.plat_base.specs.declared.endings.Ended.{Ended}
use Rattle.plat_base.specs.declared.limits.TheConstants.{MOST_ITEMS}

-- what a history text tells: the machine, the items in order, and how each processor ended, in rising number
pub record History : Type 0 where
  pub machine : Machine
  pub items : List Item
  pub ends : List Ended

-- ---- single words

abbrev pub kind_word : Kind → List ℕ
kind_word kind.Load = codes "load"
kind_word kind.Store = codes "store"
kind_word kind.Add = codes "add"

abbrev pub cause_word : Cause → List ℕ
cause_word cause.Read = codes "read"
cause_word cause.Write = codes "write"
cause_word cause.Thaw = codes "thaw"

abbrev pub action_word : Action → List ℕ
action_word action.Fill = codes "fill"
action_word action.MapLocal = codes "maplocal"
action_word action.MapRemote = codes "mapremote"
action_word action.Replicate = codes "replicate"
action_word action.Migrate = codes "migrate"
action_word action.Collapse = codes "collapse"
action_word action.Thaw = codes "thaw"

abbrev pub removed_word : Removed → List ℕ
removed_word removed.Nothing = codes "none"
removed_word removed.Writes = codes "writes"
removed_word removed.All = codes "all"

abbrev pub message_word : Message → List ℕ
message_word message.Invalidate = codes "invalidate"
message_word message.Restrict = codes "restrict"

abbrev pub moment_word : Moment → List ℕ
moment_word moment.Interrupt = codes "interrupt"
moment_word moment.Activation = codes "activation"

abbrev pub state_word : State → List ℕ
state_word state.Empty = codes "empty"
state_word state.Present1 = codes "present1"
state_word state.PresentPlus = codes "present+"
state_word state.Modified = codes "modified"

abbrev pub right_word : Right → List ℕ
right_word right.Read = codes "r"
right_word right.Write = codes "w"

-- ---- words that are put together

-- the byte of a point, of a colon and of a comma
abbrev pub point : ℕ
point = 46

abbrev pub colon : ℕ
colon = 58

abbrev pub comma : ℕ
comma = 44

-- M.F
abbrev pub frame_word : Frame → List ℕ
frame_word f = decimal f.module ++ point ∷ decimal f.number

-- E.M.F.r or E.M.F.w
abbrev pub translation_word : Grant → List ℕ
translation_word g = decimal g.entry ++ point ∷ (frame_word g.frame ++ point ∷ right_word g.right)

-- a translation, or none
abbrev pub grant_word : Option Grant → List ℕ
grant_word None = codes "none"
grant_word (Some g) = translation_word g

abbrev pub frozen_mark : Bool → List ℕ
frozen_mark true = codes "*"
frozen_mark false = []

-- the state, and a star where the page is frozen
abbrev pub head_word : State × Bool → List ℕ
head_word head = state_word head.0 ++ frozen_mark head.1

-- where there are copies, a colon and their frames with commas between them
abbrev pub copies_part : List Frame → List ℕ
copies_part [] = []
copies_part (f ∷ fs) = colon ∷ join_with_byte comma (map frame_word (f ∷ fs))

abbrev pub dir_word : Dir → List ℕ
dir_word d = head_word (d.state, d.frozen) ++ copies_part d.copies

-- ---- lines

unfoldable pub access_words : Access → Words
access_words a =
    codes "access"
    ∷ decimal a.actor
    ∷ kind_word a.kind
    ∷ decimal a.space
    ∷ decimal a.addr
    ∷ decimal a.page
    ∷ decimal a.word
    ∷ decimal a.old
    ∷ decimal a.new
    ∷ decimal a.version
    ∷ decimal a.frame.module
    ∷ decimal a.frame.number
    ∷ decimal a.grant
    ∷ []

unfoldable pub change_words : Change → Words
change_words c =
    codes "change"
    ∷ decimal c.actor
    ∷ decimal c.page
    ∷ decimal c.seq
    ∷ decimal c.time
    ∷ cause_word c.cause
    ∷ action_word c.action
    ∷ removed_word c.removed
    ∷ dir_word c.before
    ∷ dir_word c.after
    ∷ grant_word c.granted
    ∷ []

unfoldable pub applied_words : Applied → Words
applied_words a = codes "applied" ∷ decimal a.actor ∷ decimal a.entry ∷ message_word a.message ∷ moment_word a.moment ∷ []

unfoldable pub switch_words : Switch → Words
switch_words s = codes "switch" ∷ decimal s.actor ∷ decimal s.space ∷ []

abbrev pub item_words : Item → Words
item_words (item.Access a) = access_words a
item_words (item.Change c) = change_words c
item_words (item.Applied a) = applied_words a
item_words (item.Switch s) = switch_words s

abbrev pub ended_words : ℕ → Ended → Words
ended_words q e = codes "processor" ∷ decimal q ∷ end_word e.end ∷ decimal e.turns ∷ []

-- the lines of processors from number q on
abbrev pub ended_lines : ℕ → List Ended → List Words
ended_lines q [] = []
ended_lines q (e ∷ es) = ended_words q e ∷ ended_lines (q + 1) es

-- the lines from `items` on
abbrev pub told_lines : List Item → List Ended → List Words
told_lines items ends =
    number_line (codes "items") (length items)
    ∷ (map item_words items ++ (codes "ends" ∷ []) ∷ (ended_lines 0 ends ++ (codes "end" ∷ []) ∷ []))

-- the lines of the canonical text, as lists of words
abbrev pub canon_history : History → List Words
canon_history h = (codes "history" ∷ codes "1" ∷ []) ∷ (canon h.machine ++ told_lines h.items h.ends)

unfoldable pub history_text : History → List ℕ
history_text h = text_bytes (canon_history h)

-- the most bytes that a history text can have
abbrev pub most_history_bytes : ℕ
most_history_bytes = 268435456

-- the most items that a history can have
abbrev pub most_items : ℕ
most_items = MOST_ITEMS
