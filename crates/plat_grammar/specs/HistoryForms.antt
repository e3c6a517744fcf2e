-- the forms of the lines of a history text: directories and grants as single words, items and ends
use Rattle.std.specs.Prelude.{ℕ, ◌+◌, ◌==◌, nat_lt, Bool, true, false, if◌then◌else◌, List, [], ◌∷◌, ◌++◌, length, take, drop, position}
use Rattle.std.specs.Prelude.{codes, Option, Some, None, Result, Ok, Err, bytes_eq}
use Rattle.std.specs.List.{slice_split}
use Rattle.std.specs.Fmt.{decimal}
use Rattle.plat_base.specs.Machine.{Machine}
use Rattle.plat_grammar.specs.Forms.{◌>>=◌, Row, one, exactly, number_below, any_number, number, below, nothing, choice}
use Rattle.plat_grammar.specs.HistoryCanon.{point, colon, comma}
use Rattle.plat_base.specs.declared.faults.Refused.{Refused}
use Rattle.plat_base.specs.declared.faults.Why.{Why}
use Rattle.plat_base.specs.declared.faults.Why.TheVariants.{Expected}
use Rattle.plat_base.specs.declared.frames.Frame.{Frame}
use Rattle.plat_base.specs.declared.frames.State.{State}
use Rattle.plat_base.specs.declared.frames.State.TheVariants as state
use Rattle.plat_base.specs.declared.frames.Dir.{Dir}
use Rattle.plat_base.specs.declared.items.Right.{Right}
use Rattle.plat_base.specs.declared.items.Right.TheVariants as right
use Rattle.plat_base.specs.declared.items.Grant.{Grant}
use Rattle.plat_base.specs.declared.items.Kind.{Kind}
use Rattle.plat_base.specs.declared.items.Kind.TheVariants as kind
use Rattle.plat_base.specs.declared.items.Cause.{Cause}
use Rattle.plat_base.specs.declared.items.Cause.TheVariants as cause
use Rattle.plat_base.specs.declared.items.Action.{Action}
use Rattle.plat_base.specs.declared.items.Action.TheVariants as action
use Rattle.plat_base.specs.declared.items.Removed.{Removed}
use Rattle.plat_base.specs.declared.items.Removed.TheVariants as removed
use Rattle.plat_base.specs.declared.items.Message.{Message}
use Rattle.plat_base.specs.declared.items.Message.TheVariants as message
use Rattle.plat_base.specs.declared.items.Moment.{Moment}
use Rattle.plat_base.specs.declared.items.Moment.TheVariants as moment
use Rattle.plat_base.specs.declared.items.Item.{Item}
use Rattle.plat_base.specs.declared.items.Item.TheVariants as item
use Rattle.plat_base.specs.declared.endings.End.{End}
use Rattle.plat_base.specs.declared.endings.End.TheVariants as end
use Rattle.plat_base.specs.declared.endings.Ended.{Ended}
use Rattle.plat_base.specs.declared.limits.TheConstants.{BUDGET}

-- ---- one of several words

-- the value that a word names, where another word is none of them
abbrev pub named : {A : Type 0} → List (List ℕ × A) → List ℕ → Result A Why
named [] word = Err Expected
named (name ∷ names) word = if bytes_eq word name.0 then Ok name.1 else named names word

abbrev pub kinds : List (List ℕ × Kind)
kinds = (codes "load", kind.Load) ∷ (codes "store", kind.Store) ∷ (codes "add", kind.Add) ∷ []

abbrev pub causes : List (List ℕ × Cause)
causes = (codes "read", cause.Read) ∷ (codes "write", cause.Write) ∷ (codes "thaw", cause.Thaw) ∷ []

abbrev pub actions : List (List ℕ × Action)
actions =
    (codes "fill", action.Fill)
    ∷ (codes "maplocal", action.MapLocal)
    ∷ (codes "mapremote", action.MapRemote)
    ∷ (codes "replicate", action.Replicate)
    ∷ (codes "migrate", action.Migrate)
    ∷ (codes "collapse", action.Collapse)
    ∷ (codes "thaw", action.Thaw)
    ∷ []

abbrev pub removals : List (List ℕ × Removed)
removals = (codes "none", removed.Nothing) ∷ (codes "writes", removed.Writes) ∷ (codes "all", removed.All) ∷ []

abbrev pub messages : List (List ℕ × Message)
messages = (codes "invalidate", message.Invalidate) ∷ (codes "restrict", message.Restrict) ∷ []

abbrev pub moments : List (List ℕ × Moment)
moments = (codes "interrupt", moment.Interrupt) ∷ (codes "activation", moment.Activation) ∷ []

abbrev pub rights : List (List ℕ × Right)
rights = (codes "r", right.Read) ∷ (codes "w", right.Write) ∷ []

abbrev pub endings : List (List ℕ × End)
endings =
    (codes "halted", end.Halted)
    ∷ (codes "trapped", end.Trapped)
    ∷ (codes "spent", end.Spent)
    ∷ (codes "noframes", end.NoFrames)
    ∷ (codes "cut", end.Cut)
    ∷ []

-- a state, and whether the page is frozen
abbrev pub heads : List (List ℕ × (State × Bool))
heads =
    (codes "empty", (state.Empty, false))
    ∷ (codes "present1", (state.Present1, false))
    ∷ (codes "present+", (state.PresentPlus, false))
    ∷ (codes "modified", (state.Modified, false))
    ∷ (codes "empty*", (state.Empty, true))
    ∷ (codes "present1*", (state.Present1, true))
    ∷ (codes "present+*", (state.PresentPlus, true))
    ∷ (codes "modified*", (state.Modified, true))
    ∷ []

-- ---- words that are put together: any fault in one is that another word was wanted

abbrev pub expected : {A : Type 0} → Result A Why → Result A Why
expected (Ok x) = Ok x
expected (Err why) = Err Expected

-- a number below the limit
abbrev pub part_below : ℕ → List ℕ → Result ℕ Why
part_below limit word = expected (number_below limit word)

abbrev pub cut_at : List ℕ → Option ℕ → Option (List ℕ × List ℕ)
cut_at word None = None
cut_at word (Some i) = Some (take i word, drop (i + 1) word)

-- what stands before and what after the first of these bytes, where there is one
unfoldable pub cut : ℕ → List ℕ → Option (List ℕ × List ℕ)
cut byte word = cut_at word (position (λ b. b == byte) word)

abbrev pub wanted : {A : Type 0} → Option A → Result A Why
wanted None = Err Expected
wanted (Some x) = Ok x

-- M.F
unfoldable pub frame_of : (nodes frames : ℕ) → List ℕ → Result Frame Why
frame_of nodes frames word = do
  parts ← wanted (cut point word)
  mo ← part_below nodes parts.0
  number ← part_below frames parts.1
  Ok (record { «module» = mo; number = number })

-- E.M.F.r or E.M.F.w
unfoldable pub translation_of : (entries nodes frames : ℕ) → List ℕ → Result Grant Why
translation_of entries nodes frames word = do
  first ← wanted (cut point word)
  entry ← part_below entries first.0
  second ← wanted (cut point first.1)
  mo ← part_below nodes second.0
  third ← wanted (cut point second.1)
  number ← part_below frames third.0
  right ← named rights third.1
  Ok (record { entry = entry; frame = record { «module» = mo; number = number }; right = right })

-- a translation, or none
unfoldable pub granted_of : (entries nodes frames : ℕ) → List ℕ → Result (Option Grant) Why
granted_of entries nodes frames word =
    if bytes_eq word (codes "none") then Ok None else (translation_of entries nodes frames word >>= λ g. Ok (Some g))

abbrev pub above : ℕ → Frame → Result Frame Why
above low f = if nat_lt f.module low then Err Expected else Ok f

-- frames whose modules rise, from low on; what stands before them was seen
unfoldable pub copies_from : (nodes frames low : ℕ) → List Frame → List (List ℕ) → Result (List Frame) Why
copies_from nodes frames low seen [] = Ok seen
copies_from nodes frames low seen (part ∷ parts) = do
  f ← frame_of nodes frames part
  rising ← above low f
  copies_from nodes frames (f.module + 1) (seen ++ f ∷ []) parts

-- frames with commas between them
abbrev pub copies_of : (nodes frames : ℕ) → List ℕ → Result (List Frame) Why
copies_of nodes frames word = copies_from nodes frames 0 [] (slice_split (λ b. b == comma) word)

-- a head alone, or a head, a colon and copies
abbrev pub dir_parts : (nodes frames : ℕ) → List ℕ → Option (List ℕ × List ℕ) → Result Dir Why
dir_parts nodes frames word None = do
  head ← named heads word
  Ok (record { state = head.0; frozen = head.1; copies = [] })
dir_parts nodes frames word (Some parts) = do
  head ← named heads parts.0
  copies ← copies_of nodes frames parts.1
  Ok (record { state = head.0; frozen = head.1; copies = copies })

unfoldable pub dir_of : (nodes frames : ℕ) → List ℕ → Result Dir Why
dir_of nodes frames word = dir_parts nodes frames word (cut colon word)

-- ---- lines of items, after their first words

-- what an access says of the word that it reaches
abbrev pub access_of : (actor : ℕ) → Kind → (space addr page word old new version mo number grant : ℕ) → Item
access_of actor kind space addr page word old new version mo number grant = item.Access (record {
  actor = actor;
  kind = kind;
  space = space;
  addr = addr;
  page = page;
  word = word;
  old = old;
  new = new;
  version = version;
  frame = record { «module» = mo; number = number };
  grant = grant;
})

unfoldable pub access_line : Machine → Row → Result Item Refused
access_line m row = do
  actor ← below m.nodes row
  kind ← one (named kinds) actor.1
  space ← number 0 7 kind.1
  addr ← any_number space.1
  page ← below m.pages addr.1
  word ← below m.words page.1
  old ← any_number word.1
  new ← any_number old.1
  version ← any_number new.1
  mo ← below m.nodes version.1
  frame ← below m.frames mo.1
  grant ← any_number frame.1
  end ← nothing grant.1
  Ok (access_of actor.0 kind.0 space.0 addr.0 page.0 word.0 old.0 new.0 version.0 mo.0 frame.0 grant.0)

abbrev pub change_of_words : (actor page seq time : ℕ) → Cause → Action → Removed → Dir → Dir → Option Grant → Item
change_of_words actor page seq time cause action removed before after granted = item.Change (record {
  actor = actor;
  page = page;
  seq = seq;
  time = time;
  cause = cause;
  action = action;
  removed = removed;
  before = before;
  after = after;
  granted = granted;
})

unfoldable pub change_line : Machine → Row → Result Item Refused
change_line m row = do
  actor ← number 0 m.nodes row
  page ← below m.pages actor.1
  seq ← any_number page.1
  time ← any_number seq.1
  cause ← one (named causes) time.1
  action ← one (named actions) cause.1
  removed ← one (named removals) action.1
  before ← one (dir_of m.nodes m.frames) removed.1
  after ← one (dir_of m.nodes m.frames) before.1
  granted ← one (granted_of (length m.entries) m.nodes m.frames) after.1
  end ← nothing granted.1
  Ok (change_of_words actor.0 page.0 seq.0 time.0 cause.0 action.0 removed.0 before.0 after.0 granted.0)

unfoldable pub applied_line : Machine → Row → Result Item Refused
applied_line m row = do
  actor ← below m.nodes row
  entry ← below (length m.entries) actor.1
  message ← one (named messages) entry.1
  moment ← one (named moments) message.1
  end ← nothing moment.1
  Ok (item.Applied (record { actor = actor.0; entry = entry.0; message = message.0; moment = moment.0 }))

unfoldable pub switch_line : Machine → Row → Result Item Refused
switch_line m row = do
  actor ← below m.nodes row
  space ← number 0 7 actor.1
  end ← nothing space.1
  Ok (item.Switch (record { actor = actor.0; space = space.0 }))

abbrev pub item_kinds : Machine → List (List ℕ × (Row → Result Item Refused))
item_kinds m =
    (codes "access", access_line m)
    ∷ (codes "change", change_line m)
    ∷ (codes "applied", applied_line m)
    ∷ (codes "switch", switch_line m)
    ∷ []

unfoldable pub item_line : Machine → Row → Result Item Refused
item_line m = choice (item_kinds m) Expected

-- ---- lines of ends

-- the line of processor q, after its first word
unfoldable pub ended_line : ℕ → Row → Result Ended Refused
ended_line q row = do
  node ← one (exactly (decimal q)) row
  end ← one (named endings) node.1
  turns ← number 0 BUDGET end.1
  over ← nothing turns.1
  Ok (record { end = end.0; turns = turns.0 })
