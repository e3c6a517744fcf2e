-- the words of a page's copies: what each frame of the page holds, by what was filled, copied and written there; and the words
-- of the frames themselves
use Rattle.std.specs.Prelude.{ℕ, ◌==◌, ◌&&◌, if◌then◌else◌, List, Option, Some, None}
use Rattle.std.specs.List.{fold}
use Rattle.plat_base.specs.Machine.{Machine}
use Rattle.plat_base.specs.Pages.{initial_value}
use Rattle.plat_base.specs.Copies.{same_frame}
use Rattle.plat_base.specs.Flat.{is_write, writes_word}
use Rattle.plat_base.specs.Decide.{nearest}
use Rattle.plat_base.specs.declared.frames.Frame.{Frame}
use Rattle.plat_base.specs.declared.items.Action.{Action}
use Rattle.plat_base.specs.declared.items.Action.TheVariants as action
use Rattle.plat_base.specs.declared.items.Grant.{Grant}
use Rattle.plat_base.specs.declared.items.Change.{Change}
use Rattle.plat_base.specs.declared.items.Item.{Item}
use Rattle.plat_base.specs.declared.items.Item.TheVariants as item

-- what one word of a page is in each frame
abbrev pub InFrames : Type 0
InFrames = Frame → ℕ

-- one frame gets this value, and the others keep theirs
abbrev pub put : Frame → ℕ → InFrames → InFrames
put f value words = λ g. if same_frame f g then value else words g

-- what an action puts into the frame that it grants: a fill the starting value, a replication or a migration what the copy
-- nearest to the actor held before it, and any other nothing
abbrev pub put_by : Machine → (page word : ℕ) → Change → Action → Frame → InFrames → InFrames
put_by m page word c action.Fill f words = put f (initial_value m page word) words
put_by m page word c action.MapLocal f words = words
put_by m page word c action.MapRemote f words = words
put_by m page word c action.Replicate f words = put f (words (nearest m c.actor c.before.copies)) words
put_by m page word c action.Migrate f words = put f (words (nearest m c.actor c.before.copies)) words
put_by m page word c action.Collapse f words = words
put_by m page word c action.Thaw f words = words

abbrev pub put_granted : Machine → (page word : ℕ) → Change → Option Grant → InFrames → InFrames
put_granted m page word c None words = words
put_granted m page word c (Some g) words = put_by m page word c c.action g.frame words

-- a store or a fetch-and-add writes into its own frame alone
abbrev pub words_after : Machine → (page word : ℕ) → InFrames → Item → InFrames
words_after m page word words (item.Access a) = if writes_word page word (item.Access a) then put a.frame a.new words else words
words_after m page word words (item.Change c) = if c.page == page then put_granted m page word c c.granted words else words
words_after m page word words (item.Applied x) = words
words_after m page word words (item.Switch s) = words

-- a word of the page's copy in a frame, after these items
abbrev pub copy_value : Machine → List Item → (page word : ℕ) → Frame → ℕ
copy_value m items page word = fold (words_after m page word) (λ f. 0) items

-- the same of all pages at once
abbrev pub frames_after : Machine → (word : ℕ) → InFrames → Item → InFrames
frames_after m word words (item.Access a) = if is_write a.kind && a.word == word then put a.frame a.new words else words
frames_after m word words (item.Change c) = put_granted m c.page word c c.granted words
frames_after m word words (item.Applied x) = words
frames_after m word words (item.Switch s) = words

-- a word of a frame, after these items, of whichever pages it was a copy
abbrev pub frame_value : Machine → List Item → (word : ℕ) → Frame → ℕ
frame_value m items word = fold (frames_after m word) (λ f. 0) items
