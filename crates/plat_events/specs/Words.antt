-- the shared words: how the contents of each kind of word are written as a number of 64 bits, and read back
use Rattle.std.specs.Prelude.{ℕ, ◌+◌, ◌-◌, ◌*◌, ◌/◌, ◌%◌, ◌^◌, ◌==◌, ◌&&◌, ◌||◌, not, if◌then◌else◌, Bool, List, [], ◌∷◌, ◌++◌, map, find}
use Rattle.std.specs.Prelude.{Option, Some, None, is_some, unwrap_or}
use Rattle.std.specs.Int.{bit_at}
use Rattle.std.specs.List.{filter_map}
use Rattle.plat_base.specs.Pages.{numbers}
use Rattle.plat_base.specs.Copies.{copy_on}
use Rattle.plat_base.specs.Frames.{frame_at}
use Rattle.plat_base.specs.Alike.{state_number}
use Rattle.plat_base.specs.declared.limits.TheConstants.{MODULES, FRAMES}
use Rattle.plat_base.specs.declared.frames.Frame.{Frame}
use Rattle.plat_base.specs.declared.frames.Dir.{Dir}
use Rattle.plat_base.specs.declared.frames.State.{State}
use Rattle.plat_base.specs.declared.frames.State.TheVariants.{Empty, Present1, PresentPlus, Modified}
use Rattle.plat_base.specs.declared.items.Removed.{Removed}
use Rattle.plat_base.specs.declared.items.Removed.TheVariants as removed
use Rattle.plat_base.specs.declared.items.Message.{Message}
use Rattle.plat_base.specs.declared.items.Message.TheVariants as message

-- a part of a mask has one bit, and a directory one place for a copy, for each node that a machine may have
abbrev pub most_nodes : ℕ
most_nodes = MODULES

-- ---- bits and fields

abbrev pub has_bit : (n place : ℕ) → Bool
has_bit n place = bit_at n place == 1

-- the bits of a number from a place on, so many of them
abbrev pub bits_from : (n place width : ℕ) → ℕ
bits_from n place width = n / 2 ^ place % 2 ^ width

abbrev pub bit_if : Bool → ℕ
bit_if b = if b then 1 else 0

-- a field of a word: its value, and its width in bits
abbrev pub Field : Type 0
Field = ℕ × ℕ

-- fields beside each other, the first at the lowest bits
abbrev pub packed : List Field → ℕ
packed [] = 0
packed (f ∷ fs) = f.0 + 2 ^ f.1 * packed fs

-- ---- a directory and its lock

abbrev pub frozen_place : ℕ
frozen_place = 2

abbrev pub lock_place : ℕ
lock_place = 3

-- the first of the bits that say which modules have a copy
abbrev pub copies_place : ℕ
copies_place = 8

-- the first bit of the numbers of the frames, and the width of each
abbrev pub frames_place : ℕ
frames_place = 8 + most_nodes

abbrev pub frame_width : ℕ
frame_width = 6

abbrev pub number_of : Option Frame → ℕ
number_of None = 0
number_of (Some f) = f.number

abbrev pub copy_fields : List Frame → List Field
copy_fields copies =
    map (λ mo. (bit_if (is_some (copy_on mo copies)), 1)) (numbers most_nodes)
    ++ map (λ mo. (number_of (copy_on mo copies), frame_width)) (numbers most_nodes)

abbrev pub dir_fields : Dir → (locked : Bool) → List Field
dir_fields d locked =
    (state_number d.state, 2) ∷ (bit_if d.frozen, 1) ∷ (bit_if locked, 1) ∷ (0, 4) ∷ copy_fields d.copies

-- a directory, with its lock set or clear
unfoldable pub dir_word : Dir → (locked : Bool) → ℕ
dir_word d locked = packed (dir_fields d locked)

abbrev pub state_numbered : ℕ → State
state_numbered n = if n == 0 then Empty else if n == 1 then Present1 else if n == 2 then PresentPlus else Modified

abbrev pub copy_read : (n mo : ℕ) → Option Frame
copy_read n mo =
    if has_bit n (copies_place + mo) then Some (frame_at mo (bits_from n (frames_place + frame_width * mo) frame_width)) else None

unfoldable pub copies_read : ℕ → List Frame
copies_read n = filter_map (copy_read n) (numbers most_nodes)

abbrev pub dir_read : ℕ → Dir
dir_read n =
    record { state = state_numbered (bits_from n 0 2); frozen = has_bit n frozen_place; copies = copies_read n }

abbrev pub is_locked : ℕ → Bool
is_locked n = has_bit n lock_place

-- ---- the stamp of a page: its last invalidation, and the number of its changes

abbrev pub last_number : Option ℕ → ℕ
last_number None = 0
last_number (Some last) = last + 1

abbrev pub stamp_word : (last : Option ℕ) → (seq : ℕ) → ℕ
stamp_word last seq = packed ((last_number last, 32) ∷ (seq, 32) ∷ [])

abbrev pub last_numbered : ℕ → Option ℕ
last_numbered n = if n == 0 then None else Some (n - 1)

abbrev pub last_read : ℕ → Option ℕ
last_read n = last_numbered (bits_from n 0 32)

abbrev pub seq_read : ℕ → ℕ
seq_read n = bits_from n 32 32

-- ---- the mask of an entry: who has a reference, and which messages wait for whom (Cox and Fowler 1989)

abbrev pub reference_place : ℕ → ℕ
reference_place q = q

abbrev pub invalidate_place : ℕ → ℕ
invalidate_place q = most_nodes + q

abbrev pub restrict_place : ℕ → ℕ
restrict_place q = 2 * most_nodes + q

abbrev pub has_reference : (n q : ℕ) → Bool
has_reference n q = has_bit n (reference_place q)

abbrev pub has_invalidate : (n q : ℕ) → Bool
has_invalidate n q = has_bit n (invalidate_place q)

abbrev pub has_restrict : (n q : ℕ) → Bool
has_restrict n q = has_bit n (restrict_place q)

-- a message waits for this processor
abbrev pub has_message : (n q : ℕ) → Bool
has_message n q = has_invalidate n q || has_restrict n q

-- some processor has a reference
abbrev pub has_references : ℕ → Bool
has_references n = not (bits_from n 0 most_nodes == 0)

abbrev pub bit_fields : (ℕ → Bool) → List Field
bit_fields test = map (λ q. (bit_if (test q), 1)) (numbers most_nodes)

-- the mask with these references, invalidates and restricts
unfoldable pub mask_word : (reference invalidate restrict : ℕ → Bool) → ℕ
mask_word reference invalidate restrict = packed (bit_fields reference ++ bit_fields invalidate ++ bit_fields restrict)

-- a post: "all" sends an invalidate to each other reference, and clears the bits of the actor itself; "writes" sends a
-- restrict to each other reference for which no invalidate waits
abbrev pub posted_mask : Removed → (actor n : ℕ) → ℕ
posted_mask removed.Nothing actor n = n
posted_mask removed.Writes actor n =
    mask_word (has_reference n) (has_invalidate n)
    (λ q. has_restrict n q || (not (q == actor) && has_reference n q && not (has_invalidate n q)))
posted_mask removed.All actor n =
    mask_word (λ q. not (q == actor) && has_reference n q)
    (λ q. not (q == actor) && (has_invalidate n q || has_reference n q))
    (λ q. not (q == actor) && has_restrict n q)

-- the bits of its own that a processor clears when it applies a message
abbrev pub bits_applied : Message → ℕ → ℕ
bits_applied message.Invalidate q = packed ((2 ^ q, most_nodes) ∷ (2 ^ q, most_nodes) ∷ (2 ^ q, most_nodes) ∷ [])
bits_applied message.Restrict q = packed ((0, most_nodes) ∷ (0, most_nodes) ∷ (2 ^ q, most_nodes) ∷ [])

-- all 64 bits but these
abbrev pub all_but : ℕ → ℕ
all_but bits = 2 ^ 64 - 1 - bits

-- ---- the free frames of a module

-- the lowest free frame; 0 where there is none
unfoldable pub lowest_free : ℕ → ℕ
lowest_free n = unwrap_or (find (has_bit n) (numbers FRAMES)) 0

abbrev pub without_lowest : ℕ → ℕ
without_lowest n = n - 2 ^ lowest_free n

-- ---- a word of a frame: its value, and how often it was written

abbrev pub data_word : (value version : ℕ) → ℕ
data_word value version = packed ((value, 32) ∷ (version, 32) ∷ [])

abbrev pub value_read : ℕ → ℕ
value_read n = bits_from n 0 32

abbrev pub version_read : ℕ → ℕ
version_read n = bits_from n 32 32
