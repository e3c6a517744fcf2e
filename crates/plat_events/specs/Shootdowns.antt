-- shootdowns, operation by operation: the posts to the entries of a page, and the wait for each target (Cox and Fowler 1989)
use Rattle.std.specs.Prelude.{ℕ, ◌+◌, ◌^◌, ◌==◌, nat_lt, ◌&&◌, not, if◌then◌else◌, Bool, List, [], ◌∷◌, ◌++◌, map, filter, length, Option}
use Rattle.std.specs.Prelude.{Some, None, slice_index, slice_index_or}
use Rattle.std.specs.List.{flat_map, zip}
use Rattle.plat_base.specs.Machine.{Machine}
use Rattle.plat_base.specs.Pages.{numbers, space_of, entries_of_page}
use Rattle.plat_base.specs.declared.items.Removed.{Removed}
use Rattle.plat_base.specs.declared.words.Op.{Op}
use Rattle.plat_base.specs.declared.words.Op.TheVariants as op
use Rattle.plat_base.specs.declared.words.WordName.{WordName}
use Rattle.plat_base.specs.declared.words.WordName.TheVariants as word
use Rattle.plat_events.specs.Words.{has_reference, has_references, has_message, posted_mask}

-- the next operation of a shootdown; k counts the targets that are passed
pub data Shot : Type 0 where
  Posting : Shot  -- the mask is looked at before a post
  PostingOn : (seen : ℕ) → Shot  -- the post, where the mask is still the one that was seen
  Asking : (k : ℕ) → Shot  -- the active space of a target
  Interrupting : (k : ℕ) → Shot  -- its interrupt
  Watching : (k : ℕ) → Shot  -- the mask, for its pending bits
  AskingAgain : (k : ℕ) → Shot  -- its active space again

-- a shootdown makes an operation, waits for a poll of the processor that makes it, or is over; posts are the masks that it
-- found, one for each entry so far
pub data Shoot : Type 0 where
  Makes : (posts : List ℕ) (shot : Shot) → Shoot
  Polls : (posts : List ℕ) (k : ℕ) → Shoot
  Done : (posts : List ℕ) → Shoot

-- a processor that a message was sent to, and the entry
pub record Target : Type 0 where
  pub entry : ℕ
  pub processor : ℕ

-- the entry that the next post is for
abbrev pub entry_posted : Machine → (page : ℕ) → (posts : List ℕ) → ℕ
entry_posted m page posts = slice_index (entries_of_page m page) (length posts)

-- the other references of a mask, in rising number
abbrev pub targets_of : Machine → (actor entry mask : ℕ) → List Target
targets_of m actor entry mask =
    map (λ q. record { entry = entry; processor = q }) (filter (λ q. has_reference mask q && not (q == actor)) (numbers m.nodes))

-- the targets of the posts: by entry, and then by processor
abbrev pub targets : Machine → (actor page : ℕ) → (posts : List ℕ) → List Target
targets m actor page posts = flat_map (λ (x : ℕ × ℕ). targets_of m actor x.0 x.1) (zip (entries_of_page m page) posts)

abbrev pub no_target : Target
no_target = record { entry = 0; processor = 0 }

abbrev pub target_at : Machine → (actor page : ℕ) → (posts : List ℕ) → ℕ → Target
target_at m actor page posts k = slice_index_or (targets m actor page posts) k no_target

-- ---- the operation

abbrev pub shot_next : Machine → (actor page : ℕ) → Removed → (posts : List ℕ) → Shot → WordName × Op
shot_next m actor page rem posts Posting = (word.Cmap (entry_posted m page posts), op.Load)
shot_next m actor page rem posts (PostingOn seen) =
    (word.Cmap (entry_posted m page posts), op.Exchange seen (posted_mask rem actor seen))
shot_next m actor page rem posts (Asking k) = (word.Act (target_at m actor page posts k).processor, op.Load)
shot_next m actor page rem posts (Interrupting k) =
    let t = target_at m actor page posts k in (word.Intr t.processor, op.Or (2 ^ space_of m t.entry))
shot_next m actor page rem posts (Watching k) = (word.Cmap (target_at m actor page posts k).entry, op.Load)
shot_next m actor page rem posts (AskingAgain k) = (word.Act (target_at m actor page posts k).processor, op.Load)

-- ---- what follows it

-- the target is next, or all are passed
abbrev pub ask_from : Machine → (actor page : ℕ) → (posts : List ℕ) → ℕ → Shoot
ask_from m actor page posts k = if nat_lt k (length (targets m actor page posts)) then Makes posts (Asking k) else Done posts

-- the next entry, or the first target after the last entry
abbrev pub shoot_from : Machine → (actor page : ℕ) → (posts : List ℕ) → Shoot
shoot_from m actor page posts =
    if nat_lt (length posts) (length (entries_of_page m page)) then Makes posts Posting else ask_from m actor page posts 0

-- a mask with a reference is posted to, and another counts as posted
abbrev pub mask_found : Machine → (actor page : ℕ) → (posts : List ℕ) → ℕ → Shoot
mask_found m actor page posts n =
    if has_references n then Makes posts (PostingOn n) else shoot_from m actor page (posts ++ n ∷ [])

-- the target is active in the entry's space, by its word
abbrev pub is_active_in : Machine → Target → ℕ → Bool
is_active_in m t n = n == space_of m t.entry + 1

-- the shootdown after its operation found n; the daemon has no poll
abbrev pub shot_after : Machine → (actor page : ℕ) → (posts : List ℕ) → ℕ → Shot → Shoot
shot_after m actor page posts n Posting = mask_found m actor page posts n
shot_after m actor page posts n (PostingOn seen) =
    if n == seen then shoot_from m actor page (posts ++ n ∷ []) else mask_found m actor page posts n
shot_after m actor page posts n (Asking k) =
    if is_active_in m (target_at m actor page posts k) n then Makes posts (Interrupting k) else ask_from m actor page posts (k + 1)
shot_after m actor page posts n (Interrupting k) = Makes posts (Watching k)
shot_after m actor page posts n (Watching k) =
    if has_message n (target_at m actor page posts k).processor then Makes posts (AskingAgain k) else ask_from m actor page posts (k + 1)
shot_after m actor page posts n (AskingAgain k) =
    if is_active_in m (target_at m actor page posts k) n
    then (if actor == m.nodes then Makes posts (Watching k) else Polls posts k)
    else ask_from m actor page posts (k + 1)

-- the entry of a post that was made on a mask with the actor's own reference
abbrev pub own_post : Machine → (actor page : ℕ) → (posts : List ℕ) → ℕ → Shot → Option ℕ
own_post m actor page posts n Posting = None
own_post m actor page posts n (PostingOn seen) =
    if n == seen && has_reference n actor then Some (entry_posted m page posts) else None
own_post m actor page posts n (Asking k) = None
own_post m actor page posts n (Interrupting k) = None
own_post m actor page posts n (Watching k) = None
own_post m actor page posts n (AskingAgain k) = None
