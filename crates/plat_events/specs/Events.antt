-- one event: the one operation on one word that an actor's place names, and the actor's new private state and item from the
-- word that the operation found
use Rattle.std.specs.Prelude.{ℕ, ◌+◌, ◌*◌, ◌/◌, ◌^◌, ◌==◌, nat_lt, ◌&&◌, ◌||◌, not, if◌then◌else◌, Bool, true, false, List, [], ◌∷◌, ◌++◌}
use Rattle.std.specs.Prelude.{map, Option, Some, None, slice_set}
use Rattle.std.specs.Option.{option_map}
use Rattle.plat_base.specs.Verdicts.{Answer}
use Rattle.plat_base.specs.Machine.{Machine}
use Rattle.plat_base.specs.Pages.{entry_reached}
use Rattle.plat_base.specs.GuestRun.{Reach, reach_of, want_of, guest_after}
use Rattle.plat_base.specs.Done.{new_value}
use Rattle.plat_base.specs.Flat.{is_write}
use Rattle.plat_base.specs.Held.{has_right, kept_of}
use Rattle.plat_base.specs.Held.{told as told_message}
use Rattle.plat_base.specs.Rules.{may_apply}
use Rattle.plat_base.specs.Accesses.{cause_of, writes_made}
use Rattle.plat_base.specs.Messages.{removes_some}
use Rattle.plat_base.specs.Decide.{no_frame}
use Rattle.plat_base.specs.Cache.{no_places, without_entry, without_page}
use Rattle.plat_base.specs.Cache.{Place as CachePlace}
use Rattle.plat_base.specs.Cache.{accessed as cache_accessed}
use Rattle.plat_base.specs.declared.frames.Frame.{Frame}
use Rattle.plat_base.specs.declared.items.Cause.TheVariants as cause
use Rattle.plat_base.specs.declared.items.Kind.TheVariants as kind
use Rattle.plat_base.specs.declared.items.Message.{Message}
use Rattle.plat_base.specs.declared.items.Moment.{Moment}
use Rattle.plat_base.specs.declared.items.Moment.TheVariants as moment
use Rattle.plat_base.specs.declared.items.Removed.{Removed}
use Rattle.plat_base.specs.declared.items.Item.{Item}
use Rattle.plat_base.specs.declared.items.Item.TheVariants as item
use Rattle.plat_base.specs.declared.items.Translation.{Translation}
use Rattle.plat_base.specs.declared.endings.End.TheVariants as end
use Rattle.plat_base.specs.declared.guests.Want.{Want}
use Rattle.plat_base.specs.declared.guests.Want.TheVariants as want
use Rattle.plat_base.specs.declared.words.Op.{Op}
use Rattle.plat_base.specs.declared.words.Op.TheVariants as op
use Rattle.plat_base.specs.declared.words.WordName.{WordName}
use Rattle.plat_base.specs.declared.words.WordName.TheVariants as word
use Rattle.plat_events.specs.Words.{lock_place, is_locked, dir_read, bits_applied, all_but, data_word, value_read, version_read}
use Rattle.plat_events.specs.Places.{place_of, is_word}
use Rattle.plat_events.specs.Operations.{is_store}
use Rattle.plat_events.specs.Shootdowns.{Shoot, Makes, Polls, Done, own_post, shot_after}
use Rattle.plat_events.specs.Sessions.{Fault, Course, Phase, Stamping, Seeking, Taking, Returning, Shooting, Filling, Reading, Copying}
use Rattle.plat_events.specs.Sessions.{Giving, Storing, Granting, Unlocking, Session, decision_of, entry_faulted, memory_at, session_next}
use Rattle.plat_events.specs.Sessions.{phase_after, with_phase, change_made, translation_made}
use Rattle.plat_events.specs.Privates.{TurnOver, Relock, Rewait, Place, Polling, Looking, Applying, Ticking, Switching, Loading, Expecting}
use Rattle.plat_events.specs.Privates.{Exchanging, Locking, InSession, Leaving, Lessening, Gone, LiveLooking, TimeLooking, Over, Private}
use Rattle.plat_events.specs.Privates.{translation_at, period}
use Rattle.plat_events.specs.Scans.{entry_scanned, turn_over, scan_from, poll_place, look_place}

-- ---- the access that a guest wants

abbrev pub no_reach : Reach
no_reach = record { kind = kind.Load; space = 0; addr = 0; page = 0; word = 0; operand = 0 }

abbrev pub reach_wanted : Machine → Want → Reach
reach_wanted m want.Local = no_reach
reach_wanted m (want.Access kind space addr operand) = reach_of m kind space addr operand
reach_wanted m (want.Switch space) = no_reach
reach_wanted m (want.Print value) = no_reach
reach_wanted m want.Halted = no_reach
reach_wanted m want.Trap = no_reach

-- the access under way
abbrev pub reach_now : Machine → ℕ → Private → Reach
reach_now m a p = reach_wanted m (want_of m a p.guest)

abbrev pub vpage_of : Machine → Reach → ℕ
vpage_of m r = r.addr / m.words

abbrev pub entry_of : Machine → Reach → ℕ
entry_of m r = entry_reached m r.space r.addr

abbrev pub frame_by : Option Translation → Frame
frame_by None = no_frame
frame_by (Some t) = t.grant.frame

abbrev pub seq_by : Option Translation → ℕ
seq_by None = 0
seq_by (Some t) = t.seq

-- the translation that the access goes by
abbrev pub translation_now : Machine → ℕ → Private → Option Translation
translation_now m a p = translation_at p (entry_of m (reach_now m a p))

-- the data word that the access reads and writes
abbrev pub memory_now : Machine → ℕ → Private → WordName
memory_now m a p = memory_at (frame_by (translation_now m a p)) (reach_now m a p).word

-- the word after a store or fetch-and-add that found n
abbrev pub word_after : Reach → ℕ → ℕ
word_after r n = data_word (new_value r.kind (value_read n) r.operand) (version_read n + 1)

-- ---- the operation

abbrev pub named_next : Machine → Answer → (a : ℕ) → Private → Place → Option (WordName × Op)
named_next m answer a p (Polling onward) = Some (word.Intr a, op.Swap 0)
named_next m answer a p (Looking i moment onward) = Some (word.Cmap (entry_scanned m p i), op.Load)
named_next m answer a p (Applying i message moment onward) =
    Some (word.Cmap (entry_scanned m p i), op.And (all_but (bits_applied message a)))
named_next m answer a p Ticking = Some (word.Time, op.Add 1)
named_next m answer a p (Switching space) = Some (word.Act a, op.Swap (space + 1))
named_next m answer a p Loading = Some (memory_now m a p, op.Load)
named_next m answer a p Expecting = Some (memory_now m a p, op.Load)
named_next m answer a p (Exchanging seen) = Some (memory_now m a p, op.Exchange seen (word_after (reach_now m a p) seen))
named_next m answer a p (Locking fault) = Some (word.Dir fault.page, op.Or (2 ^ lock_place))
named_next m answer a p (InSession s) = Some (session_next m answer a p.now s s.phase)
named_next m answer a p (Leaving e) = Some (word.Act a, op.Swap 0)
named_next m answer a p (Lessening e) = Some (word.Live, op.Sub 1)
named_next m answer a p (Gone e) = None
named_next m answer a p LiveLooking = Some (word.Live, op.Load)
named_next m answer a p TimeLooking = Some (word.Time, op.Load)
named_next m answer a p Over = None

abbrev pub placed : Machine → WordName × Op → ℕ × Op
placed m x = (place_of m x.0, x.1)

-- the place of the word and the operation on it; none exactly where the actor has ended
unfoldable pub next_of : Machine → Answer → (a : ℕ) → Private → Option (ℕ × Op)
next_of m answer a p = option_map (placed m) (named_next m answer a p p.place)

-- ---- the new private state

abbrev pub at : Private → Place → Private
at p place = record p { place = place }

-- a look-up finds the translation where it has enough right, and fills its place of the cache; else there is a fault
abbrev pub look_up_place : Machine → Private → Reach → Place
look_up_place m p r =
    if has_right r.kind (translation_at p (entry_of m r))
    then (if is_write r.kind then Expecting else Loading)
    else Locking (record { page = r.page; entry = Some (entry_of m r); cause = cause_of r.kind })

abbrev pub places_filled : Machine → List (Option CachePlace) → Reach → List (Option CachePlace)
places_filled m atc r =
    (cache_accessed (entry_of m r) (vpage_of m r) (is_write r.kind) (record { places = atc; hits = 0; misses = 0 })).places

abbrev pub look_up : Machine → Reach → Private → Private
look_up m r p =
    record p {
      atc = if has_right r.kind (translation_at p (entry_of m r)) then places_filled m p.atc r else p.atc;
      place = look_up_place m p r;
    }

-- the guest moves on; value is what its load or fetch-and-add found
abbrev pub guest_moved : Machine → (a value : ℕ) → Private → Private
guest_moved m a value p = record p { guest = guest_after m a p.guest value }

-- what a turn does with its tick: a local or print instruction is done, and an access is looked up
abbrev pub turn_does : Machine → (a : ℕ) → Private → Want → Private
turn_does m a p want.Local = at (guest_moved m a 0 p) (turn_over m p.turns)
turn_does m a p (want.Access kind space addr operand) = look_up m (reach_of m kind space addr operand) p
turn_does m a p (want.Switch space) = at p (Switching space)
turn_does m a p (want.Print value) = at (guest_moved m a 0 p) (turn_over m p.turns)
turn_does m a p want.Halted = at p (Leaving end.Halted)
turn_does m a p want.Trap = at p (Leaving end.Trapped)

abbrev pub ticked : Machine → (a : ℕ) → Private → ℕ → Private
ticked m a p now = turn_does m a (record p { turns = p.turns + 1; now = now }) (want_of m a p.guest)

-- a message is applied to the translation of an entry, and the cache forgets the entry
abbrev pub apply_message : Private → (entry : ℕ) → Message → Private
apply_message p e msg =
    record p { pmap = slice_set p.pmap e (told_message msg (translation_at p e)); atc = map (without_entry e) p.atc }

abbrev pub switched : Machine → (a : ℕ) → Private → Private
switched m a p = record (guest_moved m a 0 p) { atc = no_places }

-- the access that found n is over
abbrev pub access_over : Machine → (a : ℕ) → Private → ℕ → Private
access_over m a p n = at (guest_moved m a (value_read n) p) (turn_over m p.turns)

-- the lock found n; a set bit sends a processor to poll, and the daemon to lock again
abbrev pub lock_place_after : Machine → (a : ℕ) → Fault → ℕ → Place
lock_place_after m a fault n =
    if is_locked n then (if a == m.nodes then Locking fault else Polling (Relock fault))
    else InSession (record {
      fault = fault;
      dir = dir_read n;
      phase = if a == m.nodes && not (dir_read n).frozen then Returning else Stamping;
    })

abbrev pub thaw_of : ℕ → Fault
thaw_of page = record { page = page; entry = None; cause = cause.Thaw }

-- the daemon goes to the next page, and after the last one sets the time of its next pass
abbrev pub page_done : Machine → Private → (page : ℕ) → Private
page_done m p page =
    if nat_lt (page + 1) m.pages then at p (Locking (thaw_of (page + 1)))
    else record p { due = (p.now / period m.policy + 1) * period m.policy; place = LiveLooking }

-- the time was found to be n
abbrev pub pass_begun : Private → ℕ → Private
pass_begun p n = if nat_lt n p.due then at p LiveLooking else record p { now = n; place = Locking (thaw_of 0) }

-- ---- of a session

-- the own translation of an entry that was posted to is dropped or lowered
abbrev pub drop_own : Private → Removed → Option ℕ → Private
drop_own p rem None = p
drop_own p rem (Some e) = record p { pmap = slice_set p.pmap e (kept_of rem (translation_at p e)) }

-- a shootdown that waits polls first
abbrev pub shoot_place : Session → Shoot → Place
shoot_place s (Makes posts shot) = InSession s
shoot_place s (Polls posts k) = Polling (Rewait s)
shoot_place s (Done posts) = InSession s

abbrev pub grant_own : Machine → Answer → (a : ℕ) → Private → Session → Course → Private
grant_own m answer a p s c =
    let e = entry_faulted m s.fault
    in record p { pmap = slice_set p.pmap e (Some (translation_made m answer a p.now s c e)) }

-- the cache forgets a page of which translations were removed
abbrev pub forget_page : Machine → (page : ℕ) → Removed → Private → Private
forget_page m page rem p = record p { atc = if removes_some rem then map (without_page m page) p.atc else p.atc }

-- the page stays as it was: no module had a frame, or the page is not frozen
abbrev pub returned : Machine → (a : ℕ) → Private → Session → Private
returned m a p s = if a == m.nodes then page_done m p s.fault.page else at p (Leaving end.NoFrames)

-- the change is made: a processor looks up its access again
abbrev pub unlocked : Machine → Answer → (a : ℕ) → Private → Session → Course → Private
unlocked m answer a p s c =
    if a == m.nodes then page_done m p s.fault.page
    else look_up m (reach_now m a p) (forget_page m s.fault.page (decision_of m answer a p.now s c).removed p)

-- the session in its next phase
abbrev pub into : Machine → Answer → (a : ℕ) → Private → ℕ → Session → Private
into m answer a p n s = at p (InSession (with_phase s (phase_after m answer a p.now s n s.phase)))

abbrev pub session_moved : Machine → Answer → (a : ℕ) → Private → ℕ → Session → Phase → Private
session_moved m answer a p n s Stamping = into m answer a p n s
session_moved m answer a p n s (Seeking st i) = into m answer a p n s
session_moved m answer a p n s (Taking st i seen) = into m answer a p n s
session_moved m answer a p n s Returning = returned m a p s
session_moved m answer a p n s (Shooting c shot) =
    at (drop_own p (decision_of m answer a p.now s c).removed (own_post m a s.fault.page c.posts n shot))
    (shoot_place (with_phase s (phase_after m answer a p.now s n s.phase)) (shot_after m a s.fault.page c.posts n shot))
session_moved m answer a p n s (Filling c w) = into m answer a p n s
session_moved m answer a p n s (Reading c w) = into m answer a p n s
session_moved m answer a p n s (Copying c w seen) = into m answer a p n s
session_moved m answer a p n s (Giving c k) = into m answer a p n s
session_moved m answer a p n s (Storing c) = into m answer a p n s
session_moved m answer a p n s (Granting c) = into m answer a (grant_own m answer a p s c) n s
session_moved m answer a p n s (Unlocking c) = unlocked m answer a p s c

-- ---- of any place

-- the private state after the operation found n, its journal aside
abbrev pub moved_at : Machine → Answer → (a : ℕ) → Private → ℕ → Place → Private
moved_at m answer a p n (Polling onward) = at p (poll_place m p onward n)
moved_at m answer a p n (Looking i moment onward) = at p (look_place m a p i moment onward n)
moved_at m answer a p n (Applying i msg moment onward) =
    at (apply_message p (entry_scanned m p i) msg) (scan_from m p.turns p.guest.space (i + 1) moment onward)
moved_at m answer a p n Ticking = ticked m a p (n + 1)
moved_at m answer a p n (Switching space) = at (switched m a p) (scan_from m p.turns space 0 moment.Activation TurnOver)
moved_at m answer a p n Loading = access_over m a p n
moved_at m answer a p n Expecting = at p (Exchanging n)
moved_at m answer a p n (Exchanging seen) = if n == seen then access_over m a p n else at p (Exchanging n)
moved_at m answer a p n (Locking fault) = at p (lock_place_after m a fault n)
moved_at m answer a p n (InSession s) = session_moved m answer a p n s s.phase
moved_at m answer a p n (Leaving e) = at p (Lessening e)
moved_at m answer a p n (Lessening e) = at p (Gone e)
moved_at m answer a p n (Gone e) = p
moved_at m answer a p n LiveLooking = at p (if n == 0 then Over else TimeLooking)
moved_at m answer a p n TimeLooking = pass_begun p n
moved_at m answer a p n Over = p

-- ---- the item

-- the access that found n
abbrev pub access_made : Machine → (a : ℕ) → Private → ℕ → Item
access_made m a p n =
    let r = reach_now m a p
    in item.Access (record {
      actor = a;
      kind = r.kind;
      space = r.space;
      addr = r.addr;
      page = r.page;
      word = r.word;
      old = value_read n;
      new = new_value r.kind (value_read n) r.operand;
      version = version_read n + writes_made r.kind;
      frame = frame_by (translation_now m a p);
      grant = seq_by (translation_now m a p);
    })

-- a message is applied where the translation is there, and a restrict where it is not marked
abbrev pub applied_item : (a entry : ℕ) → Message → Moment → Option Translation → Option Item
applied_item a e msg moment t =
    if may_apply msg t then Some (item.Applied (record { actor = a; entry = e; message = msg; moment = moment })) else None

abbrev pub session_item : Machine → Answer → (a now : ℕ) → Session → Phase → Option Item
session_item m answer a now s Stamping = None
session_item m answer a now s (Seeking st i) = None
session_item m answer a now s (Taking st i seen) = None
session_item m answer a now s Returning = None
session_item m answer a now s (Shooting c shot) = None
session_item m answer a now s (Filling c w) = None
session_item m answer a now s (Reading c w) = None
session_item m answer a now s (Copying c w seen) = None
session_item m answer a now s (Giving c k) = None
session_item m answer a now s (Storing c) = None
session_item m answer a now s (Granting c) = None
session_item m answer a now s (Unlocking c) = Some (item.Change (change_made m answer a now s c))

abbrev pub item_at : Machine → Answer → (a : ℕ) → Private → ℕ → Place → Option Item
item_at m answer a p n (Polling onward) = None
item_at m answer a p n (Looking i moment onward) = None
item_at m answer a p n (Applying i msg moment onward) =
    let e = entry_scanned m p i in applied_item a e msg moment (translation_at p e)
item_at m answer a p n Ticking = None
item_at m answer a p n (Switching space) = Some (item.Switch (record { actor = a; space = space }))
item_at m answer a p n Loading = Some (access_made m a p n)
item_at m answer a p n Expecting = None
item_at m answer a p n (Exchanging seen) = if n == seen then Some (access_made m a p n) else None
item_at m answer a p n (Locking fault) = None
item_at m answer a p n (InSession s) = session_item m answer a p.now s s.phase
item_at m answer a p n (Leaving e) = None
item_at m answer a p n (Lessening e) = None
item_at m answer a p n (Gone e) = None
item_at m answer a p n LiveLooking = None
item_at m answer a p n TimeLooking = None
item_at m answer a p n Over = None

-- ---- total: a word that its kind cannot be changes nothing

-- the operation tells a number that this word of the machine may be; a store tells nothing, and is always followed
abbrev pub is_followed : Machine → Option (WordName × Op) → ℕ → Bool
is_followed m None n = false
is_followed m (Some x) n = is_store x.1 || is_word m x.0 n

abbrev pub item_if : Bool → Option Item → Option Item
item_if true i = i
item_if false i = None

-- the item that the actor adds, if any, when its operation told n
unfoldable pub item_of : Machine → Answer → (a : ℕ) → Private → ℕ → Option Item
item_of m answer a p n = item_if (is_followed m (named_next m answer a p p.place) n) (item_at m answer a p n p.place)

abbrev pub with_item : List Item → Option Item → List Item
with_item items None = items
with_item items (Some i) = items ++ i ∷ []

abbrev pub after_if : Bool → Private → Private → Option Item → Private
after_if false p moved made = p
after_if true p moved made = record moved { journal = with_item p.journal made }

-- the actor's private state when its operation told n
unfoldable pub after : Machine → Answer → (a : ℕ) → Private → ℕ → Private
after m answer a p n =
    after_if (is_followed m (named_next m answer a p p.place) n) p (moved_at m answer a p n p.place) (item_at m answer a p n p.place)
