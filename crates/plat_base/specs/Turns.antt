-- the coarse run: whole instructions, turn by turn; all state of pages is a fold over the history so far
use Rattle.std.specs.Prelude.{ℕ, ◌+◌, ◌/◌, ◌%◌, ◌==◌, if◌then◌else◌, Bool, false, List, [], ◌∷◌, ◌++◌, Option, Some, None, slice_set}
use Rattle.std.specs.List.{fold}
use Rattle.plat_base.specs.Verdicts.{Answer}
use Rattle.plat_base.specs.Machine.{Machine}
use Rattle.plat_base.specs.Pages.{numbers, entry_at}
use Rattle.plat_base.specs.GuestRun.{GuestRun, guest_run, want_of, Reach, reach_of}
use Rattle.plat_base.specs.Done.{values_of}
use Rattle.plat_base.specs.Directories.{dir_of, seq_of, last_of}
use Rattle.plat_base.specs.Held.{held, has_right}
use Rattle.plat_base.specs.Decide.{decide}
use Rattle.plat_base.specs.declared.items.Cause.{Cause}
use Rattle.plat_base.specs.declared.items.Cause.TheVariants as cause
use Rattle.plat_base.specs.declared.items.Grant.{Grant}
use Rattle.plat_base.specs.declared.items.Translation.{Translation}
use Rattle.plat_base.specs.declared.items.Change.{Change}
use Rattle.plat_base.specs.declared.items.Item.{Item}
use Rattle.plat_base.specs.declared.items.Item.TheVariants as item
use Rattle.plat_base.specs.declared.endings.End.{End}
use Rattle.plat_base.specs.declared.endings.End.TheVariants as end
use Rattle.plat_base.specs.declared.guests.Want.{Want}
use Rattle.plat_base.specs.declared.guests.Want.TheVariants as want
use Rattle.plat_base.specs.declared.policies.Decision.{Decision}
use Rattle.plat_base.specs.declared.policies.PolicyKind.{PolicyKind}
use Rattle.plat_base.specs.declared.policies.PolicyKind.TheVariants as policy
use Rattle.plat_base.specs.Accesses.{access_by, cause_of, right_of}
use Rattle.plat_base.specs.Ends.{ended_of, time_of, end_after}
use Rattle.plat_base.specs.Coarse.{Coarse}
use Rattle.plat_base.specs.Frames.{got_frame, is_starved}
use Rattle.plat_base.specs.Messages.{interrupts, switch_items}

abbrev pub decided : Machine → Answer → List Item → (q page now : ℕ) → Cause → Decision
decided m answer items q page now cause =
    decide m answer (dir_of items page) (last_of items page) now q cause (got_frame m answer items q page now cause)

abbrev pub change_by : List Item → (q page now : ℕ) → Cause → Decision → Option Grant → Change
change_by items q page now cause d granted = record {
  actor = q;
  page = page;
  seq = seq_of items page;
  time = now;
  cause = cause;
  action = d.action;
  removed = d.removed;
  before = dir_of items page;
  after = d.after;
  granted = granted;
}

abbrev pub grant_of : ℕ → Cause → Decision → Grant
grant_of entry cause d = record { entry = entry; frame = d.frame; right = right_of cause }

-- the messages, the change and the access of a fault
abbrev pub fault_items : Machine → Coarse → (q now entry : ℕ) → Reach → Decision → List Item
fault_items m s q now entry r d =
    interrupts m s q r.page d.removed
    ++ (item.Change (change_by s.history q r.page now (cause_of r.kind) d (Some (grant_of entry (cause_of r.kind) d)))
    ∷ access_by m s.history q r d.frame (seq_of s.history r.page)
    ∷ [])

-- what a turn adds, and how it leaves the processor; Cut says that the guest goes on
pub record Made : Type 0 where
  pub items : List Item
  pub end : End

abbrev pub made : List Item → End → Made
made items end = record { items = items; end = end }

abbrev pub fault_made : Machine → Answer → Coarse → (q now entry : ℕ) → Reach → Made
fault_made m answer s q now entry r =
    if is_starved m s.history q r.page then made [] end.NoFrames
    else made (fault_items m s q now entry r (decided m answer s.history q r.page now (cause_of r.kind))) end.Cut

abbrev pub access_made : Machine → Answer → Coarse → (q now entry : ℕ) → Reach → Option Translation → Made
access_made m answer s q now entry r None = fault_made m answer s q now entry r
access_made m answer s q now entry r (Some t) =
    if has_right r.kind (Some t) then made (access_by m s.history q r t.grant.frame t.seq ∷ []) end.Cut
    else fault_made m answer s q now entry r

-- an access through an entry; a guest that wants one without an entry traps
abbrev pub made_reached : Machine → Answer → Coarse → (q now : ℕ) → Reach → Option ℕ → Made
made_reached m answer s q now r None = made [] end.Trapped
made_reached m answer s q now r (Some entry) = access_made m answer s q now entry r (held m s.history q entry)

abbrev pub made_by : Machine → Answer → Coarse → (q now : ℕ) → Want → Made
made_by m answer s q now want.Local = made [] end.Cut
made_by m answer s q now (want.Access kind space addr operand) =
    made_reached m answer s q now (reach_of m kind space addr operand) (entry_at m space (addr / m.words))
made_by m answer s q now (want.Switch space) = made (switch_items m s.history q space) end.Cut
made_by m answer s q now (want.Print value) = made [] end.Cut
made_by m answer s q now want.Halted = made [] end.Halted
made_by m answer s q now want.Trap = made [] end.Trapped

abbrev pub with_made : Machine → Coarse → ℕ → Made → Coarse
with_made m s q x =
    let turns = (ended_of s.ends q).turns + 1
    in record {
      history = s.history ++ x.items;
      ends = slice_set s.ends q (record { end = end_after m turns x.end; turns = turns });
    }

-- the run of guest q as the history has it
abbrev pub guest_now : Machine → Coarse → ℕ → GuestRun
guest_now m s q = guest_run m q (values_of q s.history) (ended_of s.ends q).turns

abbrev pub thaw_items : Machine → Answer → Coarse → (now page : ℕ) → List Item
thaw_items m answer s now page =
    let d = decide m answer (dir_of s.history page) (last_of s.history page) now m.nodes cause.Thaw None
    in interrupts m s m.nodes page d.removed ++ item.Change (change_by s.history m.nodes page now cause.Thaw d None) ∷ []

-- a frozen page is thawed
abbrev pub thaw : Machine → Answer → ℕ → Coarse → ℕ → Coarse
thaw m answer now s page =
    if (dir_of s.history page).frozen
    then record { history = s.history ++ thaw_items m answer s now page; ends = s.ends }
    else s

abbrev pub is_pass : PolicyKind → ℕ → Bool
is_pass policy.Place now = false
is_pass policy.Replicate now = false
is_pass (policy.Platinum t1 t2) now = now % t2 == 0

-- the daemon's pass at ticks that are multiples of its period: each frozen page in rising number
abbrev pub daemon : Machine → Answer → ℕ → Coarse → Coarse
daemon m answer now s = if is_pass m.policy now then fold (thaw m answer now) s (numbers m.pages) else s

-- one turn of processor q, with the daemon's pass that belongs to it
abbrev pub turn : Machine → Answer → Coarse → ℕ → Coarse
turn m answer s q =
    let now = time_of s.ends + 1
    in daemon m answer now (with_made m s q (made_by m answer s q now (want_of m q (guest_now m s q).state)))

-- the turns of a list of processors
abbrev pub turns : Machine → Answer → Coarse → List ℕ → Coarse
turns m answer s qs = fold (turn m answer) s qs
