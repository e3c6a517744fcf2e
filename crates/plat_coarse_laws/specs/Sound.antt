-- the invariant of the coarse run: what holds of its history and ends between turns, for every policy
use Rattle.std.specs.Prelude.{◌≡◌, ◌≢◌, ℕ, ◌+◌, ◌<◌, ◌≤◌, true, false, List, [], length, Some, None}
use Rattle.plat_base.specs.Verdicts.{Answer}
use Rattle.plat_base.specs.Machine.{Machine}
use Rattle.plat_base.specs.Pages.{page_of, space_of}
use Rattle.plat_base.specs.Directories.{dir_of, seq_of}
use Rattle.plat_base.specs.Held.{held, active, later, removes_all, removes_writes}
use Rattle.plat_base.specs.Decide.{is_dir, is_frame}
use Rattle.plat_base.specs.Ends.{ended_of, is_live}
use Rattle.plat_base.specs.Coarse.{Coarse}
use Rattle.plat_base.specs.Messages.{by_other}
use Rattle.plat_base.specs.Rules.{bad_after, is_in_order}
use Rattle.plat_laws.specs.Guests.{IsGuest}
use Rattle.plat_base.specs.declared.frames.State.TheVariants as state
use Rattle.plat_base.specs.declared.items.Right.TheVariants as right
use Rattle.plat_base.specs.declared.items.Removed.TheVariants as removed
use Rattle.plat_base.specs.declared.items.Grant.{Grant}
use Rattle.plat_base.specs.declared.items.Change.{Change}
use Rattle.plat_base.specs.declared.items.Item.{Item}
use Rattle.plat_base.specs.declared.items.Translation.{Translation}

-- what holds of a translation t that q holds for entry e, p being the entry's page; live and here say that q is live, and
-- active in the entry's space
pub record IsKept (m : Machine) (s : Coarse) (q e : ℕ) (t : Translation) : Type 0 where
  -- it leads to a frame of the machine
  pub frame : is_frame m t.grant.frame ≡ true
  -- its number is one of the page's changes
  pub below : t.seq < seq_of s.history (page_of m e)
  -- a processor's own changes leave nothing behind that only they removed
  pub own_all :
      later removes_all s.history (page_of m e) t.seq ≡ true → by_other removes_all s.history q (page_of m e) t.seq ≡ true
  pub own_writes :
      t.grant.right ≡ right.Write → later removes_writes s.history (page_of m e) t.seq ≡ true
      → by_other removes_writes s.history q (page_of m e) t.seq ≡ true
  -- a mark is a read right and has a cause
  pub marked_right : t.restricted ≡ true → t.grant.right ≡ right.Read
  pub marked_cause : t.restricted ≡ true → by_other removes_writes s.history q (page_of m e) t.seq ≡ true
  -- a live processor owes nothing in the space that it runs in
  pub answered_all :
      is_live s.ends q ≡ true → active m s.history q ≡ space_of m e → by_other removes_all s.history q (page_of m e) t.seq ≡ false
  pub answered_writes :
      is_live s.ends q ≡ true → active m s.history q ≡ space_of m e → t.restricted ≡ false
      → by_other removes_writes s.history q (page_of m e) t.seq ≡ false

-- what holds of a page
pub record IsPage (m : Machine) (items : List Item) (p : ℕ) : Type 0 where
  pub dir : is_dir m (dir_of items p) ≡ true
  -- numbers never run ahead
  pub numbers_all : (g : ℕ) → seq_of items p ≤ g + 1 → later removes_all items p g ≡ false
  pub numbers_writes : (g : ℕ) → seq_of items p ≤ g + 1 → later removes_writes items p g ≡ false
  -- a page whose writes were removed, and not all since, is present+
  pub writes :
      (g : ℕ) → later removes_writes items p g ≡ true → later removes_all items p g ≡ false
      → (dir_of items p).state ≡ state.PresentPlus

-- pages and translations between turns
pub record IsSettled (m : Machine) (s : Coarse) : Type 0 where
  pub page : (p : ℕ) → p < m.pages → IsPage m s.history p
  pub kept : (q e : ℕ) (t : Translation) → q < m.nodes → e < length m.entries → held m s.history q e ≡ Some t → IsKept m s q e t

-- a change that may follow a history: of a fault or of a thaw
pub record IsNextChange (m : Machine) (items : List Item) (c : Change) : Type 0 where
  pub page : c.page < m.pages
  pub actor : c.actor ≤ m.nodes
  pub seq : c.seq ≡ seq_of items c.page
  pub after : is_dir m c.after ≡ true
  pub writes_before : c.removed ≡ removed.Writes → (dir_of items c.page).state ≡ state.Modified
  pub writes_after : c.removed ≡ removed.Writes → c.after.state ≡ state.PresentPlus
  pub stays : (dir_of items c.page).state ≡ state.PresentPlus → c.removed ≢ removed.All → c.after.state ≡ state.PresentPlus
  pub granted_entry : (g : Grant) → c.granted ≡ Some g → g.entry < length m.entries
  pub granted_page : (g : Grant) → c.granted ≡ Some g → page_of m g.entry ≡ c.page
  pub granted_frame : (g : Grant) → c.granted ≡ Some g → is_frame m g.frame ≡ true

pub record Sound (m : Machine) (answer : Answer) (s : Coarse) : Type 0 where
  pub items : bad_after m answer [] 0 s.history ≡ None
  pub count : length s.ends ≡ m.nodes
  pub turns : (q : ℕ) → q < m.nodes → (ended_of s.ends q).turns ≤ m.budget
  pub left : (q : ℕ) → is_live s.ends q ≡ true → (ended_of s.ends q).turns < m.budget
  pub guest : (q : ℕ) → is_live s.ends q ≡ true → IsGuest m s.history (ended_of s.ends q).turns q
  pub ended : (q : ℕ) → q < m.nodes → is_live s.ends q ≡ false → is_in_order m s.history s.ends q ≡ true
  pub settled : IsSettled m s
