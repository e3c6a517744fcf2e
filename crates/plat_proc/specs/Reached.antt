-- the access that a guest wants, as the code has it, and as the definitions see it
use Rattle.std.specs.Prelude.{◌≡◌, ℕ, ◌+◌, ◌<◌, true, length, Some}
use Rattle.plat_base.specs.Machine.{Machine}
use Rattle.plat_base.specs.Pages.{page_of}
use Rattle.plat_base.specs.GuestRun.{Reach}
use Rattle.plat_base.specs.Done.{new_value}
use Rattle.plat_base.specs.Accesses.{cause_of, writes_made}
use Rattle.plat_base.specs.declared.items.Item.{Item}
use Rattle.plat_base.specs.declared.items.Item.TheVariants as item
use Rattle.plat_base.specs.declared.items.Translation.{Translation}
use Rattle.plat_base.specs.declared.limits.TheConstants.{VIRTUAL_PAGES}
use Rattle.plat_events.specs.Events.{entry_of, reach_now, vpage_of}
use Rattle.plat_events.specs.Places.{entry_count}
use Rattle.plat_events.specs.Privates.{translation_at}
use Rattle.plat_events.specs.Sessions.{Fault}
use Rattle.plat_events.specs.Words.{value_read, version_read}
use Rattle.plat_local_laws.specs.Faults.{WantsAccess, may_access}
use Rattle.plat_proc.specs.ProcSeen.{ProcSeen}
use Rattle.plat_proc.specs.declared.accesses.Reached.{Reached}

abbrev pub reach_seen : Reached → Reach
reach_seen r = record { kind = r.kind; space = r.space; addr = r.addr; page = r.page; word = r.word; operand = r.operand }

-- the fault of an access that no translation serves
abbrev pub fault_reached : Machine → Reach → Fault
fault_reached m r = record { page = r.page; entry = Some (entry_of m r); cause = cause_of r.kind }

-- its address leads to the entry, the virtual page and the page that it has
pub record IsReach (m : Machine) (r : Reached) : Type 0 where
  pub entry : r.entry ≡ entry_of m (reach_seen r)
  pub within : r.entry < length m.entries
  pub vpage : r.vpage ≡ vpage_of m (reach_seen r)
  pub narrow : r.vpage < VIRTUAL_PAGES
  pub page : page_of m r.entry ≡ r.page

-- the access of processor q that found the word n, by a translation
abbrev pub access_by : (q : ℕ) → Reach → Translation → ℕ → Item
access_by q r t n = item.Access (record {
  actor = q;
  kind = r.kind;
  space = r.space;
  addr = r.addr;
  page = r.page;
  word = r.word;
  old = value_read n;
  new = new_value r.kind (value_read n) r.operand;
  version = version_read n + writes_made r.kind;
  frame = t.grant.frame;
  grant = t.seq;
})

-- its guest wants an access, and the translation of the entry is there with enough right
pub record MayAccess (m : Machine) (x : ProcSeen) : Type 0 where
  pub processor : x.actor < m.nodes
  pub wants : WantsAccess m x.actor x.state
  pub right : may_access m x.actor x.state ≡ true
  pub entries : length x.state.pmap ≡ entry_count m

-- the access is what the guest wants, and the translation is that of its entry
pub record GoesBy (m : Machine) (x : ProcSeen) (r : Reached) (t : Translation) : Type 0 where
  pub reach : reach_seen r ≡ reach_now m x.actor x.state
  pub leads : IsReach m r
  pub translation : translation_at x.state r.entry ≡ Some t
