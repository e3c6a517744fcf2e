-- the access that a guest wants, what an actor locks a page for, and how a processor ends
use Rattle.std.specs.Prelude.{◌≡◌, ℕ, ◌<◌, Bool, true, false, Some}
use Rattle.plat_base.specs.Machine.{Machine}
use Rattle.plat_base.specs.GuestRun.{want_of}
use Rattle.plat_base.specs.Flat.{is_write}
use Rattle.plat_base.specs.Held.{has_right}
use Rattle.plat_base.specs.Accesses.{cause_of}
use Rattle.plat_base.specs.declared.guests.Want.TheVariants as want
use Rattle.plat_base.specs.declared.endings.End.{End}
use Rattle.plat_base.specs.declared.endings.End.TheVariants as end
use Rattle.plat_events.specs.Sessions.{Fault}
use Rattle.plat_events.specs.Privates.{Private}
use Rattle.plat_events.specs.Events.{reach_now, entry_of, translation_now, thaw_of}

-- ---- the access under way

-- the guest wants an access of memory, and it is the one under way
abbrev pub WantsAccess : Machine → (a : ℕ) → Private → Type 0
WantsAccess m a p =
    want_of m a p.guest
    ≡ want.Access (reach_now m a p).kind (reach_now m a p).space (reach_now m a p).addr (reach_now m a p).operand

-- the translation of its entry is there, with enough right for it
abbrev pub may_access : Machine → (a : ℕ) → Private → Bool
may_access m a p = has_right (reach_now m a p).kind (translation_now m a p)

-- a processor has not enough right for it
abbrev pub LacksRight : Machine → (a : ℕ) → Private → Type 0
LacksRight m a p = a < m.nodes → may_access m a p ≡ false

-- a processor makes an access, a load or not
pub record AccessOk (m : Machine) (a : ℕ) (p : Private) (writes : Bool) : Type 0 where
  pub processor : a < m.nodes
  -- its guest wants it
  pub wants : WantsAccess m a p
  -- by a translation with enough right
  pub right : may_access m a p ≡ true
  -- and it writes, or does not
  pub kind : is_write (reach_now m a p).kind ≡ writes

-- ---- faults

-- the fault is that of the access under way: its page, its entry and its cause
pub record IsFaultNow (m : Machine) (a : ℕ) (p : Private) (fault : Fault) : Type 0 where
  pub wants : WantsAccess m a p
  pub page : fault.page ≡ (reach_now m a p).page
  pub entry : fault.entry ≡ Some (entry_of m (reach_now m a p))
  pub cause : fault.cause ≡ cause_of (reach_now m a p).kind

-- what an actor locks a page for
pub record FaultOk (m : Machine) (a : ℕ) (p : Private) (fault : Fault) : Type 0 where
  -- the page is one of the machine
  pub page : fault.page < m.pages
  -- a processor has faulted on the access under way
  pub access : a < m.nodes → IsFaultNow m a p fault
  -- and the daemon has come to the page
  pub thaw : a ≡ m.nodes → fault ≡ thaw_of fault.page

-- ---- ends

-- why a processor ends
abbrev pub EndOk : Machine → (a : ℕ) → Private → End → Type 0
EndOk m a p end.Halted = want_of m a p.guest ≡ want.Halted
EndOk m a p end.Trapped = want_of m a p.guest ≡ want.Trap
EndOk m a p end.Spent = p.turns ≡ m.budget
EndOk m a p end.NoFrames = WantsAccess m a p × (may_access m a p ≡ false)
EndOk m a p end.Cut = ⊥
