-- facts of a view that follow from where the actors stand and from what the sessions on a page have read
use Rattle.std.specs.Prelude.{◌≡◌, ◌≢◌, true, false}
use Rattle.plat_base.specs.declared.frames.State.TheVariants.{Empty, Modified}
use Rattle.plat_base.specs.declared.items.Removed.TheVariants.{Nothing, Writes, All}
use Rattle.plat_events.specs.Views.{Nobody, Another, Own, View}

pub record ViewFacts (v : View) : Type 0 where
  -- without a session nothing is removed, posted or granted
  pub idle : v.whose ≡ Nobody → (v.removes ≡ Nothing) × (v.quiet ≡ false) × (v.granted ≡ false) × (v.given ≡ false)
  -- a target belongs to a post of another's session
  pub owed_posted : v.owed ≡ true → (v.posted ≡ true) × (v.whose ≡ Another)
  pub posted_removes : v.posted ≡ true → v.removes ≢ Nothing
  -- a quiet session has made its posts, and waits for nobody
  pub quiet_owed : v.quiet ≡ true → v.owed ≡ false
  pub quiet_posted : v.quiet ≡ true → v.removes ≢ Nothing → v.posted ≡ true
  -- a grant is the own session's, which is quiet, of an entry of the active space
  pub granted_own : v.granted ≡ true → (v.whose ≡ Own) × (v.quiet ≡ true) × (v.active ≡ true)
  -- what is removed
  pub writes_modified : v.removes ≡ Writes → v.state ≡ Modified
  pub all_not_empty : v.removes ≡ All → v.state ≢ Empty
  -- where the processor stands
  pub usable_active : v.usable ≡ true → v.active ≡ true
  pub restricting_active : v.restricting ≡ true → v.active ≡ true
  pub invalidating_active : v.invalidating ≡ true → v.active ≡ true
  -- no session runs within an activation scan or after the end
  pub own_usable : v.whose ≡ Own → v.active ≡ true → v.usable ≡ true
  pub own_quiet : v.whose ≡ Own → v.quiet ≡ true → v.restricting ≡ false
  -- frames that are given back
  pub given_all : v.given ≡ true → (v.quiet ≡ true) × (v.removes ≡ All)
  pub copy_given : v.copy ≡ true → v.kept ≡ false → v.given ≡ true
  pub kept_copy : v.kept ≡ true → v.copy ≡ true
  pub copy_not_empty : v.copy ≡ true → v.state ≢ Empty
  -- the granted translation is not marked
  pub mine_granted : v.mine ≡ true → (v.granted ≡ true) × (v.marked ≡ false)
