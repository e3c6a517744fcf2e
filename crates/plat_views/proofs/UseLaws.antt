-- what follows for a translation that may be used, for a processor with a session of its own, and for a target that is passed
use Rattle.std.proofs.Common.{◌≡◌, true, false, arith}
use Rattle.std.specs.Prelude.{◌≢◌}
use Rattle.plat_base.specs.declared.frames.State.TheVariants.{Modified}
use Rattle.plat_base.specs.declared.items.Removed.TheVariants.{Nothing, Writes, All}
use Rattle.plat_events.specs.Views.{Own, View, EntryOk, HeldView, HeldOk}
use Rattle.plat_views.specs.Facts.{ViewFacts}

-- a usable translation names a kept copy
pub usable_kept : (v : View) → ViewFacts v → EntryOk v → v.has ≡ true → v.usable ≡ true → v.whose ≢ Own → v.kept ≡ true
usable_kept v facts ok h0 h1 h2 = search arith

-- with the right to write the page is modified, and a quiet session on it removes nothing
pub usable_modified :
    (v : View) → ViewFacts v → EntryOk v → v.has ≡ true → v.usable ≡ true → v.whose ≢ Own → v.writes ≡ true → v.state ≡ Modified
usable_modified v facts ok h0 h1 h2 h3 = search arith

pub usable_unremoved :
    (v : View) → ViewFacts v → EntryOk v → v.has ≡ true → v.usable ≡ true → v.whose ≢ Own → v.writes ≡ true → v.quiet ≡ true →
    v.removes ≡ Nothing
usable_unremoved v facts ok h0 h1 h2 h3 h4 = search arith

-- no message waits for an actor in a session on the page
pub own_clear :
    (v : View) → ViewFacts v → EntryOk v → v.whose ≡ Own → v.active ≡ true → (v.invalidate ≡ false) × (v.restrict ≡ false)
own_clear v facts ok h0 h1 = search arith

-- a target that is passed has no usable translation, or none with the right to write
pub passed_all :
    (v : View) → ViewFacts v → EntryOk v → v.posted ≡ true → v.owed ≡ false → v.usable ≡ true → v.granted ≡ false → v.removes ≡ All →
    v.has ≡ false
passed_all v facts ok h0 h1 h2 h3 h4 = search arith

pub passed_writes :
    (v : View) → ViewFacts v → EntryOk v → v.posted ≡ true → v.owed ≡ false → v.usable ≡ true → v.granted ≡ false → v.removes ≡ Writes →
    v.has ≡ true → v.writes ≡ false
passed_writes v facts ok h0 h1 h2 h3 h4 h5 = search arith

-- ---- a message that is applied finds what the history says

pub restrict_answers :
    (v : View) (h : HeldView) → ViewFacts v → EntryOk v → HeldOk v h → v.restricting ≡ true →
    (h.held ≡ true) × (h.same ≡ true) × (v.marked ≡ false)
restrict_answers v h facts ok same h0 = search arith

pub invalidate_answers :
    (v : View) (h : HeldView) → ViewFacts v → HeldOk v h → v.has ≡ true → v.granted ≡ false → (h.held ≡ true) × (h.same ≡ true)
invalidate_answers v h facts same h0 h1 = search arith
