-- an unlock with a change as a processor and an entry see it; what a later change took is left open where nothing can be used
use Rattle.std.specs.Prelude.{◌≡◌, Bool, true, false}
use Rattle.std.proofs.Common.{arith}
use Rattle.plat_base.specs.declared.frames.State.{State}
use Rattle.plat_base.specs.declared.items.Removed.TheVariants.{Writes, All}
use Rattle.plat_events.specs.Views.{Another, Own, View, EntryOk, InvalidateStays, HeldView, HeldOk}
use Rattle.plat_views.specs.Facts.{ViewFacts}
use Rattle.plat_views.specs.Steps.{unlock_writes, unlock_all}

abbrev pub left_writes : (copy writes_after : Bool) → View → View
left_writes c w v = record (unlock_writes c v) { writes_after = w }

abbrev pub left_all : State → (copy all_after writes_after : Bool) → View → View
left_all s c b w v = record (unlock_all s c v) { all_after = b; writes_after = w }

pub left_writes_ok :
    (v : View) (c w : Bool) → ViewFacts v → EntryOk v → v.quiet ≡ true → v.removes ≡ Writes → v.granted ≡ false →
    (v.copy ≡ true → c ≡ true) → EntryOk (left_writes c w v)
left_writes_ok v c w facts ok h0 h1 h2 h3 = search arith

pub left_writes_waits :
    (v : View) (c w : Bool) → InvalidateStays v → InvalidateStays (left_writes c w v)
left_writes_waits v c w stays = search arith

pub left_writes_held_other :
    (v : View) (h : HeldView) (c w : Bool) → ViewFacts v → EntryOk v → HeldOk v h → v.quiet ≡ true → v.removes ≡ Writes →
    v.granted ≡ false → v.whose ≡ Another → HeldOk (left_writes c w v) h
left_writes_held_other v h c w facts ok same h0 h1 h2 h3 = search arith

pub left_writes_held_own :
    (v : View) (h : HeldView) (c w : Bool) → ViewFacts v → EntryOk v → HeldOk v h → v.quiet ≡ true → v.removes ≡ Writes →
    v.granted ≡ false → v.whose ≡ Own →
    HeldOk (left_writes c w v) (record { held = h.held; held_writes = false; same = h.same })
left_writes_held_own v h c w facts ok same h0 h1 h2 h3 = search arith

pub left_all_ok :
    (v : View) (s : State) (c b w : Bool) → ViewFacts v → EntryOk v → v.quiet ≡ true → v.removes ≡ All → v.granted ≡ false →
    EntryOk (left_all s c b w v)
left_all_ok v s c b w facts ok h0 h1 h2 = search arith

pub left_all_waits : (v : View) (s : State) (c b w : Bool) → InvalidateStays v → InvalidateStays (left_all s c b w v)
left_all_waits v s c b w stays = search arith

pub left_all_held_other :
    (v : View) (h : HeldView) (s : State) (c b w : Bool) → ViewFacts v → EntryOk v → HeldOk v h → v.quiet ≡ true → v.removes ≡ All →
    v.granted ≡ false → v.whose ≡ Another → HeldOk (left_all s c b w v) h
left_all_held_other v h s c b w facts ok same h0 h1 h2 h3 = search arith

pub left_all_held_own :
    (v : View) (h : HeldView) (s : State) (c b w : Bool) → ViewFacts v → EntryOk v → HeldOk v h → v.quiet ≡ true → v.removes ≡ All →
    v.granted ≡ false → v.whose ≡ Own → HeldOk (left_all s c b w v) (record { held = false; held_writes = false; same = false })
left_all_held_own v h s c b w facts ok same h0 h1 h2 h3 = search arith
