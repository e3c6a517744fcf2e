-- every operation keeps what the history says of a translation in step with what the processor has
use Rattle.std.proofs.Common.{◌≡◌, Bool, true, false, arith}
use Rattle.plat_base.specs.declared.frames.State.{State}
use Rattle.plat_base.specs.declared.frames.State.TheVariants.{PresentPlus, Modified}
use Rattle.plat_base.specs.declared.items.Removed.{Removed}
use Rattle.plat_base.specs.declared.items.Removed.TheVariants.{Nothing, Writes, All}
use Rattle.plat_events.specs.Views.{Nobody, Another, Own, View, EntryOk, HeldView, HeldOk}
use Rattle.plat_views.specs.Facts.{ViewFacts}
use Rattle.plat_views.specs.Steps.{lock_other, lock_own, choose, post_all_other, post_writes_other, post_all_own, post_writes_own}
use Rattle.plat_views.specs.Steps.{post_none, last_pass, pass_mask, pass_act, give, grant, unlock_granted, unlock_nothing, unlock_writes}
use Rattle.plat_views.specs.Steps.{unlock_all, unlock_unchanged, scan_clear, scan_restrict, scan_invalidate, apply_invalidate}
use Rattle.plat_views.specs.Steps.{apply_restrict, leave}

pub lock_other_held : (v : View) (h : HeldView) → ViewFacts v → EntryOk v → HeldOk v h → v.whose ≡ Nobody → HeldOk (lock_other v) h
lock_other_held v h facts ok same h0 = search arith

pub lock_own_held : (v : View) (h : HeldView) → ViewFacts v → EntryOk v → HeldOk v h → v.whose ≡ Nobody → HeldOk (lock_own v) h
lock_own_held v h facts ok same h0 = search arith

pub choose_held :
    (v : View) (h : HeldView) (r : Removed) → ViewFacts v → EntryOk v → HeldOk v h → v.removes ≡ Nothing → HeldOk (choose r v) h
choose_held v h r facts ok same h0 = search arith

pub post_all_other_held :
    (v : View) (h : HeldView) → ViewFacts v → EntryOk v → HeldOk v h → v.whose ≡ Another → v.removes ≡ All → HeldOk (post_all_other v) h
post_all_other_held v h facts ok same h0 h1 = search arith

pub post_writes_other_held :
    (v : View) (h : HeldView) → ViewFacts v → EntryOk v → HeldOk v h → v.posted ≡ false → v.removes ≡ Writes → v.whose ≡ Another →
    HeldOk (post_writes_other v) h
post_writes_other_held v h facts ok same h0 h1 h2 = search arith

pub post_all_own_held :
    (v : View) (h : HeldView) → ViewFacts v → EntryOk v → HeldOk v h → v.whose ≡ Own → v.removes ≡ All → HeldOk (post_all_own v) h
post_all_own_held v h facts ok same h0 h1 = search arith

pub post_writes_own_held :
    (v : View) (h : HeldView) → ViewFacts v → EntryOk v → HeldOk v h → v.removes ≡ Writes → v.whose ≡ Own → v.posted ≡ false →
    HeldOk (post_writes_own v) h
post_writes_own_held v h facts ok same h0 h1 h2 = search arith

pub post_none_held : (v : View) (h : HeldView) → ViewFacts v → EntryOk v → HeldOk v h → v.has ≡ false → HeldOk (post_none v) h
post_none_held v h facts ok same h0 = search arith

pub last_pass_held : (v : View) (h : HeldView) → ViewFacts v → EntryOk v → HeldOk v h → HeldOk (last_pass v) h
last_pass_held v h facts ok same = search arith

pub pass_mask_held :
    (v : View) (h : HeldView) → ViewFacts v → EntryOk v → HeldOk v h → v.invalidate ≡ false → v.restrict ≡ false →
    HeldOk (pass_mask v) h
pass_mask_held v h facts ok same h0 h1 = search arith

pub pass_act_held : (v : View) (h : HeldView) → ViewFacts v → EntryOk v → HeldOk v h → v.active ≡ false → HeldOk (pass_act v) h
pass_act_held v h facts ok same h0 = search arith

pub give_held : (v : View) (h : HeldView) → ViewFacts v → EntryOk v → HeldOk v h → v.quiet ≡ true → v.removes ≡ All → HeldOk (give v) h
give_held v h facts ok same h0 h1 = search arith

pub grant_held :
    (v : View) (h : HeldView) (w : Bool) (c : Bool) (k : Bool) → ViewFacts v → EntryOk v → HeldOk v h → v.whose ≡ Own → v.active ≡ true →
    v.quiet ≡ true → HeldOk (grant w c k v) h
grant_held v h w c k facts ok same h0 h1 h2 = search arith

pub unlock_granted_held :
    (v : View) (h : HeldView) (s : State) → ViewFacts v → EntryOk v → HeldOk v h → v.granted ≡ true → (v.writes ≡ true → s ≡ Modified) →
    v.has ≡ true → HeldOk (unlock_granted s v) (record { held = true; held_writes = v.writes; same = true })
unlock_granted_held v h s facts ok same h0 h1 h2 = search arith

pub unlock_nothing_held :
    (v : View) (h : HeldView) (s : State) (c : Bool) → ViewFacts v → EntryOk v → HeldOk v h → v.removes ≡ Nothing → v.granted ≡ false →
    (v.state ≡ PresentPlus → s ≡ PresentPlus) → (v.state ≡ Modified → s ≡ Modified) → (v.copy ≡ true → c ≡ true) →
    HeldOk (unlock_nothing s c v) h
unlock_nothing_held v h s c facts ok same h0 h1 h2 h3 h4 = search arith

pub unlock_writes_held_other :
    (v : View) (h : HeldView) (c : Bool) → ViewFacts v → EntryOk v → HeldOk v h → v.quiet ≡ true → v.removes ≡ Writes →
    v.granted ≡ false → (v.copy ≡ true → c ≡ true) → v.whose ≡ Another → HeldOk (unlock_writes c v) h
unlock_writes_held_other v h c facts ok same h0 h1 h2 h3 h4 = search arith

pub unlock_writes_held_own :
    (v : View) (h : HeldView) (c : Bool) → ViewFacts v → EntryOk v → HeldOk v h → v.quiet ≡ true → v.removes ≡ Writes →
    v.granted ≡ false → (v.copy ≡ true → c ≡ true) → v.whose ≡ Own →
    HeldOk (unlock_writes c v) (record { held = h.held; held_writes = false; same = h.same })
unlock_writes_held_own v h c facts ok same h0 h1 h2 h3 h4 = search arith

pub unlock_all_held_other :
    (v : View) (h : HeldView) (s : State) (c : Bool) → ViewFacts v → EntryOk v → HeldOk v h → v.quiet ≡ true → v.removes ≡ All →
    v.granted ≡ false → v.whose ≡ Another → HeldOk (unlock_all s c v) h
unlock_all_held_other v h s c facts ok same h0 h1 h2 h3 = search arith

pub unlock_all_held_own :
    (v : View) (h : HeldView) (s : State) (c : Bool) → ViewFacts v → EntryOk v → HeldOk v h → v.quiet ≡ true → v.removes ≡ All →
    v.granted ≡ false → v.whose ≡ Own → HeldOk (unlock_all s c v) (record { held = false; held_writes = false; same = false })
unlock_all_held_own v h s c facts ok same h0 h1 h2 h3 = search arith

pub unlock_unchanged_held :
    (v : View) (h : HeldView) → ViewFacts v → EntryOk v → HeldOk v h → v.quiet ≡ false → v.removes ≡ Nothing →
    HeldOk (unlock_unchanged v) h
unlock_unchanged_held v h facts ok same h0 h1 = search arith

pub scan_clear_held :
    (v : View) (h : HeldView) → ViewFacts v → EntryOk v → HeldOk v h → v.invalidate ≡ false → v.restrict ≡ false →
    HeldOk (scan_clear v) h
scan_clear_held v h facts ok same h0 h1 = search arith

pub scan_restrict_held :
    (v : View) (h : HeldView) → ViewFacts v → EntryOk v → HeldOk v h → v.restrict ≡ true → v.invalidate ≡ false →
    HeldOk (scan_restrict v) h
scan_restrict_held v h facts ok same h0 h1 = search arith

pub scan_invalidate_held : (v : View) (h : HeldView) → ViewFacts v → EntryOk v → HeldOk v h → HeldOk (scan_invalidate v) h
scan_invalidate_held v h facts ok same = search arith

pub apply_invalidate_held :
    (v : View) (h : HeldView) (u : Bool) → ViewFacts v → EntryOk v → HeldOk v h → v.restricting ≡ false →
    HeldOk (apply_invalidate u v) (record { held = false; held_writes = false; same = false })
apply_invalidate_held v h u facts ok same h0 = search arith

pub apply_restrict_held :
    (v : View) (h : HeldView) → ViewFacts v → EntryOk v → HeldOk v h → v.restricting ≡ true →
    HeldOk (apply_restrict v) (record { held = h.held; held_writes = false; same = h.same })
apply_restrict_held v h facts ok same h0 = search arith

pub leave_held : (v : View) (h : HeldView) (a : Bool) → ViewFacts v → EntryOk v → HeldOk v h → HeldOk (leave a v) h
leave_held v h a facts ok same = search arith
