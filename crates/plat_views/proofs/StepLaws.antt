-- every operation keeps what always holds of a view
use Rattle.std.proofs.Common.{◌≡◌, Bool, true, false, arith}
use Rattle.plat_base.specs.declared.frames.State.{State}
use Rattle.plat_base.specs.declared.frames.State.TheVariants.{PresentPlus, Modified}
use Rattle.plat_base.specs.declared.items.Removed.{Removed}
use Rattle.plat_base.specs.declared.items.Removed.TheVariants.{Nothing, Writes, All}
use Rattle.plat_events.specs.Views.{Another, Own, View, EntryOk}
use Rattle.plat_views.specs.Facts.{ViewFacts}
use Rattle.plat_views.specs.Steps.{lock_other, lock_own, choose, post_all_other, post_writes_other, post_all_own, post_writes_own}
use Rattle.plat_views.specs.Steps.{post_none, last_pass, pass_mask, pass_act, give, grant, unlock_granted, unlock_nothing, unlock_writes}
use Rattle.plat_views.specs.Steps.{unlock_all, unlock_unchanged, scan_clear, scan_restrict, scan_invalidate, apply_invalidate}
use Rattle.plat_views.specs.Steps.{apply_restrict, leave}

pub lock_other_ok : (v : View) → EntryOk v → EntryOk (lock_other v)
lock_other_ok v ok = search arith

pub lock_own_ok : (v : View) → EntryOk v → EntryOk (lock_own v)
lock_own_ok v ok = search arith

pub choose_ok : (v : View) (r : Removed) → ViewFacts v → EntryOk v → v.removes ≡ Nothing → EntryOk (choose r v)
choose_ok v r facts ok h0 = search arith

pub post_all_other_ok : (v : View) → ViewFacts v → EntryOk v → v.whose ≡ Another → EntryOk (post_all_other v)
post_all_other_ok v facts ok h0 = search arith

pub post_writes_other_ok : (v : View) → ViewFacts v → EntryOk v → v.posted ≡ false → v.removes ≡ Writes → EntryOk (post_writes_other v)
post_writes_other_ok v facts ok h0 h1 = search arith

pub post_all_own_ok : (v : View) → ViewFacts v → EntryOk v → v.whose ≡ Own → EntryOk (post_all_own v)
post_all_own_ok v facts ok h0 = search arith

pub post_writes_own_ok : (v : View) → EntryOk v → v.removes ≡ Writes → EntryOk (post_writes_own v)
post_writes_own_ok v ok h0 = search arith

pub post_none_ok : (v : View) → EntryOk v → v.has ≡ false → EntryOk (post_none v)
post_none_ok v ok h0 = search arith

pub last_pass_ok : (v : View) → EntryOk v → EntryOk (last_pass v)
last_pass_ok v ok = search arith

pub pass_mask_ok : (v : View) → EntryOk v → v.invalidate ≡ false → v.restrict ≡ false → EntryOk (pass_mask v)
pass_mask_ok v ok h0 h1 = search arith

pub pass_act_ok : (v : View) → ViewFacts v → EntryOk v → v.active ≡ false → EntryOk (pass_act v)
pass_act_ok v facts ok h0 = search arith

pub give_ok : (v : View) → ViewFacts v → EntryOk v → v.quiet ≡ true → v.removes ≡ All → EntryOk (give v)
give_ok v facts ok h0 h1 = search arith

pub grant_ok :
    (v : View) (w : Bool) (c : Bool) (k : Bool) → ViewFacts v → EntryOk v → v.whose ≡ Own → v.active ≡ true → EntryOk (grant w c k v)
grant_ok v w c k facts ok h0 h1 = search arith

pub unlock_granted_ok :
    (v : View) (s : State) → ViewFacts v → EntryOk v → v.granted ≡ true → (v.writes ≡ true → s ≡ Modified) →
    EntryOk (unlock_granted s v)
unlock_granted_ok v s facts ok h0 h1 = search arith

pub unlock_nothing_ok :
    (v : View) (s : State) (c : Bool) → ViewFacts v → EntryOk v → v.removes ≡ Nothing → v.granted ≡ false →
    (v.state ≡ PresentPlus → s ≡ PresentPlus) → (v.state ≡ Modified → s ≡ Modified) → (v.copy ≡ true → c ≡ true) →
    EntryOk (unlock_nothing s c v)
unlock_nothing_ok v s c facts ok h0 h1 h2 h3 h4 = search arith

pub unlock_writes_ok :
    (v : View) (c : Bool) → ViewFacts v → EntryOk v → v.quiet ≡ true → v.removes ≡ Writes → v.granted ≡ false →
    (v.copy ≡ true → c ≡ true) → EntryOk (unlock_writes c v)
unlock_writes_ok v c facts ok h0 h1 h2 h3 = search arith

pub unlock_all_ok :
    (v : View) (s : State) (c : Bool) → ViewFacts v → EntryOk v → v.quiet ≡ true → v.removes ≡ All → v.granted ≡ false →
    EntryOk (unlock_all s c v)
unlock_all_ok v s c facts ok h0 h1 h2 = search arith

pub unlock_unchanged_ok : (v : View) → ViewFacts v → EntryOk v → v.quiet ≡ false → v.removes ≡ Nothing → EntryOk (unlock_unchanged v)
unlock_unchanged_ok v facts ok h0 h1 = search arith

pub scan_clear_ok : (v : View) → EntryOk v → v.invalidate ≡ false → v.restrict ≡ false → EntryOk (scan_clear v)
scan_clear_ok v ok h0 h1 = search arith

pub scan_restrict_ok : (v : View) → EntryOk v → v.restrict ≡ true → v.invalidate ≡ false → EntryOk (scan_restrict v)
scan_restrict_ok v ok h0 h1 = search arith

pub scan_invalidate_ok : (v : View) → EntryOk v → EntryOk (scan_invalidate v)
scan_invalidate_ok v ok = search arith

pub apply_invalidate_ok : (v : View) (u : Bool) → EntryOk v → v.restricting ≡ false → EntryOk (apply_invalidate u v)
apply_invalidate_ok v u ok h0 = search arith

pub apply_restrict_ok : (v : View) → EntryOk v → v.restricting ≡ true → EntryOk (apply_restrict v)
apply_restrict_ok v ok h0 = search arith

pub leave_ok : (v : View) (a : Bool) → EntryOk v → EntryOk (leave a v)
leave_ok v a ok = search arith
