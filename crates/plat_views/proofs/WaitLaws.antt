-- every operation keeps an invalidate that is about to be applied waiting
use Rattle.std.proofs.Common.{◌≡◌, Bool, true, false, arith}
use Rattle.plat_base.specs.declared.frames.State.{State}
use Rattle.plat_base.specs.declared.frames.State.TheVariants.{PresentPlus, Modified}
use Rattle.plat_base.specs.declared.items.Removed.{Removed}
use Rattle.plat_base.specs.declared.items.Removed.TheVariants.{Nothing, Writes, All}
use Rattle.plat_events.specs.Views.{Another, Own, View, EntryOk, InvalidateStays}
use Rattle.plat_views.specs.Facts.{ViewFacts}
use Rattle.plat_views.specs.Steps.{lock_other, lock_own, choose, post_all_other, post_writes_other, post_all_own, post_writes_own}
use Rattle.plat_views.specs.Steps.{post_none, last_pass, pass_mask, pass_act, give, grant, unlock_granted, unlock_nothing, unlock_writes}
use Rattle.plat_views.specs.Steps.{unlock_all, unlock_unchanged, scan_clear, scan_restrict, scan_invalidate, apply_invalidate}
use Rattle.plat_views.specs.Steps.{apply_restrict, leave}

pub lock_other_waits : (v : View) → ViewFacts v → EntryOk v → InvalidateStays v → InvalidateStays (lock_other v)
lock_other_waits v facts ok stays = search arith

pub lock_own_waits : (v : View) → ViewFacts v → EntryOk v → InvalidateStays v → InvalidateStays (lock_own v)
lock_own_waits v facts ok stays = search arith

pub choose_waits :
    (v : View) (r : Removed) → ViewFacts v → EntryOk v → InvalidateStays v → v.removes ≡ Nothing → InvalidateStays (choose r v)
choose_waits v r facts ok stays h0 = search arith

pub post_all_other_waits : (v : View) → ViewFacts v → EntryOk v → InvalidateStays v → v.whose ≡ Another → InvalidateStays (post_all_other v)
post_all_other_waits v facts ok stays h0 = search arith

pub post_writes_other_waits :
    (v : View) → ViewFacts v → EntryOk v → InvalidateStays v → v.posted ≡ false → v.removes ≡ Writes →
    InvalidateStays (post_writes_other v)
post_writes_other_waits v facts ok stays h0 h1 = search arith

pub post_all_own_waits : (v : View) → ViewFacts v → EntryOk v → InvalidateStays v → v.whose ≡ Own → InvalidateStays (post_all_own v)
post_all_own_waits v facts ok stays h0 = search arith

pub post_writes_own_waits :
    (v : View) → ViewFacts v → EntryOk v → InvalidateStays v → v.removes ≡ Writes → InvalidateStays (post_writes_own v)
post_writes_own_waits v facts ok stays h0 = search arith

pub post_none_waits : (v : View) → ViewFacts v → EntryOk v → InvalidateStays v → v.has ≡ false → InvalidateStays (post_none v)
post_none_waits v facts ok stays h0 = search arith

pub last_pass_waits : (v : View) → ViewFacts v → EntryOk v → InvalidateStays v → InvalidateStays (last_pass v)
last_pass_waits v facts ok stays = search arith

pub pass_mask_waits :
    (v : View) → ViewFacts v → EntryOk v → InvalidateStays v → v.invalidate ≡ false → v.restrict ≡ false → InvalidateStays (pass_mask v)
pass_mask_waits v facts ok stays h0 h1 = search arith

pub pass_act_waits : (v : View) → ViewFacts v → EntryOk v → InvalidateStays v → v.active ≡ false → InvalidateStays (pass_act v)
pass_act_waits v facts ok stays h0 = search arith

pub give_waits : (v : View) → ViewFacts v → EntryOk v → InvalidateStays v → v.quiet ≡ true → v.removes ≡ All → InvalidateStays (give v)
give_waits v facts ok stays h0 h1 = search arith

pub grant_waits :
    (v : View) (w : Bool) (c : Bool) (k : Bool) → ViewFacts v → EntryOk v → InvalidateStays v → v.whose ≡ Own → v.active ≡ true →
    InvalidateStays (grant w c k v)
grant_waits v w c k facts ok stays h0 h1 = search arith

pub unlock_granted_waits :
    (v : View) (s : State) → ViewFacts v → EntryOk v → InvalidateStays v → v.granted ≡ true → (v.writes ≡ true → s ≡ Modified) →
    InvalidateStays (unlock_granted s v)
unlock_granted_waits v s facts ok stays h0 h1 = search arith

pub unlock_nothing_waits :
    (v : View) (s : State) (c : Bool) → ViewFacts v → EntryOk v → InvalidateStays v → v.removes ≡ Nothing → v.granted ≡ false →
    (v.state ≡ PresentPlus → s ≡ PresentPlus) → (v.state ≡ Modified → s ≡ Modified) → (v.copy ≡ true → c ≡ true) →
    InvalidateStays (unlock_nothing s c v)
unlock_nothing_waits v s c facts ok stays h0 h1 h2 h3 h4 = search arith

pub unlock_writes_waits :
    (v : View) (c : Bool) → ViewFacts v → EntryOk v → InvalidateStays v → v.quiet ≡ true → v.removes ≡ Writes → v.granted ≡ false →
    (v.copy ≡ true → c ≡ true) → InvalidateStays (unlock_writes c v)
unlock_writes_waits v c facts ok stays h0 h1 h2 h3 = search arith

pub unlock_all_waits :
    (v : View) (s : State) (c : Bool) → ViewFacts v → EntryOk v → InvalidateStays v → v.quiet ≡ true → v.removes ≡ All →
    v.granted ≡ false → InvalidateStays (unlock_all s c v)
unlock_all_waits v s c facts ok stays h0 h1 h2 = search arith

pub unlock_unchanged_waits :
    (v : View) → ViewFacts v → EntryOk v → InvalidateStays v → v.quiet ≡ false → v.removes ≡ Nothing →
    InvalidateStays (unlock_unchanged v)
unlock_unchanged_waits v facts ok stays h0 h1 = search arith

pub scan_clear_waits :
    (v : View) → ViewFacts v → EntryOk v → InvalidateStays v → v.invalidate ≡ false → v.restrict ≡ false →
    InvalidateStays (scan_clear v)
scan_clear_waits v facts ok stays h0 h1 = search arith

pub scan_restrict_waits :
    (v : View) → ViewFacts v → EntryOk v → InvalidateStays v → v.restrict ≡ true → v.invalidate ≡ false →
    InvalidateStays (scan_restrict v)
scan_restrict_waits v facts ok stays h0 h1 = search arith

pub scan_invalidate_waits :
    (v : View) → ViewFacts v → EntryOk v → InvalidateStays v → v.invalidate ≡ true → InvalidateStays (scan_invalidate v)
scan_invalidate_waits v facts ok stays h0 = search arith

pub apply_invalidate_waits :
    (v : View) (u : Bool) → ViewFacts v → EntryOk v → InvalidateStays v → v.restricting ≡ false → InvalidateStays (apply_invalidate u v)
apply_invalidate_waits v u facts ok stays h0 = search arith

pub apply_restrict_waits :
    (v : View) → ViewFacts v → EntryOk v → InvalidateStays v → v.restricting ≡ true → InvalidateStays (apply_restrict v)
apply_restrict_waits v facts ok stays h0 = search arith

pub leave_waits : (v : View) (a : Bool) → ViewFacts v → EntryOk v → InvalidateStays v → InvalidateStays (leave a v)
leave_waits v a facts ok stays = search arith
