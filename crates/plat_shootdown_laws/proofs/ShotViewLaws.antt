-- a view stays as it has to be where a shootdown makes a post that finds no reference, or passes a target
use Rattle.std.specs.Prelude.{◌⊎◌, ℕ, Option}
use Rattle.std.proofs.Common.{◌≡◌, Bool, true, false, arith}
use Rattle.plat_base.specs.declared.items.Translation.{Translation}
use Rattle.plat_events.specs.Views.{View, SessionView, PlaceView, PageView, EntryOk, InvalidateStays, HeldView, HeldOk, view_of}
use Rattle.plat_views.specs.Facts.{ViewFacts}

-- the view with what a shootdown says of the entry and the processor
abbrev shot_view : (posted owed quiet : Bool) → View → View
shot_view p o b v = record v { posted = p; owed = o; quiet = b }

-- from x to y a shootdown may post to an entry of which the processor has no translation, may pass a target that has no
-- message or is not active, and may be over
pub record ShotSees (x y : SessionView) (has invalidate restrict active : Bool) : Type 0 where
  pub whose : y.whose ≡ x.whose
  pub removes : y.removes ≡ x.removes
  pub granted : y.granted ≡ x.granted
  pub given : y.given ≡ x.given
  pub mine : y.mine ≡ x.mine
  pub posts_stay : x.posted ≡ true → y.posted ≡ true
  pub post : x.posted ≡ false → y.posted ≡ true → has ≡ false
  pub pass : x.owed ≡ true → y.owed ≡ false → ((invalidate ≡ false) × (restrict ≡ false)) ⊎ (active ≡ false)

shot_ok :
    (v : View) (p o b : Bool) → ViewFacts v → EntryOk v → (v.posted ≡ true → p ≡ true) → (v.posted ≡ false → p ≡ true → v.has ≡ false) →
    (v.owed ≡ true → o ≡ false → ((v.invalidate ≡ false) × (v.restrict ≡ false)) ⊎ (v.active ≡ false)) → EntryOk (shot_view p o b v)
shot_ok v p o b facts ok h0 h1 h2 = search arith

shot_waits : (v : View) (p o b : Bool) → InvalidateStays v → InvalidateStays (shot_view p o b v)
shot_waits v p o b waits = record { waits = waits.waits }

shot_held :
    (v : View) (h : HeldView) (p o b : Bool) → HeldOk v h → (v.posted ≡ true → p ≡ true) → (v.posted ≡ false → p ≡ true → v.has ≡ false) →
    HeldOk (shot_view p o b v) h
shot_held v h p o b ok h0 h1 = search arith

module _ (q : ℕ) (t : Option Translation) (mask : ℕ) (x y : SessionView) (pv : PlaceView) (gv : PageView)
    (sees : ShotSees x y (view_of q t mask x pv gv).has (view_of q t mask x pv gv).invalidate (view_of q t mask x pv gv).restrict
    (view_of q t mask x pv gv).active) where
  view-shot : view_of q t mask y pv gv ≡ shot_view y.posted y.owed y.quiet (view_of q t mask x pv gv)
  view-shot = λ i.
      view_of q t mask
      (record {
        whose = sees.whose i;
        removes = sees.removes i;
        posted = y.posted;
        owed = y.owed;
        quiet = y.quiet;
        granted = sees.granted i;
        given = sees.given i;
        mine = sees.mine i;
      })
      pv gv

  pub sees_ok : ViewFacts (view_of q t mask x pv gv) → EntryOk (view_of q t mask x pv gv) → EntryOk (view_of q t mask y pv gv)
  sees_ok facts ok =
      rw view-shot
      (shot_ok (view_of q t mask x pv gv) y.posted y.owed y.quiet facts ok sees.posts_stay sees.post sees.pass)

  pub sees_waits : InvalidateStays (view_of q t mask x pv gv) → InvalidateStays (view_of q t mask y pv gv)
  sees_waits ok = rw view-shot (shot_waits (view_of q t mask x pv gv) y.posted y.owed y.quiet ok)

  pub sees_held : (h : HeldView) → HeldOk (view_of q t mask x pv gv) h → HeldOk (view_of q t mask y pv gv) h
  sees_held h ok =
      rw view-shot (shot_held (view_of q t mask x pv gv) h y.posted y.owed y.quiet ok sees.posts_stay sees.post)
