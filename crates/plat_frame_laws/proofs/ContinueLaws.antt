-- a view stays as it has to be where the session on its page goes on
use Rattle.std.specs.Prelude.{ℕ, ◌&&◌, not, Option}
use Rattle.std.proofs.Common.{◌≡◌, Bool, true, false, arith, refl}
use Rattle.plat_base.specs.declared.items.Removed.{Removed}
use Rattle.plat_base.specs.declared.items.Removed.TheVariants.{All}
use Rattle.plat_base.specs.declared.items.Translation.{Translation}
use Rattle.plat_events.specs.Views.{View, SessionView, PlaceView, PageView, EntryOk, InvalidateStays, HeldView, HeldOk, view_of}
use Rattle.plat_frame_laws.specs.Phased.{Continues}

-- the view with what a session now removes, and what it gave back
abbrev continued : (removes : Removed) (quiet given : Bool) → View → View
continued r b g v = record v { removes = r; quiet = b; given = g; kept = v.copy && not g }

continued_ok :
    (v : View) (r : Removed) (b g : Bool) → EntryOk v → v.kept ≡ (v.copy && not v.given) → (v.posted ≡ true → r ≡ v.removes) →
    (g ≡ true → v.given ≡ false → (v.posted ≡ true) × (v.removes ≡ All)) → EntryOk (continued r b g v)
continued_ok v r b g ok h0 h1 h2 = search arith

continued_waits : (v : View) (r : Removed) (b g : Bool) → InvalidateStays v → InvalidateStays (continued r b g v)
continued_waits v r b g waits = record { waits = waits.waits }

continued_held :
    (v : View) (h : HeldView) (r : Removed) (b g : Bool) → HeldOk v h → (v.posted ≡ true → r ≡ v.removes) → HeldOk (continued r b g v) h
continued_held v h r b g ok h1 = search arith

module _ (q : ℕ) (t : Option Translation) (mask : ℕ) (x y : SessionView) (pv : PlaceView) (gv : PageView) (goes : Continues x y) where
  view-continued : view_of q t mask y pv gv ≡ continued y.removes y.quiet y.given (view_of q t mask x pv gv)
  view-continued = λ i.
      view_of q t mask
      (record {
        whose = goes.whose i;
        removes = y.removes;
        posted = goes.posted i;
        owed = goes.owed i;
        quiet = y.quiet;
        granted = goes.granted i;
        given = y.given;
        mine = goes.mine i;
      })
      pv gv

  pub continue_ok : EntryOk (view_of q t mask x pv gv) → EntryOk (view_of q t mask y pv gv)
  continue_ok ok =
      rw view-continued
      (continued_ok (view_of q t mask x pv gv) y.removes y.quiet y.given ok refl (λ p. goes.removes p) (λ g n. goes.gives g n))

  pub continue_waits : InvalidateStays (view_of q t mask x pv gv) → InvalidateStays (view_of q t mask y pv gv)
  continue_waits ok = rw view-continued (continued_waits (view_of q t mask x pv gv) y.removes y.quiet y.given ok)

  pub continue_held : (h : HeldView) → HeldOk (view_of q t mask x pv gv) h → HeldOk (view_of q t mask y pv gv) h
  continue_held h ok =
      rw view-continued (continued_held (view_of q t mask x pv gv) h y.removes y.quiet y.given ok (λ p. goes.removes p))
