-- a view stays as it has to be where its processor goes on in a scan: an entry becomes usable only without messages, and a
-- message is about to be applied only where it waits
use Rattle.std.specs.Prelude.{ℕ, is_some}
use Rattle.std.proofs.Common.{◌≡◌, true, false, refl, sym, subst, arith}
use Rattle.plat_base.specs.Verdicts.{Answer}
use Rattle.plat_base.specs.Machine.{Machine}
use Rattle.plat_base.specs.Pages.{page_of}
use Rattle.plat_base.specs.Held.{held, has_right}
use Rattle.plat_base.specs.declared.items.Kind.TheVariants.{Store}
use Rattle.plat_base.specs.declared.words.WordName.TheVariants.{Cmap}
use Rattle.plat_events.specs.Views.{View, PlaceView, EntryOk, InvalidateStays, HeldView, HeldOk, view, view_of, session_view, place_view}
use Rattle.plat_events.specs.Views.{held_view, agrees, translation_of}
use Rattle.plat_events.specs.Kept.{word_at, private_of}
use Rattle.plat_events.specs.Runs.{Fine}
use Rattle.plat_fine_laws.specs.Changes.{KeepsPage}
use Rattle.plat_fine_laws.specs.Placed.{placed, Scans}
use Rattle.plat_fine_laws.proofs.ViewFieldLaws.{page_view-same}

pub placed_ok :
    (v : View) (x : PlaceView) → EntryOk v → x.active ≡ v.active →
    (x.usable ≡ true → v.usable ≡ false → (v.invalidate ≡ false) × (v.restrict ≡ false)) →
    (x.restricting ≡ true → v.restricting ≡ false → (v.restrict ≡ true) × (v.invalidate ≡ false)) → EntryOk (placed x v)
placed_ok v x ok h0 h1 h2 = search arith

pub placed_waits :
    (v : View) (x : PlaceView) → EntryOk v → InvalidateStays v →
    (x.invalidating ≡ true → v.invalidating ≡ false → v.invalidate ≡ true) → InvalidateStays (placed x v)
placed_waits v x ok waits h0 = search arith

pub placed_held : (v : View) (x : PlaceView) (h : HeldView) → HeldOk v h → HeldOk (placed x v) h
placed_held v x h same = search arith

pub Scans-still : (mask q : ℕ) (x y : PlaceView) → y ≡ x → Scans mask q x y
Scans-still mask q x y same =
    subst (Scans mask q x) (sym same)
    (record {
      active = refl;
      passes = λ after before. absurd cc;
      restricts = λ after before. absurd cc;
      invalidates = λ after before. absurd cc;
    })

module _ (m : Machine) (answer : Answer) (s t : Fine) (q e : ℕ) (page : KeepsPage s t (page_of m e))
    (mask : word_at m t (Cmap e) ≡ word_at m s (Cmap e)) (translation : translation_of m t q e ≡ translation_of m s q e) where
  pub view-placed : view m answer t q e ≡ placed (place_view m (private_of m t q) e) (view m answer s q e)
  view-placed = λ i.
      view_of q (translation i) (mask i) (session_view m answer q e (translation i) (page.session i))
      (place_view m (private_of m t q) e) (page_view-same m s t (page_of m e) (translation i) page i)

  pub held_view-still : held m t.history q e ≡ held m s.history q e → held_view m t q e ≡ held_view m s q e
  held_view-still same = λ i. record {
    held = is_some (same i);
    held_writes = has_right Store (same i);
    same = agrees (translation i) (same i);
  }

-- a processor that is active in no such space any more, or is in another
pub left_ok :
    (v : View) (x : PlaceView) → EntryOk v → x.usable ≡ false → x.restricting ≡ false → EntryOk (placed x v)
left_ok v x ok h0 h1 = search arith

pub left_waits : (v : View) (x : PlaceView) → x.invalidating ≡ false → InvalidateStays (placed x v)
left_waits v x h0 = search arith
