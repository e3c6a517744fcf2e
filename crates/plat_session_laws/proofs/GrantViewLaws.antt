-- a grant as a processor and an entry see it
use Rattle.std.specs.Prelude.{ℕ, ◌==◌, ◌&&◌, not, Option, Some}
use Rattle.std.proofs.Common.{◌≡◌, Bool, true, false, arith, refl, ◌∙◌}
use Rattle.std.proofs.lemmas.Bool.{eq-eqb}
use Rattle.plat_base.specs.Alike.{same_bool, same_grant, same_right}
use Rattle.plat_base.specs.Copies.{same_frame}
use Rattle.plat_base.specs.Held.{has_right}
use Rattle.plat_base.specs.declared.items.Grant.{Grant}
use Rattle.plat_base.specs.declared.items.Kind.TheVariants.{Store}
use Rattle.plat_base.specs.declared.items.Translation.{Translation}
use Rattle.plat_base.proofs.CopiesLemmas.{same_frame-itself}
use Rattle.plat_laws.proofs.TableLaws.{same_bool-itself, same_right-itself, all_three}
use Rattle.plat_events.specs.Views.{Own, View, SessionView, PlaceView, PageView, EntryOk, InvalidateStays, HeldView, HeldOk, names_copy}
use Rattle.plat_events.specs.Views.{same_translation, view_of}
use Rattle.plat_views.specs.Facts.{ViewFacts}
use Rattle.plat_session_laws.specs.OnePage.{ViewOk}

same_grant-itself : (g : Grant) → same_grant g g ≡ true
same_grant-itself g =
    all_three (g.entry == g.entry) (same_frame g.frame g.frame) (same_right g.right g.right) (eq-eqb g.entry g.entry refl)
    (same_frame-itself g.frame) (same_right-itself g.right)

pub same_translation-itself : (t : Translation) → same_translation t t ≡ true
same_translation-itself t =
    all_three (same_grant t.grant t.grant) (t.seq == t.seq) (same_bool t.restricted t.restricted) (same_grant-itself t.grant)
    (eq-eqb t.seq t.seq refl) (same_bool-itself t.restricted)

-- the view of two masks with the same messages for the processor
-- the translation is there, as the session grants it
abbrev got : (writes copy kept given : Bool) → View → View
got w c k g v = record v {
  has = true;
  writes = w;
  marked = false;
  granted = true;
  given = g;
  copy = c;
  kept = k;
  mine = true;
  all_after = false;
  writes_after = false;
}

got_ok : (v : View) (w c k g : Bool) → ViewFacts v → EntryOk v → v.whose ≡ Own → v.active ≡ true → EntryOk (got w c k g v)
got_ok v w c k g facts ok h0 h1 = search arith

got_waits : (v : View) (w c k g : Bool) → InvalidateStays v → InvalidateStays (got w c k g v)
got_waits v w c k g waits = search arith

got_held : (v : View) (h : HeldView) (w c k g : Bool) → HeldOk (got w c k g v) h
got_held v h w c k g = search arith

-- the session's view with the grant
abbrev pub with_grant : SessionView → (given : Bool) → SessionView
with_grant x g = record x { granted = true; given = g; mine = true }

-- the history's, where nothing was removed since
abbrev pub with_none : PageView → PageView
with_none x = record x { all_after = false; writes_after = false }

pub granted-view :
    (q : ℕ) (t : Option Translation) (made : Translation) (mask : ℕ) (x y : SessionView) (pv : PlaceView) (gv gv' : PageView)
    (h h' : HeldView) →
    made.restricted ≡ false → ViewFacts (view_of q t mask x pv gv) → ViewOk (view_of q t mask x pv gv) h → x.whose ≡ Own →
    pv.active ≡ true → y ≡ with_grant x y.given → gv' ≡ with_none gv → ViewOk (view_of q (Some made) mask y pv gv') h'
granted-view q t made mask x y pv gv gv' h h' unmarked facts view own active grants none =
    let v = view_of q t mask x pv gv in
    let w = has_right Store (Some made) in
    let c = names_copy gv.dir (Some made) in
    record {
      ok = rw same (got_ok v w c (c && not y.given) y.given facts view.ok own active);
      waits = rw same (got_waits v w c (c && not y.given) y.given view.waits);
      held = rw same (got_held v h' w c (c && not y.given) y.given);
    }
  where
    same :
        view_of q (Some made) mask y pv gv'
        ≡ got (has_right Store (Some made)) (names_copy gv.dir (Some made)) (names_copy gv.dir (Some made) && not y.given) y.given
        (view_of q t mask x pv gv)
    same =
        (λ i. view_of q (Some made) mask (grants i) pv (none i))
        ∙ (λ i. record
        (got (has_right Store (Some made)) (names_copy gv.dir (Some made)) (names_copy gv.dir (Some made) && not y.given) y.given
        (view_of q t mask x pv gv))
        { marked = unmarked i })
