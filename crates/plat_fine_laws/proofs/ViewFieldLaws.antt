-- what the invariant says of a processor and an entry: it holds on where these are as they were
use Rattle.std.specs.Prelude.{◌≡◌, ℕ, false, Option, is_some}
use Rattle.std.proofs.Common.{sym, ◌∙◌}
use Rattle.std.specs.Option.{option_map_or}
use Rattle.plat_base.specs.Verdicts.{Answer}
use Rattle.plat_base.specs.Machine.{Machine}
use Rattle.plat_base.specs.Pages.{page_of}
use Rattle.plat_base.specs.Held.{has_right, removes_all, removes_writes}
use Rattle.plat_base.specs.declared.items.Kind.TheVariants.{Store}
use Rattle.plat_base.specs.declared.items.Translation.{Translation}
use Rattle.plat_base.specs.declared.words.WordName.TheVariants.{Cmap}
use Rattle.plat_events.specs.Words.{has_reference, has_invalidate, has_restrict}
use Rattle.plat_events.specs.Kept.{word_at}
use Rattle.plat_events.specs.Views.{EntryOk, HeldOk, InvalidateStays, view, view_of, session_view, page_view, held_view, agrees, PlaceView}
use Rattle.plat_events.specs.Views.{translation_of}
use Rattle.plat_events.specs.Runs.{Fine}
use Rattle.plat_fine_laws.specs.Changes.{KeepsPage, KeepsEntry}
use Rattle.plat_events.specs.Views.{SessionView}
use Rattle.plat_events.specs.Views.{PageView}

pub page_view-same :
    (m : Machine) (s t : Fine) (page : ℕ) (x : Option Translation) → KeepsPage s t page → page_view m t page x ≡ page_view m s page x
page_view-same m s t page x keeps = λ i. record {
  dir = keeps.dir i;
  all_after = option_map_or (λ (y : Translation). keeps.removals removes_all y.seq i) x false;
  writes_after = option_map_or (λ (y : Translation). keeps.removals removes_writes y.seq i) x false;
}

module _ (m : Machine) (answer : Answer) (s t : Fine) (q e : ℕ) (page : KeepsPage s t (page_of m e)) (keeps : KeepsEntry m s t q e) where
  pub view-same : view m answer t q e ≡ view m answer s q e
  view-same = λ i.
      view_of q (keeps.translation i) (keeps.mask i) (session_view m answer q e (keeps.translation i) (page.session i))
      (keeps.place i) (page_view-same m s t (page_of m e) (keeps.translation i) page i)

  pub held_view-same : held_view m t q e ≡ held_view m s q e
  held_view-same = λ i. record {
    held = is_some (keeps.held i);
    held_writes = has_right Store (keeps.held i);
    same = agrees (keeps.translation i) (keeps.held i);
  }

  pub views-kept : EntryOk (view m answer s q e) → EntryOk (view m answer t q e)
  views-kept ok = rw view-same ok

  pub invalidates_stay-kept : InvalidateStays (view m answer s q e) → InvalidateStays (view m answer t q e)
  invalidates_stay-kept ok = rw view-same ok

  pub held_is_pmap-kept :
      HeldOk (view m answer s q e) (held_view m s q e) → HeldOk (view m answer t q e) (held_view m t q e)
  held_is_pmap-kept ok = rw (view-same, held_view-same) ok

pub reference_is_pmap-kept :
    (m : Machine) (s t : Fine) (q e : ℕ) → word_at m t (Cmap e) ≡ word_at m s (Cmap e) → translation_of m t q e ≡ translation_of m s q e →
    has_reference (word_at m s (Cmap e)) q ≡ is_some (translation_of m s q e) →
    has_reference (word_at m t (Cmap e)) q ≡ is_some (translation_of m t q e)
reference_is_pmap-kept m s t q e mask translation ok =
    (λ i. has_reference (mask i) q) ∙ (ok ∙ sym (λ i. is_some (translation i)))

-- the view of two masks with the same messages for the processor
pub view_of-bits :
    (q : ℕ) (t : Option Translation) (n k : ℕ) (x : SessionView) (y : PlaceView) (z : PageView) →
    has_invalidate n q ≡ has_invalidate k q → has_restrict n q ≡ has_restrict k q → view_of q t n x y z ≡ view_of q t k x y z
view_of-bits q t n k x y z invalidate restrict = λ i. record (view_of q t k x y z) { invalidate = invalidate i; restrict = restrict i }
