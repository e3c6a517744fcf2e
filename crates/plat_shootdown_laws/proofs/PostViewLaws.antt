-- a post that is made: what becomes of the view of each processor and the entry
use Rattle.std.specs.Prelude.{ℕ, ◌<◌, ◌==◌, ◌&&◌, ◌||◌, not, if◌then◌else◌, Option, Some, None, is_some}
use Rattle.std.proofs.Common.{◌≡◌, Bool, true, false, arith, refl, ap, sym, ◌∙◌}
use Rattle.plat_base.specs.Machine.{Machine}
use Rattle.plat_base.specs.Held.{has_right, kept_of, lowered}
use Rattle.plat_base.specs.Messages.{removes_some}
use Rattle.plat_base.specs.declared.items.Kind.TheVariants.{Store}
use Rattle.plat_base.specs.declared.items.Removed.{Removed}
use Rattle.plat_base.specs.declared.items.Removed.TheVariants.{Nothing, Writes, All}
use Rattle.plat_base.specs.declared.items.Translation.{Translation}
use Rattle.plat_events.specs.Words.{has_reference, has_invalidate, has_restrict, posted_mask}
use Rattle.plat_events.specs.Views.{Own, Another, View, SessionView, PlaceView, PageView, EntryOk, InvalidateStays, HeldView, HeldOk}
use Rattle.plat_events.specs.Views.{view_of, page_view, agrees}
use Rattle.plat_events.specs.Runs.{Fine}
use Rattle.plat_words.proofs.Masks.{has_reference-mask_word, has_invalidate-mask_word, has_restrict-mask_word}
use Rattle.plat_views.specs.Facts.{ViewFacts}
use Rattle.plat_views.specs.Steps.{post_all_other, post_writes_other, post_all_own, post_writes_own}
use Rattle.plat_views.proofs.StepLaws.{post_all_other_ok, post_writes_other_ok, post_all_own_ok, post_writes_own_ok}
use Rattle.plat_views.proofs.WaitLaws.{post_all_other_waits, post_writes_other_waits, post_all_own_waits, post_writes_own_waits}
use Rattle.plat_views.proofs.HeldLaws.{post_all_other_held, post_writes_other_held, post_all_own_held, post_writes_own_held}
use Rattle.plat_shootdown_laws.proofs.ShotPairLaws.{shot_seen}

-- ---- the shootdown may be over with the post

abbrev quiet_view : Bool → View → View
quiet_view b v = record v { quiet = b }

quiet_ok : (v : View) (b : Bool) → EntryOk v → EntryOk (quiet_view b v)
quiet_ok v b ok = search arith

quiet_waits : (v : View) (b : Bool) → InvalidateStays v → InvalidateStays (quiet_view b v)
quiet_waits v b ok = record { waits = ok.waits }

quiet_held : (v : View) (h : HeldView) (b : Bool) → HeldOk v h → HeldOk (quiet_view b v) h
quiet_held v h b ok = search arith

-- where there is no translation it does not matter whether it agrees
unsame_held : (v : View) (h : HeldView) (b : Bool) → HeldOk v h → v.has ≡ false → HeldOk v (record h { same = b })
unsame_held v h b ok none = search arith

-- ---- the parts of a view

-- what the history says beside a translation
abbrev pub held_beside : (t h : Option Translation) → HeldView
held_beside t h = record { held = is_some h; held_writes = has_right Store h; same = agrees t h }

-- what the invariant says of these parts
pub record PartsOk (m : Machine) (s : Fine) (page q : ℕ) (t h : Option Translation) (mask : ℕ) (sv : SessionView) (pv : PlaceView) : Type 0
  where
    pub reference : has_reference mask q ≡ is_some t
    pub view_ok : EntryOk (view_of q t mask sv pv (page_view m s page t))
    pub stays : InvalidateStays (view_of q t mask sv pv (page_view m s page t))
    pub held : HeldOk (view_of q t mask sv pv (page_view m s page t)) (held_beside t h)

module _ (m : Machine) (s : Fine) (page a q : ℕ) (t h : Option Translation) (mask : ℕ) (pv : PlaceView) (few : q < 8) where
  abbrev gv : PageView
  gv = page_view m s page t

  abbrev before : Removed → View
  before rem = view_of q t mask (shot_seen a q rem false false false) pv (page_view m s page t)

  module _ (o b : Bool) where
    abbrev after : Removed → SessionView
    after rem = shot_seen a q rem true o b

    -- ---- for another processor

    module _ (apart : (q == a) ≡ false) (apart' : (a == q) ≡ false) (owed : o ≡ is_some t) where
      whose : (rem : Removed) → (before rem).whose ≡ Another
      whose rem = ap (λ c. if c then Own else Another) apart'

      all-other :
          PartsOk m s page q t h mask (shot_seen a q All false false false) pv → ViewFacts (before All) →
          PartsOk m s page q t h (posted_mask All a mask) (shot_seen a q All true o b) pv
      all-other ok facts = record {
        reference = reference ∙ ok.reference;
        view_ok = rw same (quiet_ok (post_all_other (before All)) b (post_all_other_ok (before All) facts ok.view_ok (whose All)));
        stays =
            rw same (quiet_waits (post_all_other (before All)) b (post_all_other_waits (before All) facts ok.view_ok ok.stays (whose All)));
        held =
            rw same
            (quiet_held (post_all_other (before All)) (held_beside t h) b
            (post_all_other_held (before All) (held_beside t h) facts ok.view_ok ok.held (whose All) refl));
      }
        where
          drop_not : (c d : Bool) → c ≡ false → (not c && d) ≡ d
          drop_not true d e = absurd cc
          drop_not false d e = refl

          either : (i r : Bool) → (i ≡ true → r ≡ true) → (i || r) ≡ r
          either true r e = sym (e refl)
          either false r e = refl

          reference : has_reference (posted_mask All a mask) q ≡ has_reference mask q
          reference =
              has_reference-mask_word (λ k. not (k == a) && has_reference mask k)
              (λ k. not (k == a) && (has_invalidate mask k || has_reference mask k)) (λ k. not (k == a) && has_restrict mask k) q few
              ∙ drop_not (q == a) (has_reference mask q) apart

          invalidate : has_invalidate (posted_mask All a mask) q ≡ is_some t
          invalidate =
              has_invalidate-mask_word (λ k. not (k == a) && has_reference mask k)
              (λ k. not (k == a) && (has_invalidate mask k || has_reference mask k)) (λ k. not (k == a) && has_restrict mask k) q few
              ∙ (drop_not (q == a) (has_invalidate mask q || has_reference mask q) apart
              ∙ (ap (λ r. has_invalidate mask q || r) ok.reference
              ∙ either (has_invalidate mask q) (is_some t) ok.view_ok.invalidate_has))

          restrict : has_restrict (posted_mask All a mask) q ≡ has_restrict mask q
          restrict =
              has_restrict-mask_word (λ k. not (k == a) && has_reference mask k)
              (λ k. not (k == a) && (has_invalidate mask k || has_reference mask k)) (λ k. not (k == a) && has_restrict mask k) q few
              ∙ drop_not (q == a) (has_restrict mask q) apart

          same : view_of q t (posted_mask All a mask) (shot_seen a q All true o b) pv gv ≡ quiet_view b (post_all_other (before All))
          same = λ i.
              record (view_of q t mask (shot_seen a q All true (owed i) b) pv gv) { invalidate = invalidate i; restrict = restrict i }

      writes-other :
          PartsOk m s page q t h mask (shot_seen a q Writes false false false) pv → ViewFacts (before Writes) →
          PartsOk m s page q t h (posted_mask Writes a mask) (shot_seen a q Writes true o b) pv
      writes-other ok facts = record {
        reference = reference ∙ ok.reference;
        view_ok =
            rw same (quiet_ok (post_writes_other (before Writes)) b (post_writes_other_ok (before Writes) facts ok.view_ok refl refl));
        stays =
            rw same
            (quiet_waits (post_writes_other (before Writes)) b (post_writes_other_waits (before Writes) facts ok.view_ok ok.stays refl
            refl));
        held =
            rw same
            (quiet_held (post_writes_other (before Writes)) (held_beside t h) b
            (post_writes_other_held (before Writes) (held_beside t h) facts ok.view_ok ok.held refl refl (whose Writes)));
      }
        where
          drop_not : (c d e : Bool) → c ≡ false → (not c && d && e) ≡ (d && e)
          drop_not true d e h = absurd cc
          drop_not false d e h = refl

          reference : has_reference (posted_mask Writes a mask) q ≡ has_reference mask q
          reference =
              has_reference-mask_word (has_reference mask) (has_invalidate mask)
              (λ k. has_restrict mask k || (not (k == a) && has_reference mask k && not (has_invalidate mask k))) q few

          invalidate : has_invalidate (posted_mask Writes a mask) q ≡ has_invalidate mask q
          invalidate =
              has_invalidate-mask_word (has_reference mask) (has_invalidate mask)
              (λ k. has_restrict mask k || (not (k == a) && has_reference mask k && not (has_invalidate mask k))) q few

          restrict :
              has_restrict (posted_mask Writes a mask) q ≡ (has_restrict mask q || is_some t && not (has_invalidate mask q))
          restrict =
              has_restrict-mask_word (has_reference mask) (has_invalidate mask)
              (λ k. has_restrict mask k || (not (k == a) && has_reference mask k && not (has_invalidate mask k))) q few
              ∙ (ap (λ c. has_restrict mask q || c) (drop_not (q == a) (has_reference mask q) (not (has_invalidate mask q)) apart)
              ∙ ap (λ r. has_restrict mask q || (r && not (has_invalidate mask q))) ok.reference)

          same :
              view_of q t (posted_mask Writes a mask) (shot_seen a q Writes true o b) pv gv
              ≡ quiet_view b (post_writes_other (before Writes))
          same = λ i.
              record (view_of q t mask (shot_seen a q Writes true (owed i) b) pv gv) { invalidate = invalidate i; restrict = restrict i }

      pub parts-other :
          (rem : Removed) → removes_some rem ≡ true → PartsOk m s page q t h mask (shot_seen a q rem false false false) pv →
          ViewFacts (view_of q t mask (shot_seen a q rem false false false) pv (page_view m s page t)) →
          PartsOk m s page q t h (posted_mask rem a mask) (shot_seen a q rem true o b) pv
      parts-other Nothing removes ok facts = absurd cc
      parts-other Writes removes ok facts = writes-other ok facts
      parts-other All removes ok facts = all-other ok facts

    -- ---- for the own translation

    module _ (same_actor : (q == a) ≡ true) (same_actor' : (a == q) ≡ true) (unowed : o ≡ false) where
      own : (rem : Removed) → (before rem).whose ≡ Own
      own rem = ap (λ c. if c then Own else Another) same_actor'

      drop_and : (c d : Bool) → c ≡ true → (not c && d) ≡ false
      drop_and true d e = refl
      drop_and false d e = absurd cc

      all-own :
          PartsOk m s page q t h mask (shot_seen a q All false false false) pv → ViewFacts (before All) →
          PartsOk m s page q None h (posted_mask All a mask) (shot_seen a q All true o b) pv
      all-own ok facts = record {
        reference = reference;
        view_ok = rw same (quiet_ok (post_all_own (before All)) b (post_all_own_ok (before All) facts ok.view_ok (own All)));
        stays = rw same (quiet_waits (post_all_own (before All)) b (post_all_own_waits (before All) facts ok.view_ok ok.stays (own All)));
        held =
            rw same
            (unsame_held (quiet_view b (post_all_own (before All))) (held_beside t h) false
            (quiet_held (post_all_own (before All)) (held_beside t h) b
            (post_all_own_held (before All) (held_beside t h) facts ok.view_ok ok.held (own All) refl)) refl);
      }
        where
          reference : has_reference (posted_mask All a mask) q ≡ false
          reference =
              has_reference-mask_word (λ k. not (k == a) && has_reference mask k)
              (λ k. not (k == a) && (has_invalidate mask k || has_reference mask k)) (λ k. not (k == a) && has_restrict mask k) q few
              ∙ drop_and (q == a) (has_reference mask q) same_actor

          invalidate : has_invalidate (posted_mask All a mask) q ≡ false
          invalidate =
              has_invalidate-mask_word (λ k. not (k == a) && has_reference mask k)
              (λ k. not (k == a) && (has_invalidate mask k || has_reference mask k)) (λ k. not (k == a) && has_restrict mask k) q few
              ∙ drop_and (q == a) (has_invalidate mask q || has_reference mask q) same_actor

          restrict : has_restrict (posted_mask All a mask) q ≡ false
          restrict =
              has_restrict-mask_word (λ k. not (k == a) && has_reference mask k)
              (λ k. not (k == a) && (has_invalidate mask k || has_reference mask k)) (λ k. not (k == a) && has_restrict mask k) q few
              ∙ drop_and (q == a) (has_restrict mask q) same_actor

          same :
              view_of q None (posted_mask All a mask) (shot_seen a q All true o b) pv (page_view m s page None)
              ≡ quiet_view b (post_all_own (before All))
          same = λ i.
              record (view_of q None mask (shot_seen a q All true (unowed i) b) pv (page_view m s page None)) {
                invalidate = invalidate i;
                restrict = restrict i;
              }

      writes-own :
          PartsOk m s page q t h mask (shot_seen a q Writes false false false) pv → ViewFacts (before Writes) →
          PartsOk m s page q (lowered t) h (posted_mask Writes a mask) (shot_seen a q Writes true o b) pv
      writes-own ok facts = record {
        reference = reference ∙ (ok.reference ∙ sym (some t));
        view_ok = rw same (quiet_ok (post_writes_own (before Writes)) b (post_writes_own_ok (before Writes) ok.view_ok refl));
        stays =
            rw same (quiet_waits (post_writes_own (before Writes)) b (post_writes_own_waits (before Writes) facts ok.view_ok ok.stays
            refl));
        held =
            rw (same, agrees-lowered t)
            (quiet_held (post_writes_own (before Writes)) (held_beside t h) b
            (post_writes_own_held (before Writes) (held_beside t h) facts ok.view_ok ok.held refl (own Writes) refl));
      }
        where
          some : (u : Option Translation) → is_some (lowered u) ≡ is_some u
          some None = refl
          some (Some y) = refl

          agrees-lowered : (u : Option Translation) → agrees (lowered u) h ≡ agrees u h
          agrees-lowered None = refl
          agrees-lowered (Some y) = refl

          reference : has_reference (posted_mask Writes a mask) q ≡ has_reference mask q
          reference =
              has_reference-mask_word (has_reference mask) (has_invalidate mask)
              (λ k. has_restrict mask k || (not (k == a) && has_reference mask k && not (has_invalidate mask k))) q few

          invalidate : has_invalidate (posted_mask Writes a mask) q ≡ has_invalidate mask q
          invalidate =
              has_invalidate-mask_word (has_reference mask) (has_invalidate mask)
              (λ k. has_restrict mask k || (not (k == a) && has_reference mask k && not (has_invalidate mask k))) q few

          drop_or : (c d e f : Bool) → c ≡ true → (d || (not c && e && f)) ≡ d
          drop_or true true e f h = refl
          drop_or true false e f h = refl
          drop_or false d e f h = absurd cc

          restrict : has_restrict (posted_mask Writes a mask) q ≡ has_restrict mask q
          restrict =
              has_restrict-mask_word (has_reference mask) (has_invalidate mask)
              (λ k. has_restrict mask k || (not (k == a) && has_reference mask k && not (has_invalidate mask k))) q few
              ∙ drop_or (q == a) (has_restrict mask q) (has_reference mask q) (not (has_invalidate mask q)) same_actor

          lower : (u : Option Translation) (i r : Bool) →
              record (view_of q (lowered u) mask (shot_seen a q Writes true false b) pv (page_view m s page (lowered u))) {
                invalidate = i;
                restrict = r;
              }
              ≡ record (view_of q u mask (shot_seen a q Writes true false b) pv (page_view m s page u)) {
                invalidate = i;
                restrict = r;
                writes = false;
              }
          lower None i r = refl
          lower (Some y) i r = refl

          same :
              view_of q (lowered t) (posted_mask Writes a mask) (shot_seen a q Writes true o b) pv (page_view m s page (lowered t))
              ≡ quiet_view b (post_writes_own (before Writes))
          same =
              (λ i. record (view_of q (lowered t) mask (shot_seen a q Writes true (unowed i) b) pv (page_view m s page (lowered t))) {
                invalidate = invalidate i;
                restrict = restrict i;
              })
              ∙ lower t (has_invalidate mask q) (has_restrict mask q)

      pub parts-own :
          (rem : Removed) → removes_some rem ≡ true → PartsOk m s page q t h mask (shot_seen a q rem false false false) pv →
          ViewFacts (view_of q t mask (shot_seen a q rem false false false) pv (page_view m s page t)) →
          PartsOk m s page q (kept_of rem t) h (posted_mask rem a mask) (shot_seen a q rem true o b) pv
      parts-own Nothing removes ok facts = absurd cc
      parts-own Writes removes ok facts = writes-own ok facts
      parts-own All removes ok facts = all-own ok facts
