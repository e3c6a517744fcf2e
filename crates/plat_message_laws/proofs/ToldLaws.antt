-- what becomes of a view and of what the history says where a message was applied
use Rattle.std.specs.Prelude.{◌≡◌, ◌≢◌, ℕ, ◌<◌, ◌==◌, ◌&&◌, not, if◌then◌else◌, Bool, true, false, List, [], ◌∷◌, ◌++◌, Option, Some, None}
use Rattle.std.specs.Prelude.{is_some, bit_and}
use Rattle.std.proofs.Common.{refl, ◌∙◌, arith}
use Rattle.std.proofs.lemmas.Bool.{eq-eqb, ne_eqb, not_from_false}
use Rattle.plat_base.specs.Verdicts.{Answer}
use Rattle.plat_base.specs.Machine.{Machine}
use Rattle.plat_base.specs.Copies.{same_frame}
use Rattle.plat_base.specs.Alike.{same_bool}
use Rattle.plat_base.specs.Held.{held, told, has_right, restricted, serves}
use Rattle.plat_base.specs.Rules.{may_apply}
use Rattle.plat_base.specs.declared.items.Applied.{Applied}
use Rattle.plat_base.specs.declared.items.Item.{Item}
use Rattle.plat_base.specs.declared.items.Item.TheVariants as item
use Rattle.plat_base.specs.declared.items.Kind.{Kind}
use Rattle.plat_base.specs.declared.items.Kind.TheVariants as kind
use Rattle.plat_base.specs.declared.items.Message.{Message}
use Rattle.plat_base.specs.declared.items.Message.TheVariants as message
use Rattle.plat_base.specs.declared.items.Translation.{Translation}
use Rattle.plat_laws.proofs.ItemLaws.{dir_of-applied, seq_of-applied, last_of-applied, later-applied, held-append}
use Rattle.plat_events.specs.Words.{has_reference, has_invalidate, has_restrict, bits_applied, all_but}
use Rattle.plat_events.specs.Kept.{Running}
use Rattle.plat_events.specs.Views.{View, PlaceView, EntryOk, InvalidateStays, HeldView, HeldOk, is_marked, agrees}
use Rattle.plat_events.specs.Views.{view_of, session_view, page_view}
use Rattle.plat_events.specs.Runs.{Fine}
use Rattle.plat_words.proofs.Masks.{has_reference-invalidated, has_invalidate-invalidated, has_restrict-invalidated}
use Rattle.plat_words.proofs.Masks.{has_reference-restricted, has_invalidate-restricted, has_restrict-restricted}
use Rattle.plat_views.specs.Steps.{apply_restrict}
use Rattle.plat_fine_laws.specs.Changes.{LeavesDirs}

-- ---- views

pub absent_held : (v : View) (h : HeldView) → v.has ≡ false → h.held ≡ false → HeldOk v h
absent_held v h h0 h1 = search arith

-- a restrict is applied; whether the entry is usable behind it, and whether the session grants such a translation, tells nothing
abbrev pub lowered_view : (usable mine : Bool) → View → View
lowered_view u b v = record (apply_restrict v) { usable = u; mine = b }

pub lowered_ok : (v : View) (u b : Bool) → EntryOk v → v.restricting ≡ true → v.granted ≡ false → EntryOk (lowered_view u b v)
lowered_ok v u b ok h0 h1 = search arith

pub lowered_waits : (v : View) (u b : Bool) → v.invalidating ≡ false → InvalidateStays (lowered_view u b v)
lowered_waits v u b h0 = search arith

pub lowered_held :
    (v : View) (u b : Bool) (h after : HeldView) → HeldOk v h → v.has ≡ true → after.held ≡ true → after.held_writes ≡ false →
    after.same ≡ true → HeldOk (lowered_view u b v) after
lowered_held v u b h after ok h0 h1 h2 h3 = search arith

-- a view reads only the bits of its own processor
-- ---- translations

pub told-some : (t : Option Translation) → is_some (told message.Restrict t) ≡ is_some t
told-some None = refl
told-some (Some x) = refl

pub told-reads : (t : Option Translation) → has_right kind.Store (told message.Restrict t) ≡ false
told-reads None = refl
told-reads (Some x) = refl

both_with : (b c d : Bool) → (b && c && d) ≡ true → (b && c && true) ≡ true
both_with true true d h = refl
both_with true false d h = absurd cc
both_with false c d h = absurd cc

pub told-agrees : (t u : Option Translation) → agrees t u ≡ true → agrees (told message.Restrict t) (told message.Restrict u) ≡ true
told-agrees None u h = absurd cc
told-agrees (Some x) None h = absurd cc
told-agrees (Some x) (Some y) h =
    both_with (same_frame x.grant.frame y.grant.frame) (x.seq == y.seq) (same_bool x.restricted y.restricted) h

-- a message never gives a right
reads-served : (k : Kind) (t : Translation) → serves k t.grant.right ≡ false → has_right k (restricted (Some t)) ≡ false
reads-served kind.Load t h = absurd cc
reads-served kind.Store t h = refl
reads-served kind.Add t h = refl

-- a message may be applied to a translation that is there, and a restrict to one without a mark
pub invalidate-may : (t : Option Translation) → is_some t ≡ true → may_apply message.Invalidate t ≡ true
invalidate-may None h = absurd cc
invalidate-may (Some x) h = refl

pub restrict-may : (t : Option Translation) → is_some t ≡ true → is_marked t ≡ false → may_apply message.Restrict t ≡ true
restrict-may None h unmarked = absurd cc
restrict-may (Some x) h unmarked = not_from_false x.restricted unmarked

same-mark : (b c d e : Bool) → (b && c && same_bool d e) ≡ true → d ≡ false → e ≡ false
same-mark true true true e h unmarked = absurd cc
same-mark true true false true h unmarked = absurd cc
same-mark true true false false h unmarked = refl
same-mark true false d e h unmarked = absurd cc
same-mark false c d e h unmarked = absurd cc

-- what agrees with a translation without a mark has none
pub agrees-unmarked : (t u : Option Translation) → agrees t u ≡ true → is_marked t ≡ false → is_marked u ≡ false
agrees-unmarked None u h unmarked = absurd cc
agrees-unmarked (Some x) None h unmarked = absurd cc
agrees-unmarked (Some x) (Some y) h unmarked =
    same-mark (same_frame x.grant.frame y.grant.frame) (x.seq == y.seq) x.restricted y.restricted h unmarked

-- ---- the history

pub leaves-applied : (items : List Item) (x : Applied) → LeavesDirs items (items ++ item.Applied x ∷ [])
leaves-applied items x = record {
  dir = λ page. dir_of-applied items (item.Applied x ∷ []) page refl;
  seq = λ page. seq_of-applied items (item.Applied x ∷ []) page refl;
  last = λ page. last_of-applied items (item.Applied x ∷ []) page refl;
  removals = λ test page seq. later-applied test items (item.Applied x ∷ []) page seq refl;
}

pub held-applied :
    (m : Machine) (items : List Item) (x : Applied) (q e : ℕ) →
    held m (items ++ item.Applied x ∷ []) q e
    ≡ (if x.actor == q && x.entry == e then told x.message (held m items q e) else held m items q e)
held-applied m items x q e = held-append m items (item.Applied x ∷ []) q e

-- ---- the bits of the mask

and-not_other : (b c : Bool) → c ≡ false → (b && not c) ≡ b
and-not_other true false h = refl
and-not_other false false h = refl
and-not_other b true h = absurd cc

and-not_own : (b c : Bool) → c ≡ true → (b && not c) ≡ false
and-not_own true true h = refl
and-not_own false true h = refl
and-not_own b false h = absurd cc

-- another processor's bits stay
pub record KeepsBits (n k q : ℕ) : Type 0 where
  pub reference : has_reference k q ≡ has_reference n q
  pub invalidate : has_invalidate k q ≡ has_invalidate n q
  pub restrict : has_restrict k q ≡ has_restrict n q

pub others-bits :
    (msg : Message) (n a q : ℕ) → a < 8 → q < 8 → q ≢ a → KeepsBits n (bit_and n (all_but (bits_applied msg a))) q
others-bits message.Invalidate n a q h l apart =
    let other : (q == a) ≡ false = ne_eqb q a apart in record {
      reference = has_reference-invalidated n a q h l ∙ and-not_other (has_reference n q) (q == a) other;
      invalidate = has_invalidate-invalidated n a q h l ∙ and-not_other (has_invalidate n q) (q == a) other;
      restrict = has_restrict-invalidated n a q h l ∙ and-not_other (has_restrict n q) (q == a) other;
    }
others-bits message.Restrict n a q h l apart = record {
  reference = has_reference-restricted n a q h l;
  invalidate = has_invalidate-restricted n a q h l;
  restrict = has_restrict-restricted n a q h l ∙ and-not_other (has_restrict n q) (q == a) (ne_eqb q a apart);
}

-- an invalidate clears the processor's own three, and a restrict its own restrict alone
pub invalidated-reference : (n a : ℕ) → a < 8 → has_reference (bit_and n (all_but (bits_applied message.Invalidate a))) a ≡ false
invalidated-reference n a h = has_reference-invalidated n a a h h ∙ and-not_own (has_reference n a) (a == a) (eq-eqb a a refl)

pub invalidated-invalidate : (n a : ℕ) → a < 8 → has_invalidate (bit_and n (all_but (bits_applied message.Invalidate a))) a ≡ false
invalidated-invalidate n a h = has_invalidate-invalidated n a a h h ∙ and-not_own (has_invalidate n a) (a == a) (eq-eqb a a refl)

pub invalidated-restrict : (n a : ℕ) → a < 8 → has_restrict (bit_and n (all_but (bits_applied message.Invalidate a))) a ≡ false
invalidated-restrict n a h = has_restrict-invalidated n a a h h ∙ and-not_own (has_restrict n a) (a == a) (eq-eqb a a refl)

pub restricted-restrict : (n a : ℕ) → a < 8 → has_restrict (bit_and n (all_but (bits_applied message.Restrict a))) a ≡ false
restricted-restrict n a h = has_restrict-restricted n a a h h ∙ and-not_own (has_restrict n a) (a == a) (eq-eqb a a refl)

-- ---- the view of the entry behind a restrict

pub lowered-seen :
    (m : Machine) (answer : Answer) (s : Fine) (q e page : ℕ) (t : Option Translation) (o : Option Running) (n k : ℕ) (x y : PlaceView) →
    is_some t ≡ true → has_invalidate k q ≡ has_invalidate n q → has_restrict k q ≡ false → y.active ≡ x.active →
    y.restricting ≡ false → y.invalidating ≡ x.invalidating →
    view_of q (told message.Restrict t) k (session_view m answer q e (told message.Restrict t) o) y
    (page_view m s page (told message.Restrict t))
    ≡ lowered_view y.usable (session_view m answer q e (told message.Restrict t) o).mine
    (view_of q t n (session_view m answer q e t o) x (page_view m s page t))
lowered-seen m answer s q e page None o n k x y has invalidate restrict active restricting invalidating = absurd cc
lowered-seen m answer s q e page (Some u) None n k x y has invalidate restrict active restricting invalidating = λ i.
    record (view_of q (told message.Restrict (Some u)) k (session_view m answer q e (told message.Restrict (Some u)) None) y
    (page_view m s page (told message.Restrict (Some u)))) {
      invalidate = invalidate i;
      restrict = restrict i;
      active = active i;
      restricting = restricting i;
      invalidating = invalidating i;
    }
lowered-seen m answer s q e page (Some u) (Some r) n k x y has invalidate restrict active restricting invalidating = λ i.
    record (view_of q (told message.Restrict (Some u)) k (session_view m answer q e (told message.Restrict (Some u)) (Some r)) y
    (page_view m s page (told message.Restrict (Some u)))) {
      invalidate = invalidate i;
      restrict = restrict i;
      active = active i;
      restricting = restricting i;
      invalidating = invalidating i;
    }
