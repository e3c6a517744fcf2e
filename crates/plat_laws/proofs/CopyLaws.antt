-- each copy of a page holds flat memory's words, and what is not removed leads to a copy: after each item that breaks no rule
use Rattle.std.specs.Prelude.{◌≡◌, ℕ, ◌<◌, ◌==◌, ◌&&◌, if◌then◌else◌, Bool, true, false, List, [], ◌∷◌, ◌++◌, length, Option, Some, None}
use Rattle.std.proofs.Common.{refl, ap, sym, ◌∙◌, subst, arith}
use Rattle.std.proofs.lemmas.Bool.{and_parts, eqb-true, ne_eqb, true≢false}
use Rattle.std.proofs.lemmas.Grind.{fold-append}
use Rattle.plat_base.specs.Machine.{Machine}
use Rattle.plat_base.specs.Pages.{page_of, initial_value}
use Rattle.plat_base.specs.Flat.{is_write, writes_word, flat_value}
use Rattle.plat_base.specs.Directories.{dir_of, seq_of}
use Rattle.plat_base.specs.Held.{to_read, told, held, has_right, serves, later, removes_all, removes_writes}
use Rattle.plat_base.specs.Copies.{copy_on, same_frame}
use Rattle.plat_base.specs.CopyWords.{InFrames, put, words_after, copy_value}
use Rattle.plat_base.specs.Decide.{is_dir, is_empty, has_copies}
use Rattle.plat_base.specs.Histories.{IsByGrant, IsOnlyCopy}
use Rattle.plat_base.specs.declared.frames.Frame.{Frame}
use Rattle.plat_base.specs.declared.frames.Dir.{Dir}
use Rattle.plat_base.specs.declared.frames.State.TheVariants as state
use Rattle.plat_base.specs.declared.items.Kind.{Kind}
use Rattle.plat_base.specs.declared.items.Kind.TheVariants as kind
use Rattle.plat_base.specs.declared.items.Right.{Right}
use Rattle.plat_base.specs.declared.items.Right.TheVariants as right
use Rattle.plat_base.specs.declared.items.Removed.{Removed}
use Rattle.plat_base.specs.declared.items.Message.{Message}
use Rattle.plat_base.specs.declared.items.Message.TheVariants as message
use Rattle.plat_base.specs.declared.items.Translation.{Translation}
use Rattle.plat_base.specs.declared.items.Access.{Access}
use Rattle.plat_base.specs.declared.items.Applied.{Applied}
use Rattle.plat_base.specs.declared.items.Switch.{Switch}
use Rattle.plat_base.specs.declared.items.Item.{Item}
use Rattle.plat_base.specs.declared.items.Item.TheVariants as item
use Rattle.plat_base.proofs.CopiesLemmas.{same_frame-itself}
use Rattle.plat_laws.proofs.ItemLaws.{dir_of-access, dir_of-applied, dir_of-switch, seq_of-access, seq_of-applied, seq_of-switch}
use Rattle.plat_laws.proofs.ItemLaws.{later-access, later-applied, later-switch, flat_value-append, flat_value-applied, flat_value-switch}
use Rattle.plat_laws.proofs.ItemLaws.{held-append, held-access, held-switch}
use Rattle.plat_laws.proofs.TableLaws.{copy_on-empty, dir_parts}

-- what holds of a page: its directory is one that it can have, while empty nobody wrote to it, and each of its copies holds
-- flat memory's words
pub record HoldsFlat (m : Machine) (items : List Item) (p : ℕ) : Type 0 where
  pub dir : is_dir m (dir_of items p) ≡ true
  pub unwritten : (w : ℕ) → is_empty (dir_of items p).state ≡ true → flat_value m items p w ≡ initial_value m p w
  pub words : (w : ℕ) (f : Frame) → copy_on f.module (dir_of items p).copies ≡ Some f → copy_value m items p w f ≡ flat_value m items p w

-- what holds of a translation of page p, whoever holds it: where not all was removed since, it leads to a copy, and with the
-- right to write, where writes were not removed either, the page is modified
pub record Leads (items : List Item) (p : ℕ) (t : Translation) : Type 0 where
  pub below : t.seq < seq_of items p
  pub copy :
      later removes_all items p t.seq ≡ false
      → copy_on t.grant.frame.module (dir_of items p).copies ≡ Some t.grant.frame
  pub write :
      t.grant.right ≡ right.Write → later removes_all items p t.seq ≡ false → later removes_writes items p t.seq ≡ false
      → (dir_of items p).state ≡ state.Modified

pub record IsCurrent (m : Machine) (items : List Item) : Type 0 where
  pub page : (p : ℕ) → HoldsFlat m items p
  pub leads : (q e : ℕ) (t : Translation) → held m items q e ≡ Some t → Leads items (page_of m e) t

-- ---- what reads the same

pub copy_value-append : (m : Machine) (xs : List Item) (i : Item) (p w : ℕ) (f : Frame) → copy_value m (xs ++ i ∷ []) p w f
    ≡ words_after m p w (copy_value m xs p w) i f
copy_value-append m xs i p w f = ap (λ (words : InFrames). words f) (fold-append (words_after m p w) (λ g. 0) xs (i ∷ []))

pub like_page :
    (m : Machine) (xs ys : List Item) (p : ℕ) → dir_of ys p ≡ dir_of xs p
    → ((w : ℕ) → flat_value m ys p w ≡ flat_value m xs p w) → ((w : ℕ) (f : Frame) → copy_value m ys p w f ≡ copy_value m xs p w f)
    → HoldsFlat m xs p → HoldsFlat m ys p
like_page m xs ys p d v c k = record {
  dir = ap (is_dir m) d ∙ k.dir;
  unwritten = λ w h. v w ∙ k.unwritten w (sym (ap (λ (x : Dir). is_empty x.state) d) ∙ h);
  words = λ w f h. c w f ∙ (k.words w f (sym (ap (λ (x : Dir). copy_on f.module x.copies) d) ∙ h) ∙ sym (v w));
}

-- the second translation is the first, or what is left of it
pub record IsLeft (t u : Translation) : Type 0 where
  pub seq : u.seq ≡ t.seq
  pub frame : u.grant.frame ≡ t.grant.frame
  pub write : u.grant.right ≡ right.Write → t.grant.right ≡ right.Write

pub all_left : (t : Translation) → IsLeft t t
all_left t = record { seq = refl; frame = refl; write = λ h. h }

pub like_leads :
    (xs ys : List Item) (p : ℕ) (t u : Translation) → dir_of ys p ≡ dir_of xs p → seq_of ys p ≡ seq_of xs p
    → ((test : Removed → Bool) → later test ys p t.seq ≡ later test xs p t.seq) → IsLeft t u → Leads xs p t → Leads ys p u
like_leads xs ys p t u d n l left k = record {
  below = omega (arith, n, left.seq, k.below);
  copy = λ h.
      ap (λ (x : Dir). copy_on u.grant.frame.module x.copies) d
      ∙ (ap (λ (f : Frame). copy_on f.module (dir_of xs p).copies) left.frame ∙ (k.copy (same removes_all h) ∙ sym (ap Some left.frame)));
  write = λ r h i. ap (λ (x : Dir). x.state) d ∙ k.write (left.write r) (same removes_all h) (same removes_writes i);
}
  where
    same : (test : Removed → Bool) → later test ys p u.seq ≡ false → later test xs p t.seq ≡ false
    same test h = sym (l test) ∙ (ap (later test ys p) (sym left.seq) ∙ h)

-- ---- the start

pub current-start : (m : Machine) → IsCurrent m []
current-start m = record {
  page = λ p. record { dir = refl; unwritten = λ w h. refl; words = λ w f h. absurd cc };
  leads = λ q e t h. absurd cc;
}

-- ---- an applied message, and a switch

-- lowered to the right to read, with whatever mark
pub lowered_left : (t u : Translation) (mark : Bool) → Some (record { grant = to_read t.grant; seq = t.seq; restricted = mark }) ≡ Some u →
    IsLeft t u
lowered_left t u mark h = subst (IsLeft t) same (record { seq = refl; frame = refl; write = λ r. absurd cc })
  where
    same : record { grant = to_read t.grant; seq = t.seq; restricted = mark } ≡ u
    same = cc

told_left : (msg : Message) (o : Option Translation) (u : Translation) → told msg o ≡ Some u → (t : Translation) × (o ≡ Some t) × IsLeft t u
told_left message.Invalidate o u h = absurd cc
told_left message.Restrict None u h = absurd cc
told_left message.Restrict (Some t) u h = (t, refl, lowered_left t u true h)

-- what is held after an item is what was held, or what is left of it
after_message : (mine : Bool) (msg : Message) (o : Option Translation) (u : Translation) → (if mine then told msg o else o) ≡ Some u →
    (t : Translation) × (o ≡ Some t) × IsLeft t u
after_message true msg o u h = told_left msg o u h
after_message false msg o u h = (u, h, all_left u)

pub current-applied : (m : Machine) (xs : List Item) (x : Applied) → IsCurrent m xs → IsCurrent m (xs ++ item.Applied x ∷ [])
current-applied m xs x k = record {
  page = λ p.
      like_page m xs (xs ++ item.Applied x ∷ []) p (dir_of-applied xs (item.Applied x ∷ []) p refl)
      (λ w. flat_value-applied m xs (item.Applied x ∷ []) p w refl) (λ w f. copy_value-append m xs (item.Applied x) p w f) (k.page p);
  leads = λ q e u h.
      let before = after_message (x.actor == q && x.entry == e) x.message (held m xs q e) u
      (sym (held-append m xs (item.Applied x ∷ []) q e) ∙ h)
      in like_leads xs (xs ++ item.Applied x ∷ []) (page_of m e) before.0 u (dir_of-applied xs (item.Applied x ∷ []) (page_of m e) refl)
      (seq_of-applied xs (item.Applied x ∷ []) (page_of m e) refl)
      (λ test. later-applied test xs (item.Applied x ∷ []) (page_of m e) before.0.seq refl) before.2 (k.leads q e before.0 before.1);
}

pub current-switch : (m : Machine) (xs : List Item) (s : Switch) → IsCurrent m xs → IsCurrent m (xs ++ item.Switch s ∷ [])
current-switch m xs s k = record {
  page = λ p.
      like_page m xs (xs ++ item.Switch s ∷ []) p (dir_of-switch xs s p)
      (λ w. flat_value-switch m xs s p w) (λ w f. copy_value-append m xs (item.Switch s) p w f) (k.page p);
  leads = λ q e u h.
      like_leads xs (xs ++ item.Switch s ∷ []) (page_of m e) u u (dir_of-switch xs s (page_of m e)) (seq_of-switch xs s (page_of m e))
      (λ test. later-switch test xs s (page_of m e) u.seq) (all_left u) (k.leads q e u (sym (held-switch m xs s q e) ∙ h));
}

-- ---- a frame that gets a value

pub put_holds : (f g : Frame) (v target : ℕ) (words : InFrames) → v ≡ target → (same_frame f g ≡ false → words g ≡ target) →
    put f v words g ≡ target
put_holds f g v target words h k = by (same_frame f g) refl
  where
    by : (b : Bool) → same_frame f g ≡ b → (if b then v else words g) ≡ target
    by true e = h
    by false e = k e

-- ---- an access

-- the access goes to a copy of its page, and a write to the only one
pub record IsAtCopy (items : List Item) (a : Access) : Type 0 where
  pub copy : copy_on a.frame.module (dir_of items a.page).copies ≡ Some a.frame
  pub alone : is_write a.kind ≡ true → IsOnlyCopy (dir_of items a.page) a.frame

-- a modified page has one copy
one_copy : (fs : List Frame) (f : Frame) → has_copies state.Modified (length fs) ≡ true → copy_on f.module fs ≡ Some f → fs ≡ f ∷ []
one_copy [] f n h = absurd cc
one_copy (g ∷ []) f n h = by (g.module == f.module) h
  where
    by : (b : Bool) → (if b then Some g else None) ≡ Some f → g ∷ [] ≡ f ∷ []
    by true e = let same : g ≡ f = cc in ap (λ x. x ∷ []) same
    by false e = absurd cc
one_copy (g ∷ x ∷ xs) f n h = let two : (length (g ∷ x ∷ xs) == 1) ≡ false = ne_eqb (length (g ∷ x ∷ xs)) 1 (λ e. omega arith) in
    absurd (true≢false (sym n ∙ two))

pub only_copy : (m : Machine) (dir : Dir) (f : Frame) → is_dir m dir ≡ true → dir.state ≡ state.Modified →
    copy_on f.module dir.copies ≡ Some f → IsOnlyCopy dir f
only_copy m dir f h s k = (s, one_copy dir.copies f (rw s at (dir_parts m dir h).2) k)

writes-right : (k : Kind) (r : Right) → serves k r ≡ true → is_write k ≡ true → r ≡ right.Write
writes-right kind.Load r h w = absurd cc
writes-right kind.Store right.Read h w = absurd cc
writes-right kind.Store right.Write h w = refl
writes-right kind.Add right.Read h w = absurd cc
writes-right kind.Add right.Write h w = refl

at_copy-leads :
    (m : Machine) (items : List Item) (a : Access) (t : Translation) → IsCurrent m items → Leads items a.page t
    → t.grant.frame ≡ a.frame → t.seq ≡ a.grant → has_right a.kind (Some t) ≡ true → later removes_all items a.page a.grant ≡ false
    → (is_write a.kind ≡ true → later removes_writes items a.page a.grant ≡ false) → IsAtCopy items a
at_copy-leads m items a t k leads frame seq enough all writes = record {
  copy = copy;
  alone = λ w.
      only_copy m (dir_of items a.page) a.frame (k.page a.page).dir
      (leads.write (writes-right a.kind t.grant.right enough w) kept (ap (later removes_writes items a.page) seq ∙ writes w)) copy;
}
  where
    kept : later removes_all items a.page t.seq ≡ false
    kept = ap (later removes_all items a.page) seq ∙ all

    copy : copy_on a.frame.module (dir_of items a.page).copies ≡ Some a.frame
    copy = ap (λ (f : Frame). copy_on f.module (dir_of items a.page).copies) (sym frame) ∙ (leads.copy kept ∙ ap Some frame)

pub at_copy :
    (m : Machine) (items : List Item) (a : Access) → IsCurrent m items → IsByGrant m items a
    → later removes_all items a.page a.grant ≡ false → (is_write a.kind ≡ true → later removes_writes items a.page a.grant ≡ false)
    → IsAtCopy items a
at_copy m items a k by all writes =
    at_copy-leads m items a by.translation k
    (subst (λ (p : ℕ). Leads items p by.translation) by.of_page (k.leads a.actor by.entry by.translation by.holds))
    by.leads by.numbered by.right all writes

pub flat_value-access : (m : Machine) (xs : List Item) (a : Access) (p w : ℕ) → flat_value m (xs ++ item.Access a ∷ []) p w
    ≡ if writes_word p w (item.Access a) then a.new else flat_value m xs p w
flat_value-access m xs a p w = flat_value-append m xs (item.Access a ∷ []) p w

access-page :
    (m : Machine) (xs : List Item) (a : Access) (p : ℕ) → IsAtCopy xs a → HoldsFlat m xs p → HoldsFlat m (xs ++ item.Access a ∷ []) p
access-page m xs a p h k = record {
  dir = ap (is_dir m) (dir_of-access xs a p) ∙ k.dir;
  unwritten = λ w e. unwritten w (sym (ap (λ (x : Dir). is_empty x.state) (dir_of-access xs a p)) ∙ e) (writes_word p w (item.Access a))
      refl;
  words = λ w f e. words w f (sym (ap (λ (x : Dir). copy_on f.module x.copies) (dir_of-access xs a p)) ∙ e)
      (writes_word p w (item.Access a)) refl;
}
  where
    ys : List Item
    ys = xs ++ item.Access a ∷ []

    to_page : (w : ℕ) → writes_word p w (item.Access a) ≡ true → (is_write a.kind ≡ true) × (a.page ≡ p)
    to_page w e =
        let all = and_parts (is_write a.kind && a.page == p) (a.word == w) e in
        let two = and_parts (is_write a.kind) (a.page == p) all.0
        in (two.0, eqb-true a.page p two.1)

    unwritten : (w : ℕ) → is_empty (dir_of xs p).state ≡ true → (b : Bool) → writes_word p w (item.Access a) ≡ b →
        flat_value m (xs ++ item.Access a ∷ []) p w ≡ initial_value m p w
    unwritten w e false n = flat_value-access m xs a p w ∙ (ap (λ (b : Bool). if b then a.new else flat_value m xs p w) n ∙ k.unwritten w e)
    unwritten w e true n =
        let none = copy_on-empty m (dir_of xs p) a.frame.module k.dir e in
        let some : copy_on a.frame.module (dir_of xs p).copies ≡ Some a.frame =
        ap (λ (x : ℕ). copy_on a.frame.module (dir_of xs x).copies) (sym (to_page w n).1) ∙ h.copy
        in absurd cc

    words : (w : ℕ) (f : Frame) → copy_on f.module (dir_of xs p).copies ≡ Some f → (b : Bool) → writes_word p w (item.Access a) ≡ b →
        copy_value m (xs ++ item.Access a ∷ []) p w f ≡ flat_value m (xs ++ item.Access a ∷ []) p w
    words w f e false n =
        copy_value-append m xs (item.Access a) p w f
        ∙ (ap (λ (b : Bool). (if b then put a.frame a.new (copy_value m xs p w) else copy_value m xs p w) f) n
        ∙ (k.words w f e ∙ sym (flat_value-access m xs a p w ∙ ap (λ (b : Bool). if b then a.new else flat_value m xs p w) n)))
    words w f e true n =
        let there = to_page w n in
        let alone : (dir_of xs p).copies ≡ a.frame ∷ [] = ap (λ (x : ℕ). (dir_of xs x).copies) (sym there.1) ∙ (h.alone there.0).1 in
        let same : f ≡ a.frame = only f a.frame (sym (ap (copy_on f.module) alone) ∙ e)
        in copy_value-append m xs (item.Access a) p w f
        ∙ (ap (λ (b : Bool). (if b then put a.frame a.new (copy_value m xs p w) else copy_value m xs p w) f) n
        ∙ (put_holds a.frame f a.new a.new (copy_value m xs p w) refl (λ other. absurd (other_frame a.frame f (sym same) other))
        ∙ sym (flat_value-access m xs a p w ∙ ap (λ (b : Bool). if b then a.new else flat_value m xs p w) n)))
      where
        only : (x y : Frame) → copy_on x.module (y ∷ []) ≡ Some x → x ≡ y
        only x y h = by (y.module == x.module) h
          where
            by : (b : Bool) → (if b then Some y else None) ≡ Some x → x ≡ y
            by true e = cc
            by false e = absurd cc

        other_frame : (x y : Frame) → x ≡ y → same_frame x y ≡ false → ⊥
        other_frame x y e n = true≢false (sym (same_frame-itself x) ∙ (ap (same_frame x) e ∙ n))

pub current-access : (m : Machine) (xs : List Item) (a : Access) → IsAtCopy xs a → IsCurrent m xs → IsCurrent m (xs ++ item.Access a ∷ [])
current-access m xs a h k = record {
  page = λ p. access-page m xs a p h (k.page p);
  leads = λ q e u w.
      like_leads xs (xs ++ item.Access a ∷ []) (page_of m e) u u (dir_of-access xs a (page_of m e)) (seq_of-access xs a (page_of m e))
      (λ test. later-access test xs a (page_of m e) u.seq) (all_left u) (k.leads q e u (sym (held-access m xs a q e) ∙ w));
}
