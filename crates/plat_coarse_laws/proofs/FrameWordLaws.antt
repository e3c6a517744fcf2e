-- where each frame that is taken is free, pages share no frame, and a frame that is a copy of a page holds flat memory's words
use Rattle.std.specs.Prelude.{◌≡◌, ◌≢◌, ◌⊎◌, ℕ, ◌+◌, ◌<◌, ◌==◌, ◌&&◌, if◌then◌else◌, Bool, true, false, List, [], ◌∷◌, ◌++◌, Option, Some}
use Rattle.std.specs.Prelude.{None}
use Rattle.std.proofs.Common.{refl, ap, sym, ◌∙◌, subst, inl, inr}
use Rattle.std.proofs.lemmas.Bool.{eq-eqb, ne_eqb, cases_eq, true≢false}
use Rattle.std.proofs.lemmas.Grind.{fold-append}
use Rattle.std.proofs.lemmas.List.{append_assoc, append-nil}
use Rattle.plat_base.specs.Verdicts.{Answer}
use Rattle.plat_base.specs.Machine.{Machine}
use Rattle.plat_base.specs.Pages.{initial_value}
use Rattle.plat_base.specs.Flat.{is_write, flat_value, writes_word}
use Rattle.plat_base.specs.Directories.{dir_of}
use Rattle.plat_base.specs.Copies.{copy_on, same_frame}
use Rattle.plat_base.specs.Decide.{nearest}
use Rattle.plat_base.specs.CopyWords.{InFrames, put, put_by, put_granted, frames_after, frame_value}
use Rattle.plat_base.specs.Rules.{names_got, is_chained, bad_rule, bad_after}
use Rattle.plat_base.specs.declared.frames.Frame.{Frame}
use Rattle.plat_base.specs.declared.frames.Dir.{Dir}
use Rattle.plat_base.specs.declared.items.Action.{Action}
use Rattle.plat_base.specs.declared.items.Action.TheVariants as action
use Rattle.plat_base.specs.declared.items.Grant.{Grant}
use Rattle.plat_base.specs.declared.items.Access.{Access}
use Rattle.plat_base.specs.declared.items.Applied.{Applied}
use Rattle.plat_base.specs.declared.items.Change.{Change}
use Rattle.plat_base.specs.declared.items.Switch.{Switch}
use Rattle.plat_base.specs.declared.items.Item.{Item}
use Rattle.plat_base.specs.declared.items.Item.TheVariants as item
use Rattle.plat_base.specs.declared.statuses.Rule.TheVariants as rule
use Rattle.plat_base.proofs.CopiesLemmas.{same_frame-itself}
use Rattle.plat_laws.proofs.ItemLaws.{dir_of-access, dir_of-applied, dir_of-change, dir_of-switch, flat_value-applied, flat_value-change}
use Rattle.plat_laws.proofs.ItemLaws.{flat_value-switch}
use Rattle.plat_laws.proofs.SameLaws.{same_frame-true}
use Rattle.plat_laws.proofs.ChangeLaws.{Took, IsGoodChange, good_change}
use Rattle.plat_laws.proofs.AccessLaws.{legal-parts, access_parts, not_removed, by_grant}
use Rattle.plat_laws.proofs.CopyLaws.{IsCurrent, put_holds, flat_value-access, IsAtCopy, at_copy, current-start}
use Rattle.plat_laws.proofs.CopyChangeLaws.{put_granted-holds, current-item}
use Rattle.plat_coarse_laws.proofs.FreeLaws.{IsNobodys, IsFreeTake, TakesFree}
use Rattle.plat_base.proofs.RuleLemmas.{unless-none, bad_at-none}

-- pages below the machine's number share no frame, and the frames that are their copies hold flat memory's words
pub record IsFramed (m : Machine) (items : List Item) : Type 0 where
  pub apart :
      (p r : ℕ) (f : Frame) → p < m.pages → r < m.pages → copy_on f.module (dir_of items p).copies ≡ Some f
      → copy_on f.module (dir_of items r).copies ≡ Some f → p ≡ r
  pub words :
      (p w : ℕ) (f : Frame) → p < m.pages → copy_on f.module (dir_of items p).copies ≡ Some f
      → frame_value m items w f ≡ flat_value m items p w

frame_value-append : (m : Machine) (xs : List Item) (i : Item) (w : ℕ) (f : Frame) →
    frame_value m (xs ++ i ∷ []) w f ≡ frames_after m w (frame_value m xs w) i f
frame_value-append m xs i w f = ap (λ (words : InFrames). words f) (fold-append (frames_after m w) (λ g. 0) xs (i ∷ []))

like_framed :
    (m : Machine) (xs ys : List Item) → ((p : ℕ) → dir_of ys p ≡ dir_of xs p) → ((p w : ℕ) → flat_value m ys p w ≡ flat_value m xs p w)
    → ((w : ℕ) (f : Frame) → frame_value m ys w f ≡ frame_value m xs w f) → IsFramed m xs → IsFramed m ys
like_framed m xs ys d v c k = record {
  apart = λ p r f l u h i. k.apart p r f l u (back p f h) (back r f i);
  words = λ p w f l h. c w f ∙ (k.words p w f l (back p f h) ∙ sym (v p w));
}
  where
    back : (p : ℕ) (f : Frame) → copy_on f.module (dir_of ys p).copies ≡ Some f → copy_on f.module (dir_of xs p).copies ≡ Some f
    back p f h = sym (ap (λ (x : Dir). copy_on f.module x.copies) (d p)) ∙ h

framed-start : (m : Machine) → IsFramed m []
framed-start m = record { apart = λ p r f l u h i. absurd cc; words = λ p w f l h. absurd cc }

framed-applied : (m : Machine) (xs : List Item) (x : Applied) → IsFramed m xs → IsFramed m (xs ++ item.Applied x ∷ [])
framed-applied m xs x k =
    like_framed m xs (xs ++ item.Applied x ∷ []) (λ p. dir_of-applied xs (item.Applied x ∷ []) p refl)
    (λ p w. flat_value-applied m xs (item.Applied x ∷ []) p w refl) (λ w f. frame_value-append m xs (item.Applied x) w f) k

framed-switch : (m : Machine) (xs : List Item) (s : Switch) → IsFramed m xs → IsFramed m (xs ++ item.Switch s ∷ [])
framed-switch m xs s k =
    like_framed m xs (xs ++ item.Switch s ∷ []) (λ p. dir_of-switch xs s p) (λ p w. flat_value-switch m xs s p w)
    (λ w f. frame_value-append m xs (item.Switch s) w f) k

-- ---- an access writes into the frame of its own page alone

module _ (m : Machine) (xs : List Item) (a : Access) (l : a.page < m.pages) (at : IsAtCopy xs a) (k : IsFramed m xs) where
  abbrev after_access : List Item
  after_access = xs ++ item.Access a ∷ []

  was : (p : ℕ) (f : Frame) → copy_on f.module (dir_of after_access p).copies ≡ Some f → copy_on f.module (dir_of xs p).copies ≡ Some f
  was p f h = sym (ap (λ (x : Dir). copy_on f.module x.copies) (dir_of-access xs a p)) ∙ h

  frames_at : (w : ℕ) (f : Frame) (b : Bool) → (is_write a.kind && a.word == w) ≡ b →
      frame_value m after_access w f ≡ (if b then put a.frame a.new (frame_value m xs w) else frame_value m xs w) f
  frames_at w f b e = frame_value-append m xs (item.Access a) w f
      ∙ ap (λ (z : Bool). (if z then put a.frame a.new (frame_value m xs w) else frame_value m xs w) f) e

  flat_at : (p w : ℕ) (b : Bool) → writes_word p w (item.Access a) ≡ b → flat_value m after_access p w ≡ if b then a.new
      else flat_value m xs p w
  flat_at p w b e = flat_value-access m xs a p w ∙ ap (λ (z : Bool). if z then a.new else flat_value m xs p w) e

  -- its own page: a write finds this copy alone
  own_words : (w : ℕ) (f : Frame) → copy_on f.module (dir_of xs a.page).copies ≡ Some f → (writes word : Bool) → is_write a.kind ≡ writes →
      (a.word == w) ≡ word → frame_value m after_access w f ≡ flat_value m after_access a.page w
  own_words w f h false word e n =
      frames_at w f false (rw e refl) ∙ (k.words a.page w f l h ∙ sym (flat_at a.page w false (rw e refl)))
  own_words w f h true false e n =
      frames_at w f false (rw (e, n) refl)
      ∙ (k.words a.page w f l h ∙ sym (flat_at a.page w false (rw (e, n, eq-eqb a.page a.page refl) refl)))
  own_words w f h true true e n =
      frames_at w f true (rw (e, n) refl)
      ∙ (put_holds a.frame f a.new a.new (frame_value m xs w) refl (λ other. absurd (one other))
      ∙ sym (flat_at a.page w true (rw (e, n, eq-eqb a.page a.page refl) refl)))
    where
      only : (x y : Frame) → copy_on x.module (y ∷ []) ≡ Some x → y ≡ x
      only x y h = by (y.module == x.module) h
        where
          by : (b : Bool) → (if b then Some y else None) ≡ Some x → y ≡ x
          by true e = cc
          by false e = absurd cc

      one : same_frame a.frame f ≡ false → ⊥
      one other =
          let same : a.frame ≡ f = only f a.frame (sym (ap (copy_on f.module) (at.alone e).1) ∙ h)
          in true≢false (sym (same_frame-itself a.frame) ∙ (ap (same_frame a.frame) same ∙ other))

  elsewhere : (p w : ℕ) → a.page ≢ p → writes_word p w (item.Access a) ≡ false
  elsewhere p w d = rw (ne_eqb a.page p d) (no_page (is_write a.kind) (a.word == w))
    where
      no_page : (x y : Bool) → (x && false && y) ≡ false
      no_page true y = refl
      no_page false y = refl

  -- another page: the frame is not its copy
  other_words : (p w : ℕ) (f : Frame) → p < m.pages → a.page ≢ p → copy_on f.module (dir_of xs p).copies ≡ Some f → (b : Bool) →
      (is_write a.kind && a.word == w) ≡ b → frame_value m after_access w f ≡ flat_value m after_access p w
  other_words p w f u d h false e = frames_at w f false e ∙ (k.words p w f u h ∙ sym (flat_at p w false (elsewhere p w d)))
  other_words p w f u d h true e =
      frames_at w f true e
      ∙ (apart_put (same_frame a.frame f) refl ∙ (k.words p w f u h ∙ sym (flat_at p w false (elsewhere p w d))))
    where
      apart_put : (b : Bool) → same_frame a.frame f ≡ b → (if b then a.new else frame_value m xs w f) ≡ frame_value m xs w f
      apart_put false n = refl
      apart_put true n =
          let same = same_frame-true a.frame f n in
          let mine : copy_on f.module (dir_of xs a.page).copies ≡ Some f =
          subst (λ (x : Frame). copy_on x.module (dir_of xs a.page).copies ≡ Some x) same at.copy
          in absurd (d (k.apart a.page p f l u mine h))

  framed-access : IsFramed m after_access
  framed-access = record {
    apart = λ p r f l u h i. k.apart p r f l u (was p f h) (was r f i);
    words = λ p w f u h. by p w f u (was p f h) (cases_eq a.page p);
  }
    where
      by : (p w : ℕ) (f : Frame) → p < m.pages → copy_on f.module (dir_of xs p).copies ≡ Some f → (a.page ≡ p) ⊎ (a.page ≢ p) →
          frame_value m after_access w f ≡ flat_value m after_access p w
      by p w f u h (inl same) =
          subst (λ (x : ℕ). frame_value m after_access w f ≡ flat_value m after_access x w) same
          (own_words w f (ap (λ (x : ℕ). copy_on f.module (dir_of xs x).copies) same ∙ h) (is_write a.kind) (a.word == w) refl refl)
      by p w f u h (inr d) = other_words p w f u d h (is_write a.kind && a.word == w) refl

-- ---- a change puts words into a free frame

-- a frame that the change did not take is as it was
untaken : (m : Machine) (c : Change) (w : ℕ) (words : InFrames) (f : Frame) → (Took c f → ⊥) → (o : Option Grant) → c.granted ≡ o →
    put_granted m c.page w c o words f ≡ words f
untaken m c w words f none None granted = refl
untaken m c w words f none (Some g) granted = by c.action refl
  where
    kept : (v : ℕ) → names_got c.action ≡ true → put g.frame v words f ≡ words f
    kept v named = at (same_frame g.frame f) refl
      where
        at : (b : Bool) → same_frame g.frame f ≡ b → (if b then v else words f) ≡ words f
        at false n = refl
        at true n = absurd (none (record { grant = g; is = granted; named = named; frame = same_frame-true g.frame f n }))

    by : (a : Action) → c.action ≡ a → put_by m c.page w c a g.frame words f ≡ words f
    by action.Fill is = kept (initial_value m c.page w) (ap names_got is)
    by action.MapLocal is = refl
    by action.MapRemote is = refl
    by action.Replicate is = kept (words (nearest m c.actor c.before.copies)) (ap names_got is)
    by action.Migrate is = kept (words (nearest m c.actor c.before.copies)) (ap names_got is)
    by action.Collapse is = refl
    by action.Thaw is = refl

module _ (m : Machine) (xs : List Item) (c : Change) (current : IsCurrent m xs) (h : IsGoodChange m xs c) (free : (f : Frame) → Took c f →
    IsNobodys m xs f) (k : IsFramed m xs) where
  abbrev after_change : List Item
  after_change = xs ++ item.Change c ∷ []

  at_own : (f : Frame) → copy_on f.module (dir_of after_change c.page).copies ≡ Some f → copy_on f.module c.after.copies ≡ Some f
  at_own f e =
      sym (ap (λ (x : Dir). copy_on f.module x.copies) (dir_of-change xs c c.page
      ∙ ap (λ (b : Bool). if b then c.after else dir_of xs c.page) (eq-eqb c.page c.page refl))) ∙ e

  at_other : (p : ℕ) (f : Frame) → c.page ≢ p → copy_on f.module (dir_of after_change p).copies ≡ Some f →
      copy_on f.module (dir_of xs p).copies ≡ Some f
  at_other p f d e =
      sym (ap (λ (x : Dir). copy_on f.module x.copies) (dir_of-change xs c p
      ∙ ap (λ (b : Bool). if b then c.after else dir_of xs p) (ne_eqb c.page p d))) ∙ e

  -- a copy of the changed page is one of no other
  never : (r : ℕ) (f : Frame) → c.page ≢ r → r < m.pages → copy_on f.module c.after.copies ≡ Some f → copy_on f.module (dir_of xs r).copies
      ≡ Some f → ⊥
  never r f d u e i = by (h.facts.from f.module f e)
    where
      by : (copy_on f.module (dir_of xs c.page).copies ≡ Some f) ⊎ Took c f → ⊥
      by (inl before) = d (k.apart c.page r f h.page u before i)
      by (inr took) = free f took r u i

  apart_at : (p r : ℕ) (f : Frame) → p < m.pages → r < m.pages → copy_on f.module (dir_of after_change p).copies ≡ Some f →
      copy_on f.module (dir_of after_change r).copies ≡ Some f → (c.page ≡ p) ⊎ (c.page ≢ p) → (c.page ≡ r) ⊎ (c.page ≢ r) → p ≡ r
  apart_at p r f l u e i (inl same) (inl other) = sym same ∙ other
  apart_at p r f l u e i (inl same) (inr d) =
      absurd (never r f d u (at_own f (ap (λ (x : ℕ). copy_on f.module (dir_of after_change x).copies) same ∙ e)) (at_other r f d i))
  apart_at p r f l u e i (inr d) (inl same) =
      absurd (never p f d l (at_own f (ap (λ (x : ℕ). copy_on f.module (dir_of after_change x).copies) same ∙ i)) (at_other p f d e))
  apart_at p r f l u e i (inr d) (inr n) = k.apart p r f l u (at_other p f d e) (at_other r f n i)

  words_at : (p w : ℕ) (f : Frame) → p < m.pages → copy_on f.module (dir_of after_change p).copies ≡ Some f → (c.page ≡ p) ⊎ (c.page ≢ p) →
      frame_value m after_change w f ≡ flat_value m after_change p w
  words_at p w f l e (inl same) = subst (λ (x : ℕ). frame_value m after_change w f ≡ flat_value m after_change x w) same own
    where
      own : frame_value m after_change w f ≡ flat_value m after_change c.page w
      own =
          frame_value-append m xs (item.Change c) w f
          ∙ (put_granted-holds m (dir_of xs c.page) c h.facts (current.page c.page).dir w (flat_value m xs c.page w) (frame_value m xs w)
          (λ none. sym ((current.page c.page).unwritten w none)) (λ g before. k.words c.page w g h.page before) f
          (at_own f (ap (λ (x : ℕ). copy_on f.module (dir_of after_change x).copies) same ∙ e)) c.granted refl h.before
          ∙ sym (flat_value-change m xs c c.page w))
  words_at p w f l e (inr d) =
      let there = at_other p f d e
      in frame_value-append m xs (item.Change c) w f
      ∙ (untaken m c w (frame_value m xs w) f (λ took. free f took p l there) c.granted refl
      ∙ (k.words p w f l there ∙ sym (flat_value-change m xs c p w)))

  framed-change : IsFramed m after_change
  framed-change = record {
    apart = λ p r f l u e i. apart_at p r f l u e i (cases_eq c.page p) (cases_eq c.page r);
    words = λ p w f l e. words_at p w f l e (cases_eq c.page p);
  }

-- ---- the items of a good history that takes free frames

framed-item : (m : Machine) (answer : Answer) (xs : List Item) (i : Item) → bad_rule m answer xs i ≡ None → IsFreeTake m xs i →
    IsCurrent m xs → IsFramed m xs → IsFramed m (xs ++ i ∷ [])
framed-item m answer xs (item.Access a) h free current k =
    let kept = not_removed m answer xs a h
    in framed-access m xs a (legal-parts m xs a (access_parts m answer xs a h).2).0
    (at_copy m xs a current (by_grant m answer xs a h) kept.0 kept.1) k
framed-item m answer xs (item.Change c) h free current k =
    framed-change m xs c current (good_change m answer xs c (unless-none (is_chained m answer xs c) rule.Chain h)) free k
framed-item m answer xs (item.Applied x) h free current k = framed-applied m xs x k
framed-item m answer xs (item.Switch s) h free current k = framed-switch m xs s k

framed-items : (m : Machine) (answer : Answer) (xs : List Item) (n : ℕ) (is : List Item) → bad_after m answer xs n is ≡ None →
    TakesFree m xs is → IsCurrent m xs → IsFramed m xs → IsFramed m (xs ++ is)
framed-items m answer xs n [] h free current k = rw append-nil k
framed-items m answer xs n (i ∷ is) h free current k =
    let both = bad_at-none n (bad_rule m answer xs i) (bad_after m answer (xs ++ i ∷ []) (n + 1) is) h
    in subst (IsFramed m) (append_assoc xs (i ∷ []) is)
    (framed-items m answer (xs ++ i ∷ []) (n + 1) is both.1 free.1 (current-item m answer xs i both.0 current)
    (framed-item m answer xs i both.0 free.0 current k))

pub good_framed : (m : Machine) (answer : Answer) (items : List Item) → bad_after m answer [] 0 items ≡ None → TakesFree m [] items →
    IsFramed m items
good_framed m answer items h free = framed-items m answer [] 0 items h free (current-start m) (framed-start m)
