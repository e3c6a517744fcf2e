-- a change that breaks no rule keeps what is said of copies; and so does each item of a good history
use Rattle.std.specs.Prelude.{◌≡◌, ◌≢◌, ◌⊎◌, ℕ, ◌+◌, ◌<◌, ◌==◌, nat_lt, ◌&&◌, if◌then◌else◌, Bool, true, false, List, [], ◌∷◌, ◌++◌, Option}
use Rattle.std.specs.Prelude.{Some, None}
use Rattle.std.proofs.Common.{refl, ap, sym, ◌∙◌, subst, inl, inr, arith}
use Rattle.std.proofs.lemmas.Bool.{or_parts, eqb-true, eq-eqb, lt-ltb, true≢false}
use Rattle.std.proofs.lemmas.List.{append_assoc, append-nil}
use Rattle.plat_base.specs.Verdicts.{Answer}
use Rattle.plat_base.specs.Machine.{Machine}
use Rattle.plat_base.specs.Pages.{page_of, initial_value}
use Rattle.plat_base.specs.Flat.{flat_value}
use Rattle.plat_base.specs.Directories.{dir_of, seq_of}
use Rattle.plat_base.specs.Held.{kept_of, granted_to, held_after, held, later, removes_all, removes_writes}
use Rattle.plat_base.specs.Copies.{copy_on, same_frame}
use Rattle.plat_base.specs.CopyWords.{InFrames, put, put_by, put_granted, copy_value}
use Rattle.plat_base.specs.Decide.{is_dir, is_empty, nearest}
use Rattle.plat_base.specs.Rules.{names_got, is_chained, bad_rule, bad_after}
use Rattle.plat_base.specs.declared.frames.Frame.{Frame}
use Rattle.plat_base.specs.declared.frames.Dir.{Dir}
use Rattle.plat_base.specs.declared.items.Action.{Action}
use Rattle.plat_base.specs.declared.items.Action.TheVariants as action
use Rattle.plat_base.specs.declared.items.Removed.{Removed}
use Rattle.plat_base.specs.declared.items.Removed.TheVariants as removed
use Rattle.plat_base.specs.declared.items.Grant.{Grant}
use Rattle.plat_base.specs.declared.items.Translation.{Translation}
use Rattle.plat_base.specs.declared.items.Change.{Change}
use Rattle.plat_base.specs.declared.items.Item.{Item}
use Rattle.plat_base.specs.declared.items.Item.TheVariants as item
use Rattle.plat_base.specs.declared.statuses.Rule.TheVariants as rule
use Rattle.plat_base.proofs.CopiesLemmas.{same_frame-itself}
use Rattle.plat_laws.proofs.ItemLaws.{or-false, dir_of-change, seq_of-change, later-change, flat_value-change, held-change}
use Rattle.plat_laws.proofs.TableLaws.{copy_on-nearest, dir_parts, has_some}
use Rattle.plat_laws.proofs.ChangeLaws.{Took, IsGoodChange, good_change, ChangeFacts}
use Rattle.plat_laws.proofs.AccessLaws.{not_removed, by_grant}
use Rattle.plat_laws.proofs.CopyLaws.{HoldsFlat, Leads, IsCurrent, IsLeft, all_left, lowered_left, like_page, like_leads, put_holds}
use Rattle.plat_laws.proofs.CopyLaws.{copy_value-append, at_copy, current-start, current-access, current-applied, current-switch}
use Rattle.plat_base.proofs.RuleLemmas.{unless-none, bad_at-none}

-- ---- what a change leaves held

abbrev fresh_of : Change → Grant → Translation
fresh_of c g = record { grant = g; seq = c.seq; restricted = false }

-- the fresh grant of the change, or what was held, or what is left of that
abbrev IsFrom : Change → (entry : ℕ) → Option Translation → Translation → Type 0
IsFrom c entry o u =
    ((g : Grant) × (c.granted ≡ Some g) × (g.entry ≡ entry) × (fresh_of c g ≡ u)) ⊎ ((t : Translation) × (o ≡ Some t) × IsLeft t u)

kept_left : (r : Removed) (o : Option Translation) (u : Translation) → kept_of r o ≡ Some u → (t : Translation) × (o ≡ Some t) × IsLeft t u
kept_left removed.Nothing o u h = (u, h, all_left u)
kept_left removed.Writes None u h = absurd cc
kept_left removed.Writes (Some t) u h = (t, refl, lowered_left t u t.restricted h)
kept_left removed.All o u h = absurd cc

kept_where : (here : Bool) (r : Removed) (o : Option Translation) (u : Translation) → (if here then kept_of r o else o) ≡ Some u
    → (t : Translation) × (o ≡ Some t) × IsLeft t u
kept_where true r o u h = kept_left r o u h
kept_where false r o u h = (u, h, all_left u)

granted_from : (c : Change) (entry : ℕ) (given : Option Grant) (v o : Option Translation) (u : Translation) → c.granted ≡ given
    → granted_to entry c.seq given v ≡ Some u → (v ≡ Some u → (t : Translation) × (o ≡ Some t) × IsLeft t u) → IsFrom c entry o u
granted_from c entry None v o u e h k = inr (k h)
granted_from c entry (Some g) v o u e h k = by (g.entry == entry) refl h
  where
    by : (b : Bool) → (g.entry == entry) ≡ b → (if b then Some (fresh_of c g) else v) ≡ Some u → IsFrom c entry o u
    by true here h = let same : fresh_of c g ≡ u = cc in inl (g, e, eqb-true g.entry entry here, same)
    by false here h = inr (k h)

held_from : (m : Machine) (c : Change) (q entry : ℕ) (o : Option Translation) (u : Translation)
    → held_after m q entry o (item.Change c) ≡ Some u → IsFrom c entry o u
held_from m c q entry o u h = by (c.actor == q) h
  where
    by : (b : Bool) → (if b then granted_to entry c.seq c.granted (if page_of m entry == c.page then kept_of c.removed o else o) else o)
        ≡ Some u → IsFrom c entry o u
    by true h =
        granted_from c entry c.granted (if page_of m entry == c.page then kept_of c.removed o else o) o u refl h
        (λ e. kept_where (page_of m entry == c.page) c.removed o u e)
    by false h = inr (u, h, all_left u)

nothing_removed : (r : Removed) → removes_all r ≡ false → removes_writes r ≡ false → r ≡ removed.Nothing
nothing_removed removed.Nothing a w = refl
nothing_removed removed.Writes a w = absurd cc
nothing_removed removed.All a w = absurd cc

-- ---- what a change puts into frames

not_took : (c : Change) (f : Frame) (g : Grant) → c.granted ≡ Some g → same_frame g.frame f ≡ false → Took c f → ⊥
not_took c f g granted other took =
    let same : g ≡ took.grant = some_same g took.grant (sym granted ∙ took.is) in
    let is : g.frame ≡ f = ap (λ (x : Grant). x.frame) same ∙ took.frame
    in true≢false (sym (same_frame-itself g.frame) ∙ (ap (same_frame g.frame) is ∙ other))
  where
    some_same : (x y : Grant) → Some x ≡ Some y → x ≡ y
    some_same x y e = cc

no_name : (c : Change) (f : Frame) (a : Action) → c.action ≡ a → names_got a ≡ false → Took c f → ⊥
no_name c f a is none took = true≢false (sym took.named ∙ (ap names_got is ∙ none))

-- where each copy before it holds this value, and an empty page's starting value is it, each copy after it does, if what it puts
-- into frames goes by these words
module _ (m : Machine) (b : Dir) (c : Change) (facts : ChangeFacts m b c) (dir : is_dir m b ≡ true) (w target : ℕ) (words : InFrames)
    (start : is_empty b.state ≡ true → initial_value m c.page w ≡ target) (was_copy : (f : Frame) → copy_on f.module b.copies ≡ Some f →
    words f ≡ target) where
  nearest_copy : c.before ≡ b → is_empty b.state ≡ false → words (nearest m c.actor c.before.copies) ≡ target
  nearest_copy same e =
      let near = copy_on-nearest m c.actor b.copies (has_some m b dir e) (dir_parts m b dir).1
      in ap (λ (x : Dir). words (nearest m c.actor x.copies)) same ∙ was_copy (nearest m c.actor b.copies) near

  module _ (f : Frame) (e : copy_on f.module c.after.copies ≡ Some f) where
    -- a copy of which the change says that no frame was taken was one before
    nothing_took : (Took c f → ⊥) → words f ≡ target
    nothing_took none = by (facts.from f.module f e)
      where
        by : (copy_on f.module b.copies ≡ Some f) ⊎ Took c f → words f ≡ target
        by (inl was) = was_copy f was
        by (inr took) = absurd (none took)

    -- with the frame that it took, the copies hold that value
    took_one : (g : Grant) (v : ℕ) → c.granted ≡ Some g → v ≡ target → put g.frame v words f ≡ target
    took_one g v granted value = put_holds g.frame f v target words value
        (λ other. nothing_took (λ took. not_took c f g granted other took))

    by_action : (g : Grant) (a : Action) → c.granted ≡ Some g → c.action ≡ a → c.before ≡ b → put_by m c.page w c a g.frame words f ≡ target
    by_action g action.Fill granted is same = took_one g (initial_value m c.page w) granted (start (facts.fills is))
    by_action g action.MapLocal granted is same = nothing_took (no_name c f action.MapLocal is refl)
    by_action g action.MapRemote granted is same = nothing_took (no_name c f action.MapRemote is refl)
    by_action g action.Replicate granted is same =
        took_one g (words (nearest m c.actor c.before.copies)) granted (nearest_copy same (facts.copied (λ fill. cc) (ap names_got is)))
    by_action g action.Migrate granted is same =
        took_one g (words (nearest m c.actor c.before.copies)) granted (nearest_copy same (facts.copied (λ fill. cc) (ap names_got is)))
    by_action g action.Collapse granted is same = nothing_took (no_name c f action.Collapse is refl)
    by_action g action.Thaw granted is same = nothing_took (no_name c f action.Thaw is refl)

    pub put_granted-holds : (o : Option Grant) → c.granted ≡ o → c.before ≡ b → put_granted m c.page w c o words f ≡ target
    put_granted-holds None granted same = nothing_took (λ took. none (sym took.is ∙ granted))
      where
        none : {g : Grant} → Some g ≡ None → ⊥
        none e = cc
    put_granted-holds (Some g) granted same = by_action g c.action granted refl same

-- ---- one change

module _ (m : Machine) (xs : List Item) (c : Change) (k : IsCurrent m xs) (h : IsGoodChange m xs c) where
  abbrev ys : List Item
  ys = xs ++ item.Change c ∷ []

  abbrev before : Dir
  before = dir_of xs c.page

  -- ---- the page of the change, and others

  dir_own : dir_of ys c.page ≡ c.after
  dir_own = dir_of-change xs c c.page ∙ ap (λ (b : Bool). if b then c.after else dir_of xs c.page) (eq-eqb c.page c.page refl)

  flat_own : (w : ℕ) → flat_value m ys c.page w ≡ flat_value m xs c.page w
  flat_own w = flat_value-change m xs c c.page w

  words_own : (w : ℕ) (f : Frame) → copy_value m ys c.page w f ≡ put_granted m c.page w c c.granted (copy_value m xs c.page w) f
  words_own w f =
      copy_value-append m xs (item.Change c) c.page w f
      ∙ ap (λ (b : Bool). (if b then put_granted m c.page w c c.granted (copy_value m xs c.page w) else copy_value m xs c.page w) f)
      (eq-eqb c.page c.page refl)

  own_page : HoldsFlat m ys c.page
  own_page = record {
    dir = ap (is_dir m) dir_own ∙ h.facts.dir;
    unwritten = λ w e. absurd (true≢false (sym e ∙ (ap (λ (x : Dir). is_empty x.state) dir_own ∙ h.facts.filled)));
    words = λ w f e.
        words_own w f
        ∙ (put_granted-holds m before c h.facts (k.page c.page).dir w (flat_value m xs c.page w) (copy_value m xs c.page w)
        (λ e. sym ((k.page c.page).unwritten w e)) (λ g was. (k.page c.page).words w g was) f
        (sym (ap (λ (x : Dir). copy_on f.module x.copies) dir_own) ∙ e) c.granted refl h.before
        ∙ sym (flat_own w));
  }

  any_page : (p : ℕ) (b : Bool) → (c.page == p) ≡ b → HoldsFlat m ys p
  any_page p true e = subst (HoldsFlat m ys) (eqb-true c.page p e) own_page
  any_page p false e =
      like_page m xs ys p (dir_of-change xs c p ∙ ap (λ (b : Bool). if b then c.after else dir_of xs p) e)
      (λ w. flat_value-change m xs c p w)
      (λ w f.
      copy_value-append m xs (item.Change c) p w f
      ∙ ap (λ (b : Bool). (if b then put_granted m p w c c.granted (copy_value m xs p w) else copy_value m xs p w) f) e)
      (k.page p)

  -- ---- translations

  seq_own : seq_of ys c.page ≡ seq_of xs c.page + 1
  seq_own = seq_of-change xs c c.page ∙ ap (λ (b : Bool). if b then seq_of xs c.page + 1 else seq_of xs c.page) (eq-eqb c.page c.page refl)

  fresh_leads : (g : Grant) → c.granted ≡ Some g → Leads ys c.page (fresh_of c g)
  fresh_leads g granted =
      let new = h.facts.granted g granted
      in record {
        below = omega (arith, seq_own, h.seq);
        copy = λ l. ap (λ (x : Dir). copy_on g.frame.module x.copies) dir_own ∙ new.copy;
        write = λ r l n. ap (λ (x : Dir). x.state) dir_own ∙ new.write r;
      }

  -- a translation of the page of which the change did not remove what is asked for
  module _ (t u : Translation) (left : IsLeft t u) (leads : Leads xs c.page t) where
    split : (test : Removed → Bool) → later test ys c.page u.seq ≡ false → (later test xs c.page t.seq ≡ false) × (test c.removed ≡ false)
    split test l =
        let older : u.seq < c.seq = omega (arith, left.seq, leads.below, h.seq) in
        let both = or_parts (later test xs c.page u.seq) (c.page == c.page && nat_lt u.seq c.seq && test c.removed)
        (sym (later-change test xs c c.page u.seq) ∙ l) in
        let there : (c.page == c.page && nat_lt u.seq c.seq && test c.removed) ≡ test c.removed =
        rw (eq-eqb c.page c.page refl, lt-ltb u.seq c.seq older) refl
        in (ap (later test xs c.page) (sym left.seq) ∙ both.0, sym there ∙ both.1)

    not_all : removes_all c.removed ≡ false → c.removed ≢ removed.All
    not_all n e = true≢false (sym (ap removes_all e) ∙ n)

    left_leads : Leads ys c.page u
    left_leads = record {
      below = omega (arith, left.seq, leads.below, seq_own);
      copy = λ l.
          let parts = split removes_all l in
          let there = h.facts.stays t.grant.frame.module t.grant.frame (not_all parts.1) (leads.copy parts.0)
          in ap (λ (x : Dir). copy_on u.grant.frame.module x.copies) dir_own
          ∙ (ap (λ (f : Frame). copy_on f.module c.after.copies) left.frame ∙ (there ∙ sym (ap Some left.frame)));
      write = λ r l n.
          let all = split removes_all l in
          let writes = split removes_writes n
          in ap (λ (x : Dir). x.state) dir_own
          ∙ h.facts.modified (leads.write (left.write r) all.0 writes.0) (nothing_removed c.removed all.1 writes.1);
    }

  other_leads : (p : ℕ) (t u : Translation) → (c.page == p) ≡ false → IsLeft t u → Leads xs p t → Leads ys p u
  other_leads p t u other left leads =
      like_leads xs ys p t u (dir_of-change xs c p ∙ ap (λ (b : Bool). if b then c.after else dir_of xs p) other)
      (seq_of-change xs c p ∙ ap (λ (b : Bool). if b then seq_of xs p + 1 else seq_of xs p) other)
      (λ test. later-change test xs c p t.seq ∙ (rw other (or-false (later test xs p t.seq)))) left leads

  any_leads : (p : ℕ) (t u : Translation) (b : Bool) → (c.page == p) ≡ b → IsLeft t u → Leads xs p t → Leads ys p u
  any_leads p t u true e left leads =
      let same : c.page ≡ p = eqb-true c.page p e
      in subst (λ (x : ℕ). Leads ys x u) same (left_leads t u left (subst (λ (x : ℕ). Leads xs x t) (sym same) leads))
  any_leads p t u false e left leads = other_leads p t u e left leads

  pub current-change : IsCurrent m ys
  current-change = record {
    page = λ p. any_page p (c.page == p) refl;
    leads = λ q e u w. by q e u (held_from m c q e (held m xs q e) u (sym (held-change m xs c q e) ∙ w));
  }
    where
      by : (q e : ℕ) (u : Translation) → IsFrom c e (held m xs q e) u → Leads ys (page_of m e) u
      by q e u (inl fresh) =
          let page : c.page ≡ page_of m e = sym (h.facts.granted fresh.0 fresh.1).of_page ∙ ap (page_of m) fresh.2
          in subst (λ (x : ℕ). Leads ys x u) page (subst (Leads ys c.page) fresh.3 (fresh_leads fresh.0 fresh.1))
      by q e u (inr old) = any_leads (page_of m e) old.0 u (c.page == page_of m e) refl old.2 (k.leads q e old.0 old.1)

-- ---- the items of a good history

pub current-item : (m : Machine) (answer : Answer) (xs : List Item) (i : Item) → bad_rule m answer xs i ≡ None → IsCurrent m xs →
    IsCurrent m (xs ++ i ∷ [])
current-item m answer xs (item.Access a) h k =
    let kept = not_removed m answer xs a h
    in current-access m xs a (at_copy m xs a k (by_grant m answer xs a h) kept.0 kept.1) k
current-item m answer xs (item.Change c) h k =
    current-change m xs c k (good_change m answer xs c (unless-none (is_chained m answer xs c) rule.Chain h))
current-item m answer xs (item.Applied x) h k = current-applied m xs x k
current-item m answer xs (item.Switch s) h k = current-switch m xs s k

pub current-items : (m : Machine) (answer : Answer) (xs : List Item) (n : ℕ) (is : List Item) → bad_after m answer xs n is ≡ None →
    IsCurrent m xs → IsCurrent m (xs ++ is)
current-items m answer xs n [] h k = rw append-nil k
current-items m answer xs n (i ∷ is) h k =
    let both = bad_at-none n (bad_rule m answer xs i) (bad_after m answer (xs ++ i ∷ []) (n + 1) is) h
    in subst (IsCurrent m) (append_assoc xs (i ∷ []) is)
    (current-items m answer (xs ++ i ∷ []) (n + 1) is both.1 (current-item m answer xs i both.0 k))

-- whatever breaks no rule is current
pub good_current : (m : Machine) (answer : Answer) (items : List Item) → bad_after m answer [] 0 items ≡ None → IsCurrent m items
good_current m answer items h = current-items m answer [] 0 items h (current-start m)
