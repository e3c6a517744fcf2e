-- an access under way goes to a kept copy, finds flat memory's word there, and breaks no rule
use Rattle.std.specs.Prelude.{◌≡◌, ◌≢◌, ℕ, ◌+◌, ◌*◌, ◌^◌, ◌<◌, ◌==◌, nat_lt, nat_le, ◌&&◌, not, Bool, true, false, is_some, Option, Some}
use Rattle.std.specs.Prelude.{None, IsTrue}
use Rattle.std.proofs.Common.{refl, ap, sym, ◌∙◌, arith, subst}
use Rattle.std.specs.Option.{option_map_or}
use Rattle.std.proofs.lemmas.Bool.{and_parts, eqb-true, eq-eqb, and_from}
use Rattle.std.proofs.lemmas.Bool.Decides.{nat_tests}
use Rattle.plat_base.specs.Verdicts.{Answer}
use Rattle.plat_base.specs.Machine.{Machine}
use Rattle.plat_base.specs.Pages.{page_of}
use Rattle.plat_base.specs.GuestRun.{Reach, reach_of}
use Rattle.plat_base.specs.Flat.{is_write, flat_value, flat_writes}
use Rattle.plat_base.specs.Accesses.{writes_made}
use Rattle.plat_base.specs.Held.{held, held_through, has_right, later, removes_all, removes_writes}
use Rattle.plat_base.specs.Directories.{dir_of}
use Rattle.plat_base.specs.Copies.{same_frame}
use Rattle.plat_base.specs.Alike.{same_bool}
use Rattle.plat_base.specs.Rules.{is_grant_of, entry_of_access, is_granted, is_legal, is_ordered_access, bad_rule}
use Rattle.plat_base.specs.declared.items.Access.{Access}
use Rattle.plat_base.specs.declared.items.Kind.{Kind}
use Rattle.plat_base.specs.declared.items.Kind.TheVariants as kind
use Rattle.plat_base.specs.declared.frames.State.TheVariants as state
use Rattle.plat_base.specs.declared.items.Removed.TheVariants as removed
use Rattle.plat_base.specs.declared.items.Translation.{Translation}
use Rattle.plat_base.proofs.CopiesLemmas.{same_frame-itself}
use Rattle.plat_laws.specs.Guests.{IsWithinLimits}
use Rattle.plat_laws.proofs.Limits.{page_of-below, not_both}
use Rattle.plat_laws.proofs.GuestLaws.{IsReach, IsReach-wanted, reach_of-word}
use Rattle.plat_events.specs.Words.{data_word, value_read, version_read}
use Rattle.plat_events.specs.Places.{is_name, is_data_word}
use Rattle.plat_events.specs.Privates.{actor_count}
use Rattle.plat_events.specs.Events.{reach_wanted, reach_now, entry_of, frame_by, seq_by, memory_now, access_made}
use Rattle.plat_events.specs.Standings.{is_quiet, removes_by}
use Rattle.plat_events.specs.Kept.{Running, session_on, session_of, gave_back, has_left, activation_at, is_copy_of, is_kept, word_at}
use Rattle.plat_events.specs.Kept.{private_of}
use Rattle.plat_events.specs.Views.{Own, EntryOk, session_view, view, names_copy, agrees, translation_of}
use Rattle.plat_events.specs.Runs.{Fine}
use Rattle.plat_events.specs.Shown.{flat_word, Shows}
use Rattle.plat_views.specs.Facts.{ViewFacts}
use Rattle.plat_views.proofs.UseLaws.{usable_kept, usable_modified, usable_unremoved}
use Rattle.plat_words.proofs.Numbers.{value_read-word, version_read-word}
use Rattle.plat_local_laws.specs.Faults.{AccessOk}
use Rattle.plat_local_laws.specs.Numbers.{is_in_turn}
use Rattle.plat_local_laws.specs.Alone.{PrivateOk}
use Rattle.plat_local_laws.proofs.GuestStepLaws.{access_now}
use Rattle.plat_local_laws.proofs.UseLaws.{access-usable}
use Rattle.plat_local_laws.proofs.RuleLaws.{ordered_access}
use Rattle.plat_fine_laws.proofs.AloneLaws.{alone_ok}
use Rattle.plat_fine_laws.proofs.FreeLaws.{adds_as, not_own, held-right, held-agrees}
use Rattle.plat_fine_laws.proofs.SmallLaws.{flat-small}
use Rattle.plat_fine_laws.proofs.ViewFactLaws.{view_facts}
use Rattle.plat_local_laws.proofs.NameLaws.{has_right-some}
use Rattle.plat_laws.proofs.SameLaws.{same_frame-true}

-- ---- small readings

-- an access that writes has the right of a store
right-writes : (k : Kind) (t : Option Translation) → is_write k ≡ true → has_right k t ≡ true → has_right kind.Store t ≡ true
right-writes k None writes right = absurd cc
right-writes kind.Load (Some x) writes right = absurd cc
right-writes kind.Store (Some x) writes right = right
right-writes kind.Add (Some x) writes right = sym (adds_as x.grant.right) ∙ right

-- what agrees with a translation is there, in its frame and with its number
agrees-is :
    (x : Translation) (h : Option Translation) → agrees (Some x) h ≡ true →
    (y : Translation) × (h ≡ Some y) × (y.grant.frame ≡ x.grant.frame) × (y.seq ≡ x.seq)
agrees-is x None same = absurd cc
agrees-is x (Some y) same =
    let first = parts (same_frame x.grant.frame y.grant.frame) (x.seq == y.seq) (same_bool x.restricted y.restricted) same in
    (y, refl, sym (same_frame-true x.grant.frame y.grant.frame first.0), sym (eqb-true x.seq y.seq first.1))
  where
    parts : (a b c : Bool) → (a && b && c) ≡ true → (a ≡ true) × (b ≡ true)
    parts true true c h = (refl, refl)
    parts true false c h = absurd cc
    parts false b c h = absurd cc

-- a frame of a view is kept where it is a kept copy of the page
given-back :
    (m : Machine) (answer : Answer) (q e : ℕ) (x : Translation) (o : Option Running) →
    (session_view m answer q e (Some x) o).given ≡ gave_back m answer o x.grant.frame
given-back m answer q e x None = refl
given-back m answer q e x (Some r) = refl

pub view-kept :
    (m : Machine) (answer : Answer) (s : Fine) (q e : ℕ) (x : Translation) → translation_of m s q e ≡ Some x →
    (view m answer s q e).kept ≡ is_kept m answer s (page_of m e) x.grant.frame
view-kept m answer s q e x some =
    ap (λ (t : Option Translation). names_copy (dir_of s.history (page_of m e)) t
    && not (session_view m answer q e t (session_on s.privates (page_of m e))).given) some
    ∙ ap (λ b. is_copy_of (dir_of s.history (page_of m e)).copies x.grant.frame && not b)
    (given-back m answer q e x (session_on s.privates (page_of m e)))

-- ---- the word that is found

data-parts : (v k n : ℕ) → n ≡ data_word v k → n < 2 ^ 64 → v < 4294967296 → (value_read n ≡ v) × (version_read n ≡ k)
data-parts v k n same below small =
    let count : k < 2 ^ 32 = omega arith in
    (ap value_read same ∙ value_read-word v k small, ap version_read same ∙ version_read-word v k small count)

-- ---- an access

module _ (m : Machine) (answer : Answer) (s : Fine) (a : ℕ) (writes : Bool) (limits : IsWithinLimits m) (shows : Shows m answer s)
    (within : a < actor_count m) (access : AccessOk m a (private_of m s a) writes) (turn : is_in_turn (private_of m s a).place ≡ true)
    (free : session_of (private_of m s a).place ≡ None) (left : has_left (private_of m s a).place ≡ false)
    (scan : activation_at (private_of m s a).place ≡ None) (named : IsTrue (is_name m (memory_now m a (private_of m s a)))) where
  abbrev r : Reach
  r = reach_now m a (private_of m s a)

  abbrev e : ℕ
  e = entry_of m r

  abbrev n : ℕ
  n = word_at m s (memory_now m a (private_of m s a))

  abbrev acc : Access
  acc = access_now m a (private_of m s a) n

  alone : PrivateOk m answer a (private_of m s a)
  alone = alone_ok m answer s a limits shows within

  reach : IsReach m (private_of m s a).guest r.kind r.space r.addr r.operand e
  reach = IsReach-wanted m a (private_of m s a).guest r.kind r.space r.addr r.operand access.wants

  pub access-page : r.page ≡ page_of m e
  access-page =
      let same : r ≡ reach_of m r.kind r.space r.addr r.operand = ap (reach_wanted m) access.wants in
      ap (λ (x : Reach). x.page) same ∙ reach.page

  some : (x : Translation) × (translation_of m s a e ≡ Some x)
  some = has_right-some r.kind (translation_of m s a e) access.right

  facts : ViewFacts (view m answer s a e)
  facts = view_facts m answer s limits shows (λ b inside. alone_ok m answer s b limits shows inside) a e access.processor reach.below

  ok : EntryOk (view m answer s a e)
  ok = shows.views a e access.processor reach.below

  has : (view m answer s a e).has ≡ true
  has = ap is_some some.1

  usable : (view m answer s a e).usable ≡ true
  usable = access-usable m a (private_of m s a) access.wants scan left

  other : (view m answer s a e).whose ≢ Own
  other = not_own m answer s a e shows access.processor reach.below free

  -- it goes to a kept copy
  pub access-kept : is_kept m answer s r.page (frame_by (translation_of m s a e)) ≡ true
  access-kept =
      let kept = usable_kept (view m answer s a e) facts ok has usable other in
      let frame : frame_by (translation_of m s a e) ≡ some.0.grant.frame = ap frame_by some.1 in
      ap (λ f. is_kept m answer s r.page f) frame
      ∙ (ap (λ p. is_kept m answer s p some.0.grant.frame) access-page ∙ (sym (view-kept m answer s a e some.0 some.1) ∙ kept))

  pub access-page_below : r.page < m.pages
  access-page_below = subst (λ p. p < m.pages) (sym access-page) (page_of-below m e limits reach.below)

  pub access-word_below : r.word < m.words
  access-word_below =
      let same : r ≡ reach_of m r.kind r.space r.addr r.operand = ap (reach_wanted m) access.wants in
      subst (λ (x : Reach). x.word < m.words) (sym same) (reach_of-word m r.kind r.space r.addr r.operand limits)

  -- and finds flat memory's word
  pub access-found : n ≡ flat_word m s.history r.page r.word
  access-found =
      shows.kept_flat r.page r.word (frame_by (translation_of m s a e)) access-page_below access-word_below access-kept

  pub access-data : (value_read n ≡ flat_value m s.history r.page r.word) × (version_read n ≡ flat_writes s.history r.page r.word)
  access-data =
      let encoded : is_data_word m n ≡ true = shows.words_encoded (memory_now m a (private_of m s a)) named in
      let below : nat_lt n (2 ^ 64) ≡ true = (and_parts (nat_lt n (2 ^ 64)) (nat_le (version_read n) (m.nodes * m.budget)) encoded).0 in
      data-parts (flat_value m s.history r.page r.word) (flat_writes s.history r.page r.word) n access-found (grind (arith, nat_tests))
      (flat-small m answer s r.page r.word limits shows)

  -- where it writes the page is modified, and a session on it that is quiet removes nothing
  right-store : is_write r.kind ≡ true → (view m answer s a e).writes ≡ true
  right-store does = right-writes r.kind (translation_of m s a e) does access.right

  pub access-modified : is_write r.kind ≡ true → (dir_of s.history r.page).state ≡ state.Modified
  access-modified does =
      ap (λ p. (dir_of s.history p).state) access-page
      ∙ usable_modified (view m answer s a e) facts ok has usable other (right-store does)

  pub access-unremoved :
      is_write r.kind ≡ true → (x : Running) → session_on s.privates r.page ≡ Some x → is_quiet x.session.phase ≡ true →
      removes_by m answer x.actor x.now x.session ≡ removed.Nothing
  access-unremoved does x on quiet =
      let there : session_on s.privates (page_of m e) ≡ Some x = ap (session_on s.privates) (sym access-page) ∙ on in
      let seen : (view m answer s a e).quiet ≡ true =
      ap (λ o. (session_view m answer a e (translation_of m s a e) o).quiet) there ∙ quiet in
      sym (ap (λ o. (session_view m answer a e (translation_of m s a e) o).removes) there)
      ∙ usable_unremoved (view m answer s a e) facts ok has usable other (right-store does) seen

  -- ---- it breaks no rule

  legal : is_legal m s.history acc ≡ true
  legal =
      let page : nat_lt r.page m.pages ≡ true = let below = access-page_below in grind (arith, nat_tests) in
      let word : nat_lt r.word m.words ≡ true = let below = access-word_below in grind (arith, nat_tests) in
      let old : (acc.old == flat_value m s.history r.page r.word) ≡ true = eq-eqb acc.old
      (flat_value m s.history r.page r.word) access-data.0 in
      let version : (acc.version == flat_writes s.history r.page r.word + writes_made r.kind) ≡ true =
      eq-eqb acc.version (flat_writes s.history r.page r.word + writes_made r.kind) (ap (λ k. k + writes_made r.kind) access-data.1) in
      rw (page, word, old, version) refl

  -- the translation in the history
  holds : (y : Translation) × (held m s.history a e ≡ Some y) × (y.grant.frame ≡ some.0.grant.frame) × (y.seq ≡ some.0.seq)
  holds =
      let same = held-agrees m answer s a e shows access.processor reach.below free has in
      agrees-is some.0 (held m s.history a e) (ap (λ t. agrees t (held m s.history a e)) (sym some.1) ∙ same)

  fresh-all : later removes_all s.history r.page acc.grant ≡ false
  fresh-all =
      let fresh = ok.use_fresh_all has usable in
      let seq : acc.grant ≡ some.0.seq = ap seq_by some.1 in
      let there : option_map_or (λ (x : Translation). later removes_all s.history (page_of m e) x.seq) (translation_of m s a e) false
      ≡ later removes_all s.history (page_of m e) some.0.seq =
      ap (λ t. option_map_or (λ (x : Translation). later removes_all s.history (page_of m e) x.seq) t false) some.1 in
      ap (λ p. later removes_all s.history p acc.grant) access-page
      ∙ (ap (λ k. later removes_all s.history (page_of m e) k) seq ∙ (sym there ∙ fresh))

  fresh-writes : is_write r.kind ≡ true → later removes_writes s.history r.page acc.grant ≡ false
  fresh-writes does =
      let right : (view m answer s a e).writes ≡ true = right-writes r.kind (translation_of m s a e) does access.right in
      let fresh = ok.use_fresh_writes has usable right in
      let seq : acc.grant ≡ some.0.seq = ap seq_by some.1 in
      let there : option_map_or (λ (x : Translation). later removes_writes s.history (page_of m e) x.seq) (translation_of m s a e) false
      ≡ later removes_writes s.history (page_of m e) some.0.seq =
      ap (λ t. option_map_or (λ (x : Translation). later removes_writes s.history (page_of m e) x.seq) t false) some.1 in
      ap (λ p. later removes_writes s.history p acc.grant) access-page
      ∙ (ap (λ k. later removes_writes s.history (page_of m e) k) seq ∙ (sym there ∙ fresh))

  granted : is_granted m s.history acc ≡ true
  granted =
      let through : held_through m s.history a (entry_of_access m acc) ≡ held m s.history a e = ap
      (held_through m s.history a) reach.found in
      let frame : acc.frame ≡ some.0.grant.frame = ap frame_by some.1 in
      let seq : acc.grant ≡ some.0.seq = ap seq_by some.1 in
      let is_grant : is_grant_of acc (held m s.history a e) ≡ true =
      ap (is_grant_of acc) holds.1
      ∙ and_from (same_frame holds.0.grant.frame acc.frame) (holds.0.seq == acc.grant)
      (ap (λ f. same_frame f acc.frame) (holds.2 ∙ sym frame) ∙ same_frame-itself acc.frame)
      (eq-eqb holds.0.seq acc.grant (holds.3 ∙ sym seq)) in
      let right : has_right r.kind (held m s.history a e) ≡ true =
      held-right m answer s a e shows access.processor reach.below free r.kind ∙ access.right in
      let all : not (later removes_all s.history acc.page acc.grant) ≡ true = ap not fresh-all in
      let none : not (is_write acc.kind && later removes_writes s.history acc.page acc.grant) ≡ true =
      not_both (is_write r.kind) (later removes_writes s.history r.page acc.grant) fresh-writes in
      rw (through, is_grant, right, all, none) refl

  ordered : is_ordered_access m s.history acc ≡ true
  ordered =
      ordered_access m answer a (private_of m s a) s.history n writes alone (shows.journals_are_history a within) turn access

  pub access-rule : bad_rule m answer s.history (access_made m a (private_of m s a) n) ≡ None
  access-rule = rw (ordered, granted, legal) refl
