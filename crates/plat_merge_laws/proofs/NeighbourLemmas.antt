-- what two neighbours of a good history are to each other where the first need not stand before the second, and that they may
-- then change places
use Rattle.std.specs.Prelude.{◌≡◌, ◌≢◌, ◌⊎◌, ℕ, ◌+◌, ◌==◌, nat_lt, nat_le, ◌&&◌, ◌||◌, if◌then◌else◌, Bool, true, false, List, [], ◌∷◌}
use Rattle.std.specs.Prelude.{◌++◌, None}
use Rattle.std.proofs.Common.{refl, ap, sym, ◌∙◌, inl, inr, arith}
use Rattle.std.proofs.lemmas.Bool.{cases_Bool, and_parts, eqb-true, eq-eqb, ne_eqb, or_parts}
use Rattle.std.proofs.lemmas.Bool.Decides.{nat_tests}
use Rattle.plat_base.specs.Verdicts.{Answer}
use Rattle.plat_base.specs.Machine.{Machine}
use Rattle.plat_base.specs.Accesses.{writes_made}
use Rattle.plat_base.specs.Flat.{is_write, writes_word, flat_value, flat_writes}
use Rattle.plat_base.specs.Directories.{change_on, seq_of}
use Rattle.plat_base.specs.Held.{is_later_change, later, removes_all, removes_writes}
use Rattle.plat_base.specs.Rules.{is_chained, bad_rule}
use Rattle.plat_base.specs.declared.items.Removed.{Removed}
use Rattle.plat_base.specs.declared.items.Access.{Access}
use Rattle.plat_base.specs.declared.items.Change.{Change}
use Rattle.plat_base.specs.declared.items.Item.{Item}
use Rattle.plat_base.specs.declared.items.Item.TheVariants as item
use Rattle.plat_base.specs.declared.statuses.Rule.TheVariants as rule
use Rattle.plat_events.specs.Shown.{actor_of}
use Rattle.plat_events.specs.Merges.{comes_before, comes_before_access, comes_before_change}
use Rattle.plat_laws.proofs.ItemLaws.{flat_writes-append, seq_of-change}
use Rattle.plat_laws.proofs.AccessLaws.{access_parts, not_removed}
use Rattle.plat_laws.proofs.ChangeLaws.{good_change}
use Rattle.plat_merge_laws.proofs.ReadLemmas.{SameRemovals, bad_rule-access, bad_rule-change, bad_rule-applied, bad_rule-switch}
use Rattle.plat_merge_laws.proofs.SwapLemmas.{Same, own-idle, own-back, word-idle, word-back, page-idle, page-back, own-swapped}
use Rattle.plat_merge_laws.proofs.SwapLemmas.{word-swapped, page-swapped, removals-swapped}
use Rattle.plat_base.proofs.RuleLemmas.{unless-none}
use Rattle.plat_base.proofs.ListLemmas.{list_any-push}

-- ---- what the rules say of versions and numbers

-- the version of an access counts the writes to its word
pub version-counts :
    (m : Machine) (answer : Answer) (before : List Item) (a : Access) → bad_rule m answer before (item.Access a) ≡ None
    → a.version ≡ flat_writes before a.page a.word + writes_made a.kind
version-counts m answer before a kept =
    eqb-true a.version (flat_writes before a.page a.word + writes_made a.kind)
    (and_parts (nat_lt a.page m.pages && nat_lt a.word m.words && a.old == flat_value m before a.page a.word)
    (a.version == flat_writes before a.page a.word + writes_made a.kind) (access_parts m answer before a kept).2).1

-- the number of a change counts the changes of its page
pub seq-counts :
    (m : Machine) (answer : Answer) (before : List Item) (c : Change) → bad_rule m answer before (item.Change c) ≡ None
    → c.seq ≡ seq_of before c.page
seq-counts m answer before c kept = (good_change m answer before c (unless-none (is_chained m answer before c) rule.Chain kept)).seq

-- ---- two accesses

same_cell : Access → Access → Bool
same_cell b a = b.page == a.page && b.word == a.word

versions-apart :
    (same writes_first writes_then : Bool) (n first second : ℕ) → first ≡ n + (if writes_first then 1 else 0)
    → (same ≡ true → second ≡ (if writes_first then n + 1 else n) + (if writes_then then 1 else 0))
    → (same && (if writes_then then nat_lt first second else writes_first && nat_le first second)) ≡ false
    → (same ≡ false) ⊎ ((writes_first ≡ false) × (writes_then ≡ false))
versions-apart false b a n first second e h k = inl refl
versions-apart true false false n first second e h k = inr (refl, refl)
versions-apart true false true n first second e h k = absurd (let g = h refl in grind (arith, nat_tests))
versions-apart true true false n first second e h k = absurd (let g = h refl in grind (arith, nat_tests))
versions-apart true true true n first second e h k = absurd (let g = h refl in grind (arith, nat_tests))

module _ (m : Machine) (answer : Answer) (before : List Item) where
  -- they are of two words, or two loads
  accesses-apart :
      (b a : Access) → bad_rule m answer before (item.Access b) ≡ None
      → bad_rule m answer (before ++ item.Access b ∷ []) (item.Access a) ≡ None → comes_before_access b a ≡ false
      → (same_cell b a ≡ false) ⊎ ((is_write b.kind ≡ false) × (is_write a.kind ≡ false))
  unfolding same_cell
  accesses-apart b a kept_b kept_a free =
      versions-apart (same_cell b a) (is_write b.kind) (is_write a.kind) (flat_writes before b.page b.word) b.version a.version
      (version-counts m answer before b kept_b) counted free
    where
      counted :
          same_cell b a ≡ true
          → a.version ≡ (if is_write b.kind then flat_writes before b.page b.word + 1 else flat_writes before b.page b.word)
          + writes_made a.kind
      counted same =
          let p : b.page ≡ a.page = eqb-true b.page a.page (and_parts (b.page == a.page) (b.word == a.word) same).0 in
          let w : b.word ≡ a.word = eqb-true b.word a.word (and_parts (b.page == a.page) (b.word == a.word) same).1 in
          version-counts m answer (before ++ item.Access b ∷ []) a kept_a
          ∙ ap (λ n. n + writes_made a.kind) (flat_writes-append before (item.Access b ∷ []) a.page a.word ∙ by (is_write b.kind) p w)
        where
          by :
              (writes : Bool) → b.page ≡ a.page → b.word ≡ a.word
              → (if writes && b.page == a.page && b.word == a.word then flat_writes before a.page a.word + 1
              else flat_writes before a.page a.word)
              ≡ if writes then flat_writes before b.page b.word + 1 else flat_writes before b.page b.word
          by writes p w = rw (p, w, eq-eqb a.page a.page refl, eq-eqb a.word a.word refl) (at_once writes)
            where
              at_once :
                  (writes : Bool)
                  → (if writes && true && true then flat_writes before a.page a.word + 1 else flat_writes before a.page a.word)
                  ≡ if writes then flat_writes before a.page a.word + 1 else flat_writes before a.page a.word
              at_once true = refl
              at_once false = refl

  -- two changes are of two pages
  changes-apart :
      (c d : Change) → bad_rule m answer before (item.Change c) ≡ None
      → bad_rule m answer (before ++ item.Change c ∷ []) (item.Change d) ≡ None → comes_before_change c d ≡ false
      → (c.page == d.page) ≡ false
  changes-apart c d kept_c kept_d free = by (cases_Bool (c.page == d.page))
    where
      by : ((c.page == d.page) ≡ true) ⊎ ((c.page == d.page) ≡ false) → (c.page == d.page) ≡ false
      by (inr other) = other
      by (inl same) =
          let p : c.page ≡ d.page = eqb-true c.page d.page same in
          let first : c.seq ≡ seq_of before d.page = seq-counts m answer before c kept_c ∙ ap (seq_of before) p in
          let second : d.seq ≡ seq_of before d.page + 1 =
          seq-counts m answer (before ++ item.Change c ∷ []) d kept_d
          ∙ (seq_of-change before c d.page
          ∙ ap (λ (b : Bool). if b then seq_of before d.page + 1 else seq_of before d.page) same) in
          absurd (grind (arith, nat_tests))

  -- ---- what one of them reads, the other does not write

  unwritten : (b a : Access) → (same_cell b a ≡ false) ⊎ ((is_write b.kind ≡ false) × (is_write a.kind ≡ false)) →
      writes_word a.page a.word (item.Access b) ≡ false
  unfolding same_cell
  unwritten b a (inl other) = by (is_write b.kind) (b.page == a.page) (b.word == a.word) other
    where
      by : (writes p w : Bool) → (p && w) ≡ false → (writes && p && w) ≡ false
      by false p w h = refl
      by true true w h = h
      by true false w h = refl
  unwritten b a (inr loads) = rw loads.0 refl

  unwritten_back : (b a : Access) → (same_cell b a ≡ false) ⊎ ((is_write b.kind ≡ false) × (is_write a.kind ≡ false)) →
      writes_word b.page b.word (item.Access a) ≡ false
  unfolding same_cell
  unwritten_back b a (inl other) = grind (arith, nat_tests)
  unwritten_back b a (inr loads) = rw loads.1 refl

  written-none :
      (j : Item) (a : Access) → bad_rule m answer before j ≡ None → bad_rule m answer (before ++ j ∷ []) (item.Access a) ≡ None
      → comes_before j (item.Access a) ≡ false → writes_word a.page a.word j ≡ false
  written-none (item.Access b) a kept_j kept_a free = unwritten b a (accesses-apart b a kept_j kept_a free)
  written-none (item.Change c) a kept_j kept_a free = refl
  written-none (item.Applied x) a kept_j kept_a free = refl
  written-none (item.Switch s) a kept_j kept_a free = refl

  written_back-none :
      (b : Access) (i : Item) → bad_rule m answer before (item.Access b) ≡ None
      → bad_rule m answer (before ++ item.Access b ∷ []) i ≡ None → comes_before (item.Access b) i ≡ false
      → writes_word b.page b.word i ≡ false
  written_back-none b (item.Access a) kept_b kept_i free = unwritten_back b a (accesses-apart b a kept_b kept_i free)
  written_back-none b (item.Change c) kept_b kept_i free = refl
  written_back-none b (item.Applied x) kept_b kept_i free = refl
  written_back-none b (item.Switch s) kept_b kept_i free = refl

  other_page : (c : Change) (page : ℕ) → (c.page == page) ≡ false → change_on page (item.Change c) ≡ None
  other_page c page h = rw h refl

  changed-none :
      (j : Item) (d : Change) → bad_rule m answer before j ≡ None → bad_rule m answer (before ++ j ∷ []) (item.Change d) ≡ None
      → comes_before j (item.Change d) ≡ false → change_on d.page j ≡ None
  changed-none (item.Access b) d kept_j kept_d free = refl
  changed-none (item.Change c) d kept_j kept_d free = other_page c d.page (changes-apart c d kept_j kept_d free)
  changed-none (item.Applied x) d kept_j kept_d free = refl
  changed-none (item.Switch s) d kept_j kept_d free = refl

  changed_back-none :
      (c : Change) (i : Item) → bad_rule m answer before (item.Change c) ≡ None
      → bad_rule m answer (before ++ item.Change c ∷ []) i ≡ None → comes_before (item.Change c) i ≡ false
      → change_on c.page i ≡ None
  changed_back-none c (item.Access a) kept_c kept_i free = refl
  changed_back-none c (item.Change d) kept_c kept_i free =
      other_page d c.page (let apart = changes-apart c d kept_c kept_i free in grind (arith, nat_tests))
  changed_back-none c (item.Applied x) kept_c kept_i free = refl
  changed_back-none c (item.Switch s) kept_c kept_i free = refl

-- ---- they may change places

-- what was not removed by the end was not removed before
later-before : (test : Removed → Bool) (before : List Item) (x : Item) (page seq : ℕ) → later test (before ++ x ∷ []) page seq ≡ false →
    later test before page seq ≡ false
later-before test before x page seq h =
    (or_parts (later test before page seq) (is_later_change test page seq x) (sym (list_any-push (is_later_change test page seq) before x)
    ∙ h)).0

-- an item that removes nothing leaves what was not removed
later-after :
    (test : Removed → Bool) (before : List Item) (x : Item) (page seq : ℕ) → later test before page seq ≡ false →
    is_later_change test page seq x ≡ false
    → later test (before ++ x ∷ []) page seq ≡ false
later-after test before x page seq h k = list_any-push (is_later_change test page seq) before x ∙ rw (h, k) refl

both-false : (b c d : Bool) → (b ≡ true → c ≡ false) → (b ≡ true → d ≡ false) → (b && c) ≡ (b && d)
both-false false c d h k = refl
both-false true c d h k = h refl ∙ sym (k refl)

removal-parts : (same older all writes both : Bool) → (same && older && (all || (writes && both))) ≡ false
    → ((same && older && all) ≡ false) × (writes ≡ true → (same && older && both) ≡ false)
removal-parts false older all writes both h = (refl, λ w. refl)
removal-parts true false all writes both h = (refl, λ w. refl)
removal-parts true true false false both h = (refl, λ w. absurd cc)
removal-parts true true false true both h = (refl, λ w. h)
removal-parts true true true writes both h = absurd cc

-- a change that the access need not stand before took nothing of it away
removed-nothing : (b : Access) (i : Item) → comes_before (item.Access b) i ≡ false
    → (is_later_change removes_all b.page b.grant i ≡ false)
    × (is_write b.kind ≡ true → is_later_change removes_writes b.page b.grant i ≡ false)
removed-nothing b (item.Access a) free = (refl, λ w. refl)
removed-nothing b (item.Change c) free =
    let parts = removal-parts (b.page == c.page) (nat_lt b.grant c.seq) (removes_all c.removed) (is_write b.kind) (removes_writes c.removed)
    free in
    let turned : (c.page == b.page) ≡ (b.page == c.page) = turn (c.page) (b.page)
    in (
      ap (λ t. t && nat_lt b.grant c.seq && removes_all c.removed) turned ∙ parts.0,
      λ w. ap (λ t. t && nat_lt b.grant c.seq && removes_writes c.removed) turned ∙ parts.1 w,
    )
  where
    turn : (x y : ℕ) → (x == y) ≡ (y == x)
    turn x y = by (cases_Bool (x == y)) (cases_Bool (y == x))
      where
        by : ((x == y) ≡ true) ⊎ ((x == y) ≡ false) → ((y == x) ≡ true) ⊎ ((y == x) ≡ false) → (x == y) ≡ (y == x)
        by (inl p) (inl q) = p ∙ sym q
        by (inr p) (inr q) = p ∙ sym q
        by (inl p) (inr q) = absurd (grind (arith, nat_tests))
        by (inr p) (inl q) = absurd (grind (arith, nat_tests))
removed-nothing b (item.Applied x) free = (refl, λ w. refl)
removed-nothing b (item.Switch s) free = (refl, λ w. refl)

-- the first may stand second, and the second first, and what follows reads the same
pub record MaySwap (m : Machine) (answer : Answer) (before : List Item) (j i : Item) : Type 0 where
  pub first : bad_rule m answer before i ≡ None
  pub second : bad_rule m answer (before ++ i ∷ []) j ≡ None
  pub same : Same m ((before ++ j ∷ []) ++ i ∷ []) ((before ++ i ∷ []) ++ j ∷ [])

module _ (m : Machine) (answer : Answer) (before : List Item) where
  first-kept :
      (j i : Item) → actor_of j ≢ actor_of i → comes_before j i ≡ false → bad_rule m answer before j ≡ None
      → bad_rule m answer (before ++ j ∷ []) i ≡ None → bad_rule m answer before i ≡ None
  first-kept j (item.Access a) apart free kept_j kept_i =
      bad_rule-access m answer before (before ++ j ∷ []) a (own-back (own-idle m before j a.actor (ne_eqb (actor_of j) a.actor apart)))
      removals (word-back (word-idle m before j a.page a.word (written-none m answer before j a kept_j kept_i free)))
      ∙ kept_i
    where
      there : (later removes_all (before ++ j ∷ []) a.page a.grant ≡ false)
          × (is_write a.kind ≡ true → later removes_writes (before ++ j ∷ []) a.page a.grant ≡ false)
      there = not_removed m answer (before ++ j ∷ []) a kept_i

      removals : SameRemovals before (before ++ j ∷ []) a
      removals = record {
        all = later-before removes_all before j a.page a.grant there.0 ∙ sym there.0;
        writes =
            both-false (is_write a.kind) (later removes_writes before a.page a.grant)
            (later removes_writes (before ++ j ∷ []) a.page a.grant)
            (λ w. later-before removes_writes before j a.page a.grant (there.1 w)) there.1;
      }
  first-kept j (item.Change d) apart free kept_j kept_i =
      bad_rule-change m answer before (before ++ j ∷ []) d (own-back (own-idle m before j d.actor (ne_eqb (actor_of j) d.actor apart)))
      (page-back (page-idle m before j d.page (changed-none m answer before j d kept_j kept_i free)))
      ∙ kept_i
  first-kept j (item.Applied x) apart free kept_j kept_i =
      bad_rule-applied m answer before (before ++ j ∷ []) x (own-back (own-idle m before j x.actor (ne_eqb (actor_of j) x.actor apart)))
      ∙ kept_i
  first-kept j (item.Switch s) apart free kept_j kept_i =
      bad_rule-switch m answer before (before ++ j ∷ []) s (own-back (own-idle m before j s.actor (ne_eqb (actor_of j) s.actor apart)))
      ∙ kept_i

  second-kept :
      (j i : Item) → actor_of i ≢ actor_of j → comes_before j i ≡ false → bad_rule m answer before j ≡ None
      → bad_rule m answer (before ++ j ∷ []) i ≡ None → bad_rule m answer (before ++ i ∷ []) j ≡ None
  second-kept (item.Access b) i apart free kept_j kept_i =
      bad_rule-access m answer (before ++ i ∷ []) before b (own-idle m before i b.actor (ne_eqb (actor_of i) b.actor apart))
      removals (word-idle m before i b.page b.word (written_back-none m answer before b i kept_j kept_i free))
      ∙ kept_j
    where
      there : (later removes_all before b.page b.grant ≡ false)
          × (is_write b.kind ≡ true → later removes_writes before b.page b.grant ≡ false)
      there = not_removed m answer before b kept_j

      nothing :
          (is_later_change removes_all b.page b.grant i ≡ false)
          × (is_write b.kind ≡ true → is_later_change removes_writes b.page b.grant i ≡ false)
      nothing = removed-nothing b i free

      removals : SameRemovals (before ++ i ∷ []) before b
      removals = record {
        all = later-after removes_all before i b.page b.grant there.0 nothing.0 ∙ sym there.0;
        writes =
            both-false (is_write b.kind) (later removes_writes (before ++ i ∷ []) b.page b.grant)
            (later removes_writes before b.page b.grant)
            (λ w. later-after removes_writes before i b.page b.grant (there.1 w) (nothing.1 w)) there.1;
      }
  second-kept (item.Change c) i apart free kept_j kept_i =
      bad_rule-change m answer (before ++ i ∷ []) before c (own-idle m before i c.actor (ne_eqb (actor_of i) c.actor apart))
      (page-idle m before i c.page (changed_back-none m answer before c i kept_j kept_i free))
      ∙ kept_j
  second-kept (item.Applied x) i apart free kept_j kept_i =
      bad_rule-applied m answer (before ++ i ∷ []) before x (own-idle m before i x.actor (ne_eqb (actor_of i) x.actor apart)) ∙ kept_j
  second-kept (item.Switch s) i apart free kept_j kept_i =
      bad_rule-switch m answer (before ++ i ∷ []) before s (own-idle m before i s.actor (ne_eqb (actor_of i) s.actor apart)) ∙ kept_j

  -- no word is written by both
  one-writes :
      (j i : Item) → comes_before j i ≡ false → bad_rule m answer before j ≡ None → bad_rule m answer (before ++ j ∷ []) i ≡ None
      → (page word : ℕ) → (writes_word page word j ≡ false) ⊎ (writes_word page word i ≡ false)
  one-writes (item.Access b) i free kept_j kept_i page word = by (cases_Bool (b.page == page && b.word == word))
    where
      out : (x y z : Bool) → (y && z) ≡ false → (x && y && z) ≡ false
      out false y z h = refl
      out true true z h = h
      out true false z h = refl

      by :
          ((b.page == page && b.word == word) ≡ true) ⊎ ((b.page == page && b.word == word) ≡ false)
          → (writes_word page word (item.Access b) ≡ false) ⊎ (writes_word page word i ≡ false)
      by (inr other) = inl (out (is_write b.kind) (b.page == page) (b.word == word) other)
      by (inl same) =
          let p : b.page ≡ page = eqb-true b.page page (and_parts (b.page == page) (b.word == word) same).0 in
          let w : b.word ≡ word = eqb-true b.word word (and_parts (b.page == page) (b.word == word) same).1 in
          inr (rw (p, w) at (written_back-none m answer before b i kept_j kept_i free))
  one-writes (item.Change c) i free kept_j kept_i page word = inl refl
  one-writes (item.Applied x) i free kept_j kept_i page word = inl refl
  one-writes (item.Switch s) i free kept_j kept_i page word = inl refl

  -- no page is changed by both
  one-changes :
      (j i : Item) → comes_before j i ≡ false → bad_rule m answer before j ≡ None → bad_rule m answer (before ++ j ∷ []) i ≡ None
      → (page : ℕ) → (change_on page j ≡ None) ⊎ (change_on page i ≡ None)
  one-changes (item.Change c) i free kept_j kept_i page = by (cases_Bool (c.page == page))
    where
      by : ((c.page == page) ≡ true) ⊎ ((c.page == page) ≡ false) → (change_on page (item.Change c) ≡ None) ⊎ (change_on page i ≡ None)
      by (inr other) = inl (other_page m answer before c page other)
      by (inl same) =
          let p : c.page ≡ page = eqb-true c.page page same in
          inr (rw p at (changed_back-none m answer before c i kept_j kept_i free))
  one-changes (item.Access b) i free kept_j kept_i page = inl refl
  one-changes (item.Applied x) i free kept_j kept_i page = inl refl
  one-changes (item.Switch s) i free kept_j kept_i page = inl refl

  pub may_swap :
      (j i : Item) → actor_of j ≢ actor_of i → comes_before j i ≡ false → bad_rule m answer before j ≡ None
      → bad_rule m answer (before ++ j ∷ []) i ≡ None → MaySwap m answer before j i
  may_swap j i apart free kept_j kept_i = record {
    first = first-kept j i apart free kept_j kept_i;
    second = second-kept j i (λ e. apart (sym e)) free kept_j kept_i;
    same = record {
      own = λ q. own-swapped m before j i q apart;
      word = λ page word. word-swapped m before j i page word (one-writes j i free kept_j kept_i page word);
      page = λ page. page-swapped m before j i page (one-changes j i free kept_j kept_i page);
      removals = removals-swapped m before j i;
    };
  }
