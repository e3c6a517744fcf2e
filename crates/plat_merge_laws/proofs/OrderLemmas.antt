-- what stands behind an item of a good history need not stand before it
use Rattle.std.specs.Prelude.{◌≡◌, ◌⊎◌, ℕ, ◌+◌, ◌<◌, ◌≤◌, ◌==◌, nat_lt, nat_le, ◌&&◌, ◌||◌, if◌then◌else◌, Bool, true, false, List, [], ◌∷◌}
use Rattle.std.specs.Prelude.{◌++◌, Option, Some, None}
use Rattle.std.proofs.Common.{refl, ap, sym, ◌∙◌, inl, inr, arith}
use Rattle.std.specs.List.{fold, list_any}
use Rattle.std.proofs.lemmas.Bool.{and_parts, eqb-true, true≢false, or_right, or_left, or_cases}
use Rattle.std.proofs.lemmas.Bool.Decides.{nat_tests}
use Rattle.std.proofs.lemmas.List.Folds.{list_any-append}
use Rattle.std.proofs.Math.Bool.{and-false}
use Rattle.plat_base.specs.Verdicts.{Answer}
use Rattle.plat_base.specs.Machine.{Machine}
use Rattle.plat_base.specs.Accesses.{writes_made}
use Rattle.plat_base.specs.Flat.{is_write, writes_word, flat_writes}
use Rattle.plat_base.specs.Directories.{change_on, seq_after, seq_of}
use Rattle.plat_base.specs.Held.{is_later_change, later, removes_all, removes_writes}
use Rattle.plat_base.specs.Rules.{bad_rule}
use Rattle.plat_base.specs.Histories.{IsByGrant}
use Rattle.plat_base.specs.declared.items.Removed.{Removed}
use Rattle.plat_base.specs.declared.items.Access.{Access}
use Rattle.plat_base.specs.declared.items.Change.{Change}
use Rattle.plat_base.specs.declared.items.Item.{Item}
use Rattle.plat_base.specs.declared.items.Item.TheVariants as item
use Rattle.plat_events.specs.Merges.{comes_before, comes_before_access, comes_before_use, comes_before_removal, comes_before_change}
use Rattle.plat_laws.proofs.ItemLaws.{flat_writes-append, seq_of-append}
use Rattle.plat_laws.proofs.AccessLaws.{not_removed, by_grant}
use Rattle.plat_laws.proofs.CopyLaws.{IsCurrent}
use Rattle.plat_merge_laws.proofs.NeighbourLemmas.{version-counts, seq-counts}

-- ---- counts only rise

pub writes-rise : (page word n : ℕ) (xs : List Item) → n ≤ fold (λ k i. if writes_word page word i then k + 1 else k) n xs
writes-rise page word n [] = omega arith
writes-rise page word n (x ∷ xs) = by (writes_word page word x) (writes-rise page word (n + 1) xs) (writes-rise page word n xs)
  where
    by :
        (b : Bool) → n + 1 ≤ fold (λ k i. if writes_word page word i then k + 1 else k) (n + 1) xs
        → n ≤ fold (λ k i. if writes_word page word i then k + 1 else k) n xs
        → n ≤ fold (λ k i. if writes_word page word i then k + 1 else k) (if b then n + 1 else n) xs
    by true h k = omega arith
    by false h k = k

-- an access that writes counts, whatever follows it
written-counts :
    (before between : List Item) (a : Access)
    → flat_writes before a.page a.word + writes_made a.kind ≤ flat_writes (before ++ item.Access a ∷ between) a.page a.word
written-counts before between a =
    let rise = writes-rise a.page a.word (if writes_word a.page a.word (item.Access a) then flat_writes before a.page a.word + 1
    else flat_writes before a.page a.word) between in
    let here = counted (is_write a.kind) (flat_writes before a.page a.word) in
    omega (arith, flat_writes-append before (item.Access a ∷ between) a.page a.word, rise, here)
  where
    counted : (writes : Bool) (n : ℕ) →
        n + (if writes then 1 else 0) ≡ (if writes && a.page == a.page && a.word == a.word then n + 1 else n)
    counted true n = grind (arith, nat_tests)
    counted false n = omega arith

pub seq-rises : (page n : ℕ) (xs : List Item) → n ≤ fold (λ k i. seq_after k (change_on page i)) n xs
seq-rises page n [] = omega arith
seq-rises page n (x ∷ xs) = by (change_on page x) (seq-rises page (n + 1) xs) (seq-rises page n xs)
  where
    by :
        (o : Option Change) → n + 1 ≤ fold (λ k i. seq_after k (change_on page i)) (n + 1) xs
        → n ≤ fold (λ k i. seq_after k (change_on page i)) n xs
        → n ≤ fold (λ k i. seq_after k (change_on page i)) (seq_after n o) xs
    by (Some c) h k = omega arith
    by None h k = k

changed-counts : (before between : List Item) (d : Change) → seq_of before d.page + 1 ≤ seq_of (before ++ item.Change d ∷ between) d.page
changed-counts before between d =
    let rise = seq-rises d.page (seq_after (seq_of before d.page) (if d.page == d.page then Some d else None)) between in
    let here = counted (d.page) in
    omega (arith, seq_of-append before (item.Change d ∷ between) d.page, rise, here)
  where
    counted : (p : ℕ) → seq_of before d.page + 1 ≡ seq_after (seq_of before d.page) (if p == p then Some d else None)
    counted p = by (p == p) (grind (arith, nat_tests))
      where
        by : (b : Bool) → b ≡ true → seq_of before d.page + 1 ≡ seq_after (seq_of before d.page) (if b then Some d else None)
        by true h = refl
        by false h = absurd cc

seq-stays : (before between : List Item) (x : Item) (page : ℕ) → seq_of before page ≤ seq_of (before ++ x ∷ between) page
seq-stays before between x page = omega (arith, seq_of-append before (x ∷ between) page, seq-rises page (seq_of before page) (x ∷ between))

-- ---- case by case

pub not-both : (b c : Bool) → (b ≡ true → c ≡ true → ⊥) → (b && c) ≡ false
not-both true true h = absurd (h refl refl)
not-both true false h = refl
not-both false c h = refl

later-here : (test : Removed → Bool) (before between : List Item) (c : Change) (page seq : ℕ) →
    is_later_change test page seq (item.Change c) ≡ true
    → later test (before ++ item.Change c ∷ between) page seq ≡ true
later-here test before between c page seq h =
    list_any-append (is_later_change test page seq) before (item.Change c ∷ between)
    ∙ or_right (later test before page seq) (list_any (is_later_change test page seq) (item.Change c ∷ between))
    (or_left (is_later_change test page seq (item.Change c)) (list_any (is_later_change test page seq) between) h)

module _ (m : Machine) (answer : Answer) (before between : List Item) where
  -- an access behind an access
  access-access :
      (a b : Access) → bad_rule m answer before (item.Access a) ≡ None
      → bad_rule m answer (before ++ item.Access a ∷ between) (item.Access b) ≡ None → comes_before_access b a ≡ false
  access-access a b kept_a kept_b =
      not-both (b.page == a.page && b.word == a.word) (if is_write a.kind then nat_lt b.version a.version
      else is_write b.kind && nat_le b.version a.version)
      (λ same. by (is_write a.kind) (is_write b.kind) (first refl) (then_ refl (and_parts (b.page == a.page) (b.word == a.word) same)))
    where
      first : (is_write a.kind ≡ is_write a.kind) → a.version ≡ flat_writes before a.page a.word + writes_made a.kind
      first e = version-counts m answer before a kept_a

      then_ :
          (is_write b.kind ≡ is_write b.kind) → ((b.page == a.page) ≡ true) × ((b.word == a.word) ≡ true)
          → flat_writes before a.page a.word + writes_made a.kind + writes_made b.kind ≤ b.version
      then_ e same =
          let p : b.page ≡ a.page = eqb-true b.page a.page same.0 in
          let w : b.word ≡ a.word = eqb-true b.word a.word same.1 in
          let count : flat_writes (before ++ item.Access a ∷ between) b.page b.word
          ≡ flat_writes (before ++ item.Access a ∷ between) a.page a.word =
          ap (λ x. flat_writes (before ++ item.Access a ∷ between) x b.word) p
          ∙ ap (flat_writes (before ++ item.Access a ∷ between) a.page) w in
          omega (arith, version-counts m answer (before ++ item.Access a ∷ between) b kept_b, count, written-counts before between a)

      by :
          (wa wb : Bool) → a.version ≡ flat_writes before a.page a.word + (if wa then 1 else 0)
          → flat_writes before a.page a.word + (if wa then 1 else 0) + (if wb then 1 else 0) ≤ b.version
          → (if wa then nat_lt b.version a.version else wb && nat_le b.version a.version) ≡ true → ⊥
      by true wb e l h = by_less wb l
        where
          by_less : (wb : Bool) → flat_writes before a.page a.word + 1 + (if wb then 1 else 0) ≤ b.version → ⊥
          by_less true l = grind (arith, nat_tests)
          by_less false l = grind (arith, nat_tests)
      by false true e l h = grind (arith, nat_tests)
      by false false e l h = true≢false (sym h)

  -- a change behind an access
  change-access :
      (a : Access) (c : Change) → IsCurrent m before → bad_rule m answer before (item.Access a) ≡ None
      → bad_rule m answer (before ++ item.Access a ∷ between) (item.Change c) ≡ None → comes_before_use c a ≡ false
  change-access a c current kept_a kept_c =
      not-both (c.page == a.page) (nat_le c.seq a.grant) (λ same older.
      let p : c.page ≡ a.page = eqb-true c.page a.page same in
      let g : IsByGrant m before a = by_grant m answer before a kept_a in
      let below = (current.leads a.actor g.entry g.translation g.holds).below in
      let here : g.translation.seq < seq_of before a.page = omega (arith, below, ap (seq_of before) g.of_page) in
      let seq : c.seq ≡ seq_of (before ++ item.Access a ∷ between) a.page =
      seq-counts m answer (before ++ item.Access a ∷ between) c kept_c ∙ ap (seq_of (before ++ item.Access a ∷ between)) p in
      let rise = seq-stays before between (item.Access a) a.page in
      let numbered : g.translation.seq ≡ a.grant = g.numbered in
      let higher : a.grant < c.seq = omega (arith, here, seq, rise, numbered) in
      grind (arith, nat_tests))

  -- an access behind a change
  access-change :
      (d : Change) (b : Access) → bad_rule m answer (before ++ item.Change d ∷ between) (item.Access b) ≡ None →
      comes_before_removal b d ≡ false
  access-change d b kept_b =
      not-both (b.page == d.page && nat_lt b.grant d.seq) (removes_all d.removed || (is_write b.kind && removes_writes d.removed))
      (λ older removes.
      by (and_parts (b.page == d.page) (nat_lt b.grant d.seq) older)
      (or_cases (removes_all d.removed) (is_write b.kind && removes_writes d.removed) removes))
    where
      there :
          (later removes_all (before ++ item.Change d ∷ between) b.page b.grant ≡ false)
          × (is_write b.kind ≡ true → later removes_writes (before ++ item.Change d ∷ between) b.page b.grant ≡ false)
      there = not_removed m answer (before ++ item.Change d ∷ between) b kept_b

      is_later :
          (test : Removed → Bool) → (b.page == d.page) ≡ true → nat_lt b.grant d.seq ≡ true → test d.removed ≡ true
          → is_later_change test b.page b.grant (item.Change d) ≡ true
      is_later test same older removes = rw (older, removes) (let turned : (d.page == b.page) ≡ true = grind (arith, nat_tests) in
          rw turned refl)

      by :
          ((b.page == d.page) ≡ true) × (nat_lt b.grant d.seq ≡ true)
          → (removes_all d.removed ≡ true) ⊎ ((is_write b.kind && removes_writes d.removed) ≡ true) → ⊥
      by at (inl all) = true≢false (sym (later-here removes_all before between d b.page b.grant (is_later removes_all at.0 at.1 all))
          ∙ there.0)
      by at (inr writes) =
          let w = and_parts (is_write b.kind) (removes_writes d.removed) writes in
          true≢false (sym (later-here removes_writes before between d b.page b.grant (is_later removes_writes at.0 at.1 w.1)) ∙ there.1 w.0)

  -- a change behind a change
  change-change :
      (d c : Change) → bad_rule m answer before (item.Change d) ≡ None
      → bad_rule m answer (before ++ item.Change d ∷ between) (item.Change c) ≡ None → comes_before_change c d ≡ false
  change-change d c kept_d kept_c =
      not-both (c.page == d.page) (nat_lt c.seq d.seq) (λ same older.
      let p : c.page ≡ d.page = eqb-true c.page d.page same in
      let seq : c.seq ≡ seq_of (before ++ item.Change d ∷ between) d.page =
      seq-counts m answer (before ++ item.Change d ∷ between) c kept_c ∙ ap (seq_of (before ++ item.Change d ∷ between)) p in
      let higher : d.seq < c.seq = omega (arith, seq, changed-counts before between d, seq-counts m answer before d kept_d) in
      grind (arith, nat_tests))

  pub behind-not_before :
      (r j : Item) → IsCurrent m before → bad_rule m answer before r ≡ None → bad_rule m answer (before ++ r ∷ between) j ≡ None
      → comes_before j r ≡ false
  behind-not_before (item.Access a) (item.Access b) current kept_r kept_j = access-access a b kept_r kept_j
  behind-not_before (item.Access a) (item.Change c) current kept_r kept_j = change-access a c current kept_r kept_j
  behind-not_before (item.Access a) (item.Applied x) current kept_r kept_j = refl
  behind-not_before (item.Access a) (item.Switch s) current kept_r kept_j = refl
  behind-not_before (item.Change d) (item.Access b) current kept_r kept_j = access-change d b kept_j
  behind-not_before (item.Change d) (item.Change c) current kept_r kept_j = change-change d c kept_r kept_j
  behind-not_before (item.Change d) (item.Applied x) current kept_r kept_j = refl
  behind-not_before (item.Change d) (item.Switch s) current kept_r kept_j = refl
  behind-not_before (item.Applied y) (item.Access b) current kept_r kept_j = refl
  behind-not_before (item.Applied y) (item.Change c) current kept_r kept_j = refl
  behind-not_before (item.Applied y) (item.Applied x) current kept_r kept_j = refl
  behind-not_before (item.Applied y) (item.Switch s) current kept_r kept_j = refl
  behind-not_before (item.Switch y) (item.Access b) current kept_r kept_j = refl
  behind-not_before (item.Switch y) (item.Change c) current kept_r kept_j = refl
  behind-not_before (item.Switch y) (item.Applied x) current kept_r kept_j = refl
  behind-not_before (item.Switch y) (item.Switch s) current kept_r kept_j = refl

-- no item has to stand before itself
pub itself-not_before : (r : Item) → comes_before r r ≡ false
itself-not_before (item.Access a) = by (is_write a.kind) a.version
  where
    by : (writes : Bool) (n : ℕ) → (a.page == a.page && a.word == a.word && (if writes then nat_lt n n else writes && nat_le n n)) ≡ false
    by true n = let none : nat_lt n n ≡ false = grind (arith, nat_tests) in rw none (and-false (a.page == a.page && a.word == a.word))
    by false n = and-false (a.page == a.page && a.word == a.word)
itself-not_before (item.Change c) = not-both (c.page == c.page) (nat_lt c.seq c.seq) (λ same older. grind (arith, nat_tests))
itself-not_before (item.Applied x) = refl
itself-not_before (item.Switch s) = refl
