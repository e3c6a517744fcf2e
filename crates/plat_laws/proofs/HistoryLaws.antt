-- a good history is one history of flat memory
use Rattle.std.specs.Prelude.{◌≡◌, ℕ, ◌+◌, ◌<◌, ◌==◌, nat_lt, ◌&&◌, not, if◌then◌else◌, Bool, true, false, List, [], ◌∷◌, ◌++◌}
use Rattle.std.specs.Prelude.{length, Option, Some, None, is_none, find}
use Rattle.std.proofs.Common.{refl, ap, sym, ◌∙◌, inl, inr, arith}
use Rattle.std.proofs.lemmas.Bool.{and_parts, eqb-true, not-false, true≢false}
use Rattle.std.proofs.Math.Bool.{or-true}
use Rattle.plat_base.specs.Verdicts.{Answer}
use Rattle.plat_base.specs.Machine.{Machine}
use Rattle.plat_base.specs.Pages.{numbers}
use Rattle.plat_base.specs.Flat.{is_write, flat_value}
use Rattle.plat_base.specs.Directories.{dir_of}
use Rattle.plat_base.specs.Held.{later, is_later_change, removes_all, removes_writes}
use Rattle.plat_base.specs.Rules.{is_in_order, bad_rule, bad_after, bad_ends, are_ends, first_bad, Good}
use Rattle.plat_base.specs.Histories.{TookAway, UsesNothingRemoved, FindsCopyWord, IsOneHistory}
use Rattle.plat_base.specs.declared.endings.Ended.{Ended}
use Rattle.plat_base.specs.declared.items.Access.{Access}
use Rattle.plat_base.specs.declared.items.Change.{Change}
use Rattle.plat_base.specs.declared.items.Item.{Item}
use Rattle.plat_base.specs.declared.items.Item.TheVariants as item
use Rattle.plat_base.specs.declared.items.Removed.{Removed}
use Rattle.plat_base.specs.declared.statuses.Rule.TheVariants as rule
use Rattle.plat_base.specs.declared.statuses.Bad.{Bad}
use Rattle.plat_base.proofs.CopiesLemmas.{copy_on-Contains}
use Rattle.plat_laws.proofs.AccessLaws.{legal-parts, access_parts, not_removed, by_grant}
use Rattle.plat_laws.proofs.CopyLaws.{IsCurrent, IsAtCopy, at_copy}
use Rattle.plat_laws.proofs.CopyChangeLaws.{good_current}
use Rattle.plat_laws.proofs.NumberLaws.{find_numbers-none}
use Rattle.plat_laws.proofs.ItemLaws.{bad_after-append}
use Rattle.plat_base.proofs.RuleLemmas.{bad_at-none, bad_or-none}

-- ---- no bad item, so none at a place

pub good-items : (m : Machine) (answer : Answer) (items : List Item) (ends : List Ended) → Good m answer items ends →
    bad_after m answer [] 0 items ≡ None
unfolding first_bad
good-items m answer items ends good = (bad_or-none (bad_after m answer [] 0 items) (bad_ends m items ends) good).0

module _ (m : Machine) (answer : Answer) (items : List Item) (ends : List Ended) (good : Good m answer items ends) where
  parts : (bad_after m answer [] 0 items ≡ None) × (bad_ends m items ends ≡ None)
  unfolding first_bad
  parts = bad_or-none (bad_after m answer [] 0 items) (bad_ends m items ends) good

  before_parts : (before rest : List Item) (i : Item) → items ≡ before ++ i ∷ rest → (bad_after m answer [] 0 before ≡ None)
      × (bad_after m answer before (0 + length before) (i ∷ rest) ≡ None)
  before_parts before rest i split =
      bad_or-none (bad_after m answer [] 0 before) (bad_after m answer before (0 + length before) (i ∷ rest))
      (sym (bad_after-append m answer [] 0 before (i ∷ rest)) ∙ (ap (bad_after m answer [] 0) (sym split) ∙ parts.0))

  -- an item of a good history breaks no rule, and none before it does
  rule_at : (before rest : List Item) (i : Item) → items ≡ before ++ i ∷ rest → bad_rule m answer before i ≡ None
  rule_at before rest i split =
      (bad_at-none (0 + length before) (bad_rule m answer before i) (bad_after m answer (before ++ i ∷ []) (0 + length before + 1) rest)
      (before_parts before rest i split).1).0

  pub before_none : (before rest : List Item) (i : Item) → items ≡ before ++ i ∷ rest → bad_after m answer [] 0 before ≡ None
  before_none before rest i split = (before_parts before rest i split).0

-- ---- a change in the history that took an access's translation away

later_there : (test : Removed → Bool) (before between : List Item) (c : Change) (page seq : ℕ) → c.page ≡ page → seq < c.seq →
    test c.removed ≡ true
    → later test (before ++ item.Change c ∷ between) page seq ≡ true
later_there test [] between c page seq same above removes =
    let here : (c.page == page && nat_lt seq c.seq && test c.removed) ≡ true = grind (arith)
    in rw here refl
later_there test (i ∷ is) between c page seq same above removes =
    rw (later_there test is between c page seq same above removes) (or-true (is_later_change test page seq i))

-- ---- the whole

abbrev none_where : Bad → Bool → Option Bad
none_where bad ok = if ok then None else Some bad

module _ (m : Machine) (answer : Answer) (items : List Item) (ends : List Ended) (good : Good m answer items ends) where
  -- an access of a good history breaks no rule
  access_at : (before rest : List Item) (a : Access) → items ≡ before ++ item.Access a ∷ rest → bad_rule m answer before (item.Access a)
      ≡ None
  access_at before rest a split = rule_at m answer items ends good before rest (item.Access a) split

  -- it goes to a copy of its page, each of which holds flat memory's words
  current_at : (before rest : List Item) (a : Access) → items ≡ before ++ item.Access a ∷ rest → IsCurrent m before
  current_at before rest a split = good_current m answer before (before_none m answer items ends good before rest (item.Access a) split)

  pub at_copy_at : (before rest : List Item) (a : Access) → items ≡ before ++ item.Access a ∷ rest → IsAtCopy before a
  at_copy_at before rest a split =
      let kept = not_removed m answer before a (access_at before rest a split)
      in at_copy m before a (current_at before rest a split) (by_grant m answer before a (access_at before rest a split)) kept.0 kept.1

  -- its page is one of the machine's, and it finds the value of flat memory
  pub found_at : (before rest : List Item) (a : Access) → items ≡ before ++ item.Access a ∷ rest →
      (a.page < m.pages) × (a.old ≡ flat_value m before a.page a.word)
  found_at before rest a split = legal-parts m before a (access_parts m answer before a (access_at before rest a split)).2

  at_word : (before rest : List Item) (a : Access) → items ≡ before ++ item.Access a ∷ rest → FindsCopyWord m before a
  at_word before rest a split =
      (found_at before rest a split).1
      ∙ sym (((current_at before rest a split).page a.page).words a.word a.frame (at_copy_at before rest a split).copy)

  ends_parts : (length ends ≡ m.nodes) × ((q : ℕ) → q < m.nodes → is_in_order m items ends q ≡ true)
  ends_parts =
      let whole = ends_hold (record { item = length items; rule = rule.Ends }) (are_ends m items ends) (parts m answer items ends good).1 in
      let both = and_parts (length ends == m.nodes) (is_none (find (λ q. not (is_in_order m items ends q)) (numbers m.nodes))) whole in
      let found = none_of (find (λ q. not (is_in_order m items ends q)) (numbers m.nodes)) both.1
      in (
        eqb-true (length ends) m.nodes both.0,
        λ q inside. not-false (is_in_order m items ends q)
            (find_numbers-none (λ q. not (is_in_order m items ends q)) m.nodes q found inside),
      )
    where
      ends_hold : (bad : Bad) (ok : Bool) → none_where bad ok ≡ None → ok ≡ true
      ends_hold bad true h = refl
      ends_hold bad false h = absurd cc

      none_of : (o : Option ℕ) → is_none o ≡ true → o ≡ None
      none_of None h = refl
      none_of (Some x) h = absurd cc

  nothing_removed : UsesNothingRemoved items
  nothing_removed before between rest c a split same above took =
      by took (not_removed m answer (before ++ item.Change c ∷ between) a (access_at (before ++ item.Change c ∷ between) rest a split))
    where
      by : TookAway c a → (later removes_all (before ++ item.Change c ∷ between) a.page a.grant ≡ false)
          × (is_write a.kind ≡ true → later removes_writes (before ++ item.Change c ∷ between) a.page a.grant ≡ false) → ⊥
      by (inl all) kept = true≢false (sym (later_there removes_all before between c a.page a.grant same above (ap removes_all all))
          ∙ kept.0)
      by (inr writes) kept = true≢false
          (sym (later_there removes_writes before between c a.page a.grant same above (ap removes_writes writes.0)) ∙ kept.1 writes.1)

  -- a good history is one legal history of flat memory, each access of which finds its value in the copy that it goes to
  pub one_history : IsOneHistory m items ends
  one_history = record {
    legal = λ before rest a split. (access_parts m answer before a (access_at before rest a split)).2;
    in_order = ends_parts.1;
    all_end = ends_parts.0;
    granted = λ before rest a split. by_grant m answer before a (access_at before rest a split);
    current = nothing_removed;
    at_copy = λ before rest a split.
        copy_on-Contains a.frame.module a.frame (dir_of before a.page).copies (at_copy_at before rest a split).copy;
    alone = λ before rest a split. (at_copy_at before rest a split).alone;
    words = at_word;
  }
