-- the pages of a good history can be placed
use Rattle.std.specs.Prelude.{◌≡◌, ◌⊎◌, ℕ, zero, suc, ◌+◌, ◌*◌, ◌<◌, ◌≤◌, ◌==◌, nat_lt, ◌&&◌, ◌||◌, not, if◌then◌else◌, Bool, true, false}
use Rattle.std.specs.Prelude.{List, [], ◌∷◌, ◌++◌, length, Option, Some, None, All}
use Rattle.std.specs.List.{cons_option, filter_map}
use Rattle.std.proofs.Common.{refl, ap, sym, ◌∙◌, arith, append_assoc}
use Rattle.std.proofs.lemmas.Bool.{and_parts}
use Rattle.std.proofs.lemmas.Bool.Decides.{nat_tests}
use Rattle.std.proofs.lemmas.List.Elements.{All-nil, All-cons}
use Rattle.plat_base.specs.Verdicts.{Answer}
use Rattle.plat_base.specs.Machine.{Machine}
use Rattle.plat_base.specs.Decide.{is_frame}
use Rattle.plat_base.specs.Done.{Accessed, Switched, done_of, operations_of}
use Rattle.plat_base.specs.Rules.{is_access_next, is_chained, next_operation, bad_rule, bad_at, bad_after, bad_ends, bad_or, first_bad}
use Rattle.plat_base.specs.Rules.{Good}
use Rattle.plat_base.specs.declared.endings.Ended.{Ended}
use Rattle.plat_base.specs.declared.items.Access.{Access}
use Rattle.plat_base.specs.declared.items.Change.{Change}
use Rattle.plat_base.specs.declared.items.Item.{Item}
use Rattle.plat_base.specs.declared.items.Item.TheVariants as item
use Rattle.plat_base.specs.declared.statuses.Rule.{Rule}
use Rattle.plat_base.specs.declared.statuses.Rule.TheVariants as rule
use Rattle.plat_base.specs.declared.statuses.Bad.{Bad}
use Rattle.plat_laws.proofs.AccessLaws.{access_parts}
use Rattle.plat_laws.proofs.HistoryLaws.{one_history}
use Rattle.plat_laws.proofs.HistoryLaws.{good-items}
use Rattle.plat_cost.specs.Costs.{actor_on, actors_on, can_cost, makes_copy, CanCost, CanPlace}
use Rattle.plat_cost.proofs.CostLaws.{actors_few}
use Rattle.plat_cost_laws.proofs.ChangeCosts.{copy_can_cost}
use Rattle.plat_cost_laws.proofs.CountLaws.{times, few_each}
use Rattle.plat_cost_laws.proofs.OperationLaws.{few_operations}
use Rattle.plat_base.proofs.RuleLemmas.{unless-none, bad_at-none}

-- ---- one item

access_costs : (on_page : Bool) (actor nodes mo : ℕ) (rest : Bool) → (nat_lt actor nodes && (nat_lt mo nodes && rest)) ≡ true
    → (not on_page || (nat_lt actor nodes && nat_lt mo nodes)) ≡ true
access_costs false actor nodes mo rest h = refl
access_costs true actor nodes mo rest h = grind (arith, nat_tests)

change_costs : (on_page copies : Bool) (actor nodes count : ℕ) → (copies ≡ true → (nat_lt actor nodes ≡ true) × (0 < count))
    → (not (on_page && copies) || (nat_lt actor nodes && nat_lt 0 count)) ≡ true
change_costs false copies actor nodes count h = refl
change_costs true false actor nodes count h = refl
change_costs true true actor nodes count h = let both = h refl in let one = both.0 in let some = both.1 in grind (arith, nat_tests)

can_cost-kept : (m : Machine) (answer : Answer) (page : ℕ) (before : List Item) (i : Item) → bad_rule m answer before i ≡ None →
    can_cost m page i ≡ true
can_cost-kept m answer page before (item.Access a) kept =
    let order = (access_parts m answer before a kept).0 in
    let both = and_parts (nat_lt a.actor m.nodes && is_frame m a.frame) (is_access_next (next_operation m before a.actor) a) order
    in access_costs (a.page == page) a.actor m.nodes a.frame.module (nat_lt a.frame.number m.frames) both.0
can_cost-kept m answer page before (item.Change c) kept =
    change_costs (c.page == page) (makes_copy c.action) c.actor m.nodes (length c.before.copies)
    (copy_can_cost m answer before c (unless-none (is_chained m answer before c) rule.Chain kept))
can_cost-kept m answer page before (item.Applied x) kept = refl
can_cost-kept m answer page before (item.Switch s) kept = refl

can_cost_after :
    (m : Machine) (answer : Answer) (page : ℕ) (before : List Item) (n : ℕ) (items : List Item)
    → bad_after m answer before n items ≡ None → CanCost m page items
can_cost_after m answer page before n [] h = All-nil (λ i. can_cost m page i ≡ true)
can_cost_after m answer page before n (i ∷ is) h =
    let both = bad_at-none n (bad_rule m answer before i) (bad_after m answer (before ++ i ∷ []) (n + 1) is) h
    in All-cons (λ i. can_cost m page i ≡ true) i is (can_cost-kept m answer page before i both.0)
    (can_cost_after m answer page (before ++ i ∷ []) (n + 1) is both.1)

-- ---- how often a processor accesses a page

times-operations : (q page : ℕ) (items : List Item) → times q (actors_on items page) ≤ length (operations_of q items)
unfolding times
times-operations q page [] = omega arith
times-operations q page (item.Access a ∷ is) =
    by (a.page == page) (a.actor == q) refl (times-operations q page is)
  where
    by : (on_page mine : Bool) → (a.actor == q) ≡ mine → times q (actors_on is page) ≤ length (operations_of q is)
        → times q (cons_option (if on_page then Some a.actor else None) (actors_on is page))
        ≤ length (cons_option (if mine then Some (Accessed a) else None) (operations_of q is))
    by true true e h = grind (arith, nat_tests)
    by true false e h = grind (arith, nat_tests)
    by false true e h = omega arith
    by false false e h = h
times-operations q page (item.Change c ∷ is) = times-operations q page is
times-operations q page (item.Applied x ∷ is) = times-operations q page is
times-operations q page (item.Switch s ∷ is) =
    by (s.actor == q) (times-operations q page is)
  where
    by : (mine : Bool) → times q (actors_on is page) ≤ length (operations_of q is)
        → times q (actors_on is page) ≤ length (cons_option (if mine then Some (Switched s.space) else None) (operations_of q is))
    by true h = omega arith
    by false h = h

-- ---- the whole

module _ (m : Machine) (answer : Answer) (items : List Item) (ends : List Ended) (good : Good m answer items ends) where
  costs : (page : ℕ) → CanCost m page items
  costs page = can_cost_after m answer page [] 0 items (good-items m answer items ends good)

  few : (page : ℕ) → length (actors_on items page) ≤ m.nodes * m.budget
  few page =
      few_each m.nodes m.budget (actors_on items page) (actors_few m page items (costs page))
      (λ q inside.
      let own = times-operations q page items in
      let all = few_operations m items ends q ((one_history m answer items ends good).in_order q inside)
      in omega arith)

  pub can_place : CanPlace m items
  can_place = record { costs = λ page inside. costs page; few = λ page inside. few page }
