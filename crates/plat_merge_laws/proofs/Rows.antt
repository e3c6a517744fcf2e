-- the journals of a worked run, merged by computation
use Rattle.std.specs.Prelude.{◌≡◌, ◌≢◌, ℕ, zero, suc, ◌<◌, nat_lt, true, List, [], ◌∷◌}
use Rattle.std.proofs.Common.{refl, sym, arith}
use Rattle.std.specs.List.{list_all}
use Rattle.std.proofs.lemmas.Bool.{and_parts, ne_eqb}
use Rattle.std.proofs.lemmas.Bool.Decides.{nat_tests}
use Rattle.plat_base.specs.Rules.{first_bad, Good}
use Rattle.plat_base.specs.Verdicts.{policy_answer}
use Rattle.plat_base.specs.declared.items.Item.{Item}
use Rattle.plat_events.specs.Shown.{actor_of, items_by}
use Rattle.plat_events.specs.Merges.{merged}
use Rattle.plat_merge_laws.specs.Merging.{HasJournals}
use Rattle.plat_merge_laws.specs.Worked.{shootdown, run_order, ends, journals, merge_order}

below : (n : ℕ) → nat_lt n 2 ≡ true → n < 2
below n h = grind (arith, nat_tests)

-- of two actors nobody else has items
others-none : (a : ℕ) (items : List Item) → list_all (λ i. nat_lt (actor_of i) 2) items ≡ true → items_by (suc (suc a)) items ≡ []
others-none a [] h = refl
others-none a (i ∷ items) h =
    let parts = and_parts (nat_lt (actor_of i) 2) (list_all (λ i. nat_lt (actor_of i) 2) items) h in
    let low = below (actor_of i) parts.0 in
    let other : actor_of i ≢ suc (suc a) = λ e. omega (arith, e, low) in
    rw (ne_eqb (actor_of i) (suc (suc a)) other) (others-none a items parts.1)

-- each processor's journal has its items, and no other actor has any
pub journals-parts : HasJournals run_order journals
journals-parts zero = refl
journals-parts (suc zero) = refl
journals-parts (suc (suc a)) = sym (others-none a run_order refl)

pub run_order-good : Good shootdown (policy_answer shootdown.policy) run_order ends
unfolding first_bad
run_order-good = refl

journals-merged : merged journals ≡ merge_order
unfolding merged
journals-merged = refl

merge_order-good : Good shootdown (policy_answer shootdown.policy) merge_order ends
unfolding first_bad
merge_order-good = refl
