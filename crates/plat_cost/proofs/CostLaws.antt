-- the accesses of a page that can be costed are by processors of the machine
use Rattle.std.specs.Prelude.{◌≡◌, ℕ, ◌*◌, ◌<◌, ◌≤◌, ◌==◌, nat_lt, ◌&&◌, ◌||◌, not, if◌then◌else◌, Bool, true, false, List, [], ◌∷◌, Some}
use Rattle.std.specs.Prelude.{None, All}
use Rattle.std.specs.List.{cons_option}
use Rattle.std.proofs.Common.{arith}
use Rattle.std.proofs.Math.Nat.{mul-le-mul_right}
use Rattle.std.proofs.lemmas.Bool.Decides.{nat_tests}
use Rattle.std.proofs.lemmas.List.Elements.{All-nil, All-cons, All-head, All-tail}
use Rattle.plat_base.proofs.LimitLemmas.{nodes_most, budget_most}
use Rattle.plat_base.specs.Machine.{Machine}
use Rattle.plat_base.specs.declared.configs.Config.{Config}
use Rattle.plat_base.specs.declared.items.Item.{Item}
use Rattle.plat_base.specs.declared.items.Item.TheVariants as item
use Rattle.plat_base.specs.declared.limits.TheConstants.{MOST_TURNS}
use Rattle.plat_cost.specs.Costs.{actor_on, actors_on, can_cost, CanCost}

first_actor :
    (m : Machine) (actor mo : ℕ) (rest : List ℕ) (on_page : Bool) → (not on_page || (nat_lt actor m.nodes && nat_lt mo m.nodes)) ≡ true
    → All (λ a. a < m.nodes) rest → All (λ a. a < m.nodes) (cons_option (if on_page then Some actor else None) rest)
first_actor m actor mo rest true h all = All-cons (λ a. a < m.nodes) actor rest (grind (arith, nat_tests)) all
first_actor m actor mo rest false h all = all

one_item :
    (m : Machine) (page : ℕ) (i : Item) (rest : List ℕ) → can_cost m page i ≡ true → All (λ a. a < m.nodes) rest
    → All (λ a. a < m.nodes) (cons_option (actor_on page i) rest)
one_item m page (item.Access a) rest h all = first_actor m a.actor a.frame.module rest (a.page == page) h all
one_item m page (item.Change c) rest h all = all
one_item m page (item.Applied x) rest h all = all
one_item m page (item.Switch s) rest h all = all

pub actors_few : (m : Machine) (page : ℕ) (items : List Item) → CanCost m page items → All (λ a. a < m.nodes) (actors_on items page)
actors_few m page [] h = All-nil (λ a. a < m.nodes)
actors_few m page (i ∷ is) h =
    one_item m page i (actors_on is page) (All-head (λ i. can_cost m page i ≡ true) i is h)
    (actors_few m page is (All-tail (λ i. can_cost m page i ≡ true) i is h))

-- the turns of a run
pub room_most : (cfg : Config) → cfg.nodes * cfg.budget ≤ MOST_TURNS
room_most cfg =
    let one : cfg.nodes * cfg.budget ≤ 8 * cfg.budget = mul-le-mul_right cfg.budget (nodes_most cfg)
    in let two = budget_most cfg in omega arith
