-- what a placer says of a page is what its lines say, and the sums over the pages
use Rattle.std.proofs.lemmas.Bool.Decides.{nat_tests}
use Rattle.std.specs.Prelude.{◌≡◌, ℕ, ◌+◌, ◌*◌, ◌<◌, ◌≤◌, ◌==◌, ◌||◌, if◌then◌else◌, Bool, true, false, Option, Result, Ok, Err}
use Rattle.std.specs.Prelude.{List, [], ◌∷◌, ◌++◌, length, take, sum_by, refl}
use Rattle.std.proofs.Common.{ap, sym, ◌∙◌, arith, subst}
use Rattle.std.proofs.lemmas.List.Sums.{sum_by-append}
use Rattle.std.proofs.lemmas.Bool.{or_right}
use Rattle.plat_base.specs.Canon.{Words}
use Rattle.plat_base.specs.Machine.{Machine}
use Rattle.plat_base.specs.Pages.{distance, numbers}
use Rattle.plat_base.specs.Seen.{machine}
use Rattle.plat_base.specs.declared.configs.Config.{Config}
use Rattle.plat_base.specs.declared.items.Change.{Change}
use Rattle.plat_base.specs.declared.items.Item.{Item}
use Rattle.plat_base.specs.declared.items.Item.TheVariants as item
use Rattle.plat_base.proofs.LimitLemmas.{limits_of}
use Rattle.plat_io.specs.Adds.{is_part}
use Rattle.plat_io.specs.Lines.{text, AddsLines}
use Rattle.plat_io.specs.Streams.{added}
use Rattle.plat_io.specs.declared.sinks.Sink.{Ghosts}
use Rattle.plat_io.proofs.LineLemmas.{added_line, added_lines, is_part_line, is_part_lines, range_at}
use Rattle.plat_cost.specs.BestPlans.{best_plan}
use Rattle.plat_cost.specs.Costs.{actors_on, actual, copy_cost, cost_of, makes_copy}
use Rattle.plat_cost.specs.CostLines.{least, page_lines, placed_lines}
use Rattle.plat_cost.specs.Plans.{move_cost, moves_of, plan_cost, IsPlan, IsBestPlan}
use Rattle.plat_cost.proofs.BestPlanLaws.{best_plan-best}
use Rattle.plat_cost.proofs.CostLaws.{room_most}
use Rattle.plat_cost.proofs.DistanceLaws.{distance_most, carry_most}
use Rattle.plat_cost.proofs.PlanLaws.{best-one}
use Rattle.plat_io.proofs.Pieces.{HasRisen-later}

-- ---- a line, lines, and a last line

added-framed :
    (held : Option (List ℕ)) (first : Words) (between : List Words) (last : Words)
    → added held (text (first ∷ (between ++ last ∷ []))) ≡ added (added (added held (text (first ∷ []))) (text between)) (text (last ∷ []))
added-framed held first between last =
    added_line held first (between ++ last ∷ []) ∙ added_lines (added held (text (first ∷ []))) between (last ∷ [])

is_part-framed :
    (held : Option (List ℕ)) (first : Words) (between : List Words) (last : Words) (now : Option (List ℕ))
    → is_part held (text (first ∷ (between ++ last ∷ []))) now
    ≡ (is_part held (text (first ∷ [])) now || (is_part (added held (text (first ∷ []))) (text between) now
    || is_part (added (added held (text (first ∷ []))) (text between)) (text (last ∷ [])) now))
is_part-framed held first between last now =
    is_part_line held first (between ++ last ∷ []) now
    ∙ ap (λ b. is_part held (text (first ∷ [])) now || b) (is_part_lines (added held (text (first ∷ []))) between (last ∷ []) now)

pub adds-framed :
    {K E : Type 0} (sink : Ghosts K) (a b c d : K) (r : Result (Unit {0}) E) (first : Words) (between : List Words) (last : Words)
    → AddsLines {E = E} sink a b (Ok (tt {0})) (first ∷ []) → AddsLines {E = E} sink b c (Ok (tt {0})) between
    → AddsLines sink c d r (last ∷ []) → AddsLines sink a d r (first ∷ (between ++ last ∷ []))
adds-framed sink a b c d (Ok u) first between last h k l = record {
  whole = l.whole ∙ (ap (λ (held : Option (List ℕ)). added held (text (last ∷ []))) (k.whole
      ∙ ap (λ (held : Option (List ℕ)). added held (text between)) h.whole) ∙ sym (added-framed (sink.holds a) first between last));
  part = tt;
  risen = tt;
  count = omega (arith, h.count, k.count, l.count);
  size = l.size ∙ (k.size ∙ h.size);
}
adds-framed sink a b c d (Err e) first between last h k l = record {
  whole = tt;
  part = rw is_part-framed (or_right _ _ (or_right _ _ (rw (k.whole, h.whole) at l.part)));
  risen = HasRisen-later _ _ _ (omega (arith, h.count, k.count)) l.risen;
  count = omega (arith, h.count, k.count, l.count);
  size = l.size ∙ (k.size ∙ h.size);
}

-- ---- how large the sums are

carried_most : (cfg : Config) (a b : ℕ) → cfg.words * distance (machine cfg) a b ≤ 64000
carried_most cfg a b = carry_most cfg (distance (machine cfg) a b) (distance_most cfg a b)

if_most : (b : Bool) (n top : ℕ) → n ≤ top → (if b then n else 0) ≤ top
if_most true n top l = l
if_most false n top l = omega arith

cost_of-most : (cfg : Config) (page : ℕ) (i : Item) → cost_of (machine cfg) page i ≤ 64000
cost_of-most cfg page (item.Access a) =
    if_most (a.page == page) _ 64000 (let low = distance_most cfg a.actor a.frame.module in omega arith)
cost_of-most cfg page (item.Change c) =
    if_most (c.page == page) (copy_cost (machine cfg) c) 64000 (if_most (makes_copy c.action) _ 64000 (carried_most cfg c.actor _))
cost_of-most cfg page (item.Applied x) = omega arith
cost_of-most cfg page (item.Switch s) = omega arith

pub actual-most : (cfg : Config) (items : List Item) (page : ℕ) → actual (machine cfg) items page ≤ 64000 * length items
actual-most cfg [] page = omega arith
actual-most cfg (i ∷ is) page =
    let split : actual (machine cfg) (i ∷ is) page ≡ (0 + cost_of (machine cfg) page i) + actual (machine cfg) is page =
    sum_by-append (cost_of (machine cfg) page) (i ∷ []) is in
    let one = cost_of-most cfg page i in let rest = actual-most cfg is page in omega arith

move_cost-most : (cfg : Config) (x : ℕ) (plan : List ℕ) → move_cost (machine cfg) x plan ≤ 64000
move_cost-most cfg x [] = omega arith
move_cost-most cfg x (y ∷ ys) = carried_most cfg y x

pub plan_cost-most : (cfg : Config) (actors plan : List ℕ) → plan_cost (machine cfg) actors plan ≤ 65000 * length actors
plan_cost-most cfg [] plan = omega arith
plan_cost-most cfg (a ∷ more) [] = omega arith
plan_cost-most cfg (a ∷ more) (x ∷ xs) =
    let own = distance_most cfg a x in
    let move = move_cost-most cfg x xs in
    let rest = plan_cost-most cfg more xs in omega arith

-- a page without too many accesses
pub least-most :
    (cfg : Config) (items : List Item) (page : ℕ) → length (actors_on items page) ≤ cfg.nodes * cfg.budget
    → least (machine cfg) items page ≤ 34078720000
least-most cfg items page few =
    let low = plan_cost-most cfg (actors_on items page) (best_plan (machine cfg) (actors_on items page)) in
    let room = room_most cfg in omega arith

-- ---- sums over the pages

pub sum_by-next :
    (f : ℕ → ℕ) (n page : ℕ) → page < n → sum_by f (take (page + 1) (numbers n)) ≡ sum_by f (take page (numbers n)) + f page
sum_by-next f n page below =
    ap (sum_by f) (range_at n page below).1 ∙ sum_by-append f (take page (numbers n)) (page ∷ [])
    ∙ ap (λ k. sum_by f (take page (numbers n)) + k) last
  where
    last : sum_by f (page ∷ []) ≡ f page
    last = omega arith

pub ruleset page_sums = (sum_by-next)

-- ---- a page as it was placed

nodes_some : (cfg : Config) → 0 < (machine cfg).nodes
nodes_some cfg = let few = (limits_of (machine cfg) cfg.limits).nodes_least in omega arith

plan_is : (cfg : Config) (actors plan : List ℕ) → IsBestPlan (machine cfg) actors plan → plan ≡ best_plan (machine cfg) actors
plan_is cfg actors plan best =
    best-one (machine cfg) actors plan (best_plan (machine cfg) actors) best (best_plan-best (machine cfg) actors (nodes_some cfg))

module _ (cfg : Config) (items : List Item) (page : ℕ) (actors plan : List ℕ) (same : actors ≡ actors_on items page)
    (best : IsBestPlan (machine cfg) actors plan) where
  plan_on : plan ≡ best_plan (machine cfg) (actors_on items page)
  plan_on = subst (λ (actors : List ℕ). plan ≡ best_plan (machine cfg) actors) same (plan_is cfg actors plan best)

  pub least-placed : (low : ℕ) → low ≡ plan_cost (machine cfg) actors plan → low ≡ least (machine cfg) items page
  least-placed low e =
      e ∙ (ap (λ (actors : List ℕ). plan_cost (machine cfg) actors plan) same
      ∙ ap (λ (plan : List ℕ). plan_cost (machine cfg) (actors_on items page) plan) plan_on)

  pub page_lines-placed :
      (accesses act low moves : ℕ) → accesses ≡ length (actors_on items page) → act ≡ actual (machine cfg) items page
      → low ≡ plan_cost (machine cfg) actors plan → moves ≡ moves_of plan
      → placed_lines page accesses act low moves plan ≡ page_lines (machine cfg) items page
  unfolding page_lines
  page_lines-placed accesses act low moves count is e m =
      rw (count, is, least-placed low e, m)
      (ap (λ (plan : List ℕ). placed_lines page (length (actors_on items page)) (actual (machine cfg) items page)
      (least (machine cfg) items page) (moves_of plan) plan) plan_on)

-- ---- the length of a plan

pub plan-length : (m : Machine) (actors plan : List ℕ) → IsPlan m actors plan → length plan ≡ length actors
plan-length m [] [] h = refl
plan-length m [] (x ∷ xs) h = absurd h
plan-length m (a ∷ more) [] h = absurd h
plan-length m (a ∷ more) (x ∷ xs) h = let rest = plan-length m more xs h.1 in omega arith

-- a number that was found to be not zero
pub some_there : (n : ℕ) (b : Bool) → b ≡ (n == 0) → b ≡ false → 0 < n
some_there n b e f = grind (arith, nat_tests)
