use Rattle.std.proofs.Common.{ℕ, List, rules, tests, arith, ap, sym, ◌∙◌, ◌≡◌, ◌-◌}
use Rattle.std.specs.Prelude.{slice_get}
use Rattle.std.proofs.lemmas.Iterator.{YieldsList-from_range}
use Rattle.std.proofs.lemmas.Iterator.Consumers.{YieldsList-from_filter, nth_from_yields_List}
use Rattle.std.proofs.lemmas.Iterator.Adapters.{option_map_id}
use Rattle.plat_sched.specs.Actors.{is_actor, most_actors}
use Rattle.plat_sched.proofs.ActorsLemmas.{most_actors_is, filter_is}
use Rattle.plat_sched.proofs.actors.nth.Goals as goal

pub returns : goal.returns
returns c =
    let most : 32 - 0 ≡ most_actors = omega (arith, most_actors_is) in
    sym (option_map_id c.nth.result)
    ∙ nth_from_yields_List c.nth.result _ c.args.place c.nth.ensures.ran
    (YieldsList-from_filter _ (is_actor c.args.live) (YieldsList-from_range 0 32 most_actors (cc) most) c.filter.ensures.closure
    (λ x r q k. search (rules, tests)))
    ∙ ap (λ (xs : List ℕ). slice_get xs c.args.place) (filter_is c.args.live)
