use Rattle.std.proofs.Common.{◌≡◌, ◌-◌, ◌≤◌, [], ◌∷◌, List, length, drop, get_or, ap, sym, ◌∙◌, rules, arith}
use Rattle.std.specs.Prelude.{slice_get, take, min}
use Rattle.std.specs.List.{zip}
use Rattle.std.specs.Iterator.Adapters.{zip_first, zip_second}
use Rattle.std.specs.Slice.Iter.{iter_rest}
use Rattle.std.proofs.lemmas.List.{length-append, length-drop, get_or-drop, take_rest}
use Rattle.std.proofs.lemmas.Slice.Zip.{zip_turn, zip_end, length-zip}
use Rattle.plat_base.specs.Seen.{machine}
use Rattle.plat_base.specs.Pages.{entries_of_page}
use Rattle.plat_events.specs.Shootdowns as events
use Rattle.plat_base.proofs.EntryLists.{entries_of_page-below}
use Rattle.plat_shoot.proofs.TargetLemmas.{targets_from-end, target-found}
use Rattle.plat_shoot.proofs.PassedLemmas.{StandsAt, target-behind, is_at-next}
use Rattle.plat_shoot.proofs.targets.target_from.Goals.{After-into_iter-entry-iterator, In-Some}
use Rattle.plat_shoot.proofs.targets.target_from.Goals as goal

pub overflow_sub-at : goal.overflow_sub-at
overflow_sub-at c = omega (arith, c.loop-entry.invariant.0.left)

-- the loop goes through the entries and the masks behind the first posts
firsts : (c : After-into_iter-entry-iterator) → iter_rest (zip_first c.into_iter-entry-iterator.result)
    ≡ drop c.args.first.posts (entries_of_page (machine c.args.cfg.now) c.args.page)
firsts c =
    let n = c.args.first.posts in let all = entries_of_page (machine c.args.cfg.now) c.args.page in
    let cut : iter_rest (zip_first c.into_iter-entry-iterator.result) ≡ take (length all - n) (drop n all) = search rules in
    cut ∙ take_rest all n

seconds : (c : After-into_iter-entry-iterator) → iter_rest (zip_second c.into_iter-entry-iterator.result) ≡ drop c.args.first.posts c.args.posts.now
seconds c =
    let n = c.args.first.posts in let posts = c.args.posts.now in
    let cut : iter_rest (zip_second c.into_iter-entry-iterator.result) ≡ take (length posts - n) (drop n posts) = search rules in
    cut ∙ take_rest posts n

-- where the loop stands, an entry and its mask are found
stands : (c : In-Some) → StandsAt (machine c.args.cfg.now) c.args.page c.args.posts.now c.loop-entry.here.posts c.in-Some.entry.now
    c.in-Some.mask.now
stands c =
    let posts = c.args.posts.now in let n = c.args.first.posts in let k = length c.loop-entry.yielded in
    let all = entries_of_page (machine c.args.cfg.now) c.args.page in let begun = (goal.at.In-Some c).After-into_iter-entry-iterator in
    let turn = zip_turn (drop n all) (drop n posts) c.loop-entry.yielded c.into_iter-entry-iterator.result c.loop-entry.entry-iterator
    c.next.new.self c.next.result (firsts begun) (seconds begun) c.loop-entry.yielded_by (c.in-Some.entry, c.in-Some.mask) c.in-Some.is
    c.next.ensures.steps in
    let is = c.loop-entry.invariant.1 in
    record {
      among = omega (arith, is, turn.0, length-drop n all);
      within = omega (arith, is, turn.1, length-drop n posts);
      entry = turn.2 0 ∙ get_or-drop n all k 0 ∙ ap (λ i. get_or all i 0) (sym is);
      mask = turn.3 0 ∙ get_or-drop n posts k 0 ∙ ap (λ i. get_or posts i 0) (sym is);
    }

pub loop-entry-preserved : goal.loop-entry-preserved
loop-entry-preserved c =
    let s = stands (goal.at.loop-entry-preserved c).In-Some in (
      is_at-next c.args.cfg.now.nodes c.args.actor c.args.posts.now c.args.at c.loop-entry.here c.past-here.result c.in-Some.mask.now
          c.in-Left.left c.loop-entry.invariant.0 s.within s.mask c.past-here.ensures.nodes c.past-here.ensures.posts
          c.past-here.ensures.targets c.in-Left.ensures.sought,
      omega (
        arith,
        c.loop-entry.invariant.1,
        c.past-here.ensures.posts,
        length-append c.loop-entry.yielded ((c.in-Some.entry, c.in-Some.mask) ∷ []),
      ),
    )

pub returns-in-Found-clause-entry : goal.returns-in-Found-clause-entry
returns-in-Found-clause-entry c =
    let s = stands (goal.at.returns-in-Found-clause-entry c).In-Some in
    rw s.entry (entries_of_page-below (machine c.args.cfg.now) c.args.page c.loop-entry.here.posts 0 s.among)

pub returns-in-Found-clause-target : goal.returns-in-Found-clause-target
returns-in-Found-clause-target c =
    let m = machine c.args.cfg.now in let posts = c.args.posts.now in let here = c.loop-entry.here in
    let s = stands (goal.at.returns-in-Found-clause-target c).In-Some in
    sym (target-found m c.args.actor c.args.page posts here.posts c.in-Some.entry.now c.in-Some.mask.now s.among s.within s.entry s.mask
    c.args.at (c.args.at - here.targets) c.in-Found.processor
    (target-behind m c.args.actor c.args.page posts c.args.at here c.loop-entry.invariant.0 (omega (arith, s.among)))
    c.in-Found.ensures.sought)

pub returns-clause-target : goal.returns-clause-target
returns-clause-target c =
    let m = machine c.args.cfg.now in let posts = c.args.posts.now in let n = c.args.first.posts in
    let all = entries_of_page m c.args.page in let begun = (goal.at.returns-clause-target c).After-into_iter-entry-iterator in
    let end : length c.loop-entry.yielded ≡ min (length (drop n all)) (length (drop n posts)) =
    zip_end (drop n all) (drop n posts) c.loop-entry.yielded c.into_iter-entry-iterator.result c.loop-entry.entry-iterator
    c.next.new.self c.next.result (firsts begun) (seconds begun) c.loop-entry.yielded_by c.in-None.is c.next.ensures.steps in
    let is = c.loop-entry.invariant.1 in
    let past : length (zip all posts) ≤ c.loop-entry.here.posts =
    rw (length-zip all posts) (omega (arith, is, end, length-drop n all, length-drop n posts)) in
    let among : c.loop-entry.here.posts ≤ length all = omega (arith, is, end, length-drop n all, c.requires.entries) in
    sym (target-behind m c.args.actor c.args.page posts c.args.at c.loop-entry.here c.loop-entry.invariant.0 among
    ∙ ap (λ (ts : List events.Target). slice_get ts (c.args.at - c.loop-entry.here.targets))
    (targets_from-end m c.args.actor c.args.page posts c.loop-entry.here.posts past))
