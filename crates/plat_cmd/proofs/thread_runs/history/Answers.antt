use Rattle.std.proofs.Common.{◌≡◌, ◌<◌, ℕ, List, length, refl, ap, sym, subst, ◌∙◌, arith}
use Rattle.plat_base.specs.Rooms.{JournalsSeen}
use Rattle.plat_base.specs.declared.limits.TheConstants.{MOST_ITEMS}
use Rattle.plat_base.specs.declared.items.Item.{Item}
use Rattle.plat_events.specs.Merges.{merged}
use Rattle.plat_cmd.proofs.ThreadRunLemmas.{rooms-some, merged-few, thread_run}
use Rattle.plat_cmd.proofs.thread_runs.history.Goals as goal
use Rattle.plat_coarse.proofs.MachineLemmas.{limits_of}

most_is : MOST_ITEMS ≡ 2621440
most_is = refl

pub of-first-requires : goal.of-first-requires
of-first-requires c =
    let m = c.args.closed.now.machine in
    let journals = c.journals-journals in
    let some = rooms-some m (limits_of c.cfg-cfg.result.now m c.cfg-cfg.ensures.machine) in
    let rooms = ap (λ (j : JournalsSeen). j.rooms) journals.ensures.journals ∙ journals.ensures.run.rooms in
    subst (λ (rs : List ℕ). 0 < length rs) (sym rooms) some

pub returns-clause-run : goal.returns-clause-run
returns-clause-run c =
    let x = c.args.closed.now in
    let journals = c.journals-journals in
    thread_run x (limits_of c.cfg-cfg.result.now x.machine c.cfg-cfg.ensures.machine) journals.ensures.run journals.ensures.good
    x.machine c.merge.result.items refl
    (c.merge.ensures ∙ ap (λ (j : JournalsSeen). merged j.lists) journals.ensures.journals)

pub returns-clause-few : goal.returns-clause-few
returns-clause-few c =
    let m = c.args.closed.now.machine in
    let journals = c.journals-journals in
    let rooms = ap (λ (j : JournalsSeen). j.rooms) journals.ensures.journals ∙ journals.ensures.run.rooms in
    let few =
    merged-few m journals.result.now.rooms journals.result.now.lists
    (limits_of c.cfg-cfg.result.now m c.cfg-cfg.ensures.machine) rooms c.of-first.ensures.fits in
    omega (arith, few, ap (λ (is : List Item). length is) c.merge.ensures, most_is)
