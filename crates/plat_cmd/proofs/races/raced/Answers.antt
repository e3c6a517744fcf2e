use Rattle.std.proofs.Common.{◌≡◌, ℕ, sym, ap, subst, ◌∙◌, List}
use Rattle.std.specs.Prelude.{IfNone}
use Rattle.std.specs.List.{AllByRecursion}
use Rattle.plat_base.specs.Verdicts.{policy_answer}
use Rattle.plat_base.specs.declared.items.Item.{Item}
use Rattle.plat_base.specs.declared.statuses.Status.TheVariants as status
use Rattle.plat_grammar.specs.HistoryGrammar.{IsTold}
use Rattle.plat_history.specs.Shown.{seen}
use Rattle.plat_io.specs.Adds.{Adds}
use Rattle.plat_race.specs.Orders.{EveryOrderIsLegal}
use Rattle.plat_race.specs.Races.{first_race}
use Rattle.plat_cmd.specs.Races.{race_text}
use Rattle.plat_cmd.proofs.EndingLemmas.{written_by, ended_by}
use Rattle.plat_cmd.proofs.GoodLemmas.{good_is_coherent}
use Rattle.plat_cmd.proofs.RaceLemmas.{told_are_in_range, race_text_is, free_is}
use Rattle.plat_cmd.proofs.races.raced.Goals as goal

pub first-race-requires-clause-range : goal.first-race-requires-clause-range
first-race-requires-clause-range g c =
    let h = seen c.args.judged.history in
    told_are_in_range h.machine c.as_slice.result.now
    (subst (λ (items : List Item). AllByRecursion (IsTold h.machine) items) (sym c.as_slice.ensures) c.requires.range.items)

pub returns : goal.returns
returns g c =
    let h = seen c.args.judged.history in
    let race = c.first-race.result in
    let old = c.args.sink.now in
    let new = c.write_race-written.new.sink in
    let written = c.write_race-written.result in
    let now = c.without_run.result.status in
    let is : race ≡ first_race h.items = c.first-race.ensures.first ∙ ap first_race c.as_slice.ensures in
    let now_is = c.without_run.ensures.status ∙ c.status_after.ensures in
    let run = good_is_coherent h.machine (policy_answer h.machine.policy) h.items h.ends c.requires.good in
    record {
      coherent = run;
      written =
          written_by g.K.Sink old new written (race_text h.items) status.Done now (λ fault. cc) now_is
          (subst (λ (bytes : List ℕ). Adds g.K.Sink old new written bytes) (race_text_is h.machine h.items race is)
          c.write_race-written.ensures);
      free =
          free_is h.machine h.items race is
          (subst (λ (items : List Item). IfNone race (EveryOrderIsLegal h.machine items)) c.as_slice.ensures
          c.first-race.ensures.free) run.one.legal;
      ended = ended_by written status.Done now now_is;
      history = c.without_run.ensures.kept;
      no_threads = c.without_run.ensures.ran;
    }
