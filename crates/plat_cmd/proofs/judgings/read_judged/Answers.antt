use Rattle.std.proofs.Common.{◌≡◌}
use Rattle.plat_cmd.specs.Inputs.{IsToldHistory, IfTold, history_text}
use Rattle.plat_history.specs.Shown.{seen}
use Rattle.plat_history.specs.declared.histories.History.{History}
use Rattle.plat_cmd.proofs.JudgingLemmas.{of_same, all_not_judged}
use Rattle.plat_cmd.proofs.ToldLemmas.{told_history, only_it}
use Rattle.plat_cmd.proofs.judgings.read_judged.Goals as goal

pub returns-in-Ok-clause-read : goal.returns-in-Ok-clause-read
returns-in-Ok-clause-read g c =
    let told = g.S.Source.left c.args.source.now in
    let left = g.S.Source.left c.read_history_text.new.source in
    let read = c.read_history_text.ensures in
    of_same c.judge.result (λ it. it.history) c.in-Ok.history (λ (h : History). IsToldHistory told left (seen h)) c.judge.ensures.same
    (told_history told left c.read_history_text.result c.in-Ok.history c.in-Ok.is read.ranges read.found read.exact read.all)

pub returns-in-Ok-clause-only : goal.returns-in-Ok-clause-only
returns-in-Ok-clause-only g c =
    let told = g.S.Source.left c.args.source.now in
    of_same c.judge.result (λ it. it.history) c.in-Ok.history (λ (h : History). IfTold history_text told (λ other. seen h ≡ other))
    c.judge.ensures.same
    (only_it history_text told c.read_history_text.result seen c.read_history_text.ensures.only c.in-Ok.history c.in-Ok.is)

pub returns-in-Ok-clause-failed : goal.returns-in-Ok-clause-failed
returns-in-Ok-clause-failed g c =
    let told = g.S.Source.left c.args.source.now in
    let left = g.S.Source.left c.read_history_text.new.source in
    let read = c.read_history_text.ensures in
    all_not_judged g.S.Source c.args.source.now c.read_history_text.new.source (seen c.in-Ok.history)
    (told_history told left c.read_history_text.result c.in-Ok.history c.in-Ok.is read.ranges read.found read.exact read.all)
    (only_it history_text told c.read_history_text.result seen read.only c.in-Ok.history c.in-Ok.is) c.judge.result c.judge.ensures.failed
