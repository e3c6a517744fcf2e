use Rattle.std.proofs.Common.{◌∙◌, sym, subst}
use Rattle.std.proofs.lemmas.Result.{err_from_is_err_and}
use Rattle.plat_grammar.specs.Forms.{Fails}
use Rattle.plat_machine.specs.Shown.{drafts}
use Rattle.plat_machine.proofs.LoopLemmas.{body-more, body-end, body-fails}
use Rattle.plat_machine.proofs.guests.read_body.Goals as goal

pub loop-body-preserved : goal.loop-body-preserved
loop-body-preserved c =
    sym (body-more (drafts c.loop-body.body.drafts.items) c.loop-body.body.labels.items c.loop-body.rows _ _ _ _ c.in_ok-first_word.ensures
    (sym c.ends_guest.ensures ∙ c.if-not-ends_guest.true) c.in_ok-row.ensures c.in_ok-add.ensures)
    ∙ c.loop-body.invariant

pub returns-in_err-add : goal.returns-in_err-add
returns-in_err-add c =
    let p = err_from_is_err_and c.from_residual-in_err-add.result c.from_residual-in_err-add.ensures.1 in
    rw (p.1, p.2) (subst (Fails _) c.loop-body.invariant (body-fails (drafts c.loop-body.body.drafts.items)
    c.loop-body.body.labels.items c.loop-body.rows _ _ _ _ c.in_ok-first_word.ensures
    (sym c.ends_guest.ensures ∙ c.if-not-ends_guest.true) c.in_ok-row.ensures c.in_err-add.ensures))

pub returns : goal.returns
returns c =
    sym c.loop-body.invariant
    ∙ body-end (drafts c.loop-body.body.drafts.items) c.loop-body.body.labels.items c.loop-body.rows _ c.in_ok-first_word.ensures
    (sym c.ends_guest.ensures ∙ c.if-not-ends_guest.false)
