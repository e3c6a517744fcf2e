use Rattle.std.proofs.Common.{◌≡◌, ap, sym, ◌∙◌, arith}
use Rattle.plat_base.specs.Seen.{machine}
use Rattle.plat_base.specs.Directories.{seq_of}
use Rattle.plat_chronicle.specs.declared.pages.PageState.{PageState}
use Rattle.plat_chronicle.specs.Present.{seq_at}
use Rattle.plat_chronicle.proofs.PresentLemmas.{Shows-fits, seq_of-at_most}
use Rattle.plat_judge.proofs.ChangeLemmas.{chained-page, chained-actor, chained-grant}
use Rattle.plat_judge.proofs.changes.judge_change.Goals as goal

pub is_chained-requires-clause-fits : goal.is_chained-requires-clause-fits
is_chained-requires-clause-fits g c = Shows-fits (machine c.args.cfg.now) c.requires.0 c.args.present.now c.requires.1.shows

pub is_chained-requires-clause-stand : goal.is_chained-requires-clause-stand
is_chained-requires-clause-stand g c = c.requires.1.stand

pub change-requires-clause-fits : goal.change-requires-clause-fits
change-requires-clause-fits g c = Shows-fits (machine c.args.cfg.now) c.requires.0 c.args.present.now c.requires.1.shows

pub change-requires-clause-page : goal.change-requires-clause-page
change-requires-clause-page g c =
    let chained = sym (c.is_chained.ensures c.requires.0 c.requires.1.shows c.requires.1.follow) ∙ c.if-not-is_chained.false in
    chained-page (machine c.args.cfg.now) (g.P.Policy.answer c.args.policy.now) c.requires.0 c.args.change.now chained

pub change-requires-clause-actor : goal.change-requires-clause-actor
change-requires-clause-actor g c =
    let chained = sym (c.is_chained.ensures c.requires.0 c.requires.1.shows c.requires.1.follow) ∙ c.if-not-is_chained.false in
    chained-actor (machine c.args.cfg.now) (g.P.Policy.answer c.args.policy.now) c.requires.0 c.args.change.now chained

pub change-requires-clause-grant : goal.change-requires-clause-grant
change-requires-clause-grant g c =
    let chained = sym (c.is_chained.ensures c.requires.0 c.requires.1.shows c.requires.1.follow) ∙ c.if-not-is_chained.false in
    chained-grant (machine c.args.cfg.now) (g.P.Policy.answer c.args.policy.now) c.requires.0 c.args.change.now chained

pub change-requires-clause-count : goal.change-requires-clause-count
change-requires-clause-count g c =
    let page = c.args.change.now.page in
    let chained = sym (c.is_chained.ensures c.requires.0 c.requires.1.shows c.requires.1.follow) ∙ c.if-not-is_chained.false in
    let inside = chained-page (machine c.args.cfg.now) (g.P.Policy.answer c.args.policy.now) c.requires.0 c.args.change.now chained in
    let at : seq_at c.args.present.now page ≡ seq_of c.requires.0 page =
    ap (λ (p : PageState). p.seq) (c.requires.1.shows.pages.at page inside) in
    omega (arith, at, seq_of-at_most c.requires.0 page, c.requires.2)

pub returns-clause-taken : goal.returns-clause-taken
returns-clause-taken g c = λ items shows none. c.change.ensures items shows
