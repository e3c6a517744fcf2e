use Rattle.std.proofs.Common.{[], ◌∙◌}
use Rattle.plat_base.specs.Seen.{machine}
use Rattle.plat_events.specs.Privates.{first_privates}
use Rattle.plat_table.proofs.BoardLemmas.{kept-start, rides-start}
use Rattle.plat_table.proofs.boards.Board.new.Goals as goal

pub of_words-requires : goal.of_words-requires
of_words-requires g c =
    let m = machine c.args.cfg in
    ([], first_privates m, kept-start m c.words-2.result.now (c.words-2.ensures ∙ c.in_ok-words.ensures.words))

pub invariant_of-result : goal.invariant_of-result
invariant_of-result g c =
    rides-start (machine c.args.cfg) c.in-Ok.seat.me c.in_ok-actors.actors.items c.args.cfg.limits c.in_ok-actors.ensures.fit
    c.in_ok-actors.ensures.held c.in-Ok.ensures.4
