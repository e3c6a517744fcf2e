use Rattle.std.proofs.Common.{refl, ⊎_elim}
use Rattle.plat_cmd.specs.declared.words.Command.TheVariants as command
use Rattle.plat_cmd.specs.declared.outcomes.Stop.TheVariants as stop
use Rattle.plat_cmd.proofs.PromiseLemmas.{did_end, stopped_end, stopped_silent, did_complete, wanting_complete}
use Rattle.plat_cmd.proofs.generated.print_generated.Goals as goal

pub returns-clause-done : goal.returns-clause-done
returns-clause-done g c = λ told.
    ⊎_elim (λ done. done)
    (λ has. absurd (stopped_silent (command.Gen c.args.n) g.K.Sink c.args.sink.now c.print_nth.new.sink c.print_nth.result stop.OutOfMemory
    has told))
    c.print_nth.ensures

pub returns-clause-complete : goal.returns-clause-complete
returns-clause-complete g c = λ quiet.
    let out = c.print_nth.result in
    ⊎_elim
    (λ done. did_complete (command.Gen c.args.n) g.K.Sink c.args.sink.now c.print_nth.new.sink out tt done quiet)
    (λ has. wanting_complete (command.Gen c.args.n) g.K.Sink c.args.sink.now c.print_nth.new.sink out tt has.ended) c.print_nth.ensures

pub returns-clause-ended : goal.returns-clause-ended
returns-clause-ended g c =
    let out = c.print_nth.result in
    ⊎_elim (did_end (command.Gen c.args.n) g.K.Sink c.args.sink.now c.print_nth.new.sink out tt)
    (stopped_end (command.Gen c.args.n) g.K.Sink c.args.sink.now c.print_nth.new.sink out stop.OutOfMemory refl) c.print_nth.ensures
